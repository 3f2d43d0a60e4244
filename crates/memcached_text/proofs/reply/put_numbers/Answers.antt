use Rattle.std.proofs.Common.{◌≡◌, ◌∷◌, ◌++◌, ◌∙◌, ℕ, List, [], drop, length, decimal, codes, ap, arith, rules}
use Rattle.std.proofs.Math.ListN.{set}
use Rattle.std.proofs.lemmas.List.{drop-set, drop_all}
use Rattle.memcached_text.specs.Replies.{unique_text}
use Rattle.memcached_text.proofs.reply.put_numbers.Goals.{in-Some, in-None}
use Rattle.memcached_text.proofs.reply.put_numbers.Goals as goal

-- a line's end, behind 63 bytes
end_is : (line : List ℕ) → length line ≡ 65 → drop 63 (set (set line 64 10) 63 13) ≡ 13 ∷ 10 ∷ []
end_is line long =
    let length-set : length (set line 64 10) ≡ 65 = search (rules, long) in
    drop-set (set line 64 10) 63 13 (omega (arith, length-set))
    ∙ ap (λ (z : List ℕ). 13 ∷ z) (drop-set line 64 10 (omega (arith, long)))
    ∙ ap (λ (z : List ℕ). 13 ∷ 10 ∷ z) (drop_all 65 line (omega (arith, long)))

pub returns-clause-text : goal.returns-clause-text
returns-clause-text c =
    let line_end = end_is c.args.line.now (search rules) in
    let rest : drop c.match-unique.uniques c.match-unique.line ≡ unique_text c.args.unique ++ codes "\r\n" =
    elim c.match-unique.branch [
      | in-Some w ↦ rw (w.uniques-is, w.line-is, w.in-Some.is) (w.put_before-uniques.ensures.text ∙ ap (λ (z : List ℕ). 32 ∷ decimal w.in-Some.unique ++ z) line_end)
      | in-None w ↦ rw (w.uniques-is, w.line-is, w.in-None.is) line_end
    ] in
    c.put_before.ensures.text
    ∙ ap (λ (n : ℕ). 32 ∷ decimal n ++ drop c.put_before-lens.result c.put_before-lens.new.line) c.from.ensures
    ∙ ap (λ (z : List ℕ). 32 ∷ decimal c.args.flags ++ z) (c.put_before-lens.ensures.text
    ∙ ap (λ (z : List ℕ). 32 ∷ decimal c.args.value_len ++ z) rest)
