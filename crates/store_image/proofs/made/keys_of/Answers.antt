use Rattle.std.proofs.Common.{rules}
use Rattle.std.proofs.Common.{◌≡◌, ◌++◌, ◌∷◌, [], ℕ, List, Option, Some, map, take, Bor, sym, ap, ◌∙◌, append-nil}
use Rattle.std.specs.List.{cons_option}
use Rattle.std.proofs.lemmas.List.{map-append, length-map, take_all}
use Rattle.store_image.specs.PutKeys.{put_key, put_keys, has_key}
use Rattle.store_image.proofs.Keys.{sorted_texts, same_keys, keys_more, no_key, own_key_of, few_keys}
use Rattle.store_image.proofs.made.keys_of.Goals.{then-gives_value+in_ok-push, else-gives_value}
use Rattle.store_image.proofs.made.keys_of.Goals as goal

abbrev now : Bor (List ℕ) → List ℕ
now k = k.now

pub loop-line-preserved : goal.loop-line-preserved
loop-line-preserved c =
    let line = c.line-item.result in
    let lines = c.args.lines.now in
    let i = c.loop-line.line-index in
    let keys = c.loop-line.keys.items in
    let more = keys_more lines i line c.loop-line-test.true c.line-item.is in
    elim c.if-gives_value.branch [
      | then-gives_value+in_ok-push w ↦
          let some : put_key line ≡ Some line.key = own_key_of line.op line.key (sym w.if-gives_value.ensures) in
          let key = w.bytes.result in
          let pushed : map now w.push.new.self.items ≡ map now keys ++ key.now ∷ [] = ap (map now) w.in_ok-push.ensures.items ∙ map-append now keys (key ∷ []) in
          rw w.keys-is (pushed ∙ ap (λ (ks : List (List ℕ)). ks ++ key.now ∷ []) c.loop-line.invariant ∙ ap (λ (k : List ℕ). put_keys (take i lines) ++ k ∷ []) w.bytes.ensures
          ∙ sym (more ∙ ap (λ (o : Option (List ℕ)). put_keys (take i lines) ++ cons_option o []) some))
      | else-gives_value w ↦
          let none = no_key line.op line.key (sym w.if-gives_value.ensures) in
          rw w.keys-is (c.loop-line.invariant ∙ sym (more ∙ ap (λ (o : Option (List ℕ)). put_keys (take i lines) ++ cons_option o []) none ∙ append-nil (put_keys (take i lines))))
    ]

pub returns-clause-rise : goal.returns-clause-rise
returns-clause-rise c = sorted_texts now c.sort.new.self.items c.dedup.new.self.items c.in_ok-sort.ensures.sorted c.dedup.ensures.filtered

pub returns-clause-all : goal.returns-clause-all
returns-clause-all c = search (rules, take_all, same_keys, has_key)

pub returns-clause-few : goal.returns-clause-few
returns-clause-few c = search (rules, take_all, length-map, few_keys)
