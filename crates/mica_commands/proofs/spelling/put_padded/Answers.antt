use Rattle.std.proofs.Common.{◌≡◌, ℕ, ◌-◌, ◌≤◌, List, ◌++◌, length, take, replicate, ap, ◌∙◌, append_assoc, arith}
use Rattle.std.specs.Fmt.{decimal}
use Rattle.std.proofs.lemmas.List.{take-replicate}
use Rattle.mica_commands.specs.Generator.{padded}
use Rattle.mica_commands.proofs.spelling.put_padded.Goals as goal

appended : (old zeros digits text : List ℕ) (len n : ℕ) → len ≤ 1024 → digits ≡ decimal n → zeros ≡ old ++ take (len - length digits) (replicate 1024 48)
    → text ≡ zeros ++ digits → text ≡ old ++ padded len n
appended old zeros digits text len n short spelled first second =
    second
    ∙ ap (λ t. t ++ digits) (first ∙ ap (λ t. old ++ t) (take-replicate (len - length digits) 1024 48 (omega arith)))
    ∙ append_assoc old (replicate (len - length digits) 48) digits
    ∙ ap (λ ds. old ++ (replicate (len - length ds) 48 ++ ds)) spelled

pub returns : goal.returns
returns c = appended c.args.text.now.items c.extend_from_slice.new.self.items c.as_bytes-digits.result.now c.extend_from_slice-2.new.self.items c.args.len c.args.number
    c.requires.short (c.as_bytes-digits.ensures.value ∙ c.format.ensures.text) c.in_ok-extend_from_slice.ensures.items c.in_ok-extend_from_slice-2.ensures.items
