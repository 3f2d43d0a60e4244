use Rattle.std.proofs.Common.{◌≡◌, sym, ap, arith, ◌∙◌, drop, take}
use Rattle.std.proofs.lemmas.List.{take_rest, get_or-drop}
use Rattle.store_image.specs.ImageGrammar.{key_len_at, value_len_at, key_at, value_at, pair_len_at}
use Rattle.store_image.proofs.Walk.{after_two}
use Rattle.store_image.proofs.reading.split_pair.Goals as goal

pub returns-clause-parts : goal.returns-clause-parts
returns-clause-parts c =
    let from = c.args.from.now in
    let key_len : key_len_at from ≡ c.from-key_len.result = sym c.from-key_len.ensures in
    let value_len : value_len_at from ≡ c.from-value_len.result = sym (c.from-value_len.ensures ∙ c.from_le_bytes.ensures ∙ simp get_or-drop) in
    let texts = take_rest from 3 in
    let back = c.split_at.ensures.back ∙ ap (drop c.from-key_len.result) texts in
    let key : key_at from ≡ c.split_at.result.0.now = rw key_len (ap (take c.from-key_len.result) (sym texts) ∙ sym c.split_at.ensures.front) in
    let value : value_at from ≡ c.split_at-2.result.0.now = rw (key_len, value_len) (ap (take c.from-value_len.result) (sym back) ∙ sym c.split_at-2.ensures.front) in (
      (λ i. record { key = key i; value = value i }),
      after_two 3 from c.from-key_len.result c.from-value_len.result (pair_len_at from) _ _ (omega arith) back c.split_at-2.ensures.back,
    )
