use Rattle.std.proofs.Common.{◌≡◌, ◌+◌, sym, ap, arith, ◌∙◌, drop}
use Rattle.std.proofs.lemmas.List.{take_rest, get_or-drop}
use Rattle.batch_packets.specs.BatchGrammar.{key_len_at, value_len_at}
use Rattle.batch_packets.proofs.Walk.{after_two}
use Rattle.batch_packets.proofs.checking.RequestRefItem.read.Goals as goal

pub returns-clause-rest : goal.returns-clause-rest
returns-clause-rest c =
    let from = c.args.from.now in
    let key : key_len_at from ≡ c.from-key_len.result = sym c.from-key_len.ensures in
    let value : value_len_at from ≡ c.from-value_len.result = sym (c.from-value_len.ensures ∙ c.from_le_bytes.ensures ∙ simp get_or-drop) in
    let texts = take_rest from 8 in
    after_two 8 from c.from-key_len.result c.from-value_len.result (8 + key_len_at from + value_len_at from) _ _ (omega arith) (c.split_at.ensures.back ∙ ap (drop c.from-key_len.result) texts) c.split_at-2.ensures.back
