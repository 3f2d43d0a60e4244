use Rattle.std.proofs.Common.{◌≡◌, ◌+◌, drop, sym, ap, ◌∙◌, arith}
use Rattle.std.proofs.lemmas.List.{take_rest, drop-drop, get_or-drop}
use Rattle.batch_packets.specs.ReplyGrammar.{value_len_at}
use Rattle.batch_packets.proofs.Walk.{after_one}
use Rattle.batch_packets.proofs.replies.ReplyRefItem.read.Goals as goal

pub returns-clause-rest : goal.returns-clause-rest
returns-clause-rest c =
    let from = c.args.from.now in
    let value : value_len_at from ≡ c.from-value_len.result = sym (c.from-value_len.ensures ∙ c.from_le_bytes.ensures ∙ simp get_or-drop) in
    let texts : c.in-Some.texts.now ≡ drop 16 from = sym (ap (drop 8) c.in-Some.ensures.some) ∙ ap (drop 8) (take_rest from 8) ∙ drop-drop 8 8 from in
    after_one 16 from c.from-value_len.result (16 + value_len_at from) c.split_at.result.1.now (omega arith) (c.split_at.ensures.back ∙ ap (drop c.from-value_len.result) texts)
