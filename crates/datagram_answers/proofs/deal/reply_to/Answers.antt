use Rattle.std.proofs.Common.{◌≡◌, ◌≤◌, ℕ, List, [], length, sym, ◌∙◌, subst, arith}
use Rattle.std.proofs.lemmas.List.{nil_from_length}
use Rattle.batch_packets.specs.declared.batch.Want.{Want}
use Rattle.batch_packets.specs.declared.batch.Want.TheVariants.{Del, Touch}
use Rattle.batch_packets.specs.BatchGrammar.{operation_of, longest_value}
use Rattle.datagram_answers.proofs.deal.reply_to.Goals as goal

del_empty : (version : ℕ) (want : Want) (value : List ℕ) → length value ≤ longest_value version (operation_of want) → want ≡ Del → value ≡ []
unfolding operation_of
del_empty version want value short is =
    let none : length value ≤ 0 = subst (λ (w : Want). length value ≤ longest_value version (operation_of w)) is short in
    nil_from_length value (omega arith)

touch_empty : (version : ℕ) (want : Want) (value : List ℕ) → length value ≤ longest_value version (operation_of want) → want ≡ Touch → value ≡ []
unfolding operation_of
touch_empty version want value short is =
    let none : length value ≤ 0 = subst (λ (w : Want). length value ≤ longest_value version (operation_of w)) is short in
    nil_from_length value (omega arith)

pub reply_to_write-requires-in-Del-clause-value : goal.reply_to_write-requires-in-Del-clause-value
reply_to_write-requires-in-Del-clause-value g c = del_empty _ _ _ c.requires.request.value (sym c.want.ensures ∙ c.in-Del.is)

pub reply_to_write-requires-in-Touch-clause-value : goal.reply_to_write-requires-in-Touch-clause-value
reply_to_write-requires-in-Touch-clause-value g c = touch_empty _ _ _ c.requires.request.value (sym c.want.ensures ∙ c.in-Touch.is)
