use Rattle.std.proofs.Common.{sym, ap, ◌∙◌}
use Rattle.partition_words.specs.declared.state.OwnerState.{OwnerState}
use Rattle.partition_words.specs.OwnerState.{as_made}
use Rattle.core_tests.proofs.lent.store_table.Goals as goal

pub new-requires-clause-made : goal.new-requires-clause-made
new-requires-clause-made g c =
    let made = c.in_ok-words.ensures.made in
    made ∙ ap as_made (sym (ap (λ (o : OwnerState). o.shape) made))
