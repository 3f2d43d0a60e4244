use Rattle.std.proofs.Common.{sym, ap, ◌∙◌}
use Rattle.partition_words.specs.declared.state.OwnerState.{OwnerState}
use Rattle.partition_words.specs.OwnerState.{as_made}
use Rattle.core_tests.proofs.partitions.cache_over.Goals as goal

pub new-requires-2-clause-made : goal.new-requires-2-clause-made
new-requires-2-clause-made g c =
    let made = c.in_ok-new.ensures.made in
    made ∙ ap as_made (sym (ap (λ (o : OwnerState). o.shape) made))
