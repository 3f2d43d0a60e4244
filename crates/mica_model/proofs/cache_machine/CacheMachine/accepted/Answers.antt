use Rattle.std.proofs.Common.{ap, sym, ◌∙◌, length}
use Rattle.partition_model.specs.History.{accepted_in}
use Rattle.mica_model.specs.Logged.{Logged}
use Rattle.partition_model.proofs.Histories.{accepted_is_length}
use Rattle.mica_model.proofs.cache_machine.CacheMachine.accepted.Goals as goal

pub returns : goal.returns
returns c =
    c.accepted.ensures ∙ sym (ap accepted_in c.self.invariant.state) ∙ accepted_is_length c.self.inside.options c.self.inside.log.items
    ∙ ap (λ (m : Logged). length m.history) c.self.view_is
