use Rattle.std.proofs.Common.{◌↔◌, IsTrue, sym, subst}
use Rattle.partition_model.specs.History.{State, Allows, MayGive}
use Rattle.mica_model.specs.Logged.{Logged}
use Rattle.partition_model.specs.Write.{write_of}
use Rattle.mica_model.proofs.cache_machine.CacheMachine.allows.Goals as goal

pub returns : goal.returns
returns c =
    let write = write_of c.args.op c.args.key.now c.args.value.now in
    subst (λ (m : Logged). IsTrue c.replies.result ↔ MayGive m.options m.history write c.args.outcome) c.self.view_is
    (subst (λ (t : State). IsTrue c.replies.result ↔ Allows c.self.inside.options t write c.args.outcome) (sym c.self.invariant.state) c.replies.ensures)
