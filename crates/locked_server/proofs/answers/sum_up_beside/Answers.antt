use Rattle.std.proofs.Common.{inl, subst}
use Rattle.std.specs.Prelude.{Result, Err}
use Rattle.fronts.specs.declared.totals.Totals.{Totals}
use Rattle.fronts.specs.declared.totals.ServeFault.{ServeFault}
use Rattle.served.specs.FrontRuns.{SumsUp}
use Rattle.locked_server.specs.Running.{IsFaultOf}
use Rattle.locked_server.proofs.Faults.{all_counted}
use Rattle.locked_server.proofs.answers.sum_up_beside.Goals as goal

pub returns-in_default-2 : goal.returns-in_default-2
returns-in_default-2 c =
    let of = subst (λ (fault : ServeFault). IsFaultOf c.args.streams.now (Err fault)) c.in-Err-Net.field-0-is c.in-Err-Net.ensures in (
      of.0,
      all_counted c.args.fronts.now c.in_default.field-0 (subst (λ (r : Result Totals ServeFault). SumsUp c.args.fronts.now r) c.in_default.is c.sum_up-totals.ensures),
      inl of.1,
    )
