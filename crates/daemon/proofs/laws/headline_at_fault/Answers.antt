use Rattle.std.proofs.Common.{subst}
use Rattle.daemon.specs.declared.status.DaemonStatus.TheVariants.{NetFault}
use Rattle.daemon.specs.Daemon.{KeepsUp}
use Rattle.daemon.proofs.Headlines.{promised}
use Rattle.daemon.proofs.laws.headline_at_fault.Goals as goal

pub returns : goal.returns
returns c host words service base before after old new is kept =
    promised service base before after old new NetFault tt (subst (λ given. KeepsUp given base before after old new NetFault) is kept).0
