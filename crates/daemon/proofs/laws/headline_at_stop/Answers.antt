use Rattle.std.proofs.Common.{subst}
use Rattle.daemon.specs.declared.status.DaemonStatus.TheVariants.{Stopped}
use Rattle.daemon.specs.Daemon.{KeepsUp}
use Rattle.daemon.proofs.Headlines.{promised}
use Rattle.daemon.proofs.laws.headline_at_stop.Goals as goal

pub returns : goal.returns
returns c host words service base before after old new is kept =
    promised service base before after old new Stopped tt (subst (λ given. KeepsUp given base before after old new Stopped) is kept).0
