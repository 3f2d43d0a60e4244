use Rattle.std.proofs.Common.{arith}
use Rattle.daemon.specs.declared.status.DaemonStatus.TheVariants.{Usage, NoMemory}
use Rattle.daemon.proofs.Exiting.{ends_with}
use Rattle.micad.proofs.host.refused_on_host.Goals as goal

pub returns-then-not-begin-clause-ends : goal.returns-then-not-begin-clause-ends
returns-then-not-begin-clause-ends g c = λ words. ends_with words Usage _ c.exit_code.ensures

pub returns-in-Err-clause-ends : goal.returns-in-Err-clause-ends
returns-in-Err-clause-ends g c = λ words. ends_with words NoMemory _ c.exit_code-in-Err.ensures

pub returns-then-not-begin-clause-in_vain : goal.returns-then-not-begin-clause-in_vain
returns-then-not-begin-clause-in_vain g c = omega (arith, c.exit_code.ensures)

pub returns-in-Err-clause-in_vain : goal.returns-in-Err-clause-in_vain
returns-in-Err-clause-in_vain g c = omega (arith, c.exit_code-in-Err.ensures)
