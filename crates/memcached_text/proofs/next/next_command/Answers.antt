use Rattle.std.proofs.Common.{◌∙◌, length, sym, subst}
use Rattle.memcached_text.specs.Next.{IsWithin}
use Rattle.memcached_text.specs.Fit.{IsFitNext}
use Rattle.memcached_text.proofs.FitLaws.{is_fit}
use Rattle.memcached_text.proofs.NextLaws.{waits_within, within}
use Rattle.memcached_text.proofs.next.next_command.Goals as goal

pub returns-clause-waits : goal.returns-clause-waits
returns-clause-waits c = λ more. waits_within c.args.from.now (sym c.front_of.ensures ∙ more)

pub returns-clause-within : goal.returns-clause-within
returns-clause-within c = subst (IsWithin (length c.args.from.now)) (sym c.front_of.ensures) (within c.args.from.now)

pub returns-clause-fit : goal.returns-clause-fit
returns-clause-fit c = subst IsFitNext (sym c.front_of.ensures) (is_fit c.args.from.now)
