use Rattle.std.proofs.Common.{sym, subst}
use Rattle.memcached_meta.specs.Fit.{IsFitMetaNext}
use Rattle.memcached_meta.proofs.FitLaws.{IsFitLine, line_fits, says_fits}
use Rattle.memcached_meta.proofs.next.next_meta.Goals as goal

pub returns-clause-fit : goal.returns-clause-fit
returns-clause-fit c =
    subst IsFitMetaNext (sym c.line_next.ensures)
    (says_fits c.line_of.result _ c.in_ok-line.rest.now (subst IsFitLine (sym c.line_of.ensures) (line_fits c.in_ok-verb.verb c.next_word.new.self)))
