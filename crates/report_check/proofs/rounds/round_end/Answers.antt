use Rattle.std.proofs.Common.{rules}
use Rattle.std.proofs.Common.{◌<◌, length, refl, sym, ◌∙◌, arith}
use Rattle.std.proofs.lemmas.Option.{slice_get_read}
use Rattle.std.proofs.lemmas.Grind.{common_steps}
use Rattle.report_check.proofs.RoundEnds.{round_to_sync, round_to_end, next_starts}
use Rattle.report_check.proofs.rounds.round_end.Goals as goal

pub returns-then-is_sync-clause-round : goal.returns-then-is_sync-clause-round
returns-then-is_sync-clause-round c =
    let lines = c.args.trace.now in
    let place = c.loop-place.place in
    let line = c.index-trace-place.result in
    let less : place < length lines = omega arith in
    let low = c.loop-place.invariant.low in
    round_to_sync lines c.args.from place line c.requires.starts (slice_get_read lines (length lines) place line refl less c.index-trace-place.is) (sym c.is_sync.ensures ∙ c.if-is_sync.true) low c.loop-place.invariant.inside

pub returns-then-is_sync-clause-next : goal.returns-then-is_sync-clause-next
returns-then-is_sync-clause-next c = search (rules, next_starts, slice_get_read, length)

pub returns-clause-round : goal.returns-clause-round
returns-clause-round c = grind (arith, common_steps, round_to_end c.args.trace.now c.args.from c.requires.starts (omega arith))
