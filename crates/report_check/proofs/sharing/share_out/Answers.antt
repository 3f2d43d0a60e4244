use Rattle.std.proofs.Common.{◌≡◌, ◌+◌, ◌<◌, length, take, slice_get, Some, cond, refl, sym, ap, ◌∙◌, arith}
use Rattle.std.proofs.lemmas.Option.{slice_get_read}
use Rattle.std.proofs.lemmas.Grind.{common_steps}
use Rattle.mica_words.proofs.Hashes.{partition_of-below}
use Rattle.mica_trace.specs.RoundReport.{gets_in}
use Rattle.report_check.proofs.Counts.{gets_more}
use Rattle.report_check.proofs.OwnLines.{shared_more, shared_all}
use Rattle.report_check.proofs.sharing.share_out.Goals as goal
use Rattle.report_check.proofs.sharing.share_out.Goals.{then-is_get, else-is_get}

pub index_mut-own-requires : goal.index_mut-own-requires
index_mut-own-requires c = grind (arith, common_steps, partition_of-below c.args.options.now.hashing c.index-trace-place.result.key c.args.options.now.partitions c.requires.valid.partitions.0)

pub loop-place-preserved : goal.loop-place-preserved
loop-place-preserved c =
    let options = c.args.options.now in
    let trace = c.args.trace.now in
    let place = c.loop-place.place in
    let gets = c.loop-place.gets in
    let line = c.index-trace-place.result in
    let so_far = c.loop-place.invariant in
    let few = so_far.few in
    let counted = so_far.counted in
    let is_line : slice_get trace place ≡ Some line = slice_get_read trace (length trace) place line refl c.loop-place-test.true c.index-trace-place.is in
    let below = partition_of-below options.hashing line.key options.partitions c.requires.valid.partitions.0 in
    let within : c.partition_in.result < length c.loop-place.shared.items = omega (arith, c.partition_in.ensures, so_far.shared.many) in
    let more = gets_more trace place line is_line in
    let shared = shared_more options trace place gets line c.loop-place.shared.items c.partition_in.result c.index_mut-own.result.now c.push-in-loop-place.new.self so_far.shared is_line c.partition_in.ensures
    (slice_get_read c.loop-place.shared.items (length c.loop-place.shared.items) c.partition_in.result c.index_mut-own.result.now refl within c.index_mut-own.ensures.value) c.in_ok-push-2.ensures.items counted in
    elim c.if-is_get.branch [
      | then-is_get w ↦
          let one = ap (λ b. gets_in (take place trace) + cond b 1 0) (sym c.is_get.ensures ∙ w.if-is_get.true) in
          let same = w.gets-is in
          record { few = omega arith; counted = omega arith; shared = shared }
      | else-is_get w ↦
          let none = ap (λ b. gets_in (take place trace) + cond b 1 0) (sym c.is_get.ensures ∙ w.if-is_get.false) in
          let same = w.gets-is in
          record { few = omega arith; counted = omega arith; shared = shared }
    ]

pub returns : goal.returns
returns c = grind (arith, common_steps, shared_all c.args.options.now c.args.trace.now c.loop-place.shared.items)
