use Rattle.std.proofs.Common.{arith, take, drop, length, ◌-◌, ◌≡◌}
use Rattle.std.proofs.lemmas.List.{take_rest, length-drop}
use Rattle.std.proofs.KnownBytes.{Appends-trans}
use Rattle.std.proofs.Math.Seq.{take-add}
use Rattle.outside.proofs.sink.write_all.Goals as goal

pub loop-at-preserved : goal.loop-at-preserved
loop-at-preserved g c =
    let at = c.loop-at.at in
    let n = c.in_ok-at.field-0 in
    let text = c.args.text.now in
    let before = c.loop-at.invariant in
    let wrote = c.in_ok-at.ensures in
    let both = Appends-trans _ _ _ _ _ before.1 wrote.took in
    let took = rw (take_rest text at, ← take-add at n text) at both in
    let fits = wrote.fits in
    let left : length (take (length text - at) (drop at text)) ≡ length text - at = simp (take_rest, length-drop) in
    (omega arith, took, omega (arith, before.2, wrote.never_fall))
