use Rattle.std.proofs.Common.{◌≡◌, get_or, length, map, sym, ◌∙◌, arith}
use Rattle.std.specs.Global.{Global}
use Rattle.std.specs.Vec.Iter.{into_iter_items}
use Rattle.std.proofs.lemmas.List.{length-map}
use Rattle.mica_trace.specs.declared.line.TraceLine.{TraceLine}
use Rattle.mica_replay.specs.declared.worker.OwnerWork.{OwnerWork}
use Rattle.mica_replay.specs.Lending.{OwnerPart, owner_part}
use Rattle.mica_replay.specs.RoundRun.{replies_of}
use Rattle.mica_replay.proofs.RoundPrints.{AtLine, printed_none, printed_sync, next_of, own_within, has_reply, printed_write, has_line, printed_get, printed_all}
use Rattle.mica_replay.proofs.merging.print_round.Given.{Over}
use Rattle.mica_replay.proofs.merging.print_round.Goals.{In-loop-number, in-Put, in-Get, in-Sync}
use Rattle.mica_replay.proofs.merging.print_round.Goals as goal

abbrev part : (g : Over) → OwnerWork g.row.P.Denot → OwnerPart
part g w = owner_part g.P.Partition.owner g.P.Partition.home w

abbrev line : (g : Over) (c : In-loop-number g) (item : TraceLine) → item ≡ get_or c.args.lines.now c.loop-number.number item → AtLine (part g) (λ it. into_iter_items {Z = Global} it)
line g c item is = record {
  options = c.args.options.now;
  valid = c.requires.valid;
  first = c.args.first;
  lines = c.args.lines.now;
  owners = c.args.owners.now;
  founds = c.args.found.now;
  enough = c.requires.enough;
  before = c.args.report.now;
  k = c.loop-number.number;
  line = item;
  less = omega (arith, c.loop-number-test.true, c.loop-number.auto.number-end);
  line_is = is;
  report = c.loop-number.report;
  cursors = c.loop-number.replied.items;
  found = c.loop-number.found;
  gets = c.loop-number.gets;
  so_far = c.loop-number.invariant;
}

pub loop-number-init : goal.loop-number-init
loop-number-init g c =
    printed_none c.args.options.now c.args.first c.args.lines.now _ _ c.requires.enough c.args.report.now c.in_ok-replied.replied.items (length c.args.owners.now)
    (sym (length-map (map (part g) c.args.owners.now) replies_of ∙ length-map c.args.owners.now (part g))) (c.in_ok-replied.ensures.items_if_clones_equal (λ y is. is))

pub offset_bounds-owners-partition : goal.offset_bounds-owners-partition
offset_bounds-owners-partition g c =
    let l = line g (goal.at.offset_bounds-owners-partition g c).In-loop-number c.index-lines-number.result c.index-lines-number.is in
    let within = own_within l c.in-Put.is c.args.homes.now c.requires.homes in
    omega (arith, within.0)

pub bounds-owners-partition : goal.bounds-owners-partition
bounds-owners-partition g c =
    let l = line g (goal.at.bounds-owners-partition g c).In-loop-number c.index-lines-number.result c.index-lines-number.is in
    let within = own_within l c.in-Put.is c.args.homes.now c.requires.homes in
    within.0

pub index_mut-requires : goal.index_mut-requires
index_mut-requires g c =
    let l = line g (goal.at.index_mut-requires g c).In-loop-number c.index-lines-number.result c.index-lines-number.is in
    let within = own_within l c.in-Put.is c.args.homes.now c.requires.homes in
    omega (arith, within.1, c.loop-number.replied.ok)

pub next_reply-outcome-requires : goal.next_reply-outcome-requires
next_reply-outcome-requires g c =
    let l = line g (goal.at.next_reply-outcome-requires g c).In-loop-number c.index-lines-number.result c.index-lines-number.is in
    let it = has_reply l (next_of l c.in-Put.is c.args.homes.now c.requires.homes _ _ c.index-owners-partition.is c.index_mut.ensures.value) in
    record { some = it.0; few = omega (arith, it.1, c.requires.count) }

pub next_line-printed-requires : goal.next_line-printed-requires
next_line-printed-requires g c = has_line (line g (goal.at.next_line-printed-requires g c).In-loop-number c.index-lines-number.result c.index-lines-number.is) c.in-Get.is c.index-found-gets.result c.index-found-gets.is

pub loop-number-preserved : goal.loop-number-preserved
loop-number-preserved g c =
    let l = line g (goal.at.loop-number-preserved g c).In-loop-number c.index-lines-number.result c.index-lines-number.is in
    elim c.match-line.branch [
      | in-Put w ↦
          let next = next_of l w.in-Put.is c.args.homes.now c.requires.homes _ _ w.index-owners-partition.is w.index_mut.ensures.value in
          rw (c.in_ok-push.ensures.ok, w.printed-is, w.replied-is, w.next_reply-outcome.ensures.more, w.found-is, w.gets-is)
          (printed_write l next w.write_op.result w.next_reply-outcome.result.0 w.next_reply-outcome.result.1 w.write_op.ensures w.next_reply-outcome.ensures.reply)
      | in-Get w ↦
          rw (c.in_ok-push.ensures.ok, w.printed-is, w.replied-is, w.found-is, w.gets-is)
          (printed_get l w.in-Get.is w.index-found-gets.result w.index-found-gets.is w.next_line-printed.result w.next_line-printed.new.lines w.next_line-printed.ensures)
      | in-Sync w ↦ rw (c.in_ok-push.ensures.ok, w.printed-is, w.replied-is, w.found-is, w.gets-is) (printed_sync l w.in-Sync.is)
    ]

pub returns : goal.returns
returns g c =
    printed_all c.args.options.now c.args.first c.args.lines.now _ _ c.requires.enough c.args.report.now
    c.loop-number.number c.loop-number.report c.loop-number.replied.items _ c.loop-number.gets (omega (arith, c.loop-number-test.false, c.loop-number.auto.number-end)) c.loop-number.invariant
