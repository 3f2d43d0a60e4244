use Rattle.std.proofs.Common.{Option, IfSome, Vec, refl, sym, ap, ◌∙◌, subst, arith}
use Rattle.std.specs.Global.{Global}
use Rattle.mica_trace.specs.declared.report.Line.{Line}
use Rattle.line_replies.specs.Replied.{HasReplied}
use Rattle.exclusive_replay.specs.declared.queue.Sent.TheVariants as sent
use Rattle.exclusive_replay.specs.LineEnds.{LineBox}
use Rattle.exclusive_replay.specs.Workers.{lines_at}
use Rattle.exclusive_replay.specs.Sent.{has_end, numbers_in}
use Rattle.any_partition.specs.PlainPartition.{owner_of}
use Rattle.exclusive_replay.proofs.OwnerRuns.{if_some, if_ok, started, taken_more, unended, ended, lines_ended, answers_more}
use Rattle.exclusive_replay.proofs.owner.Owner.run.Goals as goal

pub loop-init : goal.loop-init
loop-init g c = record {
  taken = refl;
  unended = ap has_end c.requires.fresh;
  lines = c.requires.lines;
  answered = if_some c.args.self.now.printed _ _ (λ printed none. started (owner_of c.args.self.now.part) c.args.trace.now c.args.self.now.queue.list printed.items c.requires.fresh none) c.requires.none;
}

pub answer_line-requires : goal.answer_line-requires
answer_line-requires g c = omega (arith, c.in-Line.ensures.order.low, c.loop.invariant.lines)

pub loop-preserved-in-Some-take-2 : goal.loop-preserved-in-Some-take-2
loop-preserved-in-Some-take-2 g c =
    let trace = c.args.trace.now in
    let number = c.in-Line.number in
    let old = c.args.self.now in
    let mid = c.loop.self in
    let printed = c.in-Some-take.printed in
    let taken = c.in-Line.ensures.taken in
    let list = ap (λ (x : LineBox). x.list) taken in
    let so_far = subst (λ (o : Option (Vec Line Global)). IfSome o (λ p. HasReplied (owner_of old.part) (owner_of mid.part) (lines_at trace (numbers_in mid.queue.list)) p.items))
    (sym c.take.ensures.value ∙ c.in-Some-take.is) c.loop.invariant.answered in
    record {
      taken = taken_more old.queue mid.queue c.recv.new.self (sent.Line number) c.loop.invariant.taken taken;
      unended = ap has_end list ∙ unended mid.queue.list number c.loop.invariant.unended;
      lines = ap (λ (x : LineBox). x.lines) taken ∙ c.loop.invariant.lines;
      answered = if_some c.ok.result _ _
          (λ more one. answers_more (owner_of old.part) (owner_of mid.part) (owner_of c.answer_line.new.part) trace mid.queue.list c.recv.new.self.list number printed.items more.items so_far one list)
          (if_ok c.answer_line.result c.ok.result _ c.ok.ensures.value c.answer_line.ensures);
    }

pub returns-in-End : goal.returns-in-End
returns-in-End g c =
    let trace = c.args.trace.now in
    let old = c.args.self.now in
    let mid = c.loop.self in
    let taken = c.in-End.ensures.taken in
    let list = ap (λ (x : LineBox). x.list) taken in
    record {
      taken = taken_more old.queue mid.queue c.recv.new.self sent.End c.loop.invariant.taken taken;
      ended = ap has_end list ∙ ended mid.queue.list c.loop.invariant.unended;
      answered = if_some mid.printed _ _ (λ printed so_far. rw (list, lines_ended trace mid.queue.list) so_far) c.loop.invariant.answered;
    }
