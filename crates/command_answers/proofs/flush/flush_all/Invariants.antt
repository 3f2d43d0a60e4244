use Rattle.std.proofs.Common.{◌≡◌, ◌≤◌, ◌+◌}
use Rattle.command_answers.proofs.Flushing.{Flushed}
use Rattle.command_answers.proofs.flush.flush_all.Given as goal

abbrev pub invariant-loop-partition : goal.invariant-loop-partition
invariant-loop-partition g l =
    let F = g.F.Front in record {
      flushed : Flushed (F.options l.initial.front) l.flush F.is_alone (F.sessions l.initial.front) (F.sessions l.front) l.partition l.took;
      left : F.left l.initial.front ≤ F.left l.front + l.partition;
      options : F.options l.front ≡ F.options l.initial.front;
      number : F.number l.front ≡ F.number l.initial.front;
      stands : F.stands l.front ≡ F.stands l.initial.front;
    }
