use Rattle.std.proofs.Common.{◌≡◌, ◌≤◌, ◌+◌, ◌-◌, ℕ}
use Rattle.command_answers.specs.Sweeps.{SweepsBy}
use Rattle.command_answers.proofs.keeping.keep_in.Given as goal

abbrev pub invariant-loop-looked : goal.invariant-loop-looked
invariant-loop-looked g l =
    let F = g.F.Front in record {
      swept : (base second : ℕ) → SweepsBy (F.options l.initial.front) F.is_alone base second l.looked (F.sessions l.initial.front) (F.left l.initial.front)
          (F.sessions l.front) (F.left l.front);
      few : l.looked ≤ l.most;
      left : F.left l.initial.front ≤ F.left l.front + l.looked;
      options : F.options l.front ≡ F.options l.initial.front;
      number : F.number l.front ≡ F.number l.initial.front;
      stands : F.stands l.front ≡ F.stands l.initial.front;
    }

abbrev pub decreases-loop-looked : goal.decreases-loop-looked
decreases-loop-looked g l = l.most - l.looked
