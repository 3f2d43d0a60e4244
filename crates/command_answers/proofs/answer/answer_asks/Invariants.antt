use Rattle.std.proofs.Common.{◌≡◌, ◌≤◌, ◌+◌, ◌-◌, ◌++◌, ◌==◌, List, length, drop, max}
use Rattle.std.specs.List.{AllByRecursion}
use Rattle.memcached_text.specs.declared.limits.TheConstants.{MAX_REPLY_LEN}
use Rattle.memcached_commands.specs.Fit.{IsFitAsked}
use Rattle.fronts.specs.Answered.{Answered, count_of_writes}
use Rattle.command_answers.specs.AskAnswers.{asks_by, asks_text}
use Rattle.command_answers.specs.Counting.{tally_after_all}
use Rattle.command_answers.specs.Going.{AnswersFirst}
use Rattle.command_answers.proofs.answer.answer_asks.Given as goal

abbrev pub invariant-loop-count : goal.invariant-loop-count
invariant-loop-count g l =
    let F = g.F.Front in record {
      answers : List Answered;
      first : AnswersFirst (F.options l.initial.front) F.is_alone l.base l.second l.style l.initial.asks (F.sessions l.initial.front) (F.sessions l.front) answers;
      many : l.count ≡ length answers;
      left_is : l.asks ≡ drop l.count l.initial.asks;
      whole : (length l.asks == 0) ≡ (length answers == length (asks_by l.style l.initial.asks answers));
      fit : AllByRecursion IsFitAsked l.asks;
      text : l.out.items ≡ l.initial.out.items ++ asks_text l.base l.style l.initial.asks answers;
      short : length l.out.items ≤ max (length l.initial.out.items) l.limits.bytes + MAX_REPLY_LEN;
      few : l.count ≤ l.limits.asks;
      few_answers : length answers ≤ l.limits.asks;
      left : F.left l.initial.front ≤ F.left l.front + l.count;
      given : F.left l.initial.front ≤ F.left l.front + count_of_writes answers;
      counted : l.buffers.tally ≡ tally_after_all l.base (g.F.Front.options l.initial.front).hashing l.partitions l.initial.asks answers l.initial.buffers.tally;
      options : F.options l.front ≡ F.options l.initial.front;
      number : F.number l.front ≡ F.number l.initial.front;
      stands : F.stands l.front ≡ F.stands l.initial.front;
    }

abbrev pub decreases-loop-count : goal.decreases-loop-count
decreases-loop-count g l = l.limits.asks - l.count
