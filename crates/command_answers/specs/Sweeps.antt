-- What a front does beside what clients say: items that are not there any more give their room back, and in cache mode items that are used stay.
use Rattle.std.specs.Prelude.{◌≡◌, ⊤, ◌≤◌, ◌+◌, ℕ, Bool, true, false, List, [], length, Some}
use Rattle.std.specs.List.{AllByRecursion}
use Rattle.mica_words.specs.Mark.{is_mark}
use Rattle.partition_model.specs.declared.options.Mode.TheVariants.{Cache}
use Rattle.partition_model.specs.declared.options.Options.{Options}
use Rattle.partition_model.specs.declared.write.Op.TheVariants.{Del, Touch}
use Rattle.partition_model.specs.Write.{write_of}
use Rattle.memcached_decisions.specs.Over.{is_over}
use Rattle.fronts.specs.Answered.{Answered, wrote, changed, kept, count_of_writes}
use Rattle.fronts.specs.Session.{Sessions, AnswersInOrder}
use Rattle.command_answers.specs.Seconds.{AreAt}

-- A key was looked at that is no mark, and deleted where what was stored is over; or it was left. In cache mode a key may also be touched: its item is written anew
-- at the tail of the log, with the value that it has.
abbrev pub IsSweep : Options → ℕ → Answered → Type 0
IsSweep options base (wrote step) = (options.mode ≡ Cache) × (step.write ≡ write_of Touch step.write.key [])
IsSweep options base (changed step look) = (step.write ≡ write_of Del step.write.key []) × ((stored : List ℕ) × (look.value ≡ Some stored) × (is_over base look.when stored ≡ true) × (is_mark step.write.key ≡ false))
IsSweep options base (kept key stamp look) = ⊤
IsSweep options base _ = ⊥

-- A front's sessions went on by sweeps alone, so many at most, at this second. Of the writes that the front could be given none is gone but those among them.
pub record SweepsBy (options : Options) (is_alone : Bool) (base second most : ℕ) (old : Sessions) (left : ℕ) (new : Sessions) (left_after : ℕ)
    : Type 0 where
  pub answers : List Answered
  pub sweeps : AllByRecursion (IsSweep options base) answers
  pub bounded : length answers ≤ most
  pub in_order : AnswersInOrder options is_alone old answers new
  pub seconds : AreAt options second answers
  pub few : left ≤ left_after + count_of_writes answers
