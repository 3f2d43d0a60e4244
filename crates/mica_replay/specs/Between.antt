-- How far a replay has come between two rounds, and what one round makes of its owners and seats.
use Rattle.std.specs.Prelude.{◌≡◌, ℕ, zero, suc, ◌+◌, ◌<◌, List, ◌++◌, length, zip, slice_get, Option, Some, None}
use Rattle.std.specs.Option.{option_and_then}
use Rattle.partition_model.specs.declared.options.Options.{Options}
use Rattle.partition_model.specs.History.{History, IsPrefix}
use Rattle.partition_model.specs.Run.{IsRunFrom, history_of}
use Rattle.mica_trace.specs.declared.line.TraceLine.{TraceLine}
use Rattle.mica_trace.specs.declared.report.Line.{Line}
use Rattle.mica_trace.specs.Rounds.{writes_of}
use Rattle.mica_trace.specs.LawfulReport.{LawfulReport}
use Rattle.partition_words.specs.declared.state.OwnerState.{OwnerState}
use Rattle.partition_words.specs.declared.state.Phase.TheVariants.{Idle}
use Rattle.partition_words.specs.Shape.{shape_of}
use Rattle.partition_words.specs.declared.reader.ReaderState.{ReaderState}
use Rattle.mica_trace.specs.RoundReport.{gets_in, gets_of, line_pairs_in, AnswersRise, history_in}
use Rattle.partition_words.specs.Joins.{lent}
use Rattle.mica_replay.specs.ReaderGets.{HasRead}
use Rattle.mica_replay.specs.Replies.{Reply, steps_with, HasWritten}
use Rattle.mica_replay.specs.Replayed.{gets_to_partition}

-- the owner of partition p has the history of what is printed, and one closed try for each get of the partition
pub record IsOwnerAt (options : Options) (before : List TraceLine) (report : List Line) (p : ℕ) (owner : OwnerState) : Type 0 where
  pub shape : owner.shape ≡ shape_of options
  pub history : owner.history ≡ history_in options p before report
  pub closed : owner.closed ≡ gets_to_partition options p before
  pub idle : owner.phase ≡ Idle

-- What is printed for the lines before a round is a lawful report of them, and each owner is where it leaves off.
pub record IsReplaying (options : Options) (before : List TraceLine) (report : List Line) (owners : List OwnerState) : Type 0 where
  pub lawful : LawfulReport options before report
  pub many : length owners ≡ options.partitions
  pub each : (p : ℕ) (owner : OwnerState) → slice_get owners p ≡ Some owner → IsOwnerAt options before report p owner

-- Seats, of which a reader has one for each partition

abbrev pub seat_of : List (List ReaderState) → ℕ → ℕ → Option ReaderState
seat_of seats q p = option_and_then (λ own. slice_get own p) (slice_get seats q)

abbrev pub closed_of : Option ReaderState → ℕ
closed_of None = 0
closed_of (Some seat) = seat.closed

-- f of each number below n, added up
abbrev pub sum_to : ℕ → (ℕ → ℕ) → ℕ
sum_to zero f = 0
sum_to (suc n) f = f n + sum_to n f

-- an owner that has met all seats of its partition
pub record HasMet (readers : ℕ) (seats : List (List ReaderState)) (p : ℕ) (ran met : OwnerState) : Type 0 where
  pub shape : met.shape ≡ ran.shape
  pub history : met.history ≡ ran.history
  pub phase : met.phase ≡ ran.phase
  pub closed : met.closed ≡ ran.closed + sum_to readers (λ q. closed_of (seat_of seats q p))
  pub seen : (q : ℕ) (seat : ReaderState) → seat_of seats q p ≡ Some seat → IsPrefix seat.seen met.history

-- What a round makes of the owners, first by their writes and then by the seats that they meet, and of the seats that they lent.
pub record HasRound (options : Options) (before round : List TraceLine) (owners ran_owners met_owners : List OwnerState) (seats : List (List ReaderState))
    (done : List (List Reply)) (found : List (List Line)) : Type 0 where
  pub owners_done : length done ≡ length owners
  pub owners_ran : length ran_owners ≡ length owners
  pub owners_met : length met_owners ≡ length owners
  pub readers : length found ≡ options.readers
  pub seats_of : (q p : ℕ) → q < options.readers → p < options.partitions → (seat : ReaderState) × (seat_of seats q p ≡ Some seat)
  pub writes : (p : ℕ) (old ran : OwnerState) (replies : List Reply) → slice_get owners p ≡ Some old → slice_get ran_owners p ≡ Some ran → slice_get done p ≡ Some replies
      → HasWritten old ran (writes_of options p round) replies
  pub reads : (q p : ℕ) (old : OwnerState) (lines : List Line) (seat : ReaderState) → slice_get owners p ≡ Some old → slice_get found q ≡ Some lines → seat_of seats q p ≡ Some seat
      → HasRead options p (gets_of options q (gets_in before) round) lines (lent old) seat
  pub meets : (p : ℕ) (ran met : OwnerState) → slice_get ran_owners p ≡ Some ran → slice_get met_owners p ≡ Some met → HasMet options.readers seats p ran met

-- The owner of each partition ran the round's writes of it, on from the history before the round. Each reader's answers in a partition
-- stand between that history and the one that the run leaves.
pub record HaveWorked (options : Options) (before : List TraceLine) (report : List Line) (round : List TraceLine) (done : List (List Reply)) (found : List (List Line)) : Type 0 where
  pub owners : length done ≡ options.partitions
  pub readers : length found ≡ options.readers
  pub writes : (p : ℕ) (replies : List Reply) → slice_get done p ≡ Some replies
      → IsRunFrom options (history_in options p before report) (steps_with (writes_of options p round) replies)
  pub gets : (q p : ℕ) (lines : List Line) (replies : List Reply) → slice_get found q ≡ Some lines → slice_get done p ≡ Some replies
      → (last : History) × IsPrefix last (history_in options p before report ++ history_of (steps_with (writes_of options p round) replies))
      × AnswersRise options (history_in options p before report) (line_pairs_in options p (zip (gets_of options q (gets_in before) round) lines)) last
