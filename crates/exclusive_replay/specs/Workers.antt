-- What the workers of a run have in hand, and what each makes of it.
use Rattle.std.specs.Prelude.{◌≡◌, ℕ, ◌+◌, ◌<◌, true, List, [], ◌∷◌, ◌++◌, length, map, filter, slice_get, Some, IfSome, slice_index_or}
use Rattle.std.specs.List.{filter_map}
use Rattle.partition_model.specs.declared.options.Options.{Options}
use Rattle.mica_trace.specs.declared.line.TraceLine.{TraceLine}
use Rattle.mica_trace.specs.declared.report.Line.{Line}
use Rattle.mica_trace.specs.LineReply.{is_for}
use Rattle.partition_words.specs.declared.state.OwnerState.{OwnerState}
use Rattle.line_replies.specs.Replied.{IsReplied, HasReplied}
use Rattle.exclusive_replay.specs.declared.queue.Sent.{Sent}
use Rattle.exclusive_replay.specs.declared.queue.Sent.TheVariants as sent
use Rattle.exclusive_replay.specs.declared.owner.Owner.{Owner}
use Rattle.exclusive_replay.specs.declared.feeder.Feeder.{Feeder}
use Rattle.exclusive_replay.specs.Sent.{has_end, numbers_in}
use Rattle.exclusive_replay.specs.LineEnds.{LineBox, line_box}
use Rattle.any_partition.specs.PlainPartition.{owner_of}

-- the lines of these numbers
abbrev pub lines_at : List TraceLine → List ℕ → List TraceLine
lines_at trace numbers = filter_map (slice_get trace) numbers

-- one line more was answered
pub record AnswersLine (old new : OwnerState) (trace : List TraceLine) (number : ℕ) (before after : List Line) : Type 0 where
  pub line : TraceLine
  pub printed : Line
  pub at : slice_get trace number ≡ Some line
  pub more : after ≡ before ++ printed ∷ []
  pub replied : IsReplied old new line printed

-- an owner with a fresh queue for the lines of the trace, which has answered none
pub record IsReadyOwner (trace : List TraceLine) (w : Owner) : Type 0 where
  pub lines : w.queue.lines ≡ length trace
  pub fresh : w.queue.list ≡ []
  pub none : IfSome w.printed (λ printed. printed.items ≡ [])

-- an owner that took its queue to the end, and answered the lines in it, unless there was no memory
pub record OwnerRan (trace : List TraceLine) (w v : Owner) : Type 0 where
  pub taken : v.queue ≡ line_box w.queue.queue w.queue.lines v.queue.list
  pub ended : has_end v.queue.list ≡ true
  pub answered : IfSome v.printed (λ printed. HasReplied (owner_of w.part) (owner_of v.part) (lines_at trace (numbers_in v.queue.list)) printed.items)

-- the messages for one partition: the numbers of its lines, and then an end
abbrev pub numbered : ℕ → List TraceLine → List (ℕ × TraceLine)
numbered n [] = []
numbered n (line ∷ lines) = (n, line) ∷ numbered (n + 1) lines

abbrev pub messages_for : Options → ℕ → List TraceLine → List Sent
messages_for options p trace = map (λ pair. sent.Line pair.0) (filter (λ pair. is_for options p pair.1) (numbered 0 trace)) ++ sent.End ∷ []

-- a sender of each partition's queue, which has sent nothing
pub record IsReadyFeeder (options : Options) (trace : List TraceLine) (f : Feeder) : Type 0 where
  pub many : length f.senders.items ≡ options.partitions
  pub fresh : (p : ℕ) (sender : LineBox) → slice_get f.senders.items p ≡ Some sender → (sender.list ≡ []) × (sender.lines ≡ length trace)

-- each sender sent the messages for its partition
pub record HasFed (options : Options) (trace : List TraceLine) (olds news : List LineBox) : Type 0 where
  pub many : length news ≡ length olds
  pub each : (p : ℕ) (old new : LineBox) → slice_get olds p ≡ Some old → slice_get news p ≡ Some new → new ≡ line_box old.queue old.lines (messages_for options p trace)

-- each owner has run, in its place
abbrev pub OwnersRan : List TraceLine → List Owner → List Owner → Type 0
OwnersRan trace xs ys = (length ys ≡ length xs) × ((i : ℕ) (d : Owner) → i < length xs → OwnerRan trace (slice_index_or xs i d) (slice_index_or ys i d))
