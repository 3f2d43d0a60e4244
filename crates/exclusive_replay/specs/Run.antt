-- A run: what is made for it, and what its workers leave.
use Rattle.std.specs.Prelude.{◌≡◌, ℕ, ◌+◌, true, List, [], ◌∷◌, length, IfSome}
use Rattle.std.specs.List.{AllZip}
use Rattle.partition_model.specs.declared.options.Options.{Options}
use Rattle.mica_trace.specs.declared.line.TraceLine.{TraceLine}
use Rattle.partition_words.specs.OwnerState.{as_made}
use Rattle.partition_words.specs.Shape.{shape_of}
use Rattle.line_replies.specs.Replied.{HasReplied}
use Rattle.exclusive_replay.specs.declared.owner.Owner.{Owner}
use Rattle.exclusive_replay.specs.Sent.{has_end, numbers_in}
use Rattle.exclusive_replay.specs.LineEnds.{LineBox, line_box}
use Rattle.any_partition.specs.PlainPartition.{owner_of}
use Rattle.exclusive_replay.specs.Workers.{IsReadyOwner, lines_at, messages_for}

-- an owner of an empty partition that is ready, and the sender of its queue
pub record IsMade (options : Options) (trace : List TraceLine) (w : Owner) (sender : LineBox) : Type 0 where
  pub ready : IsReadyOwner trace w
  pub empty : owner_of w.part ≡ as_made (shape_of options)
  pub fresh : sender ≡ line_box w.queue.queue (length trace) []

-- one for each partition
pub record AreMade (options : Options) (trace : List TraceLine) (owners : List Owner) (senders : List LineBox) : Type 0 where
  pub many : length owners ≡ options.partitions
  pub each : AllZip (IsMade options trace) owners senders

-- The owner of partition p took its queue to the end, and answered the lines in it from an empty partition, unless there was no memory.
-- The queue's sender sent the messages for the partition.
pub record HasRun (options : Options) (trace : List TraceLine) (p : ℕ) (v : Owner) (sender : LineBox) : Type 0 where
  pub queue : sender.queue ≡ v.queue.queue
  pub sent : sender.list ≡ messages_for options p trace
  pub ended : has_end v.queue.list ≡ true
  pub answered : IfSome v.printed (λ printed. HasReplied (as_made (shape_of options)) (owner_of v.part) (lines_at trace (numbers_in v.queue.list)) printed.items)

-- the owners of the partitions from p on
abbrev pub HaveRun : Options → List TraceLine → ℕ → List Owner → List LineBox → Type 0
HaveRun options trace p [] [] = Unit {0}
HaveRun options trace p (v ∷ vs) (sender ∷ senders) = HasRun options trace p v sender × HaveRun options trace (p + 1) vs senders
HaveRun options trace p _ _ = ⊥
