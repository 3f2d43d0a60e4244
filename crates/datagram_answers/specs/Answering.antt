-- What a front makes of a datagram, and of the requests in it.
use Rattle.std.specs.Prelude.{◌≡◌, ◌≤◌, ◌+◌, ◌⊎◌, ℕ, Bool, List, [], ◌∷◌, ◌++◌, length, map, All}
use Rattle.std.specs.List.{AllZip}
use Rattle.outside.specs.Traffic.{Datagram}
use Rattle.partition_model.specs.declared.options.Options.{Options}
use Rattle.batch_packets.specs.declared.batch.Batch.{Batch}
use Rattle.batch_packets.specs.declared.batch.Request.{Request}
use Rattle.batch_packets.specs.declared.replies.Reply.{Reply}
use Rattle.batch_packets.specs.BatchGrammar.{SpellsBatch}
use Rattle.batch_packets.specs.Filling.{Filling, Adds}
use Rattle.batch_packets.specs.Remaining.{Remaining, HasLeft}
use Rattle.fronts.specs.Answered.{Answered, count_of_writes}
use Rattle.datagram_answers.specs.Turn.{Turn, Asks, reply_to, reply_of, answers_in}
use Rattle.datagram_answers.specs.Dealing.{Dealing, IsTurn, IsDealing}
use Rattle.fronts.specs.Session.{Sessions, Answers, AnswersInOrder}

-- One request

-- a request of a version was answered so
pub record RepliesTo (options : Options) (is_alone : Bool) (version : ℕ) (old : Sessions) (request : Request) (new : Sessions) (answered : Answered)
    : Type 0 where
  pub is : IsTurn version (record { version = version; request = request; answered = answered })
  pub answers : Answers options is_alone old answered new

-- a request was answered, and its reply added to a text of its version
pub record AddsReply (options : Options) (is_alone : Bool) (old : Sessions) (before : Filling) (request : Request) (new : Sessions) (after : Filling)
    : Type 0 where
  pub answered : Answered
  pub replied : RepliesTo options is_alone before.version old request new answered
  pub added : Adds before (reply_to before.version request.ticket answered ∷ []) after

-- The requests of a batch

-- these requests of a version were answered in order, each with its reply
pub record AnswersAll (options : Options) (is_alone : Bool) (version : ℕ) (old : Sessions) (left : ℕ) (requests : List Request) (new : Sessions)
    (left_after : ℕ) (replies : List Reply) : Type 0 where
  pub turns : List Turn
  pub asked : map (λ t. t.request) turns ≡ requests
  pub replied : map reply_of turns ≡ replies
  pub each : All (IsTurn version) turns
  pub answers : AnswersInOrder options is_alone old (answers_in turns) new
  pub few : left ≤ left_after + count_of_writes (answers_in turns)

-- these requests were answered in order, and their replies added to a text of their version
pub record AddsAll (options : Options) (is_alone : Bool) (old : Sessions) (left : ℕ) (before : Filling) (requests : List Request) (new : Sessions)
    (left_after : ℕ) (after : Filling) : Type 0 where
  pub replies : List Reply
  pub answered : AnswersAll options is_alone before.version old left requests new left_after replies
  pub added : Adds before replies after

-- some requests at the beginning were answered in order, or none
pub record AnswersFirst (options : Options) (is_alone : Bool) (old : Sessions) (left : ℕ) (requests : List Request) (new : Sessions)
    (left_after : ℕ) : Type 0 where
  pub first : List Request
  pub later : List Request
  pub begins : requests ≡ first ++ later
  pub answers : List Answered
  pub asked : AllZip Asks first answers
  pub in_order : AnswersInOrder options is_alone old answers new
  pub few : left ≤ left_after + count_of_writes answers

-- so many requests of a version are left in the bytes of a batch, and these are they
pub record AreLeft (unread : Remaining) (version count : ℕ) (requests : List Request) : Type 0 where
  pub left : HasLeft unread requests
  pub version_is : unread.version ≡ version
  pub many : length requests ≡ count

-- The datagram

-- It was dealt with: its requests were answered in order, and no more writes were given than it has.
pub record DealsWith (options : Options) (is_alone : Bool) (old : Sessions) (left : ℕ) (dealing : Dealing) (new : Sessions) (left_after : ℕ)
    : Type 0 where
  pub is : IsDealing dealing
  pub answers : AnswersInOrder options is_alone old (answers_in dealing.turns) new
  pub few : left ≤ left_after + count_of_writes (answers_in dealing.turns)

-- Some requests at the beginning of a batch were answered in order, or none of any datagram.
pub record DealsInPart (options : Options) (is_alone : Bool) (old : Sessions) (left : ℕ) (datagram : Datagram) (new : Sessions) (left_after : ℕ)
    : Type 0 where
  pub requests : List Request
  pub of : (requests ≡ []) ⊎ ((batch : Batch) × SpellsBatch datagram batch × (requests ≡ batch.requests))
  pub first : AnswersFirst options is_alone old left requests new left_after
