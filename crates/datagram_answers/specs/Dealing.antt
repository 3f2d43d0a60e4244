-- What a front makes of each datagram that it receives.
use Rattle.std.specs.Prelude.{◌≡◌, ◌⊎◌, ℕ, suc, List, [], ◌∷◌, ◌++◌, map, flat_map, All}
use Rattle.outside.specs.Traffic.{Datagram, Sent}
use Rattle.batch_packets.specs.declared.batch.Batch.{Batch}
use Rattle.batch_packets.specs.BatchGrammar.{SpellsBatch}
use Rattle.batch_packets.specs.ReplyGrammar.{IsReply, replies_text}
use Rattle.batch_packets.specs.Splitting.{SplitsInto}
use Rattle.fronts.specs.Answered.{Answered}
use Rattle.datagram_answers.specs.Turn.{Turn, Asks, reply_of, answers_in, bad_batch_reply}

-- a datagram that was received, the requests in it with what was answered to each, and the datagrams that are due to it
pub record Dealing : Type 0 where
  pub datagram : Datagram
  pub turns : List Turn
  pub replies : List Datagram

-- what the request asks was answered, and the reply is one that the version may have
pub record IsTurn (version : ℕ) (turn : Turn) : Type 0 where
  pub version_is : turn.version ≡ version
  pub asked : Asks turn.request turn.answered
  pub lawful : IsReply version (reply_of turn)

-- the datagram is a batch: one reply for each of its requests, in order
pub record AnswersBatch (dealing : Dealing) : Type 0 where
  pub batch : Batch
  pub spelled : SpellsBatch dealing.datagram batch
  pub requests : map (λ t. t.request) dealing.turns ≡ batch.requests
  pub each : All (IsTurn batch.version) dealing.turns
  pub split : SplitsInto batch.version batch.number (map reply_of dealing.turns) dealing.replies

-- the bytes are the text of no batch
abbrev pub IsNoBatch : Datagram → Type 0
IsNoBatch bytes = (batch : Batch) → ¬ (SpellsBatch bytes batch)

-- it is of the first version, whatever came
abbrev pub bad_batch_text : Datagram
bad_batch_text = replies_text (record { version = 1; number = 0; replies = bad_batch_reply ∷ [] })

-- the datagram is no batch: one reply says so
pub record RefusesBatch (dealing : Dealing) : Type 0 where
  pub no_batch : IsNoBatch dealing.datagram
  pub no_turns : dealing.turns ≡ []
  pub replies : dealing.replies ≡ bad_batch_text ∷ []

-- a datagram was answered as a batch, or refused as none
abbrev pub IsDealing : Dealing → Type 0
IsDealing dealing = AnswersBatch dealing ⊎ RefusesBatch dealing

-- the requests in all datagrams, in order
abbrev pub turns_in : List Dealing → List Turn
turns_in dealings = flat_map (λ e. e.turns) dealings

-- what was answered to all of them
abbrev pub answered_in : List Dealing → List Answered
answered_in dealings = answers_in (turns_in dealings)

-- the datagrams that are due, each after its own was received and before the next one was, where so many were received before
abbrev pub due_after : ℕ → List Dealing → List Sent
due_after received [] = []
due_after received (dealing ∷ later) =
    map (λ bytes. record { bytes = bytes; after = suc received }) dealing.replies ++ due_after (suc received) later

-- the datagrams that are due to all that a front dealt with
abbrev pub due_to : List Dealing → List Sent
due_to dealings = due_after 0 dealings
