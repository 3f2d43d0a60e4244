-- Replies that are written into datagrams one after another.
use Rattle.std.specs.Prelude.{◌≡◌, ℕ, List, ◌++◌}
use Rattle.batch_packets.specs.declared.replies.Reply.{Reply}
use Rattle.batch_packets.specs.ReplyGrammar.{replies_datagram}
use Rattle.batch_packets.specs.Splitting.{SplitsInto}

-- a text of replies while it is written: the closed datagrams, and the one that is being filled
pub record Filling : Type 0 where
  pub version : ℕ
  pub number : ℕ
  pub closed : List (List ℕ)
  pub begun : List ℕ

-- The text has these replies. The last of them are in the datagram that is being filled; whatever they
-- and the replies that follow split into, makes, behind the closed datagrams, what all split into.
pub record HasReplies (filling : Filling) (replies : List Reply) : Type 0 where
  pub group : List Reply
  pub begun : filling.begun ≡ replies_datagram filling.version filling.number group
  pub whole : (more : List Reply) (later : List (List ℕ)) → SplitsInto filling.version filling.number (group ++ more) later
      → SplitsInto filling.version filling.number (replies ++ more) (filling.closed ++ later)

-- these replies were added to a text, whose version and number stay
pub record Adds (before : Filling) (replies : List Reply) (after : Filling) : Type 0 where
  pub version : after.version ≡ before.version
  pub number : after.number ≡ before.number
  pub added : (so_far : List Reply) → HasReplies before so_far → HasReplies after (so_far ++ replies)
