-- How replies are spread over datagrams.
use Rattle.std.specs.Prelude.{◌≡◌, ℕ, List, [], ◌∷◌, ◌++◌}
use Rattle.batch_packets.specs.declared.replies.Reply.{Reply}
use Rattle.batch_packets.specs.Datagram.{FitsDatagram}
use Rattle.batch_packets.specs.ReplyGrammar.{reply_text, replies_datagram}

-- a datagram of these replies has no room for the one that follows, if one does
abbrev pub HasNoRoom : ℕ → List Reply → List Reply → Type 0
HasNoRoom version group [] = Unit {0}
HasNoRoom version group (reply ∷ later) = ¬ FitsDatagram reply_text version (group ++ reply ∷ [])

-- the replies begin with a group that fits one datagram, and the reply after it does not fit
pub record BeginsWith (version : ℕ) (replies group later : List Reply) : Type 0 where
  pub whole : replies ≡ group ++ later
  pub fits : FitsDatagram reply_text version group
  pub full : HasNoRoom version group later

-- The replies split into datagrams of one version and number, in order: each datagram is the text of as
-- many of the replies that are left as fit. No replies give no datagram.
abbrev pub SplitsInto : ℕ → ℕ → List Reply → List (List ℕ) → Type 0
SplitsInto version number replies [] = replies ≡ []
SplitsInto version number replies (datagram ∷ datagrams) =
    (group : List Reply) × (later : List Reply) × BeginsWith version replies group later
    × (datagram ≡ replies_datagram version number group)
    × SplitsInto version number later datagrams
