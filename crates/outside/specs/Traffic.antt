-- What an end of a net tells: the datagrams that it has left, received and sent.
use Rattle.std.specs.Prelude.{◌≡◌, ℕ, ◌-◌, ◌||◌, Bool, List, [], ◌∷◌, ◌++◌, length, take, nat_lt, if◌then◌else◌, Option, Some}
use Rattle.outside.specs.Script.{next_number, is_listed}

-- the bytes of one datagram
abbrev pub Datagram : Type 0
Datagram = List ℕ

-- a datagram that was sent, and how many datagrams its end had received before it
pub record Sent : Type 0 where
  pub bytes : Datagram
  pub after : ℕ

-- what is left, what was received, and what was sent, each in order
pub record Traffic : Type 0 where
  pub left : List Datagram
  pub received : List Datagram
  pub sent : List Sent

-- before any call
abbrev pub new_traffic : List Datagram → Traffic
new_traffic datagrams = record { left = datagrams; received = []; sent = [] }

-- the next datagram was received, of which as much is given as there is room for
pub record ReceivesNext (old : Traffic) (given : List ℕ) (room : ℕ) (new : Option Traffic) : Type 0 where
  pub datagram : Datagram
  pub later : List Datagram
  pub next : old.left ≡ datagram ∷ later
  pub cut : given ≡ take room datagram
  pub result : new ≡ Some (record old { left = later; received = old.received ++ datagram ∷ [] })

-- after one more datagram was sent
abbrev pub sent_one : Datagram → Traffic → Traffic
sent_one bytes traffic =
    record traffic { sent = traffic.sent ++ record { bytes = bytes; after = length traffic.received } ∷ [] }

-- Which calls of an end over memory fail, how many of each kind were made, and for how many bytes of replies it has room.
pub record EndScript : Type 0 where
  pub recv_fails : List ℕ
  pub recvs : ℕ
  pub reply_fails : List ℕ
  pub replies : ℕ
  pub room : ℕ

-- whether the next `recv` fails
abbrev pub fails_recv : EndScript → Bool
fails_recv script = is_listed script.recv_fails (next_number script.recvs)

-- whether a `reply` of this many bytes fails
abbrev pub fails_reply : ℕ → EndScript → Bool
fails_reply len script = is_listed script.reply_fails (next_number script.replies) || nat_lt script.room len

-- one `recv` more was called
abbrev pub after_recv : EndScript → EndScript
after_recv script = record script { recvs = next_number script.recvs }

-- one `reply` of so many bytes more was called, which takes room unless it fails
abbrev pub after_reply : ℕ → EndScript → EndScript
after_reply len script = record script {
  replies = next_number script.replies;
  room = if fails_reply len script then script.room else script.room - len;
}
