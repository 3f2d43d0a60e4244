-- What a front makes of the end behind which it stands.
use Rattle.std.specs.Prelude.{◌≡◌, ◌+◌, ◌<◌, ◌≤◌, ◌⊎◌, ℕ, Bool, false, List, [], ◌∷◌, ◌++◌, take, drop, map, length, nat_lt, Option, Some, None, All, ⊤}
use Rattle.outside.specs.Traffic.{Datagram, Traffic, Sent}
use Rattle.partition_model.specs.declared.options.Options.{Options}
use Rattle.fronts.specs.declared.totals.Totals.{Totals}
use Rattle.fronts.specs.Answered.{count_of_writes}
use Rattle.datagram_answers.specs.Turn.{answers_in}
use Rattle.datagram_answers.specs.Dealing.{Dealing, IsDealing, answered_in, due_to}
use Rattle.fronts.specs.Session.{Sessions, AnswersInOrder}
use Rattle.datagram_answers.specs.DealingTotals.{AreTotalsOf}

-- a fact of the traffic before and after, where the end tells it; it goes on telling it
abbrev pub OnTraffic : (Traffic → Traffic → Type 0) → Option Traffic → Option Traffic → Type 0
OnTraffic P None after = ⊤
OnTraffic P (Some before) None = ⊥
OnTraffic P (Some before) (Some after) = P before after

-- after these datagrams were sent
abbrev pub sent_all : List Datagram → Traffic → Traffic
sent_all datagrams traffic =
    record traffic { sent = traffic.sent ++ map (λ bytes. record { bytes = bytes; after = length traffic.received }) datagrams }

abbrev pub SendsAll : List Datagram → Traffic → Traffic → Type 0
SendsAll datagrams before after = after ≡ sent_all datagrams before

-- a proper beginning of them was sent
abbrev pub SendsPart : List Datagram → Traffic → Traffic → Type 0
SendsPart datagrams before after = (n : ℕ) × (n < length datagrams) × (after ≡ sent_all (take n datagrams) before)

-- the end was there
abbrev pub IsAtEnd : Traffic → Traffic → Type 0
IsAtEnd before after = (after ≡ before) × (before.left ≡ [])

-- the next datagram was received
abbrev pub received_one : Datagram → List Datagram → Traffic → Traffic
received_one datagram later traffic = record traffic { left = later; received = traffic.received ++ datagram ∷ [] }

-- one datagram was received, dealt with, and what is due to it was sent
pub record ServesOne (options : Options) (is_alone : Bool) (old : Sessions) (left requests : ℕ) (new : Sessions) (left_after : ℕ)
    (before after : Traffic) : Type 0 where
  pub dealing : Dealing
  pub later : List Datagram
  pub next : before.left ≡ dealing.datagram ∷ later
  pub is : IsDealing dealing
  pub count : requests ≡ length dealing.turns
  pub told : after ≡ sent_all dealing.replies (received_one dealing.datagram later before)
  pub answers : AnswersInOrder options is_alone old (answers_in dealing.turns) new
  pub few : left ≤ left_after + count_of_writes (answers_in dealing.turns)

-- one datagram was received and dealt with, and a proper beginning of what is due to it was sent
pub record SendsShort (options : Options) (is_alone : Bool) (old : Sessions) (left : ℕ) (new : Sessions) (left_after : ℕ) (before after : Traffic)
    : Type 0 where
  pub dealing : Dealing
  pub later : List Datagram
  pub next : before.left ≡ dealing.datagram ∷ later
  pub is : IsDealing dealing
  pub part : SendsPart dealing.replies (received_one dealing.datagram later before) after
  pub answers : AnswersInOrder options is_alone old (answers_in dealing.turns) new
  pub few : left ≤ left_after + count_of_writes (answers_in dealing.turns)

-- a fault came before a datagram was received, or before all that is due to it was sent
abbrev pub StopsOne : Options → Bool → Sessions → ℕ → Sessions → ℕ → Traffic → Traffic → Type 0
StopsOne options is_alone old left new left_after before after =
    ((after ≡ before) × (new ≡ old) × (left_after ≡ left)) ⊎ SendsShort options is_alone old left new left_after before after

-- one datagram was received, and nothing was sent
abbrev pub LeavesUnread : Traffic → Traffic → Type 0
LeavesUnread before after =
    (datagram : Datagram) × (later : List Datagram) × (before.left ≡ datagram ∷ later) × (after ≡ received_one datagram later before)

-- so many datagrams of an end that had received and sent nothing were served, one after another
pub record ServesSome (options : Options) (is_alone : Bool) (old : Sessions) (left : ℕ) (count : ℕ) (totals : Totals) (new : Sessions)
    (left_after : ℕ) (before after : Traffic) : Type 0 where
  pub dealings : List Dealing
  pub many : length dealings ≡ count
  pub each : All IsDealing dealings
  pub split : before.left ≡ map (λ d. d.datagram) dealings ++ after.left
  pub received : after.received ≡ map (λ d. d.datagram) dealings
  pub sent : after.sent ≡ due_to dealings
  pub answers : AnswersInOrder options is_alone old (answered_in dealings) new
  pub few : left ≤ left_after + count_of_writes (answered_in dealings)
  pub counts : AreTotalsOf (dealings ∷ []) totals

-- What a front made of an end that had these datagrams left: it received so many of them, or all where there are fewer, sent what is due to
-- each, and answered the requests.
pub record ServesEnd (options : Options) (is_alone : Bool) (old : Sessions) (left : ℕ) (batches : ℕ) (ended : Bool) (totals : Totals)
    (new : Sessions) (left_after : ℕ) (before after : Traffic) : Type 0 where
  pub dealings : List Dealing
  pub each : All IsDealing dealings
  pub asked : map (λ d. d.datagram) dealings ≡ take batches before.left
  pub told : after ≡ record { left = drop batches before.left; received = take batches before.left; sent = due_to dealings }
  pub at_end : ended ≡ nat_lt (length before.left) batches
  pub answers : AnswersInOrder options is_alone old (answered_in dealings) new
  pub few : left ≤ left_after + count_of_writes (answered_in dealings)
  pub counts : AreTotalsOf (dealings ∷ []) totals

-- a list of datagrams begins as the other
abbrev pub BeginsAs : List Sent → List Sent → Type 0
BeginsAs begun all = (later : List Sent) × (all ≡ begun ++ later)

-- What a front made of an end in part: it received a beginning of the datagrams, at most so many, dealt with all of these but the last ones that
-- are unread, and sent a beginning of what is due to those that it dealt with.
pub record BeginsEnd (batches : ℕ) (dealings : List Dealing) (unread : List Datagram) (before after : Traffic) : Type 0 where
  pub in_order : before.left ≡ after.received ++ after.left
  pub few : length after.received ≤ batches
  pub asked : map (λ d. d.datagram) dealings ++ unread ≡ after.received
  pub each : All IsDealing dealings
  pub sent : BeginsAs after.sent (due_to dealings)

-- it did not reach the end or so many datagrams, or did not send all that is due
abbrev pub IsShort : ℕ → List Dealing → Bool → Traffic → Type 0
IsShort batches dealings ended after =
    (length after.sent < length (due_to dealings)) ⊎ ((ended ≡ false) × (length after.received < batches))

-- what a front left of an end at a fault, and that it answered all that it dealt with
pub record LeavesEnd (options : Options) (is_alone : Bool) (old : Sessions) (left : ℕ) (batches : ℕ) (ended : Bool) (new : Sessions) (left_after : ℕ)
    (before after : Traffic) : Type 0 where
  pub dealings : List Dealing
  pub begins : BeginsEnd batches dealings [] before after
  pub short : IsShort batches dealings ended after
  pub answers : AnswersInOrder options is_alone old (answered_in dealings) new
  pub few : left ≤ left_after + count_of_writes (answered_in dealings)

-- what a front left of an end when memory ran out: one datagram at most is unread
pub record WantsAtEnd (batches : ℕ) (before after : Traffic) : Type 0 where
  pub dealings : List Dealing
  pub unread : List Datagram
  pub one : length unread ≤ 1
  pub begins : BeginsEnd batches dealings unread before after
