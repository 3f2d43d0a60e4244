-- What is true of all connections of a front at each moment.
--
-- All answers of a front are one list, so a get sees what any client of this front was told before. A connection is closed where there is a cause, which a
-- shut window is not.
use Rattle.std.specs.Prelude.{◌≡◌, ℕ, ◌<◌, ◌⊎◌, ⊤, Bool, true, false, List, [], ◌∷◌, ◌++◌, slice_get, IfSome}
use Rattle.partition_model.specs.declared.options.Options.{Options}
use Rattle.connections.specs.declared.schedule.Step.{Step}
use Rattle.connections.specs.State.{Entry, opened, reported, turned_away, received, closed, state_after}
use Rattle.connections.specs.Log.{received_of, second_of, sent_of}
use Rattle.fronts.specs.Answered.{Answered}
use Rattle.command_answers.specs.Seconds.{AreAt}
use Rattle.connection_loop.specs.Given.{Given, given_to, answers_in}
use Rattle.connection_loop.specs.Talk.{TalksKept, TalksWith}
use Rattle.connection_loop.specs.Closing.{MayClose, IsSettled}
use Rattle.connection_loop.specs.Traffic.{IsToCome}

-- a connection is one of these
abbrev pub IsAmong : ℕ → List ℕ → Type 0
IsAmong c all = (earlier later : List ℕ) × (all ≡ earlier ++ c ∷ later)

-- With a client the front talked so. Of one that memory lacked for in the end, it is not said how much of what was due was not sent.
abbrev pub TalksWithOne : Options → ℕ → ℕ → List ℕ → ℕ → List ℕ → List ℕ → List Answered → Type 0
TalksWithOne options base most lacking c came went answers =
    TalksWith options base most came went answers ⊎ (IsAmong c lacking × TalksKept options base came went answers)

-- With each client it talked so, where calls did this, the last of them first, and all these answers were given.
abbrev pub TalksWithAll : Options → ℕ → ℕ → List ℕ → List Entry → List Given → Type 0
TalksWithAll options base most lacking entries all =
    (c : ℕ) → TalksWithOne options base most lacking c (received_of c entries) (sent_of c entries) (given_to c all)

-- A close has a cause in what stood before it; or there was no memory for the connection.
abbrev pub IsCaused : Options → ℕ → List Step → List ℕ → Entry → List Entry → List Given → Type 0
IsCaused options base schedule lacking (closed c) entries all =
    IsAmong c lacking
    ⊎ IfSome (slice_get (state_after schedule entries).connections c)
    (λ connection. MayClose options base connection (received_of c entries) (sent_of c entries) (given_to c all))
IsCaused options base schedule lacking _ entries all = ⊤

-- It was told which second it is, behind the report or the bytes that came last.
abbrev pub is_timed : List Entry → Bool
is_timed (opened number ∷ entries) = false
is_timed (reported number ∷ entries) = false
is_timed (turned_away ∷ entries) = false
is_timed (received c bytes ∷ entries) = false
is_timed _ = true

-- These were given since an entry was made: at the second that was told last, and none before it was told. So what was received is answered at a second that was
-- looked at behind it, and a client that asks again is answered at none before.
pub record AreSince (options : Options) (entries : List Entry) (later : List Given) : Type 0 where
  pub at : AreAt options (second_of entries) (answers_in later)
  pub timed : is_timed entries ≡ false → later ≡ []

-- These had been given as an entry was made, where all were given in the end.
abbrev pub GivenSince : Options → List Entry → List Given → List Given → Type 0
GivenSince options entries first all = (later : List Given) × (all ≡ first ++ later) × AreSince options entries later

-- At each moment the front had talked with each client, by answers that begin those of the next moment. So what was sent to one client is due to an answer
-- that stands before the answers to all that was received later, from whichever client.
abbrev pub TalksThrough : Options → ℕ → ℕ → List Step → List ℕ → List Entry → List Given → Type 0
TalksThrough options base most schedule lacking [] all = TalksWithAll options base most lacking [] all
TalksThrough options base most schedule lacking (entry ∷ entries) all =
    TalksWithAll options base most lacking (entry ∷ entries) all
    × ((first : List Given) × GivenSince options (entry ∷ entries) first all × IsCaused options base schedule lacking entry entries first
    × TalksThrough options base most schedule lacking entries first)

-- The front has caught up, where a call moves so many bytes at most, and some: each connection that was made is settled, or a report of it is to come.
abbrev pub IsCaughtUp : Options → ℕ → List Step → ℕ → List Entry → List Given → Type 0
IsCaughtUp options base schedule piece entries all = 0 < piece → (c : ℕ) → IfSome (slice_get (state_after schedule entries).connections c)
    (λ connection. IsToCome c (state_after schedule entries).later ⊎ IsSettled options base connection (received_of c entries) (sent_of c entries) (given_to c all))
