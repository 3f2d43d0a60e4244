-- A reader of one thread, between whose loads the events of an owner are played as a plan says.
use Rattle.std.specs.Prelude.{◌≡◌, ℕ, ◌+◌, ◌<◌, ◌≤◌, Bool, true, false, List, [], ◌∷◌, ◌++◌, length, slice_index, Some}
use mathlib.Core.Option.{some}
use lib.ListN.{get_elem?}
use Rattle.atomic_table.specs.Table.{State, Me, Step}
use Rattle.partition_model.specs.declared.write.Op.TheVariants.{Del}
use Rattle.partition_model.specs.declared.write.Write.{Write}
use Rattle.partition_model.specs.Write.{write_of}
use Rattle.partition_words.specs.declared.shape.Shape.{Shape}
use Rattle.partition_words.specs.declared.event.Event.{Event}
use Rattle.partition_words.specs.declared.event.OwnerEvent.{OwnerEvent}
use Rattle.partition_words.specs.declared.event.OwnerEvent.TheVariants.{Begin, Mark, End}
use Rattle.partition_words.specs.declared.state.OwnerState.{OwnerState}
use Rattle.partition_words.specs.declared.state.Phase.{Phase}
use Rattle.partition_words.specs.declared.state.Phase.TheVariants.{Idle}
use Rattle.partition_words.specs.declared.reader.Try.{Try}
use Rattle.partition_words.specs.declared.reader.ReaderState.{ReaderState}
use Rattle.partition_words.specs.declared.reading.Plan.{Plan}
use Rattle.partition_words.specs.declared.plain.PlainWords.{PlainWords}
use Rattle.partition_words.specs.declared.plain.Script.{Script}
use Rattle.scripted_reader.specs.declared.scripted.Look.{Look}
use Rattle.scripted_reader.specs.declared.scripted.Look.TheVariants.{FirstEpoch, Word, Stamp, LastEpoch}
use Rattle.scripted_reader.specs.declared.scripted.Book.{Book}
use Rattle.partition_words.specs.Shape.{IsMain}
use Rattle.partition_words.specs.Layout.{epoch_at}
use Rattle.partition_words.specs.OwnerState.{as_made}
use Rattle.partition_words.specs.Events.{place_of, word_after, after, CanPlay, plays}
use Rattle.partition_words.specs.Diary.{event_of}
use Rattle.partition_words.specs.Kept.{Kept}
use Rattle.partition_words.specs.ReaderState.{newcomer, opened, loaded, stamped, shut}
use Rattle.partition_words.specs.ReaderKept.{ReaderKept}
use Rattle.partition_words.specs.Plan.{cut_at, owner_at}
use Rattle.partition_words.specs.Seats.{diary_of}

-- The plan

-- the cuts never fall
abbrev pub Rises : List ℕ → Type 0
Rises cuts = (i j : ℕ) → i ≤ j → j < length cuts → slice_index cuts i ≤ slice_index cuts j

abbrev pub NoneAbove : ℕ → List ℕ → Type 0
NoneAbove n cuts = (i : ℕ) → i < length cuts → slice_index cuts i ≤ n

abbrev pub plan_of : Script → Plan
plan_of script = record { shape = script.shape; events = script.token.me.0.kept; cuts = script.cuts.items }

-- the plan of the kept events, by these cuts
abbrev pub plan_for : PlainWords → List ℕ → Plan
plan_for words cuts = record { shape = (diary_of words).owner.shape; events = (diary_of words).kept; cuts = cuts }

-- The loads

abbrev pub look_at : Look → OwnerState → ReaderState → ReaderState
look_at (FirstEpoch b) o r = opened b (slice_index o.words (epoch_at b)) r
look_at (Word place) o r = loaded place (slice_index o.words place) r
look_at Stamp o r = stamped o.history r
look_at (LastEpoch b) o r = shut (slice_index o.words (epoch_at b)) r

abbrev pub MayLook : Look → ReaderState → Type 0
MayLook (FirstEpoch b) r = IsMain r.shape b
MayLook (Word place) r = Unit {0}
MayLook Stamp r = Unit {0}
MayLook (LastEpoch b) r = (t : Try) → r.current ≡ Some t → t.bucket ≡ b

-- the try that is open after the load is of this main bucket
abbrev pub StaysIn : Shape → ℕ → Look → ReaderState → Type 0
StaysIn shape b look r = (o : OwnerState) (t : Try) → (look_at look o r).current ≡ Some t
    → (t.bucket ≡ b) × IsMain shape b

-- the reader after some loads more, where n were before
abbrev pub reads_on : Plan → ℕ → List Look → ReaderState → ReaderState
reads_on plan n [] r = r
reads_on plan n (look ∷ looks) r = reads_on plan (n + 1) looks (look_at look (owner_at plan (n + 1)) r)

-- the reader after these loads, each at the owner's state of its number
abbrev pub reader_after : Plan → List Look → ReaderState
reader_after plan looks = reads_on plan 0 looks (newcomer plan.shape [] [])

-- The book

-- What is kept of the owner and of the reader. Both are as the plan says: the owner after the events that were
-- played, whom the others can follow, and the reader after its loads.
pub record BookFits (b : Book) : Type 0 where
  pub owner : Kept b.owner
  pub reader : ReaderKept b.owner b.reader
  pub script : b.played ++ b.rest ≡ b.plan.events
  pub played : b.owner ≡ plays b.played (as_made b.plan.shape)
  pub rest : CanPlay b.rest b.owner
  pub looks : b.reader ≡ reader_after b.plan b.looks

-- The plan is the script's, for good.
abbrev pub AllFit : Script → State (Unit {0}) Book → Type 0
AllFit script s = (j : ℕ) (b : Book) → get_elem? s.views j ≡ some b → (b.plan ≡ plan_of script) × BookFits b

abbrev pub opening_book : Plan → Book
opening_book plan =
    record {
      plan = plan;
      owner = as_made plan.shape;
      reader = newcomer plan.shape [] [];
      played = [];
      rest = plan.events;
      looks = [];
    }

abbrev pub Reading : Type 0
Reading = Me (Unit {0}) Book

-- the next event

abbrev pub next_owner : List Event → OwnerState → OwnerState
next_owner [] o = o
next_owner (e ∷ es) o = after e o

abbrev pub first_event : List Event → List Event
first_event [] = []
first_event (e ∷ es) = e ∷ []

abbrev pub later_events : List Event → List Event
later_events [] = []
later_events (e ∷ es) = es

abbrev pub play_next : Book → Book
play_next b = record b {
  owner = next_owner b.rest b.owner;
  played = b.played ++ first_event b.rest;
  rest = later_events b.rest;
}

abbrev pub played : Step (Unit {0}) → Reading → ℕ → Reading → Type 0
played step me n now = (now ≡ (play_next me.0, me.1)) × BookFits me.0

-- the next load

abbrev pub look_next : Look → Book → Book
look_next look b = record b { reader = look_at look b.owner b.reader; looks = b.looks ++ look ∷ [] }

-- as many events have been played as the plan has before the next load
abbrev pub IsTime : Book → Type 0
IsTime b = length b.played ≡ cut_at b.plan.cuts (b.reader.loads + 1)

abbrev pub looked : Look → Step (Unit {0}) → Reading → ℕ → Reading → Type 0
looked look step me n now = (now ≡ (look_next look me.0, me.1)) × BookFits me.0 × BookFits (look_next look me.0)

-- No later load plays an event, and no write is begun.
pub record HasPlayedOut (b : Book) : Type 0 where
  pub still : (n : ℕ) → b.reader.loads < n → cut_at b.plan.cuts n ≡ length b.played
  pub idle : b.owner.phase ≡ Idle

-- Events in memory: where each stores, and what, which no write of a mark decides.

abbrev pub no_write : Write
no_write = write_of Del [] []

abbrev pub owner_place : Shape → OwnerEvent → ℕ
owner_place shape e = place_of shape (event_of e no_write)

abbrev pub owner_word : OwnerEvent → ℕ → ℕ
owner_word e n = word_after (event_of e no_write) n

-- what an addition comes to
abbrev pub owner_sum : OwnerEvent → ℕ → ℕ
owner_sum (Begin b) n = n + 1
owner_sum (End b) n = n + 1
owner_sum _ n = 0

-- whether a write is begun and has not ended

abbrev pub is_writing : Phase → Bool
is_writing Idle = false
is_writing _ = true

abbrev pub writing_after : OwnerEvent → Bool → Bool
writing_after (Begin b) writing = true
writing_after (Mark n) writing = true
writing_after (End b) writing = false
writing_after _ writing = writing
