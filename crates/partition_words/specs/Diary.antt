-- The first events of an owner, as they are kept, and the rule of the one-word table whose seat has
-- them in its view.
use Rattle.std.specs.Prelude.{◌≡◌, ℕ, ◌<◌, List, [], ◌∷◌, ◌++◌, length, nat_lt, if◌then◌else◌}
use mathlib.Core.Option.{some}
use lib.ListN.{get_elem?}
use Rattle.atomic_table.specs.Table.{State, Me, Step}
use Rattle.partition_model.specs.declared.write.Write.{Write}
use Rattle.partition_words.specs.declared.event.Event.{Event}
use Rattle.partition_words.specs.declared.event.Event.TheVariants.{Begins, Marks, PutsWord, PutsEntry, PutsLink, Ends}
use Rattle.partition_words.specs.declared.event.OwnerEvent.{OwnerEvent}
use Rattle.partition_words.specs.declared.event.OwnerEvent.TheVariants.{Begin, Mark, PutWord, PutEntry, PutLink, End}
use Rattle.partition_words.specs.declared.plain.Diary.{Diary}
use Rattle.partition_words.specs.declared.plain.Blank.{Blank}
use Rattle.partition_words.specs.OwnerState.{as_made}
use Rattle.partition_words.specs.Events.{after, CanPlay, plays}
use Rattle.partition_words.specs.Kept.{Kept}

-- Events in memory

-- an event as it is kept: a mark without its write
abbrev pub owner_event : Event → OwnerEvent
owner_event (Begins b) = Begin b
owner_event (Marks write n) = Mark n
owner_event (PutsWord p x) = PutWord p x
owner_event (PutsEntry c slot entry) = PutEntry c slot entry
owner_event (PutsLink c next) = PutLink c next
owner_event (Ends b) = End b

-- the event, with the write of a mark
abbrev pub event_of : OwnerEvent → Write → Event
event_of (Begin b) write = Begins b
event_of (Mark n) write = Marks write n
event_of (PutWord p x) write = PutsWord p x
event_of (PutEntry c slot entry) write = PutsEntry c slot entry
event_of (PutLink c next) write = PutsLink c next
event_of (End b) write = Ends b

-- The diary

abbrev pub blank_diary : Blank → Diary
blank_diary blank = record { owner = as_made blank.shape; kept = []; room = blank.room }

-- one more, while there is room
abbrev pub with_room : {X : Type 0} → ℕ → List X → X → List X
with_room room kept x = if nat_lt (length kept) room then kept ++ x ∷ [] else kept

-- the event is kept while there is room
abbrev pub diary_after : Event → Diary → Diary
diary_after e d = record d {
  owner = after e d.owner;
  kept = with_room d.room d.kept e;
}

-- The owner's fact holds. The kept events can be played from the start, and while there is room for
-- more they are all, and lead here.
pub record DiaryFits (d : Diary) : Type 0 where
  pub owner : Kept d.owner
  pub kept : CanPlay d.kept (as_made d.owner.shape)
  pub whole : length d.kept < d.room → plays d.kept (as_made d.owner.shape) ≡ d.owner

-- The rule, and its steps

abbrev pub AllFit : State (Unit {0}) Diary → Type 0
AllFit s = (j : ℕ) (d : Diary) → get_elem? s.views j ≡ some d → DiaryFits d

abbrev pub knows : Step (Unit {0}) → Me (Unit {0}) Diary → ℕ → Me (Unit {0}) Diary → Type 0
knows step me n now = (now ≡ me) × DiaryFits me.0

abbrev pub happened :
    Event → Step (Unit {0}) → Me (Unit {0}) Diary → ℕ → Me (Unit {0}) Diary → Type 0
happened e step me n now =
    (now ≡ (diary_after e me.0, me.1)) × Kept me.0.owner × Kept (after e me.0.owner)
