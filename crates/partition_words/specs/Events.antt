-- The owner's events: when each may happen, and what it makes of the owner's state.
use Rattle.std.specs.Prelude.{◌≡◌, ◌≢◌, ℕ, ◌+◌, ◌<◌, ◌^◌, ◌⊎◌, List, [], ◌∷◌, ◌++◌, length, slice_index, slice_set}
use Rattle.mica_words.specs.declared.hashing.Hashing.{Hashing}
use Rattle.mica_words.specs.declared.entry.TheConstants.{SLOTS}
use Rattle.mica_words.specs.Spelling.{item_words}
use Rattle.partition_model.specs.declared.write.Write.{Write}
use Rattle.partition_model.specs.Write.{IsWrite}
use Rattle.partition_model.specs.CacheStep.{IsOfItem}
use Rattle.partition_model.specs.History.{History, State, cache_state, store_state, state_of, stamp_of, IsAcceptedAfter}
use Rattle.partition_words.specs.declared.shape.Shape.{Shape}
use Rattle.partition_words.specs.declared.state.OwnerState.{OwnerState}
use Rattle.partition_words.specs.declared.state.Phase.{Phase}
use Rattle.partition_words.specs.declared.state.Phase.TheVariants.{Idle, Begun, Marked}
use Rattle.partition_words.specs.declared.event.Event.{Event}
use Rattle.partition_words.specs.declared.event.Event.TheVariants.{Begins, Marks, PutsWord, PutsEntry, PutsLink, Ends}
use Rattle.partition_words.specs.Shape.{IsMain}
use Rattle.partition_words.specs.Layout.{stamp_at, epoch_at, entry_at, link_at, item_at}
use Rattle.partition_words.specs.OwnerState.{link_in, options_in, bucket_in, marked_in}
use Rattle.partition_words.specs.Chain.{InChain, IsFreeSpare}
use Rattle.partition_words.specs.LiveEntry.{HasLiveEntry}
use Rattle.partition_words.specs.StandsFor.{IsInRoom, StandsFor}

-- When an event may happen

-- a write may begin in a main bucket where none is begun, while the partition may bear one more
pub record MayBegin (o : OwnerState) (b : ℕ) : Type 0 where
  pub idle : o.phase ≡ Idle
  pub main : IsMain o.shape b
  pub not_worn : length o.history < o.shape.wear

-- a write that the machine accepts may be marked once it is begun in its key's bucket,
-- by the stamp after it
pub record MayMark (o : OwnerState) (write : Write) (n : ℕ) : Type 0 where
  pub begun : o.phase ≡ Begun (bucket_in o write.key)
  pub fits : IsWrite write
  pub accepted : IsAcceptedAfter (options_in o) o.history write
  pub stamp : n ≡ stamp_of (options_in o) (o.history ++ write ∷ [])

-- a fact of the marked write, its bucket and the history before it
abbrev pub WhenMarked : Phase → (ℕ → Write → History → Type 0) → Type 0
WhenMarked (Marked b write before) P = P b write before
WhenMarked _ P = ⊥

-- the offset names no word of a room that another bucket's chain references
abbrev pub SparesOthers : OwnerState → ℕ → ℕ → Type 0
SparesOthers o b p = (other c slot entry : ℕ) → IsMain o.shape other → other ≢ b
    → HasLiveEntry o other c slot entry → ¬ (IsInRoom o entry p)

-- The word at the offset belongs to the write, by the state before it: in cache mode it is one of the
-- item's, in store mode no other bucket's.
abbrev pub BelongsTo : OwnerState → ℕ → Write → State → ℕ → Type 0
BelongsTo o b write (cache_state before) p = IsOfItem (options_in o) before write p
BelongsTo o b write (store_state before) p = SparesOthers o b p

-- an item word may be put where it belongs to the marked write
pub record MayPutWord (o : OwnerState) (p : ℕ) : Type 0 where
  pub its_word : WhenMarked o.phase
      (λ b write before. BelongsTo o b write (state_of (options_in o) before) p)
  pub low : p < 2 ^ 48

-- the bucket belongs to the marked write's chain, or is a free spare
abbrev pub IsItsBucket : OwnerState → ℕ → Type 0
IsItsBucket o c = WhenMarked o.phase (λ b write before. InChain o b c ⊎ IsFreeSpare o c)

-- an entry may be put into a slot of such a bucket
pub record MayPutEntry (o : OwnerState) (c slot : ℕ) : Type 0 where
  pub its_bucket : IsItsBucket o c
  pub in_bucket : slot < SLOTS

-- a link may be put that is none, or leads to a free spare without one
pub record MayPutLink (o : OwnerState) (c next : ℕ) : Type 0 where
  pub its_bucket : IsItsBucket o c
  pub free : (next ≡ 0) ⊎ (IsFreeSpare o next × (link_in o next ≡ 0))

-- a marked write may end once the words stand for the machine's state in its bucket
pub record MayEnd (o : OwnerState) (b : ℕ) : Type 0 where
  pub marked : marked_in o.phase b ≡ 1
  pub stands_for : StandsFor o b

-- what an event needs of the owner's state
abbrev pub IsAllowed : Event → OwnerState → Type 0
IsAllowed (Begins b) o = MayBegin o b
IsAllowed (Marks write n) o = MayMark o write n
IsAllowed (PutsWord p x) o = MayPutWord o p
IsAllowed (PutsEntry c slot entry) o = MayPutEntry o c slot
IsAllowed (PutsLink c next) o = MayPutLink o c next
IsAllowed (Ends b) o = MayEnd o b

-- What an event makes of the state

-- the place of the word that the event changes
abbrev pub place_of : Shape → Event → ℕ
place_of shape (Begins b) = epoch_at b
place_of shape (Marks write n) = stamp_at
place_of shape (PutsWord p x) = item_at shape p
place_of shape (PutsEntry c slot entry) = entry_at shape c slot
place_of shape (PutsLink c next) = link_at shape c
place_of shape (Ends b) = epoch_at b

-- what it makes of the word, which was n
abbrev pub word_after : Event → ℕ → ℕ
word_after (Begins b) n = n + 1
word_after (Marks write stamp) n = stamp
word_after (PutsWord p x) n = x
word_after (PutsEntry c slot entry) n = entry
word_after (PutsLink c next) n = next
word_after (Ends b) n = n + 1

-- the words with the one that the event stores
abbrev pub words_after : Event → OwnerState → List ℕ
words_after e o =
    let place : ℕ = place_of o.shape e in
    slice_set o.words place (word_after e (slice_index o.words place))

-- a mark is the write's event: the history gains it
abbrev pub history_after : Event → History → History
history_after (Marks write n) history = history ++ write ∷ []
history_after _ history = history

abbrev pub phase_after : Event → OwnerState → Phase
phase_after (Begins b) o = Begun b
phase_after (Marks write n) o = Marked (bucket_in o write.key) write o.history
phase_after (Ends b) o = Idle
phase_after _ o = o.phase

-- the owner's state after an event
abbrev pub after : Event → OwnerState → OwnerState
after e o = record o {
  words = words_after e o;
  history = history_after e o.history;
  phase = phase_after e o;
}

-- Several events, one after another

-- each is allowed where it comes
abbrev pub CanPlay : List Event → OwnerState → Type 0
CanPlay [] o = Unit {0}
CanPlay (e ∷ es) o = IsAllowed e o × CanPlay es (after e o)

-- the owner's state after events, one after another
abbrev pub plays : List Event → OwnerState → OwnerState
plays [] o = o
plays (e ∷ es) o = plays es (after e o)

-- the words stored from the offset on
abbrev pub puts_from : ℕ → List ℕ → List Event
puts_from p [] = []
puts_from p (x ∷ xs) = PutsWord p x ∷ puts_from (p + 1) xs

-- the words of an item stored at the offset
abbrev pub item_events : Hashing → ℕ → ℕ → List ℕ → List ℕ → List Event
item_events hashing p room key value = puts_from p (item_words hashing room key value)
