-- An event goes to no word that a get of a bucket with no marked write needs.
use Rattle.partition_words.proofs.Vocabulary.{Begins, BelongsTo, Ends, Event, HasLiveEntry, InChain, IsAllowed, IsInRoom, IsItsBucket, IsMain, IsInReach}
use Rattle.partition_words.proofs.Vocabulary.{Kept, List, Marked, Marks, OwnerState, Phase, PutsEntry, PutsLink, PutsWord, SLOTS, State, WhenMarked, Write}
use Rattle.partition_words.proofs.Vocabulary.{arith, bucket_words, by_entry, by_item, by_link, cache_state, entries_at, entry_offset, item_at, marked_in}
use Rattle.partition_words.proofs.Vocabulary.{options_in, place_of, refl, room_in, state_of, store_state, subst, sym, ℕ, ◌+◌, ◌<◌, ◌∙◌, ◌≡◌, ◌≢◌}
use Rattle.partition_words.proofs.Walks.{chain_bucket}
use Rattle.partition_words.proofs.Marked.{ends_main, its_bucket, its_inside, marked_not}
use Rattle.partition_words.proofs.Places.{item_no_epoch, no_epoch, no_item, no_stamp, same_bucket}

-- A word of the marked write in cache mode is in no room of a live item of another, unmarked bucket: the one case that goes by the log.
abbrev pub LogSpares : OwnerState → Type 0
LogSpares o = (b : ℕ) (write : Write) (history : List Write) (before : _) (c slot entry other p : ℕ)
    → o.phase ≡ Marked b write history → state_of (options_in o) history ≡ cache_state before → BelongsTo o b write (cache_state before) p
    → IsMain o.shape other → other ≢ b → HasLiveEntry o other c slot entry → ¬ (IsInRoom o entry p)

module _ (o : OwnerState) (s : Kept o) (log : LogSpares o) where
  module _ (other : ℕ) (l : IsMain o.shape other) (none : marked_in o.phase other ≡ 0) where
    -- none of the words of a bucket of its chain, as those that the marked write may change are of other buckets

    not_its : (d t : ℕ) → IsItsBucket o d → t < bucket_words → (c slot : ℕ) → InChain o other c → slot < bucket_words → entries_at o.shape c + slot ≢ entries_at o.shape d + t
    not_its d t its y c slot h x e = its_bucket o s o.phase refl d its other l none (subst (InChain o other) (same_bucket o.shape c d slot t x y e) h)

    apart_slot : (e : Event) → IsAllowed e o → (c slot : ℕ) → InChain o other c → slot < bucket_words → entries_at o.shape c + slot ≢ place_of o.shape e
    apart_slot (Begins b) a c slot h x e = no_epoch o.shape b c slot a.main x e
    apart_slot (Marks write n) a c slot h x e = no_stamp o.shape c slot e
    apart_slot (PutsWord p y) a c slot h x e = no_item o.shape c slot p (chain_bucket o s.chains other c l h) x e
    apart_slot (PutsEntry d t entry) a c slot h x e = let small = a.in_bucket in not_its d t a.its_bucket (omega arith) c slot h x e
    apart_slot (PutsLink d next) a c slot h x e = not_its d SLOTS a.its_bucket (omega arith) c slot h x e
    apart_slot (Ends b) a c slot h x e = no_epoch o.shape b c slot (ends_main o s o.phase refl b a.marked) x e

    -- no word of the room of one of its live items
    apart_room : (e : Event) → IsAllowed e o → (c slot entry i : ℕ) → HasLiveEntry o other c slot entry → i < room_in o entry
        → item_at o.shape (entry_offset entry + i) ≢ place_of o.shape e
    apart_room (Begins b) a c slot entry i h x e = item_no_epoch o.shape b (entry_offset entry + i) a.main e
    apart_room (Marks write n) a c slot entry i h x e = omega arith
    apart_room (PutsWord p y) a c slot entry i h x e = puts o.phase refl a.its_word
      where
        puts : (phase : Phase) → o.phase ≡ phase → WhenMarked phase (λ b write before. BelongsTo o b write (state_of (options_in o) before) p) → ⊥
        puts (Marked b write before) is f = by_state (state_of (options_in o) before) refl f
          where
            by_state : (now : State) → state_of (options_in o) before ≡ now → BelongsTo o b write now p → ⊥
            by_state (cache_state now) at f = log b write before now c slot entry other p is at f l (marked_not o s b other write before is none) h (i, x, e)
            by_state (store_state now) at f = f other c slot entry l (marked_not o s b other write before is none) h (i, x, e)
        puts phase is f = absurd f
    apart_room (PutsEntry d t y) a c slot entry i h x e =
        let small = a.in_bucket in no_item o.shape d t (entry_offset entry + i) (its_inside o s o.phase refl d a.its_bucket) (omega arith) (sym e)
    apart_room (PutsLink d next) a c slot entry i h x e = no_item o.shape d SLOTS (entry_offset entry + i) (its_inside o s o.phase refl d a.its_bucket) (omega arith) (sym e)
    apart_room (Ends b) a c slot entry i h x e = item_no_epoch o.shape b (entry_offset entry + i) (ends_main o s o.phase refl b a.marked) e

    -- the law
    pub spares : (e : Event) → IsAllowed e o → (place : ℕ) → IsInReach o other place → place ≢ place_of o.shape e
    spares e a place (by_entry c slot h x at) is = apart_slot e a c slot h (omega arith) (sym at ∙ is)
    spares e a place (by_link c h at) is = apart_slot e a c SLOTS h (omega arith) (sym at ∙ is)
    spares e a place (by_item c slot entry i h x at) is = apart_room e a c slot entry i h x (sym at ∙ is)
