-- A word of the marked write in cache mode is in no room of a live item of another bucket: the log's window and its rooms say so.
use Rattle.std.proofs.lemmas.Grind.{common_steps}
use Rattle.partition_words.proofs.Vocabulary.{AllByRecursion, Cell, History, IsWrite, Kept, List, Options, OwnerState, Phase, PhaseFits}
use Rattle.partition_words.proofs.Vocabulary.{Some, Spells, State, Write, ap, arith, bucket_in, cache_state, entry_offset}
use Rattle.partition_words.proofs.Vocabulary.{marked_in, options_in, room_in, state_in, state_of, state_snoc, subst, sym}
use Rattle.partition_words.proofs.Vocabulary.{tail_of, ℕ, ◌%◌, ◌+◌, ◌<◌, ◌∙◌, ◌≡◌, ◌≢◌, ◌≤◌}
use Rattle.partition_model.specs.Cache.{Cache, Record, record_of}
use Rattle.partition_model.specs.CacheStep as cs
use Rattle.partition_model.specs.History.{after, IsAcceptedAfter, IsHistory}
use Rattle.partition_model.proofs.Histories.{last_accepted}
use Rattle.partition_model.proofs.CacheKept.{after_kept}
use Rattle.partition_model.proofs.CacheLaws.{accepted_fits, apart_kept, kept_in, own_kept, window_kept}
use Rattle.partition_words.proofs.Keys.{item_room}
use Rattle.partition_words.proofs.Machine.{all_parts, found_record, has_fits}
use Rattle.partition_words.proofs.Marked.{bit_else}
use Rattle.partition_words.proofs.Spares.{LogSpares}

-- two places inside one window are one where they are one in the log

pub not_below : (n x y : ℕ) → x % n ≡ y % n → x < y → y < x + n → ⊥
not_below n x y same less near = grind (arith, common_steps)

pub one_place : (n tail x y : ℕ) → x % n ≡ y % n → tail ≤ x + n → tail ≤ y + n → x < tail → y < tail → x ≡ y
one_place n tail x y same a b c d = grind (arith, not_below n x y same, not_below n y x (sym same))

-- the room of an entry's item is the one that the machine has
pub room_is : (o : OwnerState) → Kept o → (b entry : ℕ) (key : List ℕ) (cell : Cell) → Spells o b entry key cell → room_in o entry ≡ cell.room
room_is o s b entry key cell sp =
    let fits = has_fits (options_in o) o.history s.history.writes key cell (entry_offset entry) sp.has in
    item_room o (entry_offset entry) key cell fits.5 (omega (arith, fits.0)) sp.item

-- in cache mode it is a record of the log
pub spelt_record : (o : OwnerState) → Kept o → (b entry : ℕ) (key : List ℕ) (cell : Cell) → Spells o b entry key cell
    → (now : Cache) → state_in o ≡ cache_state now
    → (r : Record) × (record_of now key ≡ Some r) × (r.offset ≡ entry_offset entry) × (r.room ≡ room_in o entry)
spelt_record o s b entry key cell sp now at = grind (arith, common_steps, found_record (record_of now key) cell (entry_offset entry), room_is o s b entry key cell sp)

-- a word of the write's item is in no room of what the log has of another key
pub other_rooms : (options : Options) (history : History) → AllByRecursion IsWrite history → (write : Write) → IsWrite write
    → IsAcceptedAfter options history write → (before : Cache) → state_of options history ≡ cache_state before → (p : ℕ) → cs.IsOfItem options before write p
    → (key : List ℕ) → key ≢ write.key → (r : Record) → record_of (cs.after options before write) key ≡ Some r
    → (i : ℕ) → i < r.room → (r.offset + i) % options.words ≢ p % options.words
other_rooms options history writes write is accepted before at p item key differ r found i below same =
    let was = kept_in options history writes before at in
    let now = after_kept options before write is was in
    let fits = accepted_fits options write before (state_of options history) at accepted.0 accepted.1 accepted.2 in
    let mine = own_kept options before was write is fits p item in
    let there = window_kept options (cs.after options before write) now key r found in
    let here = window_kept options (cs.after options before write) now write.key mine.0 mine.1 in
    let one : r.offset + i ≡ p = one_place options.words (tail_of (cs.after options before write).stamp) (r.offset + i) p same
    (omega arith) (omega arith) (omega arith) (omega (arith, mine.3)) in
    grind (arith, one, mine.2, mine.3, apart_kept options (cs.after options before write) now key write.key r mine.0 found mine.1 differ)

pub log_spares : (o : OwnerState) → Kept o → LogSpares o
log_spares o s b write history before c slot entry other p is at belongs l n h i =
    let fits = subst (PhaseFits o) is s.phase in
    let all = all_parts IsWrite history write (subst (AllByRecursion IsWrite) fits.1 s.history.writes) in
    let now : state_in o ≡ cache_state (cs.after (options_in o) before write) =
    ap (state_of (options_in o)) fits.1 ∙ (state_snoc (options_in o) history write ∙ ap (λ (z : State). after (options_in o) z write) at) in
    let unmarked : marked_in o.phase other ≡ 0 = ap (λ (z : Phase). marked_in z other) is ∙ bit_else b other (λ same. n (sym same)) in
    let some = (s.state other l unmarked).nothing_else c slot entry h in
    let r = spelt_record o s other entry some.0 some.1 some.2 (cs.after (options_in o) before write) now in
    let differ : some.0 ≢ write.key = λ same. n (sym some.2.bucket ∙ (ap (bucket_in o) same ∙ sym fits.0)) in
    let place : (r.0.offset + i.0) % o.shape.words ≡ p % o.shape.words = rw r.2 (omega (arith, i.2)) in
    let accepted = last_accepted (options_in o) history write (subst (IsHistory (options_in o)) fits.1 s.history.accepted) in
    other_rooms (options_in o) history all.0 write all.1 accepted before at p belongs some.0 differ r.0 r.1 i.0 (omega (arith, r.3, i.1)) place
