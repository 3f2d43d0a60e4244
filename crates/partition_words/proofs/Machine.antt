-- What the machine has, in both modes.
use Rattle.std.proofs.lemmas.Grind.{common_steps}
use Rattle.partition_words.proofs.Vocabulary.{AllByRecursion, AreBytes, Cell, Has, History, IsLiveItem, IsWrite, KeyFits, List, Mode, None, Option}
use Rattle.partition_words.proofs.Vocabulary.{Options, Some, State, StoredFits, Write, [], ap, arith, bucket_of, cache_state, cached_in, cell_at, get}
use Rattle.partition_words.proofs.Vocabulary.{item_size, option_map, refl, same_Some, stamp_of, state_of, state_snoc, store_state, stored_in, subst, sym}
use Rattle.partition_words.proofs.Vocabulary.{ℕ, ◌++◌, ◌<◌, ◌∙◌, ◌∷◌, ◌≡◌, ◌≢◌, ◌≤◌}
use Rattle.partition_model.specs.Cache.{Cache, Record, record_of}
use Rattle.partition_model.specs.CacheStep as cs
use Rattle.partition_model.specs.StoreStep as ss
use Rattle.partition_model.specs.History.{after, stamp_in}
use Rattle.partition_model.proofs.CacheLaws.{back_kept, fits_kept, kept_in, on_kept}
use Rattle.partition_model.proofs.Rises.{stamp_rises}
use Rattle.partition_model.proofs.StoreLaws.{cell_fits, others_same}
use Rattle.partition_words.proofs.Vocabulary.{Cache as CacheMode, Store as StoreMode}

-- what all of a list have, its front and its last have
pub all_parts : {X : Type 0} (P : X → Type 0) (xs : List X) (x : X) → AllByRecursion P (xs ++ x ∷ []) → AllByRecursion P xs × P x
all_parts P [] x all = (tt, all.0)
all_parts P (y ∷ xs) x all = let rest = all_parts P xs x all.1 in ((all.0, rest.0), rest.1)

pub all_more : {X : Type 0} (P : X → Type 0) (xs : List X) (x : X) → AllByRecursion P xs → P x → AllByRecursion P (xs ++ x ∷ [])
all_more P [] x all one = (one, tt)
all_more P (y ∷ xs) x all one = (all.0, all_more P xs x all.1 one)

abbrev pub Fits : List ℕ → Cell → Type 0
Fits key cell = KeyFits key × AreBytes key × StoredFits cell.value × AreBytes cell.value × (item_size key cell.value ≤ cell.room) × (cell.room < 16777216)

-- the record behind what the machine has in cache mode
pub found_record : (found : Option Record) (cell : Cell) (p : ℕ) → option_map cell_at found ≡ Some (cell, p)
    → (r : Record) × (found ≡ Some r) × (r.offset ≡ p) × (cell ≡ record { value = r.value; room = r.room })
found_record None cell p e = cc e
found_record (Some r) cell p e = grind (arith, common_steps)

-- it is one cell of a key
pub same_cell : (now : State) (key : List ℕ) (cell cell' : Cell) (p p' : ℕ) → Has now key cell p → Has now key cell' p' → cell ≡ cell'
same_cell (cache_state s) key cell cell' p p' h h' = ap (λ (z : Cell × ℕ). z.0) (same_Some (cell, p) (cell', p') (sym h ∙ h'))
same_cell (store_state s) key cell cell' p p' h h' = same_Some cell cell' (sym h ∙ h')

-- and it fits
pub has_fits : (options : Options) (history : History) → AllByRecursion IsWrite history
    → (key : List ℕ) (cell : Cell) (p : ℕ) → Has (state_of options history) key cell p → Fits key cell
has_fits options history writes key cell p h = by_state (state_of options history) refl h
  where
    by_state : (now : State) → state_of options history ≡ now → Has now key cell p → Fits key cell
    by_state (cache_state s) at h =
        let found = found_record (record_of s key) cell p h in
        subst (Fits key) (sym found.3) (fits_kept options s (kept_in options history writes s at) key found.0 found.1)
    by_state (store_state s) at h = cell_fits options history writes s at key cell h

-- What the machine has of a bucket's keys stays as a history goes on: where the log has not passed it, it has the same.
pub record HasStill (mode : Mode) (options : Options) (old new : History) (b : ℕ) : Type 0 where
  pub live : (p : ℕ) → IsLiveItem mode options.words (stamp_of options new) p → IsLiveItem mode options.words (stamp_of options old) p
  pub back : (key : List ℕ) (cell : Cell) (p : ℕ) → bucket_of options.hashing key options.buckets ≡ b → Has (state_of options new) key cell p
      → Has (state_of options old) key cell p
  pub on : (key : List ℕ) (cell : Cell) (p : ℕ) → bucket_of options.hashing key options.buckets ≡ b → Has (state_of options old) key cell p
      → IsLiveItem mode options.words (stamp_of options new) p → Has (state_of options new) key cell p
  -- an item of which the machine still has something is live still
  pub live_on : (key : List ℕ) (cell : Cell) (p q : ℕ) → bucket_of options.hashing key options.buckets ≡ b → Has (state_of options new) key cell p
      → Has (state_of options old) key cell q → IsLiveItem mode options.words (stamp_of options old) q
      → IsLiveItem mode options.words (stamp_of options new) q

-- with no more writes
pub none_more : (mode : Mode) (options : Options) (history : History) (b : ℕ) → HasStill mode options history history b
none_more mode options history b = grind (arith, common_steps)

-- and after a write to another bucket's key
module _ (options : Options) (history : History) (writes : AllByRecursion IsWrite history) (write : Write) (is : IsWrite write)
    (b : ℕ) (apart : b ≢ bucket_of options.hashing write.key options.buckets) where
  abbrev more : History
  more = history ++ write ∷ []

  by_mode : (mode : Mode) → options.mode ≡ mode → HasStill mode options history more b
  by_mode CacheMode mode = record {
    live = λ p h. let rise = stamp_rises options history write in omega arith;
    back = λ key cell p same h. rw at.1 (had key cell p same (rw now at h)).0;
    on = λ key cell p same h live.
        let has = rw at.1 at h in
        let found = found_record (record_of at.0 key) cell p has in
        let stamp = ap stamp_in now in
        let there = on_kept options at.0 (kept_in options history writes at.0 at.1) write is key (λ e. apart (sym same ∙ e)) found.0 found.1 (omega (arith, stamp, found.2)) in
        rw now (ap (option_map cell_at) (there ∙ sym found.1) ∙ has);
    live_on = λ key cell p q same h i live.
        let before = had key cell p same (rw now at h) in
        let has = rw at.1 at i in
        let one : p ≡ q = ap (λ (z : Cell × ℕ). z.1) (same_Some (cell, p) (cell, q) (sym before.0 ∙ has)) in
        omega (arith, one, before.1);
  }
    where
      at : (s : Cache) × (state_of options history ≡ cache_state s)
      at = cached_in options mode history

      now : state_of options more ≡ cache_state (cs.after options at.0 write)
      now = state_snoc options history write ∙ ap (λ (z : State). after options z write) at.1

      had : (key : List ℕ) (cell : Cell) (p : ℕ) → bucket_of options.hashing key options.buckets ≡ b → Has (cache_state (cs.after options at.0 write)) key cell p
          → Has (cache_state at.0) key cell p × IsLiveItem CacheMode options.words (stamp_of options more) p
      had key cell p same h =
          let found = found_record (record_of (cs.after options at.0 write) key) cell p h in
          let before = back_kept options at.0 (kept_in options history writes at.0 at.1) write is key (λ e. apart (sym same ∙ e)) found.0 found.1 in
          (ap (option_map cell_at) (before.0 ∙ sym found.1) ∙ h, omega (arith, ap stamp_in now, found.2, before.1))
  by_mode StoreMode mode =
      let at = stored_in options mode history in
      let now = state_snoc options history write ∙ ap (λ (z : State). after options z write) at.1 in
      let same : (key : List ℕ) → bucket_of options.hashing key options.buckets ≡ b → get (ss.after at.0 write).cells key ≡ get at.0.cells key =
      λ key is. others_same at.0 write key (λ e. apart (sym is ∙ ap (λ (z : List ℕ). bucket_of options.hashing z options.buckets) e)) in record {
        live = λ p h. tt;
        back = λ key cell p is h. rw at.1 (sym (same key is) ∙ rw now at h);
        on = λ key cell p is h live. rw now (same key is ∙ rw at.1 at h);
        live_on = λ key cell p q is h i live. tt;
      }

  pub marked_still : HasStill options.mode options history more b
  marked_still = by_mode options.mode refl
