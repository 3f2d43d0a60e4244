-- A touch in cache mode changes no value.
use Rattle.std.proofs.Common.{is_some, ◌≡◌, ℕ, ◌+◌, ◌≤◌, ◌⊎◌, inl, inr, List, [], ◌∷◌, ◌++◌, length, Option, Some, None, Bool, true, false, cond, not, refl, sym, ap, ◌∙◌, subst, arith, ◌≢◌, ◌&&◌, eqb, length-append}
use Rattle.std.specs.List.{find, count_by}
use Rattle.std.specs.Prelude.{option_map, bytes_eq}
use Rattle.std.proofs.lemmas.Bool.{le-leb, ne_eqb, true≢false}
use Rattle.std.proofs.lemmas.List.Sums.{sum_by_push}
use Rattle.std.proofs.lemmas.Grind.{common_steps}
use Rattle.std.proofs.lemmas.Slice.Eq.{bytes_eq-Decides}
use Rattle.mica_words.specs.declared.entry.TheConstants.{SLOTS}
use Rattle.mica_words.specs.Hash.{bucket_of}
use Rattle.mica_words.specs.Item.{item_size}
use Rattle.mica_words.specs.Stamp.{tail_of}
use Rattle.partition_model.specs.declared.options.Options.{Options}
use Rattle.partition_model.specs.declared.write.Write.{Write}
use Rattle.partition_model.specs.declared.write.Op.TheVariants.{Touch}
use Rattle.partition_model.specs.Write.{IsWrite, write_of}
use Rattle.partition_model.specs.Cache.{Record, Cache, has_key, record_of, is_live}
use Rattle.partition_model.specs.CacheStep as cs
use Rattle.partition_model.specs.CacheStep.{others, new_record}
use Rattle.partition_model.proofs.Found as found
use Rattle.partition_model.proofs.Laid as laid
use Rattle.partition_model.proofs.CacheKept.{IsKept, after_write_is, here_of, left_of, live_of, tail_past}
use Rattle.partition_model.proofs.CacheLaws.{kept_in, window_kept, fits_kept, written_same, appended_own}
use Rattle.partition_model.proofs.FateLaws.{cache_of, state_is_cache, fate_snoc}
use Rattle.partition_model.proofs.Histories.{state_snoc}
use Rattle.partition_model.specs.declared.options.Mode.TheVariants.{Cache as CacheMode}
use Rattle.partition_model.specs.declared.fate.Fate.{Fate}
use Rattle.partition_model.specs.declared.fate.Fate.TheVariants.{Held, Deleted, Displaced, Passed}
use Rattle.partition_model.specs.Fate.{fate_of}
use Rattle.partition_model.specs.History.{History, State, cache_state, state_of, answer_of}
use Rattle.partition_model.specs.History as histories
use Rattle.partition_model.specs.Touches.{touched, KeepsOrPasses, TouchKeeps, TouchesKeep}
use Rattle.std.specs.List.{AllByRecursion}

all_first : (P : Write → Type 0) (one two : List Write) → AllByRecursion P (one ++ two) → AllByRecursion P one
all_first P [] two all = tt
all_first P (w ∷ one) two all = (all.0, all_first P one two all.1)

all_last : (P : Write → Type 0) (one : List Write) (w : Write) → AllByRecursion P (one ++ w ∷ []) → P w
all_last P [] w all = all.0
all_last P (x ∷ one) w all = all_last P one w all.1

-- the fate of a key that had a record, which stood behind the write itself and was passed
fate_by : (left had wrote live : Bool) (n : ℕ) (before : Fate) → left ≡ false → had ≡ true → wrote ≡ true → live ≡ false
    → cond left Held (cond (had && not wrote) (Deleted n) (cond (wrote && not live) (Passed n) (cond (live && not left) (Displaced n) before))) ≡ Passed n
fate_by left had wrote live n before a b d e = grind (arith, common_steps, a, b, d, e)

-- a key's record counts among those of its bucket
fewer_here : (here : Record → Bool) (key : List ℕ) (rs : List Record) (r : Record) → find (has_key key) rs ≡ Some r → here r ≡ true
    → count_by here (others key rs) + 1 ≤ count_by here rs
fewer_here here key [] r at is = absurd (cc)
fewer_here here key (x ∷ rs) r at is = grind (arith, common_steps, fewer_here here key rs r, found.count_filter here (λ z. not (has_key key z)) rs)

module _ (options : Options) (s : Cache) (kept : IsKept options s) (key : List ℕ) (is : IsWrite (write_of Touch key [])) where
  abbrev touch : Write
  touch = write_of Touch key []

  abbrev here : Record → Bool
  here = here_of options touch

  abbrev written : Cache
  written = cs.after_write options s touch

  its_bucket : (r : Record) → r.key ≡ key → here r ≡ true
  its_bucket r same = subst (λ (k : List ℕ). eqb (bucket_of options.hashing k options.buckets) (bucket_of options.hashing key options.buckets) ≡ true) (sym same) (grind (arith, common_steps))

  -- a touch fills no bucket
  not_full : (o : Option Record) → record_of s key ≡ o → count_by here (cs.after_touch o s touch).records ≤ SLOTS
  not_full None at = kept.buckets (bucket_of options.hashing key options.buckets)
  not_full (Some held) at =
      let count = sum_by_push (λ (r : Record). cond {A = ℕ} (here r) 1 0) (others key s.records) (new_record s key held.value) in
      let one : cond {A = ℕ} (here (new_record s key held.value)) 1 0 ≤ 1 = elim (here (new_record s key held.value)) as (λ b. cond {A = ℕ} b 1 0 ≤ 1) [ true ↦ omega arith | false ↦ omega arith ] in
      let fewer = fewer_here here key s.records held at (its_bucket held (laid.found_key key s.records held at)) in
      let most = kept.buckets (bucket_of options.hashing key options.buckets) in
      omega arith

  -- so the index displaces none
  left_is : left_of options touch (live_of options written) ≡ live_of options written
  left_is =
      let few = not_full (record_of s key) refl in
      let fewer = found.count_filter here (λ held. is_live options.words written.stamp held.offset) written.records in
      let room : count_by here (live_of options written) ≡ SLOTS + 1 → ⊥ = λ full. omega arith in
      ap (λ b. cond b (cs.without_first here (live_of options written)) (live_of options written)) (ne_eqb (count_by here (live_of options written)) (SLOTS + 1) room)

  pub found_after : (other : List ℕ) → record_of (cs.after options s touch) other ≡ find (has_key other) (live_of options written)
  unfolding cs.after
  found_after other = ap (find (has_key other)) left_is

  -- the touched key has a record of its value
  pub own_value : option_map (λ (r : Record). r.value) (record_of (cs.after options s touch) key) ≡ option_map (λ (r : Record). r.value) (record_of s key)
  own_value = ap (option_map (λ (r : Record). r.value)) (found_after key) ∙ go (record_of s key) refl
    where
      go : (o : Option Record) → record_of s key ≡ o
          → option_map (λ (r : Record). r.value) (find (has_key key) (live_of options (cs.after_touch o s touch))) ≡ option_map (λ (r : Record). r.value) o
      go None at = ap (option_map (λ (r : Record). r.value)) (found.missed_filter (has_key key) (λ held. is_live options.words (s.stamp + 1) held.offset) s.records at)
      go (Some held) at =
          let new = new_record s key held.value in
          let t = cs.after_append s new in
          let window = window_kept options s kept key held at in
          let fits = fits_kept options s kept key held at in
          let tail = tail_past s.stamp (item_size key held.value) in
          let live : tail_of t.stamp ≤ new.offset + options.words = omega (arith, window.0, window.1, fits.4, tail) in
          ap (option_map (λ (r : Record). r.value))
          (found.found_filter (has_key key) (λ r. is_live options.words t.stamp r.offset) t.records new (appended_own options s touch held.value) (le-leb (tail_of t.stamp) (new.offset + options.words) live))

  module _ (other : List ℕ) (apart : other ≢ key) where
    -- what another key has stands, or the log has passed it
    pub other_kept : (o : Option Record) → record_of s other ≡ o → (record_of (cs.after options s touch) other ≡ o) ⊎ ((record_of (cs.after options s touch) other ≡ None) × (find (has_key other) (live_of options written) ≡ None))
    other_kept None at =
        inl (found_after other ∙ found.missed_filter (has_key other) (λ held. is_live options.words written.stamp held.offset) written.records (written_same options s touch other apart ∙ at))
    other_kept (Some r) at = go (find (has_key other) (live_of options written)) refl
      where
        go : (p : Option Record) → find (has_key other) (live_of options written) ≡ p
            → (record_of (cs.after options s touch) other ≡ Some r) ⊎ ((record_of (cs.after options s touch) other ≡ None) × (find (has_key other) (live_of options written) ≡ None))
        go None none = inr (found_after other ∙ none, none)
        go (Some q) some =
            let before = laid.found_before_filter other (λ held. is_live options.words written.stamp held.offset) written.records q (after_write_is options s kept touch is).unique some in
            inl (found_after other ∙ some ∙ sym before.0 ∙ written_same options s touch other apart ∙ at)

-- After a history.
module _ (options : Options) (history : History) (key : List ℕ) (mode : options.mode ≡ CacheMode) (writes : AllByRecursion IsWrite (touched history key)) where
  abbrev s : Cache
  s = cache_of options history

  abbrev last : Write
  last = write_of Touch key []

  is : IsWrite last
  is = all_last IsWrite history last writes

  kept : IsKept options s
  kept = kept_in options history (all_first IsWrite history (last ∷ []) writes) s (state_is_cache options mode history)

  now : state_of options history ≡ cache_state s
  now = state_is_cache options mode history

  later : state_of options (touched history key) ≡ cache_state (cs.after options s last)
  later = state_snoc options history last ∙ ap (λ (z : State). histories.after options z last) now

  answer_now : (k : List ℕ) → answer_of options history k ≡ option_map (λ (r : Record). r.value) (record_of s k)
  answer_now k = ap (λ (z : State). histories.value_in z k) now

  answer_later : (k : List ℕ) → answer_of options (touched history key) k ≡ option_map (λ (r : Record). r.value) (record_of (cs.after options s last) k)
  answer_later k = ap (λ (z : State). histories.value_in z k) later

  own : answer_of options (touched history key) key ≡ answer_of options history key
  own = answer_later key ∙ own_value options s kept key is ∙ sym (answer_now key)

  -- a key whose record stood behind the write itself, and then no more
  passed : (k : List ℕ) → k ≢ key → is_some (record_of s k) ≡ true → record_of (cs.after options s last) k ≡ None → find (has_key k) (live_of options (cs.after_write options s last)) ≡ None
      → fate_of options (touched history key) k ≡ Passed (length (touched history key))
  passed k apart had none gone =
      fate_snoc options history last k
      ∙ fate_by (is_some (record_of (cs.after options s last) k)) (is_some (record_of s k)) (is_some (record_of (cs.after_write options s last) k))
      (is_some (find (has_key k) (live_of options (cs.after_write options s last)))) (length history + 1) (fate_of options history k)
      (ap is_some none) had (ap is_some (written_same options s last k apart) ∙ had) (ap is_some gone)
      ∙ ap Passed (sym (length-append history (last ∷ [])))

  other : (k : List ℕ) → k ≢ key → KeepsOrPasses options history (touched history key) k
  other k apart = go (record_of s k) refl
    where
      go : (o : Option Record) → record_of s k ≡ o → KeepsOrPasses options history (touched history key) k
      go o at =
          elim (other_kept options s kept key is k apart o at) [
            | inl same ↦ inl (answer_later k ∙ ap (option_map (λ (r : Record). r.value)) (same ∙ sym at) ∙ sym (answer_now k))
            | inr gone ↦ by_none o at gone.0 gone.1
          ]
        where
          by_none : (o : Option Record) → record_of s k ≡ o → record_of (cs.after options s last) k ≡ None → find (has_key k) (live_of options (cs.after_write options s last)) ≡ None
              → KeepsOrPasses options history (touched history key) k
          by_none None at none gone = inl (answer_later k ∙ ap (option_map (λ (r : Record). r.value)) (none ∙ sym at) ∙ sym (answer_now k))
          by_none (Some r) at none gone = inr (answer_later k ∙ ap (option_map (λ (r : Record). r.value)) none, passed k apart (ap is_some at) none gone)

  keeps : TouchKeeps options history key
  keeps = record {
    own = own;
    others = λ k. elim (bytes_eq k key) as (λ b. bytes_eq k key ≡ b → KeepsOrPasses options history (touched history key) k) [
      | true ↦ λ same. subst (λ (z : List ℕ). KeepsOrPasses options history (touched history key) z) (sym ((bytes_eq-Decides k key).0 same)) (inl own)
      | false ↦ λ differs. other k (λ same. true≢false (sym ((bytes_eq-Decides k key).1 same) ∙ differs))
    ] refl;
  }

pub touches_keep : TouchesKeep
touches_keep options history key mode writes = keeps options history key mode writes
