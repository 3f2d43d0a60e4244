-- What a key has behind one write more.
use Rattle.std.proofs.Common.{◌≡◌, ℕ, ◌+◌, eqb, ◌⊎◌, inl, inr, List, [], ◌∷◌, ◌++◌, Option, Some, None, Bool, not, refl, sym, ap, subst, arith}
use Rattle.std.specs.List.{find, fold, count_by}
use Rattle.std.specs.Prelude.{option_map}
use Rattle.std.specs.FinMap.{get, get-empty, get-insert, get-remove}
use Rattle.std.specs.Ordering.{nat_cmp}
use Rattle.std.specs.Cmp.Lexicographic.{slice_cmp, nat_list_cmp_total}
use Rattle.std.proofs.lemmas.Bool.{cond_both, true≢false}
use Rattle.std.proofs.lemmas.Grind.{common_steps}
use Rattle.std.proofs.lemmas.Slice.Eq.{bytes_eq-Decides}
use Rattle.mica_words.specs.declared.entry.TheConstants.{SLOTS}
use Rattle.partition_model.specs.declared.options.Options.{Options}
use Rattle.partition_model.specs.declared.options.Mode.{Mode}
use Rattle.partition_model.specs.declared.options.Mode.TheVariants.{Cache as CacheMode, Store as StoreMode}
use Rattle.partition_model.specs.declared.write.Op.{Op}
use Rattle.partition_model.specs.declared.write.Write.{Write}
use Rattle.partition_model.specs.Write.{GivesValue, size_of}
use Rattle.partition_model.specs.Cache as cache
use Rattle.partition_model.specs.Cache.{Record, Cache, has_key, record_of, is_live}
use Rattle.partition_model.specs.CacheStep as cs
use Rattle.partition_model.specs.CacheStep.{others, new_record, kept_record, without_first}
use Rattle.partition_model.specs.Records.{IsUnique}
use Rattle.partition_model.specs.Store as store
use Rattle.partition_model.specs.Store.{Cell, Store}
use Rattle.partition_model.specs.StoreStep as ss
use Rattle.partition_model.specs.History.{History, State, cache_state, store_state, start, after, value_in, state_of, answer_of}
use Rattle.partition_model.proofs.Found as found
use Rattle.partition_model.proofs.Laid as laid
use Rattle.partition_model.proofs.CacheKept.{here_of, live_of, left_of, others_lack, rewritten, rewritten_key, keeps_put}
use Rattle.partition_model.proofs.CacheLaws.{written_same, appended_own}
use Rattle.partition_model.proofs.StoreLaws.{bytes_are_same}
use Rattle.partition_model.proofs.Histories.{state_snoc}

-- what it had, or nothing, or what the write gives it
abbrev IsBehind : Write → List ℕ → Option (List ℕ) → Option (List ℕ) → Type 0
IsBehind write key old new = (new ≡ None) ⊎ ((new ≡ old) ⊎ ((write.key ≡ key) × GivesValue write.op × (new ≡ Some write.value)))

-- Cache mode: no key has two records, so none comes up where another goes.

-- what is found without the first that passes a test was found with it
found_before_first : (key : List ℕ) (here : Record → Bool) (rs : List Record) (r : Record) → IsUnique rs → find (has_key key) (without_first here rs) ≡ Some r
    → find (has_key key) rs ≡ Some r
found_before_first key here [] r unique is = is
found_before_first key here (x ∷ rs) r unique is = grind (arith, common_steps, found_before_first key here rs r unique.1, laid.key_is key x)

abbrev value_of : Option Record → Option (List ℕ)
value_of found = option_map (λ (held : Record). held.value) found

module _ (options : Options) (s : Cache) (write : Write) (unique : IsUnique s.records) where
  unique_append : (value : List ℕ) → IsUnique (cs.after_append s (new_record s write.key value)).records
  unique_append value =
      laid.unique_push (others write.key s.records) (new_record s write.key value) (others_lack write.key s.records) (laid.unique_filter (λ r. not (has_key write.key r)) s.records unique)

  unique_op : (op : Op) → IsUnique (cs.after_op op options s write).records
  unique_op op =
      grind (arith, common_steps, unique, unique_append, laid.unique_map (rewritten write) (rewritten_key write) s.records unique, laid.unique_filter (λ r. not (has_key write.key r)) s.records unique)

  abbrev written : Cache
  written = cs.after_write options s write

  abbrev live : List Record
  live = live_of options (cs.after_write options s write)

  unique_live : IsUnique live
  unique_live = laid.unique_filter (λ held. is_live options.words written.stamp held.offset) written.records (unique_op write.op)

  unique_after : IsUnique (cs.after options s write).records
  unfolding cs.after
  unique_after = cond_both (eqb (count_by (here_of options write) live) (SLOTS + 1)) (without_first (here_of options write) live) live IsUnique (λ _. laid.unique_without_first (here_of options write) live unique_live) (λ _. unique_live)

  -- the value of a key behind the write itself

  wrote_put : (kept : Option Record) → kept_record options s write ≡ kept → value_of (record_of (cs.after_put kept s write) write.key) ≡ Some write.value
  wrote_put None at = ap value_of (appended_own options s write write.value)
  wrote_put (Some held) at =
      grind (arith, common_steps, keeps_put options s write held at, laid.found_map (rewritten write) (rewritten_key write) write.key s.records held, found.found_passes (has_key write.key) s.records held)

  own : (op : Op) → write.op ≡ op → IsBehind write write.key (value_of (record_of s write.key)) (value_of (record_of (cs.after_op op options s write) write.key))
  own op at = grind (arith, common_steps, at, wrote_put (kept_record options s write) refl, appended_own options s write, others_lack write.key s.records)

  wrote : (key : List ℕ) → IsBehind write key (value_of (record_of s key)) (value_of (record_of written key))
  wrote key = grind (arith, common_steps, own write.op refl, bytes_eq-Decides write.key key, written_same options s write key, true≢false)

  -- and behind the whole step, in which it may go
  left_or_gone : (key : List ℕ) (o : Option Record) → find (has_key key) (left_of options write live) ≡ o → (o ≡ None) ⊎ (o ≡ record_of written key)
  left_or_gone key None is = inl refl
  left_or_gone key (Some r) is =
      grind (arith, common_steps, found_before_first key (here_of options write) live r unique_live, laid.found_before_filter key (λ held. is_live options.words written.stamp held.offset) written.records r (unique_op write.op))

  cached : (key : List ℕ) → IsBehind write key (cache.value_in s key) (cache.value_in (cs.after options s write) key)
  unfolding cs.after
  cached key = grind (arith, common_steps, left_or_gone key (find (has_key key) (left_of options write live)) refl, wrote key)

-- Store mode

module _ (s : Store) (write : Write) (key : List ℕ) where
  stored_by : (op : Op) → write.op ≡ op → IsBehind write key (store.value_in s key) (store.value_in (ss.after_op op s write) key)
  stored_by op at =
      let cell : Cell = record { value = write.value; room = ss.room_after (get s.cells write.key) (size_of write) } in
      grind (arith, common_steps, at, get-insert nat_list_cmp_total s.cells write.key cell key, get-remove nat_list_cmp_total s.cells write.key key, bytes_are_same key write.key)

  stored : IsBehind write key (store.value_in s key) (store.value_in (ss.after s write) key)
  unfolding ss.after
  stored = stored_by write.op refl

-- Both modes

abbrev AreUnique : State → Type 0
AreUnique (cache_state s) = IsUnique s.records
AreUnique (store_state s) = Unit {0}

unique_start : (mode : Mode) → AreUnique (start mode)
unfolding cache.start
unique_start CacheMode = tt
unique_start StoreMode = tt

unique_from : (options : Options) (now : State) (history : History) → AreUnique now → AreUnique (fold (after options) now history)
unique_from options now [] unique = unique
unique_from options (cache_state s) (write ∷ history) unique = unique_from options (cache_state (cs.after options s write)) history (unique_after options s write unique)
unique_from options (store_state s) (write ∷ history) unique = unique_from options (store_state (ss.after s write)) history tt

behind_state : (options : Options) (now : State) (write : Write) (key : List ℕ) → AreUnique now → IsBehind write key (value_in now key) (value_in (after options now write) key)
behind_state options (cache_state s) write key unique = cached options s write unique key
behind_state options (store_state s) write key unique = stored s write key

-- What holds of what it had, of nothing and of what the write gives it, holds of what it has then.
pub behind : (options : Options) (history : History) (write : Write) (key : List ℕ) (P : Option (List ℕ) → Type 0) → P None → P (answer_of options history key)
    → (write.key ≡ key → GivesValue write.op → P (Some write.value)) → P (answer_of options (history ++ write ∷ []) key)
behind options history write key P none old given =
    subst (λ (z : State). P (value_in z key)) (sym (state_snoc options history write))
    (elim (behind_state options (state_of options history) write key (unique_from options (start options.mode) history (unique_start options.mode))) [
      | inl gone ↦ subst P (sym gone) none
      | inr rest ↦ elim rest [
        | inl same ↦ subst P (sym same) old
        | inr gives ↦ subst P (sym gives.2) (given gives.0 gives.1)
      ]
    ])

-- and nothing before all writes
none_in : (mode : Mode) (key : List ℕ) → value_in (start mode) key ≡ None
unfolding cache.start store.start
none_in CacheMode key = refl
none_in StoreMode key = ap (λ (o : Option Cell). option_map (λ cell. cell.value) o) (get-empty (slice_cmp nat_cmp) key)

pub none_at_first : (options : Options) (key : List ℕ) → answer_of options [] key ≡ None
none_at_first options key = none_in options.mode key
