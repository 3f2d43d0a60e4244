-- A cache's items in the order of its log.
use Rattle.std.proofs.Common.{◌≡◌, inl, inr, ℕ, ◌+◌, ◌≤◌, Bool, true, false, cond, List, [], ◌∷◌, map, Some, None, option_map, refl, sym, ap, subst, ◌∙◌, arith}
use Rattle.std.specs.List.{find, AllByRecursion}
use Rattle.std.specs.Prelude.{Contains}
use Rattle.std.proofs.lemmas.Bool.{cases_Bool}
use Rattle.std.proofs.lemmas.Option.{same_Some}
use Rattle.partition_model.specs.Cache.{Record, Cache, has_key, record_of}
use Rattle.partition_model.specs.Store.{Cell}
use Rattle.partition_model.specs.Records.{IsUnique}
use Rattle.partition_model.specs.History.{State, cache_state, store_state}
use Rattle.partition_model.proofs.CacheKept.{IsKept, IsRecord}
use Rattle.partition_model.proofs.CacheLaws.{kept_in}
use Rattle.partition_model.proofs.Laid.{IsLaid, has_its_key, key_is}
use Rattle.partition_words.specs.declared.state.OwnerState.{OwnerState}
use Rattle.partition_words.specs.declared.state.Phase.TheVariants.{Idle}
use Rattle.partition_words.specs.OwnerState.{options_in, state_in}
use Rattle.partition_words.specs.Kept.{Kept}
use Rattle.partition_words.specs.StandsFor.{Has, cell_at}
use Rattle.partition_words.proofs.Failing.{in_cons, in_head, in_tail, in_none}
use Rattle.partition_words.proofs.Machine.{found_record}
use Rattle.kept_items.specs.Kept.{AreRecords, AreInOrder}
use Rattle.partition_walk.specs.Listed.{IsItemAt, AreListed}
use Rattle.partition_walk.specs.PairAt.{key_at, value_at, pair_at}
use Rattle.partition_walk.proofs.Rising.{Rises, rises_of, same_risen}
use Rattle.partition_walk.proofs.Found.{found_at, entry_of}
use Rattle.mica_words.specs.Entry.{entry_offset}

abbrev offsets_of : List Record → List ℕ
offsets_of records = map (λ (held : Record). held.offset) records

-- records that lie one after another have offsets that rise
laid_rises : (from upto : ℕ) (records : List Record) → IsLaid from upto records → AllByRecursion IsRecord records → Rises (offsets_of records) × ((z : ℕ) → Contains (offsets_of records) z → from ≤ z)
laid_rises from upto [] laid are = (tt, λ z i. absurd (in_none z i))
laid_rises from upto (r ∷ rs) laid are =
    let rest = laid_rises (r.offset + r.room) upto rs laid.1 are.1 in
    let size = are.0.size in (
      (λ z i. let above = rest.1 z i in omega arith, rest.0),
      λ z i. elim (in_cons r.offset z (offsets_of rs) i) [ inl is ↦ (let first = laid.0 in omega arith) | inr more ↦ (let above = rest.1 z more in let first = laid.0 in omega arith) ],
    )

-- what is found by a key stands among the records
found_listed : (test : Record → Bool) (records : List Record) (r : Record) → find test records ≡ Some r → Contains (offsets_of records) r.offset
found_listed test [] r is = absurd cc
found_listed test (x ∷ xs) r is = elim (cases_Bool (test x)) [
  | inl passes ↦
      let own : x ≡ r = same_Some x r (rw passes at is) in
      subst (Contains (offsets_of (x ∷ xs))) (ap (λ (h : Record). h.offset) own) (in_head x.offset (offsets_of xs))
  | inr fails ↦ in_tail x.offset r.offset (offsets_of xs) (found_listed test xs r (rw fails at is))
]

-- each of unique records is found by its key

abbrev IsOwn : List Record → Record → Type 0
IsOwn all r = find (has_key r.key) all ≡ Some r

behind_first : (x : Record) (xs others : List Record) → find (has_key x.key) xs ≡ None → AllByRecursion (IsOwn xs) others → AllByRecursion (IsOwn (x ∷ xs)) others
behind_first x xs [] none are = tt
behind_first x xs (r ∷ rs) none are = (go (has_key r.key x) refl, behind_first x xs rs none are.1)
  where
    go : (b : Bool) → has_key r.key x ≡ b → cond (has_key r.key x) (Some x) (find (has_key r.key) xs) ≡ Some r
    go true b = absurd (let e : None ≡ Some r = sym none ∙ (ap (λ (k : List ℕ). find (has_key k) xs) (key_is r.key x b) ∙ are.0) in cc)
    go false b = rw b are.0

all_own : (records : List Record) → IsUnique records → AllByRecursion (IsOwn records) records
all_own [] unique = tt
all_own (x ∷ xs) unique = (rw (has_its_key x.key x refl) refl, behind_first x xs xs unique.0 (all_own xs unique.1))

module _ (o : OwnerState) (s : Kept o) (idle : o.phase ≡ Idle) (m : Cache) (now : state_in o ≡ cache_state m) where
  -- a record's item is there
  pub record IsThere (r : Record) : Type 0 where
    pub item : IsItemAt o r.offset
    pub key : key_at o r.offset ≡ r.key
    pub value : value_at o r.offset ≡ r.value

  there : (r : Record) → record_of m r.key ≡ Some r → IsThere r
  there r own =
      let cell : Cell = record { value = r.value; room = r.room } in
      let has : Has (cache_state m) r.key cell r.offset = ap (option_map cell_at) own in
      let x = entry_of o s idle r.key cell r.offset (subst (λ (z : State). Has z r.key cell r.offset) (sym now) has) in
      let other : Has (cache_state m) r.key cell (entry_offset x.0) = subst (λ (z : State). Has z r.key cell (entry_offset x.0)) now x.2 in
      let at : entry_offset x.0 ≡ r.offset = ap (λ (z : Cell × ℕ). z.1) (same_Some (cell, entry_offset x.0) (cell, r.offset) (sym other ∙ has)) in
      record {
        item = subst (IsItemAt o) at x.1;
        key = ap (key_at o) (sym at) ∙ x.3;
        value = ap (value_at o) (sym at) ∙ x.4;
      }

  all_there : (records : List Record) → AllByRecursion (λ r. record_of m r.key ≡ Some r) records → AllByRecursion IsThere records
  all_there [] own = tt
  all_there (r ∷ rs) own = (there r own.0, all_there rs own.1)

  listed : (records : List Record) → AllByRecursion IsThere records → (z : ℕ) → Contains (offsets_of records) z → IsItemAt o z
  listed [] are z i = absurd (in_none z i)
  listed (r ∷ rs) are z i = elim (in_cons r.offset z (offsets_of rs) i) [ inl is ↦ subst (IsItemAt o) is are.0.item | inr more ↦ listed rs are.1 z more ]

  held : (z : ℕ) → IsItemAt o z → Contains (offsets_of m.records) z
  held z is =
      let f = found_at o s idle z is in
      let has : Has (cache_state m) f.key f.cell (entry_offset f.entry) = subst (λ (n : State). Has n f.key f.cell (entry_offset f.entry)) now f.spells.has in
      let found = found_record (record_of m f.key) f.cell (entry_offset f.entry) has in
      subst (Contains (offsets_of m.records)) (found.2 ∙ f.at) (found_listed (has_key f.key) m.records found.0 found.1)

  are_records : (records : List Record) → AllByRecursion IsThere records → AreRecords (map (pair_at o) (offsets_of records)) records
  are_records [] are = tt
  are_records (r ∷ rs) are = (are.0.key, are.0.value, are_records rs are.1)

  cache_order : (offsets : List ℕ) → AreListed o offsets → AreRecords (map (pair_at o) offsets) m.records
  cache_order offsets l =
      let kept : IsKept (options_in o) m = kept_in (options_in o) o.history s.history.writes m now in
      let are = all_there m.records (all_own m.records kept.unique) in
      let same : offsets ≡ offsets_of m.records = same_risen offsets (offsets_of m.records) (rises_of offsets l.rise) (laid_rises 0 _ m.records kept.laid kept.are).0
      (λ z i. held z (l.nothing_else z i))
      (λ z i. l.each z (listed m.records are z i)) in
      subst (λ (ps : List ℕ). AreRecords (map (pair_at o) ps) m.records) (sym same) (are_records m.records are)

pub in_order : (o : OwnerState) → Kept o → o.phase ≡ Idle → (offsets : List ℕ) → AreListed o offsets → AreInOrder (state_in o) (map (pair_at o) offsets)
in_order o s idle offsets l = by (state_in o) refl
  where
    by : (now : State) → state_in o ≡ now → AreInOrder now (map (pair_at o) offsets)
    by (cache_state m) now = cache_order o s idle m now offsets l
    by (store_state m) now = tt
