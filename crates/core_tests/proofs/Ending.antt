-- The words stand for the machine's state once the item and the entry of `a` are stored.
use Rattle.std.proofs.Common.{◌≡◌, ℕ, zero, suc, ◌≤◌, inl, List, [], ◌∷◌, Bool, true, false, cond, Option, Some, None, refl, sym, ap, ◌∙◌, subst, arith}
use Rattle.std.specs.Prelude.{unwrap_or}
use Rattle.std.specs.Str.{bytes_eq}
use Rattle.std.proofs.lemmas.Slice.Eq.{bytes_eq-Decides}
use Rattle.mica_words.specs.declared.hashing.Hashing.TheVariants.{Fnv1a}
use Rattle.mica_words.specs.Entry.{entry_tag, entry_offset}
use Rattle.mica_words.specs.Hash.{hash_of, fnv1a, tag_of, bucket_of}
use Rattle.mica_words.specs.Header.{header_room}
use Rattle.mica_words.specs.Item.{item_size}
use Rattle.mica_words.proofs.ItemWords.{header_word}
use Rattle.partition_model.specs.Cache as cache
use Rattle.partition_model.specs.Cache.{Cache, Record, has_key, record_of}
use Rattle.partition_model.specs.CacheStep as cs
use Rattle.partition_model.specs.History.{State, cache_state, state_of, stamp_in as stamp_of_state}
use Rattle.partition_model.specs.Store.{Cell}
use Rattle.partition_words.specs.declared.shape.Shape.{Shape}
use Rattle.partition_words.specs.declared.state.OwnerState.{OwnerState}
use Rattle.partition_words.specs.declared.state.Phase.{Phase}
use Rattle.partition_words.specs.Shape.{options_of}
use Rattle.partition_words.specs.OwnerState.{stamp_in, entry_in, state_in, bucket_in, marked_in}
use Rattle.partition_words.specs.LiveEntry.{IsLiveItem, HasLiveEntry}
use Rattle.partition_words.specs.StandsFor.{Has, IsOffset, Spells}
use Rattle.partition_words.specs.Events.{MayEnd}
use Rattle.partition_words.proofs.CacheBuckets.{alone, stands_cached}
use Rattle.partition_words.proofs.Machine.{found_record}
use Rattle.core_tests.specs.CachePut.{one_bucket, put_of_a}
use Rattle.core_tests.proofs.Marking.{its_bucket}
use Rattle.core_tests.proofs.Storing.{cell_of_a, entry_of_a, IsStored}

abbrev record_of_a : Record
record_of_a = record { key = 97 ∷ []; value = 49 ∷ []; offset = 0; room = 4 }

abbrev machine : Cache
machine = record { records = record_of_a ∷ []; stamp = 262144; accepted = 1 }

machine_is : state_of (options_of one_bucket) (put_of_a ∷ []) ≡ cache_state machine
unfolding cache.start cs.after bucket_of hash_of fnv1a
machine_is = refl

tag_is : entry_tag entry_of_a ≡ tag_of Fnv1a (97 ∷ [])
unfolding tag_of hash_of fnv1a
tag_is = refl

-- the machine's one record

found_by : (key : List ℕ) (r : Record) (same : Bool) → bytes_eq (97 ∷ []) key ≡ same → ◌≡◌ {A = Option Record} (cond same (Some record_of_a) None) (Some r)
    → (97 ∷ [] ≡ key) × (record_of_a ≡ r)
found_by key r true same is = ((bytes_eq-Decides (97 ∷ []) key).0 same, ap (λ (z : Option Record). unwrap_or z r) is)
found_by key r false same is = cc is

found : (key : List ℕ) (r : Record) → record_of machine key ≡ Some r → (97 ∷ [] ≡ key) × (record_of_a ≡ r)
found key r is = found_by key r (bytes_eq (97 ∷ []) key) refl is

module _ (o : OwnerState) (d : IsStored o) where
  now : state_in o ≡ cache_state machine
  now = ap (λ (z : Shape). state_of (options_of z) o.history) d.shape ∙ (ap (state_of (options_of one_bucket)) d.history ∙ machine_is)

  spells : Spells o 0 entry_of_a (97 ∷ []) cell_of_a
  spells =
      let header = d.item 0 (omega arith) ∙ header_word o.shape.hashing 4 (97 ∷ []) (49 ∷ []) in record {
        bucket = its_bucket o d.shape;
        has = subst (λ (z : State). Has z (97 ∷ []) cell_of_a (entry_offset entry_of_a)) (sym now) refl;
        offset = subst (λ (z : Shape). IsOffset z.mode z.words (entry_offset entry_of_a)) (sym d.shape) tt;
        tag = subst (λ (z : Shape). entry_tag entry_of_a ≡ tag_of z.hashing (97 ∷ [])) (sym d.shape) tag_is;
        item = d.item;
        in_room = subst (λ (z : ℕ). item_size (97 ∷ []) (49 ∷ []) ≤ header_room z) (sym header) (omega arith);
      }

  live : HasLiveEntry o 0 0 0 entry_of_a
  live =
      let stamp : stamp_in o ≡ 262144 = d.kept.stamp ∙ ap stamp_of_state now in record {
        in_chain = inl refl;
        in_bucket = omega arith;
        found = d.first;
        live = (
          λ is. omega arith,
          subst (λ (z : Shape). IsLiveItem z.mode z.words (stamp_in o) (entry_offset entry_of_a)) (sym d.shape) (omega arith),
        );
      }

  only : (c slot entry : ℕ) → HasLiveEntry o 0 c slot entry → (c ≡ 0) × (slot ≡ 0) × (entry ≡ entry_of_a)
  only c slot entry h = by_slot slot h
    where
      here : (slot : ℕ) → HasLiveEntry o 0 c slot entry → (0 ≡ c) × (entry ≡ entry_in o 0 slot)
      here slot h =
          let at = alone o d.kept (ap (λ (z : Shape). z.mode) d.shape) 0 c h.in_chain in
          (at, sym h.found ∙ ap (λ (z : ℕ). entry_in o z slot) (sym at))

      by_slot : (slot : ℕ) → HasLiveEntry o 0 c slot entry → (c ≡ 0) × (slot ≡ 0) × (entry ≡ entry_of_a)
      by_slot zero h = let at = here 0 h in (sym at.0, refl, at.1 ∙ d.first)
      by_slot (suc slot) h = absurd (h.live.0 ((here (suc slot) h).1 ∙ d.rest slot h.in_bucket))

  pub may_end : MayEnd o 0
  may_end = record {
    marked = ap (λ (z : Phase). marked_in z 0) d.phase;
    stands_for = stands_cached o d.kept (ap (λ (z : Shape). z.mode) d.shape) 0
        (let one = ap (λ (z : Shape). z.buckets) d.shape in omega arith)
        (λ c slot entry h. (97 ∷ [], cell_of_a, subst (λ (z : ℕ). Spells o 0 z (97 ∷ []) cell_of_a) (sym (only c slot entry h).2) spells))
        each
        (λ c slot entry c' slot' entry' key cell h h' sp sp'.
        let one = only c slot entry h in
        let two = only c' slot' entry' h' in
        (one.0 ∙ sym two.0, one.1 ∙ sym two.1));
  }
    where
      each : (key : List ℕ) (cell : Cell) (p : ℕ) → bucket_in o key ≡ 0 → Has (state_in o) key cell p
          → (c : ℕ) × (slot : ℕ) × (entry : ℕ) × HasLiveEntry o 0 c slot entry × Spells o 0 entry key cell
      each key cell p is h =
          let r = found_record (record_of machine key) cell p (subst (λ (z : State). Has z key cell p) now h) in
          let same = found key r.0 r.1 in
          let its_cell : cell_of_a ≡ cell = ap (λ (z : Record). record { value = z.value; room = z.room }) same.1 ∙ sym r.3 in
          (0, 0, entry_of_a, live, subst (λ (z : Cell). Spells o 0 entry_of_a key z) its_cell (subst (λ (z : List ℕ). Spells o 0 entry_of_a z cell_of_a) same.0 spells))
