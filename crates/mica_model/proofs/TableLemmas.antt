-- A table of cells, before and after a put or a removal.
use Rattle.std.proofs.Common.{◌≡◌, ◌≢◌, ℕ, List, ◌+◌, ◌-◌, ◌<◌, ◌≤◌, ◌^◌, Option, Some, None, length, get_or, sym, ap, ◌∙◌, subst, arith, ⊎_elim}
use Rattle.std.specs.Prelude.{slice_index, slice_set}
use Rattle.std.specs.Option.{option_map}
use Rattle.std.specs.Global.{Vec}
use Rattle.std.specs.BTreeMap.{BTreeMap, IsOrdered, insert_entry}
use Rattle.std.specs.Map.{lookup, remove_entry}
use Rattle.std.specs.FinMap.{get, insert, remove, from_sorted}
use Rattle.std.proofs.lemmas.List.{length-set, get_or-set_same, get_or-set_other}
use Rattle.std.proofs.lemmas.Bool.Decides.{eqb_tells}
use Rattle.std.proofs.lemmas.Grind.{get_or_default_zero}
use Rattle.std.proofs.lemmas.Grind.{common_steps}
use Rattle.mica_words.specs.declared.hashing.Hashing.{Hashing}
use Rattle.mica_words.specs.Hash.{bucket_of}
use Rattle.mica_model.specs.declared.bucket_keys.BucketKeys.{BucketKeys}
use Rattle.mica_model.specs.declared.cell.Cell.{Cell as CellInCode}
use Rattle.mica_model.specs.declared.cell_table.CellTable.TheInside.{Inside}
use Rattle.partition_model.specs.Store.{Cell, Cells, room_of, rooms, keys_in, spares_behind, spares_in_use}
use Rattle.mica_model.specs.CellTable.{Table, cell_of}
use Rattle.mica_model.specs.CellTableFields.{entries_of, cells_of, table_of, HasCounts, IsTable}
use Rattle.mica_model.proofs.CellEntries.{by_items, has_bytes, sorted_entries, get_cell, put_cell, removed_cell}
use Rattle.partition_model.proofs.CellSums.{by_bytes, rooms_insert, rooms_remove, keys_over}
use Rattle.partition_model.proofs.BucketSums.{new_here, new_others, less_here, less_others}
use Rattle.mica_model.proofs.SparesInUse.{spares_among, new_spares, over_spares, less_spares}

-- one bucket has another number of keys
counts_change : (hashing : Hashing) (buckets : ℕ) (counts : List ℕ) (m n : Cells) (bucket k : ℕ) → length counts ≡ buckets → bucket < buckets
    → HasCounts hashing buckets counts m → keys_in hashing buckets bucket n ≡ k → ((other : ℕ) → other ≢ bucket → keys_in hashing buckets other n ≡ keys_in hashing buckets other m)
    → HasCounts hashing buckets (slice_set counts bucket k) n
counts_change hashing buckets counts m n bucket k len within has new others j j_within =
    ⊎_elim (λ equal. let same = equal.1 in ap (slice_index (slice_set counts bucket k)) same ∙ get_or-set_same counts bucket k 0 (subst (λ n. bucket < n) (sym len) within) ∙ sym new ∙ ap (λ b. keys_in hashing buckets b n) (sym same))
    (λ differs. get_or-set_other counts bucket j k 0 differs.1 ∙ has j j_within ∙ sym (others j differs.1))
    (eqb_tells j bucket)

-- the key's bucket
pub record InBucket (a : Inside) (key : List ℕ) (bucket : ℕ) : Type 0 where
  pub is : bucket ≡ bucket_of a.hashing key a.buckets
  pub within : bucket < a.buckets

-- as a call tells it of the table
pub in_bucket : (a : Inside) (key : List ℕ) (bucket : ℕ) (t : Table) → table_of a ≡ t → bucket < t.buckets → bucket ≡ bucket_of t.hashing key t.buckets → InBucket a key bucket
in_bucket a key bucket t view within is = grind (arith, common_steps)

-- what a tree's entries are
abbrev pub Holds : BTreeMap (Vec ℕ) CellInCode → Cells → Type 0
Holds cells m = IsOrdered by_items cells × (from_sorted {R = by_bytes} (entries_of cells.entries) ≡ m)

-- another number of keys for a bucket
pub record IsSet (old new : BucketKeys) (bucket k : ℕ) : Type 0 where
  pub keys : new.keys.items ≡ slice_set old.keys.items bucket k
  pub spares : new.spares + spares_behind (slice_index old.keys.items bucket) ≡ old.spares + spares_behind k

module _ (a : Inside) (t : IsTable a) where
  pub found : (items key : List ℕ) → items ≡ key → (o : Option CellInCode) → o ≡ lookup (has_bytes items) a.cells.entries → get (cells_of a) key ≡ option_map cell_of o
  found items key same o is =
      ap (get (cells_of a)) (sym same) ∙ get_cell a.cells.entries (sorted_entries a.cells.entries t.ordered) items ∙ ap (option_map cell_of) (sym is)

  -- the key's room is among all rooms
  pub room_among : (key : List ℕ) (old : Cell) → get (cells_of a) key ≡ Some old → old.room ≤ a.rooms
  room_among key old had = grind (arith, common_steps, rooms_remove (cells_of a) key)

  pub after_put : (vec : Vec ℕ) (stored : CellInCode) (key : List ℕ) (cell : Cell) → vec.items ≡ key → cell_of stored ≡ cell
      → (es : List (Vec ℕ × CellInCode)) → es ≡ insert_entry by_items a.cells.entries vec stored
      → from_sorted {R = by_bytes} (entries_of es) ≡ insert (cells_of a) key cell
  after_put vec stored key cell key_is cell_is es new =
      grind (arith, common_steps, put_cell a.cells.entries (sorted_entries a.cells.entries t.ordered) vec stored, sorted_entries a.cells.entries t.ordered)

  pub after_remove : (key : List ℕ) (es : List (Vec ℕ × CellInCode)) → es ≡ remove_entry (has_bytes key) a.cells.entries
      → from_sorted {R = by_bytes} (entries_of es) ≡ remove (cells_of a) key
  after_remove key es new =
      ap (λ fs. from_sorted {R = by_bytes} (entries_of fs)) new ∙ removed_cell a.cells.entries (sorted_entries a.cells.entries t.ordered) key

  -- another cell for a key that has one
  pub table_over : (key : List ℕ) (old cell : Cell) → get (cells_of a) key ≡ Some old → (cells : BTreeMap (Vec ℕ) CellInCode) → Holds cells (insert (cells_of a) key cell)
      → IsTable (record a { cells = cells; rooms = a.rooms - old.room + cell.room })
  table_over key old cell had cells new =
      let among = room_among key old had in
      let step = rooms_insert (cells_of a) key cell in
      let room = ap room_of had in
      let sum = t.rooms in
      let all = ap rooms new.1 in
      record {
        ordered = new.0;
        some = t.some;
        len = t.len;
        counts = subst (HasCounts a.hashing a.buckets a.counts.keys.items) (sym new.1)
            (λ bucket within. t.counts bucket within ∙ sym (keys_over a.hashing a.buckets bucket (cells_of a) key old cell had));
        spares = t.spares ∙ sym (over_spares a.hashing a.buckets (cells_of a) key old cell had) ∙ ap (spares_in_use a.hashing a.buckets) (sym new.1);
        small = t.small;
        rooms = omega arith;
      }

  module _ (key : List ℕ) (bucket : ℕ) (here : InBucket a key bucket) where
    pub count_is : slice_index a.counts.keys.items bucket ≡ keys_in a.hashing a.buckets bucket (cells_of a)
    count_is = t.counts bucket here.within

    -- as code reads it
    pub read_count : (n : ℕ) → n ≡ get_or a.counts.keys.items bucket n → n ≡ slice_index a.counts.keys.items bucket
    read_count n is = is ∙ get_or_default_zero a.counts.keys.items bucket n (subst (λ many. bucket < many) (sym t.len) here.within)

    pub counted : spares_behind (slice_index a.counts.keys.items bucket) ≤ a.counts.spares
    counted = grind (arith, common_steps, spares_among a.hashing a.buckets bucket (cells_of a) a.buckets here.within, count_is)

    -- few keys where few spares are in use
    pub few_keys : spares_in_use a.hashing a.buckets (cells_of a) ≤ 65536 → slice_index a.counts.keys.items bucket + 1 < 2 ^ 32
    few_keys most = grind (arith, common_steps, counted)

    -- one key more
    pub table_new : (cell : Cell) → get (cells_of a) key ≡ None → spares_in_use a.hashing a.buckets (cells_of a) ≤ 65536
        → (k : ℕ) → k ≡ slice_index a.counts.keys.items bucket → (counts : BucketKeys) → IsSet a.counts counts bucket (k + 1)
        → (cells : BTreeMap (Vec ℕ) CellInCode) → Holds cells (insert (cells_of a) key cell) → IsTable (record { hashing = a.hashing; buckets = a.buckets; cells = cells; counts = counts; rooms = a.rooms + cell.room })
    table_new cell none most k read counts set cells new =
        let one = ap (λ n. n + 1) (sym count_is ∙ sym read) in
        let step = rooms_insert (cells_of a) key cell in
        let room = ap room_of none in
        let sum = t.rooms in
        let all = ap rooms new.1 in
        let more = new_spares a.hashing a.buckets bucket (cells_of a) key here.is here.within cell none in
        let spares_sum = t.spares in
        let spares_set = set.spares in
        let was = ap spares_behind count_is in
        let read_was = ap spares_behind read in
        let later = ap spares_behind one in
        record {
          ordered = new.0;
          some = t.some;
          len = ap length set.keys ∙ length-set _ _ _ ∙ t.len;
          counts = subst (HasCounts a.hashing a.buckets counts.keys.items) (sym new.1)
              (subst (λ xs. HasCounts a.hashing a.buckets xs (insert (cells_of a) key cell)) (sym set.keys)
              (counts_change a.hashing a.buckets a.counts.keys.items (cells_of a) (insert (cells_of a) key cell) bucket (k + 1) t.len here.within t.counts
              (new_here a.hashing a.buckets bucket (cells_of a) key here.is here.within cell none ∙ one)
              (new_others a.hashing a.buckets bucket (cells_of a) key here.is here.within cell none)));
          spares = (let it : counts.spares ≡ spares_in_use a.hashing a.buckets (insert (cells_of a) key cell) = omega arith in it) ∙ ap (spares_in_use a.hashing a.buckets) (sym new.1);
          small = omega arith;
          rooms = omega arith;
        }

    -- one key less
    module _ (old : Cell) (had : get (cells_of a) key ≡ Some old) (k : ℕ) (read : k ≡ slice_index a.counts.keys.items bucket) where
      pub less_count : k ≡ keys_in a.hashing a.buckets bucket (remove (cells_of a) key) + 1
      less_count = read ∙ count_is ∙ less_here a.hashing a.buckets bucket (cells_of a) key here.is here.within old had

      pub table_less : (counts : BucketKeys) → IsSet a.counts counts bucket (k - 1) → (cells : BTreeMap (Vec ℕ) CellInCode) → Holds cells (remove (cells_of a) key)
          → IsTable (record { hashing = a.hashing; buckets = a.buckets; cells = cells; counts = counts; rooms = a.rooms - old.room })
      table_less counts set cells new =
          let left : keys_in a.hashing a.buckets bucket (remove (cells_of a) key) ≡ k - 1 = omega (arith, less_count) in
          let step = rooms_remove (cells_of a) key in
          let room = ap room_of had in
          let sum = t.rooms in
          let all = ap rooms new.1 in
          let less = less_spares a.hashing a.buckets bucket (cells_of a) key here.is here.within old had in
          let spares_sum = t.spares in
          let spares_set = set.spares in
          let small = t.small in
          let was = ap spares_behind count_is in
          let later = ap spares_behind left in
          record {
            ordered = new.0;
            some = t.some;
            len = ap length set.keys ∙ length-set _ _ _ ∙ t.len;
            counts = subst (HasCounts a.hashing a.buckets counts.keys.items) (sym new.1)
                (subst (λ xs. HasCounts a.hashing a.buckets xs (remove (cells_of a) key)) (sym set.keys)
                (counts_change a.hashing a.buckets a.counts.keys.items (cells_of a) (remove (cells_of a) key) bucket (k - 1) t.len here.within t.counts left
                (less_others a.hashing a.buckets bucket (cells_of a) key here.is here.within old had)));
            spares = (let it : counts.spares ≡ spares_in_use a.hashing a.buckets (remove (cells_of a) key) = omega arith in it) ∙ ap (spares_in_use a.hashing a.buckets) (sym new.1);
            small = omega arith;
            rooms = omega arith;
          }
