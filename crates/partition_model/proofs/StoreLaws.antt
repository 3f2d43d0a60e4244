-- The laws of the store machine's states, over lawful histories.
use Rattle.std.proofs.lemmas.Grind.{common_steps}
use Rattle.std.proofs.Common.{◌≡◌, ℕ, ◌≤◌, ◌<◌, List, [], ◌∷◌, length, Option, Some, None, Bool, true, false, cond, refl, sym, ap, ◌∙◌, subst, arith, ◌≢◌}
use Rattle.std.specs.List.{fold, AllByRecursion as AllOf}
use Rattle.std.specs.FinMap.{get, get-empty, get-insert, get-remove, slice_cmp-IsAntisymmetric, nat_cmp-IsAntisymmetric}
use Rattle.std.specs.Ordering.{nat_cmp, eq_by_cmp, is_eq}
use Rattle.std.specs.declared.cmp.Ordering.{Ordering}
use Rattle.std.specs.declared.cmp.Ordering.TheVariants.{Equal}
use Rattle.std.specs.Cmp.Lexicographic.{slice_cmp, nat_list_cmp_total}
use Rattle.std.proofs.lemmas.Bool.{false_from_ne_true}
use Rattle.std.proofs.lemmas.Option.{same_Some}
use Rattle.mica_words.specs.Item.{KeyFits, StoredFits, item_size, largest_stored_item}
use Rattle.mica_words.specs.Packing.{AreBytes}
use Rattle.partition_model.specs.declared.options.Options.{Options}
use Rattle.partition_model.specs.declared.options.Mode.{Mode}
use Rattle.partition_model.specs.declared.write.Write.{Write}
use Rattle.partition_model.specs.declared.write.Op.{Op}
use Rattle.partition_model.specs.declared.write.Op.TheVariants.{Put, Add, Del, Touch}
use Rattle.partition_model.specs.Write.{IsWrite, HasValueOf, size_of}
use Rattle.partition_model.specs.Store.{Cell, Store, start as store_start}
use Rattle.partition_model.specs.StoreStep as ss
use Rattle.partition_model.specs.History.{History, State, cache_state, store_state, after, start, state_of, accepted_in}
use Rattle.partition_model.proofs.CacheKept.{size_at_most}
use Rattle.partition_model.proofs.Histories.{accepted_is_length}

abbrev same_bytes : List ℕ → List ℕ → Bool
same_bytes = eq_by_cmp (slice_cmp nat_cmp)

is_equal : (o : Ordering) → is_eq o ≡ true → o ≡ Equal
is_equal o e = grind (arith, common_steps)

pub bytes_are_same : (key key' : List ℕ) → same_bytes key key' ≡ true → key ≡ key'
bytes_are_same key key' e = slice_cmp-IsAntisymmetric nat_cmp-IsAntisymmetric key key' (is_equal (slice_cmp nat_cmp key key') e)

bytes_differ : (key key' : List ℕ) → key ≢ key' → same_bytes key key' ≡ false
bytes_differ key key' differ = false_from_ne_true (same_bytes key key') (λ e. differ (bytes_are_same key key' e))

-- a write touches its own key alone

put_same : (s : Store) (write : Write) (key : List ℕ) → key ≢ write.key → get (ss.after_put s write).cells key ≡ get s.cells key
put_same s write key other =
    grind (arith, get-insert nat_list_cmp_total s.cells write.key (record { value = write.value; room = ss.room_after (get s.cells write.key) (size_of write) }) key, bytes_differ key write.key other)

op_same : (op : Op) (s : Store) (write : Write) (key : List ℕ) → key ≢ write.key → get (ss.after_op op s write).cells key ≡ get s.cells key
op_same op s write key other = grind (arith, put_same s write key other, get-remove nat_list_cmp_total s.cells write.key key, cond, bytes_differ key write.key other)

pub others_same : (s : Store) (write : Write) (key : List ℕ) → key ≢ write.key → get (ss.after s write).cells key ≡ get s.cells key
unfolding ss.after
others_same s write key other = op_same write.op s write key other

-- what the machine has of a key fits

pub record IsCell (key : List ℕ) (cell : Cell) : Type 0 where
  pub key_fits : KeyFits key
  pub key_bytes : AreBytes key
  pub value : StoredFits cell.value
  pub value_bytes : AreBytes cell.value
  pub size : item_size key cell.value ≤ cell.room
  pub room : cell.room ≤ largest_stored_item

pub record IsKept (s : Store) : Type 0 where
  pub are : (key : List ℕ) (cell : Cell) → get s.cells key ≡ Some cell → IsCell key cell
  pub stamp : s.stamp ≡ s.accepted

start_kept : IsKept store_start
unfolding store_start
start_kept = record { are = λ key cell is. let none = get-empty {X = Cell} (slice_cmp nat_cmp) key in cc; stamp = refl }

room_by : (o : Option Cell) (size : ℕ) → size ≤ largest_stored_item → ((cell : Cell) → o ≡ Some cell → cell.room ≤ largest_stored_item) → (size ≤ ss.room_after o size) × (ss.room_after o size ≤ largest_stored_item)
room_by o size small rooms = grind (arith, common_steps)

module _ (s : Store) (kept : IsKept s) (write : Write) (is : IsWrite write) where
  abbrev put_cell : Cell
  put_cell = record { value = write.value; room = ss.room_after (get s.cells write.key) (size_of write) }

  put_cell_is : StoredFits write.value → IsCell write.key put_cell
  put_cell_is value =
      let rooms = room_by (get s.cells write.key) (size_of write) (size_at_most write is) (λ cell found. (kept.are write.key cell found).room) in
      record { key_fits = is.key; key_bytes = is.key_bytes; value = value; value_bytes = is.value_bytes; size = rooms.0; room = rooms.1 }

  after_put_kept : StoredFits write.value → IsKept (ss.after_put s write)
  after_put_kept value = record {
    are = λ key cell found. elim (same_bytes key write.key) as (λ b. same_bytes key write.key ≡ b → cond b (Some put_cell) (get s.cells key) ≡ Some cell → IsCell key cell) [
      | true ↦ grind (arith, IsCell, bytes_are_same key write.key, IsCell write.key, same_Some put_cell cell, put_cell_is value)
      | false ↦ λ other e. kept.are key cell e
    ] refl (sym (get-insert nat_list_cmp_total s.cells write.key put_cell key) ∙ found);
    stamp = let e = kept.stamp in omega arith;
  }

  after_op_kept : (op : Op) → HasValueOf op write.value → IsKept (ss.after_op op s write)
  after_op_kept Put value = after_put_kept value
  after_op_kept Add value = after_put_kept value
  after_op_kept Touch none = record { are = kept.are; stamp = (let e = kept.stamp in omega arith) }
  after_op_kept Del none = record {
    are = λ key cell found. elim (same_bytes key write.key) as (λ b. cond b None (get s.cells key) ≡ Some cell → IsCell key cell) [
      | true ↦ λ e. cc
      | false ↦ λ e. kept.are key cell e
    ] (sym (get-remove nat_list_cmp_total s.cells write.key key) ∙ found);
    stamp = let e = kept.stamp in omega arith;
  }

  after_kept : IsKept (ss.after s write)
  unfolding ss.after
  after_kept = after_op_kept write.op is.value

abbrev IsKeptState : State → Type 0
IsKeptState (cache_state s) = Unit {0}
IsKeptState (store_state s) = IsKept s

kept_start : (mode : Mode) → IsKeptState (start mode)
kept_start mode = grind (arith, start_kept)

state_kept : (options : Options) (now : State) (write : Write) → IsWrite write → IsKeptState now → IsKeptState (after options now write)
state_kept options now write is kept = grind (arith, after_kept)

kept_from : (options : Options) (now : State) (history : History) → AllOf IsWrite history → IsKeptState now → IsKeptState (fold (after options) now history)
kept_from options now [] writes kept = kept
kept_from options now (write ∷ history) writes kept = kept_from options (after options now write) history writes.1 (state_kept options now write writes.0 kept)

module _ (options : Options) (history : History) (writes : AllOf IsWrite history) (s : Store) (at : state_of options history ≡ store_state s) where
  pub kept_in : IsKept s
  kept_in = subst IsKeptState at (kept_from options (start options.mode) history writes (kept_start options.mode))

  pub cell_fits : (key : List ℕ) (cell : Cell) → get s.cells key ≡ Some cell
      → KeyFits key × AreBytes key × StoredFits cell.value × AreBytes cell.value × (item_size key cell.value ≤ cell.room) × (cell.room < 16777216)
  cell_fits key cell is = let fine = kept_in.are key cell is in (fine.key_fits, fine.key_bytes, fine.value, fine.value_bytes, fine.size, (let room = fine.room in omega arith))

  -- the stamp is the number of accepted writes
  pub stamp_is_length : s.stamp ≡ length history
  stamp_is_length = kept_in.stamp ∙ (sym (ap accepted_in at) ∙ accepted_is_length options history)
