-- Sums over the cells of a map, before and after a key has another cell or none.
use Rattle.std.proofs.Common.{◌≡◌, ◌≢◌, ℕ, ◌+◌, List, [], ◌∷◌, length, Option, Some, None, sym, ap, ◌∙◌, subst, arith, cond, Ordering, Bool, true, T, map}
use Rattle.std.specs.Prelude.{sum_by, count_by, nat_eq, is_some}
use Rattle.std.specs.Ordering.{nat_cmp, is_eq, eq_by_cmp}
use Rattle.std.specs.Cmp.{eq_by_cmp_equiv}
use Rattle.std.specs.Cmp.Lexicographic.{slice_cmp, nat_list_cmp_total}
use Rattle.std.specs.declared.cmp.Ordering.TheVariants.{Equal}
use Rattle.std.specs.FinMap.{find, put, entries-from_sorted, get, insert, remove, entries, empty, entries-insert, get-entries, get-insert, get-remove, same_map, from_sorted, empty_of_len, len-entries, slice_cmp-IsAntisymmetric, nat_cmp-IsAntisymmetric}
use Rattle.std.proofs.lemmas.List.Sums.{sum_by-cons}
use Rattle.std.proofs.lemmas.Grind.{common_steps}
use Rattle.mica_words.specs.Hash.{bucket_of}
use Rattle.mica_words.specs.declared.hashing.Hashing.{Hashing}
use Rattle.partition_model.specs.Store.{Cell, Cells, room_of, rooms, keys_in}

-- the order of keys
abbrev pub by_bytes : List ℕ → List ℕ → Ordering
by_bytes = slice_cmp nat_cmp

pub exact : (x y : List ℕ) → by_bytes x y ≡ Equal → x ≡ y
exact = slice_cmp-IsAntisymmetric nat_cmp-IsAntisymmetric

-- what the cell of a key weighs, where it has one
abbrev pub weight : (List ℕ × Cell → ℕ) → List ℕ → Option Cell → ℕ
weight w key None = 0
weight w key (Some cell) = w (key, cell)

not_some : (c : Cell) → Some c ≢ None
not_some c none = subst T (ap is_some none) tt

equal : (o : Ordering) → is_eq o ≡ true → o ≡ Equal
equal o is = grind (arith, T, is)

shadowed : (b : Bool) (o p : Option Cell) → cond b o p ≡ cond b o (cond b None p)
shadowed b o p = grind (arith, common_steps)

-- what a map has at a key, where it has this at another
at_key : (m : Cells) (key q : List ℕ) (o : Option Cell) → get m key ≡ o → get m q ≡ cond (eq_by_cmp by_bytes q key) o (get m q)
at_key m key q o is = grind (arith, common_steps, exact q key, equal)

-- a cell put over that of the key, or where there was none
insert_over : (m : Cells) (key : List ℕ) (cell : Cell) → insert m key cell ≡ insert (remove m key) key cell
insert_over m key cell = same_map nat_list_cmp_total exact _ _ (λ q.
    get-insert nat_list_cmp_total m key cell q
    ∙ shadowed (eq_by_cmp by_bytes q key) (Some cell) (get m q)
    ∙ ap (cond (eq_by_cmp by_bytes q key) (Some cell)) (sym (get-remove nat_list_cmp_total m key q))
    ∙ sym (get-insert nat_list_cmp_total (remove m key) key cell q))

insert_back : (m : Cells) (key : List ℕ) (cell : Cell) → get m key ≡ Some cell → m ≡ insert (remove m key) key cell
insert_back m key cell is = same_map nat_list_cmp_total exact _ _ (λ q.
    at_key m key q (Some cell) is ∙ sym (get-insert nat_list_cmp_total m key cell q)) ∙ insert_over m key cell

pub remove_none : (m : Cells) (key : List ℕ) → get m key ≡ None → m ≡ remove m key
remove_none m key is = same_map nat_list_cmp_total exact _ _ (λ q. at_key m key q None is ∙ sym (get-remove nat_list_cmp_total m key q))

removed : (m : Cells) (key : List ℕ) → get (remove m key) key ≡ None
removed m key = get-remove nat_list_cmp_total m key key ∙ ap (λ b. cond b None (get m key)) ((eq_by_cmp_equiv nat_list_cmp_total).refl key)

module _ (w : List ℕ × Cell → ℕ) where
  add_new : (key : List ℕ) (cell : Cell) (es : List (List ℕ × Cell)) → find by_bytes key es ≡ None → sum_by w (put by_bytes key cell es) ≡ sum_by w es + w (key, cell)
  add_new key cell [] none = omega arith
  add_new key cell (e ∷ es) none =
      grind (arith, sum_by-cons w (key, cell) (e ∷ es), not_some e.1, sum_by-cons w e (put by_bytes key cell es), sum_by-cons w e es, add_new key cell es)

  weigh_back : (m : Cells) (key : List ℕ) (cell : Cell) → sum_by w (entries (insert (remove m key) key cell)) ≡ sum_by w (entries (remove m key)) + w (key, cell)
  weigh_back m key cell =
      grind (arith, entries-insert nat_list_cmp_total (remove m key) key cell, add_new key cell (entries (remove m key)) (sym (get-entries (remove m key) key) ∙ removed m key))

  -- the sum after a cell is put, and the sum before, beside the sum without the key
  pub weigh_insert : (m : Cells) (key : List ℕ) (cell : Cell) → sum_by w (entries (insert m key cell)) ≡ sum_by w (entries (remove m key)) + w (key, cell)
  weigh_insert m key cell = ap (λ n. sum_by w (entries n)) (insert_over m key cell) ∙ weigh_back m key cell

  pub weigh_remove : (m : Cells) (key : List ℕ) → sum_by w (entries m) ≡ sum_by w (entries (remove m key)) + weight w key (get m key)
  weigh_remove m key = grind (arith, common_steps, remove_none m key, insert_back m key, weigh_back m key)

-- the rooms
weight_room : (key : List ℕ) (o : Option Cell) → weight (λ entry. entry.1.room) key o ≡ room_of o
weight_room key o = grind (arith, common_steps)

pub rooms_insert : (m : Cells) (key : List ℕ) (cell : Cell) → rooms (insert m key cell) + room_of (get m key) ≡ rooms m + cell.room
rooms_insert m key cell = grind (arith, common_steps, weigh_insert, weigh_remove, weight_room key (get m key))

pub rooms_remove : (m : Cells) (key : List ℕ) → rooms (remove m key) + room_of (get m key) ≡ rooms m
rooms_remove m key = grind (arith, common_steps, weigh_remove, weight_room key (get m key))

-- the keys of a bucket
module _ (hashing : Hashing) (buckets bucket : ℕ) where
  abbrev here : List ℕ × Cell → ℕ
  here entry = cond (nat_eq (bucket_of hashing entry.0 buckets) bucket) 1 0

  count_keys : (es : List (List ℕ × Cell)) → count_by (λ key. nat_eq (bucket_of hashing key buckets) bucket) (map (λ e. e.0) es) ≡ sum_by here es
  count_keys es = grind (arith, common_steps)

  insert_counts : (m : Cells) (key : List ℕ) (cell : Cell) → keys_in hashing buckets bucket (insert m key cell) ≡ keys_in hashing buckets bucket (remove m key) + cond (nat_eq (bucket_of hashing key buckets) bucket) 1 0
  insert_counts m key cell = grind (arith, common_steps, count_keys (entries (insert m key cell)), weigh_insert here m key cell, count_keys (entries (remove m key)))

  remove_counts : (m : Cells) (key : List ℕ) → keys_in hashing buckets bucket m ≡ keys_in hashing buckets bucket (remove m key) + weight here key (get m key)
  remove_counts m key = grind (arith, common_steps, count_keys (entries m), weigh_remove here m key, count_keys (entries (remove m key)))

  -- a key that has a cell already
  pub keys_over : (m : Cells) (key : List ℕ) (old cell : Cell) → get m key ≡ Some old → keys_in hashing buckets bucket (insert m key cell) ≡ keys_in hashing buckets bucket m
  keys_over m key old cell is = insert_counts m key cell ∙ sym (remove_counts m key ∙ ap (λ o. keys_in hashing buckets bucket (remove m key) + weight here key o) is)

  -- a new key
  pub keys_new : (m : Cells) (key : List ℕ) (cell : Cell) → get m key ≡ None → keys_in hashing buckets bucket (insert m key cell) ≡ keys_in hashing buckets bucket m + cond (nat_eq (bucket_of hashing key buckets) bucket) 1 0
  keys_new m key cell is = grind (arith, common_steps, remove_counts m key, insert_counts m key cell)

  pub keys_less : (m : Cells) (key : List ℕ) (old : Cell) → get m key ≡ Some old → keys_in hashing buckets bucket m ≡ keys_in hashing buckets bucket (remove m key) + cond (nat_eq (bucket_of hashing key buckets) bucket) 1 0
  keys_less m key old is = remove_counts m key ∙ ap (λ o. keys_in hashing buckets bucket (remove m key) + weight here key o) is

pub no_cells : from_sorted {X = Cell} {R = by_bytes} [] ≡ empty
no_cells = empty_of_len (from_sorted []) (len-entries (from_sorted []) ∙ ap length (entries-from_sorted by_bytes [] tt))

no_entries : entries (empty {X = Cell} {R = by_bytes}) ≡ []
no_entries = ap entries (sym no_cells) ∙ entries-from_sorted by_bytes [] tt

pub no_keys : (hashing : Hashing) (buckets bucket : ℕ) → keys_in hashing buckets bucket empty ≡ 0
no_keys hashing buckets bucket = ap (λ es. count_by (λ key. nat_eq (bucket_of hashing key buckets) bucket) (map (λ e. e.0) es)) no_entries

pub no_rooms : rooms empty ≡ 0
no_rooms = ap (sum_by (λ entry. entry.1.room)) no_entries
