-- The entries of a tree, read as a finite map of cells.
use Rattle.std.proofs.Common.{◌≡◌, ℕ, List, [], ◌∷◌, length, Option, Some, None, refl, sym, ap, ◌∙◌, subst, cond, Ordering, Bool, true, false, T, ◌&&◌, arith}
use Rattle.std.specs.Prelude.{not}
use Rattle.std.specs.Option.{option_map}
use Rattle.std.specs.Ordering.{is_eq, is_lt, eq_by_cmp}
use Rattle.std.specs.declared.cmp.Ordering.TheVariants.{Less, Equal, Greater}
use Rattle.std.specs.Cmp.{eq_by_cmp_equiv}
use Rattle.std.specs.Cmp.Lexicographic.{nat_list_cmp_total}
use Rattle.std.specs.Global.{Vec}
use Rattle.std.specs.BTreeMap.{insert_entry, is_at}
use Rattle.std.specs.List.{AllByRecursion}
use Rattle.std.specs.List.Sorted.{IsStrictlySortedBy}
use Rattle.std.specs.Map.{lookup, remove_entry, keys_of}
use Rattle.std.specs.FinMap.{find, put, is_sorted, get, len, insert, remove, entries, from_sorted, same_entries_map, entries-from_sorted, entries-insert, get-from_sorted, get-remove, same_map, len-entries}
use Rattle.std.specs.FinMap.Entries.{below_all, where_key, is_sorted-put, is_sorted-where_key, find-where_key}
use Rattle.std.proofs.lemmas.List.{length-map}
use Rattle.std.proofs.lemmas.Map.Keys.{sorted_head, sorted_tail}
use Rattle.std.proofs.lemmas.Grind.{common_steps}
use Rattle.mica_model.specs.declared.cell.Cell.{Cell as CellInCode}
use Rattle.partition_model.specs.Store.{Cell}
use Rattle.partition_model.proofs.CellSums.{by_bytes, exact}
use Rattle.mica_model.specs.CellTable.{cell_of}
use Rattle.mica_model.specs.CellTableFields.{entries_of}

abbrev pub by_items : Vec ℕ → Vec ℕ → Ordering
by_items x y = by_bytes x.items y.items

-- whether a key of the tree has these bytes
abbrev pub has_bytes : List ℕ → Vec ℕ → Bool
has_bytes key = is_at (λ k. by_bytes key k.items)

both : (a b : Bool) → T a → T b → T (a && b)
both true b p q = q
both false b p q = p

left : (a b : Bool) → T (a && b) → T a
left true b p = tt
left false b p = p

right : (a b : Bool) → T (a && b) → T b
right true b p = p
right false b p = absurd p

less_T : (o : Ordering) → o ≡ Less → T (is_lt o)
less_T o is = subst (λ r. T (is_lt r)) (sym is) tt

below : (key : Vec ℕ) (es : List (Vec ℕ × CellInCode)) → AllByRecursion (λ k. by_items key k ≡ Less) (keys_of es) → T (below_all by_bytes key.items (entries_of es))
below key [] all = tt
below key (e ∷ es) all = both _ _ (less_T _ all.0) (below key es all.1)

pub sorted_entries : (es : List (Vec ℕ × CellInCode)) → IsStrictlySortedBy by_items (keys_of es) → T (is_sorted by_bytes (entries_of es))
sorted_entries [] sorted = tt
sorted_entries (e ∷ es) sorted =
    both _ _ (below e.0 es (sorted_head by_items e.0 (keys_of es) sorted)) (sorted_entries es (sorted_tail by_items e.0 (keys_of es) sorted))

-- a look-up
some_cell : (b : Bool) (c : CellInCode) (rest : Option CellInCode) (found : Option Cell) → found ≡ option_map cell_of rest → cond b (Some (cell_of c)) found ≡ option_map cell_of (cond b (Some c) rest)
some_cell true c rest found is = refl
some_cell false c rest found is = is

pub find_entry : (key : List ℕ) (es : List (Vec ℕ × CellInCode)) → find by_bytes key (entries_of es) ≡ option_map cell_of (lookup (has_bytes key) es)
find_entry key [] = refl
find_entry key (e ∷ es) = some_cell (has_bytes key e.0) e.1 (lookup (has_bytes key) es) _ (find_entry key es)

-- a put
pub put_entry : (key : Vec ℕ) (c : CellInCode) (es : List (Vec ℕ × CellInCode)) → entries_of (insert_entry by_items es key c) ≡ put by_bytes key.items (cell_of c) (entries_of es)
put_entry key c [] = refl
put_entry key c (e ∷ es) = grind (arith, common_steps, put_entry key c es)

-- a removal
turned : (b : Bool) (x y : Option Cell) → cond (not b) x y ≡ cond b y x
turned true x y = refl
turned false x y = refl

kept : (o : Ordering) → T (is_lt o) → not (is_eq o) ≡ true
kept Less less = refl
kept Equal less = absurd less
kept Greater less = absurd less

all_kept : (key : List ℕ) (es : List (List ℕ × Cell)) → T (below_all by_bytes key es) → where_key by_bytes (λ k. not (eq_by_cmp by_bytes key k)) es ≡ es
all_kept key [] below = refl
all_kept key (e ∷ es) below =
    ap (λ b. cond b (e ∷ where_key by_bytes (λ k. not (eq_by_cmp by_bytes key k)) es) (where_key by_bytes (λ k. not (eq_by_cmp by_bytes key k)) es)) (kept _ (left _ _ below))
    ∙ ap (λ rest. e ∷ rest) (all_kept key es (right _ _ below))

pub removed_entry : (key : List ℕ) (es : List (Vec ℕ × CellInCode)) → T (is_sorted by_bytes (entries_of es))
    → entries_of (remove_entry (has_bytes key) es) ≡ where_key by_bytes (λ k. not (eq_by_cmp by_bytes key k)) (entries_of es)
removed_entry key [] sorted = refl
removed_entry key (e ∷ es) sorted = grind (arith, common_steps, removed_entry key es, right, all_kept key (entries_of es), exact key e.0.items, left)

module _ (es : List (Vec ℕ × CellInCode)) (sorted : T (is_sorted by_bytes (entries_of es))) where
  pub entries_are : entries (from_sorted {R = by_bytes} (entries_of es)) ≡ entries_of es
  entries_are = entries-from_sorted by_bytes (entries_of es) sorted

  pub number_of_cells : length es ≡ len (from_sorted {R = by_bytes} (entries_of es))
  number_of_cells = sym (len-entries (from_sorted {R = by_bytes} (entries_of es)) ∙ ap length entries_are ∙ length-map es (λ entry. (entry.0.items, cell_of entry.1)))

  pub get_cell : (key : List ℕ) → get (from_sorted {R = by_bytes} (entries_of es)) key ≡ option_map cell_of (lookup (has_bytes key) es)
  get_cell key = get-from_sorted by_bytes (entries_of es) key sorted ∙ find_entry key es

  pub put_cell : (key : Vec ℕ) (c : CellInCode) → from_sorted {R = by_bytes} (entries_of (insert_entry by_items es key c)) ≡ insert (from_sorted (entries_of es)) key.items (cell_of c)
  put_cell key c =
      ap (from_sorted {R = by_bytes}) (put_entry key c es)
      ∙ same_entries_map _ _ (entries-from_sorted by_bytes (put by_bytes key.items (cell_of c) (entries_of es)) (is_sorted-put by_bytes nat_list_cmp_total key.items (cell_of c) (entries_of es) sorted)
      ∙ ap (put by_bytes key.items (cell_of c)) (sym entries_are)
      ∙ sym (entries-insert nat_list_cmp_total (from_sorted (entries_of es)) key.items (cell_of c)))

  pub removed_cell : (key : List ℕ) → from_sorted {R = by_bytes} (entries_of (remove_entry (has_bytes key) es)) ≡ remove (from_sorted (entries_of es)) key
  removed_cell key =
      let others : List ℕ → Bool = λ k. not (eq_by_cmp by_bytes key k) in
      ap (from_sorted {R = by_bytes}) (removed_entry key es sorted)
      ∙ same_map nat_list_cmp_total exact _ _ (λ q.
      get-from_sorted by_bytes (where_key by_bytes others (entries_of es)) q (is_sorted-where_key by_bytes others (entries_of es) sorted)
      ∙ find-where_key by_bytes others q (λ x same. ap others (sym (exact q x same))) (entries_of es)
      ∙ turned (eq_by_cmp by_bytes key q) _ _
      ∙ ap (λ b. cond b None (find by_bytes q (entries_of es))) ((eq_by_cmp_equiv nat_list_cmp_total).symm key q)
      ∙ ap (cond (eq_by_cmp by_bytes q key) None) (sym (get-from_sorted by_bytes (entries_of es) q sorted))
      ∙ sym (get-remove nat_list_cmp_total (from_sorted (entries_of es)) key q))
