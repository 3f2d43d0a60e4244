-- The room of each key, as the page counts it and as the machine has it.
use Rattle.std.specs.Prelude.{◌&&◌, ◌||◌, not, is_some, nat_le, if◌then◌else◌}
use Rattle.std.specs.FinMap.{get, empty as no_cells, get-insert}
use Rattle.std.specs.Cmp.Lexicographic.{nat_list_cmp_total}
use Rattle.std.proofs.lemmas.Cmp.{eq_by_cmp_equiv}
use Rattle.std.proofs.lemmas.Bool.{leb-true}
use Rattle.std.proofs.Common.{◌≡◌, ◌≢◌, ◌<◌, ◌==◌, ◌+◌, ◌*◌, ℕ, Bool, true, false, cond, List, [], ◌∷◌, ◌++◌, map, Option, Some, None, option_map, bytes_eq, refl, sym, ap, subst, ◌∙◌, append-nil, append_assoc, arith}
use Rattle.partition_model.specs.declared.options.Options.{Options}
use Rattle.partition_model.specs.declared.options.Mode.TheVariants.{Store as StoreMode}
use Rattle.partition_model.specs.declared.write.Write.{Write}
use Rattle.partition_model.specs.declared.write.Op.TheVariants.{Put}
use Rattle.partition_model.specs.Write.{write_of, size_of}
use Rattle.partition_model.specs.Rooms.{keeps}
use Rattle.partition_model.specs.Store as store
use Rattle.partition_model.specs.Store.{Cell, Cells, room_of}
use Rattle.partition_model.specs.StoreStep as ss
use Rattle.partition_model.specs.History.{History, State, cache_state, store_state, after, value_in, state_of, answer_of}
use Rattle.partition_model.proofs.Histories.{state_snoc, stored_in}
use Rattle.partition_model.proofs.StoreLaws.{others_same}
use Rattle.mica_words.specs.Item.{largest_item}
use Rattle.memcached_page.specs.Shelf.{Shelf}
use Rattle.memcached_page.specs.Course.{Deed, Done, after as left_after}
use Rattle.memcached_page.specs.Kept.{Written, written, shelf_in, writes_in, room_then, room_in, AtEach}
use Rattle.part_courses.specs.Courses.{Served, done_by}
use Rattle.part_courses.proofs.Steps.{left_by}

-- The machine

abbrev pub cells_in : State → Cells
cells_in (cache_state s) = no_cells
cells_in (store_state s) = s.cells

abbrev pub cell_of : Options → History → List ℕ → Option Cell
cell_of options h key = get (cells_in (state_of options h)) key

abbrev pub room_at : Options → History → List ℕ → ℕ
room_at options h key = room_of (cell_of options h key)

none_mapped : {X Y : Type 0} (f : X → Y) (o : Option X) → option_map f o ≡ None → o ≡ None
none_mapped f None is = refl
none_mapped f (Some x) is = absurd (cc)

module _ (options : Options) (is_store : options.mode ≡ StoreMode) (h : History) where
  abbrev now : store.Store
  now = (stored_in options is_store h).0

  pub before_is : (key : List ℕ) → cell_of options h key ≡ get now.cells key
  before_is key = ap (λ (st : State). get (cells_in st) key) (stored_in options is_store h).1

  pub value_is : (key : List ℕ) → answer_of options h key ≡ option_map (λ (c : Cell). c.value) (cell_of options h key)
  value_is key = subst (λ (st : State). value_in st key ≡ option_map (λ (c : Cell). c.value) (get (cells_in st) key)) (sym (stored_in options is_store h).1) refl

  pub no_room_of : (key : List ℕ) → answer_of options h key ≡ None → room_at options h key ≡ 0
  no_room_of key none = ap room_of (none_mapped (λ (c : Cell). c.value) (cell_of options h key) (sym (value_is key) ∙ none))

  after_is : (write : Write) (key : List ℕ) → cell_of options (h ++ write ∷ []) key ≡ get (ss.after now write).cells key
  after_is write key = ap (λ (st : State). get (cells_in st) key) (state_snoc options h write ∙ ap (λ (st : State). after options st write) (stored_in options is_store h).1)

  pub other_room_at : (write : Write) (key : List ℕ) → key ≢ write.key → room_at options (h ++ write ∷ []) key ≡ room_at options h key
  other_room_at write key differ = ap room_of (after_is write key ∙ others_same now write key differ ∙ sym (before_is key))

  put_after : (s : store.Store) (key value : List ℕ) → room_of (get (ss.after s (write_of Put key value)).cells key) ≡ ss.room_after (get s.cells key) (size_of (write_of Put key value))
  unfolding ss.after
  put_after s key value =
      let cell : Cell = record { value = value; room = ss.room_after (get s.cells key) (size_of (write_of Put key value)) } in
      ap room_of (get-insert nat_list_cmp_total s.cells key cell key ∙ ap (λ b. cond b (Some cell) (get s.cells key)) ((eq_by_cmp_equiv nat_list_cmp_total).refl key))

  pub put_room_at : (key value : List ℕ) → room_at options (h ++ write_of Put key value ∷ []) key ≡ ss.room_after (cell_of options h key) (size_of (write_of Put key value))
  put_room_at key value = ap room_of (after_is (write_of Put key value) key) ∙ put_after now key value ∙ ap (λ o. ss.room_after o (size_of (write_of Put key value))) (sym (before_is key))

-- the room that a key keeps, or a new one
pub room_is : (o : Option Cell) (size : ℕ) → 0 < size → ss.room_after o size ≡ cond (keeps size (room_of o)) (room_of o) size
room_is (Some cell) size some = refl
room_is None size some = by (nat_le size 0) refl
  where
    by : (b : Bool) → nat_le size 0 ≡ b → size ≡ cond (keeps size 0) 0 size
    by true le = absurd (let is = leb-true size 0 le in omega (arith, is, some))
    by false gt = sym (ap (λ b. cond (b && nat_le 0 (2 * size + largest_item)) 0 size) gt)

-- The page

-- the room behind one deed
abbrev pub room_by : List ℕ → Shelf → Deed → ℕ → ℕ
room_by key shelf deed room = if is_some ((left_after deed shelf).items key) then room_then key (written shelf deed) room else 0

pub room_append : (key : List ℕ) (shelf : Shelf) (room : ℕ) (xs ys : List Done) → room_in key shelf room (xs ++ ys) ≡ room_in key (shelf_in shelf xs) (room_in key shelf room xs) ys
room_append key shelf room [] ys = refl
room_append key shelf room (x ∷ xs) ys = room_append key (left_after x.deed shelf) (room_by key shelf x.deed room) xs ys

pub writes_append : (shelf : Shelf) (xs ys : List Done) → writes_in shelf (xs ++ ys) ≡ writes_in shelf xs + writes_in (shelf_in shelf xs) ys
writes_append shelf [] ys = omega arith
writes_append shelf (x ∷ xs) ys = let later = writes_append (left_after x.deed shelf) xs ys in omega (arith, later)

pub shelf_append : (shelf : Shelf) (xs ys : List Done) → shelf_in shelf (xs ++ ys) ≡ shelf_in (shelf_in shelf xs) ys
shelf_append shelf [] ys = refl
shelf_append shelf (x ∷ xs) ys = shelf_append (left_after x.deed shelf) xs ys

pub at_each_append : (P : List Done → Deed → Type 0) (earlier xs ys : List Done) → AtEach P earlier xs → AtEach P (earlier ++ xs) ys → AtEach P earlier (xs ++ ys)
at_each_append P earlier [] ys first later = subst (λ e. AtEach P e ys) (append-nil earlier) later
at_each_append P earlier (x ∷ xs) ys first later =
    (first.0, at_each_append P (earlier ++ x ∷ []) xs ys first.1 (subst (λ e. AtEach P e ys) (sym (append_assoc earlier (x ∷ []) xs)) later))

pub left_is : (served : Served) (shelf : Shelf) (deeds : List Deed) → shelf_in shelf (map (done_by served) deeds) ≡ left_by shelf deeds
left_is served shelf [] = refl
left_is served shelf (d ∷ deeds) = left_is served (left_after d shelf) deeds

-- where nothing is stored
pub same_room : (key : List ℕ) (one : Written) (room : ℕ) → one.words ≡ 0 → room_then key one room ≡ room
same_room key one room is = ap (λ n. cond (n == 0 || not (bytes_eq one.key key) || keeps n room) room n) is

-- or under another key
pub other_room : (key : List ℕ) (one : Written) (room : ℕ) → bytes_eq one.key key ≡ false → room_then key one room ≡ room
other_room key one room differ = by (one.words == 0) (bytes_eq one.key key) differ
  where
    by : (none own : Bool) → own ≡ false → cond (none || not own || keeps one.words room) room one.words ≡ room
    by true own is = refl
    by false own is = ap (λ b. cond (not b || keeps one.words room) room one.words) is

-- of its own
pub own_room : (key : List ℕ) (one : Written) (room : ℕ) → (one.words == 0) ≡ false → bytes_eq one.key key ≡ true → room_then key one room ≡ cond (keeps one.words room) room one.words
own_room key one room some same =
    ap (λ b. cond (b || not (bytes_eq one.key key) || keeps one.words room) room one.words) some ∙ ap (λ b. cond (not b || keeps one.words room) room one.words) same
