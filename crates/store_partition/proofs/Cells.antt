-- What a write makes of the machine's cells: one key has another cell, or none.
use Rattle.std.proofs.lemmas.Grind.{common_steps}
use Rattle.mica_words.specs.declared.hashing.Hashing.{Hashing}
use Rattle.partition_model.specs.StoreStep as ss
use Rattle.store_partition.proofs.Words.{Add, Cell, Cells, Del, GivesValue, List, None, Op, Option, Put, Some, Touch, Store, Write, ap, arith, bucket_of, cond}
use Rattle.store_partition.proofs.Words.{eq_by_cmp_equiv, get, get-insert, get-remove, insert, is_some, keys_in, keys_over, len, len-insert}
use Rattle.store_partition.proofs.Words.{len-remove, less_here, less_others, nat_list_cmp_total, new_here, new_others, refl, remove, remove_none}
use Rattle.store_partition.proofs.Words.{room_of, rooms, rooms_insert, rooms_remove, size_of, subst, sym, ℕ, ◌+◌, ◌-◌, ◌<◌, ◌∙◌, ◌≡◌, ◌≢◌}

-- how many cells these are
abbrev pub one_or_none : Option Cell → ℕ
one_or_none had = cond (is_some had) 1 0

-- the numbers of keys and of room words, where a key of the bucket had this and now has that
pub record Exchanges (hashing : Hashing) (buckets b : ℕ) (cells later : Cells) (had has : Option Cell) : Type 0 where
  pub here : keys_in hashing buckets b later + one_or_none had ≡ keys_in hashing buckets b cells + one_or_none has
  pub there : (c : ℕ) → c ≢ b → keys_in hashing buckets c later ≡ keys_in hashing buckets c cells
  pub all : len later ≡ len cells + one_or_none has - one_or_none had
  pub room : rooms later + room_of had ≡ rooms cells + room_of has

module _ (hashing : Hashing) (buckets b : ℕ) (cells : Cells) (key : List ℕ) (here : b ≡ bucket_of hashing key buckets) (low : b < buckets) where
  inserted : (cell : Cell) (had : Option Cell) → get cells key ≡ had → Exchanges hashing buckets b cells (insert cells key cell) had (Some cell)
  inserted cell None none =
      let more = len-insert nat_list_cmp_total cells key cell ∙ ap (λ z. cond (is_some z) (len cells) (len cells + 1)) none in record {
        here = omega (arith, new_here hashing buckets b cells key here low cell none);
        there = new_others hashing buckets b cells key here low cell none;
        all = omega (arith, more);
        room = omega (arith, rooms_insert cells key cell, ap room_of none);
      }
  inserted cell (Some old) has =
      let same = len-insert nat_list_cmp_total cells key cell ∙ ap (λ z. cond (is_some z) (len cells) (len cells + 1)) has in record {
        here = omega (arith, keys_over hashing buckets b cells key old cell has);
        there = λ c other. keys_over hashing buckets c cells key old cell has;
        all = omega (arith, same);
        room = omega (arith, rooms_insert cells key cell, ap room_of has);
      }

  deleted : (had : Option Cell) → get cells key ≡ had → Exchanges hashing buckets b cells (remove cells key) had None
  deleted None none = grind (arith, common_steps, remove_none cells key none)
  deleted (Some old) has =
      let fewer = len-remove nat_list_cmp_total cells key ∙ ap (λ z. cond (is_some z) (len cells - 1) (len cells)) has in record {
        here = omega (arith, less_here hashing buckets b cells key here low old has);
        there = less_others hashing buckets b cells key here low old has;
        all = omega (arith, fewer);
        room = omega (arith, rooms_remove cells key, ap room_of has);
      }

-- the cell that a put gives its key
abbrev pub cell_put : Store → Write → Cell
cell_put s w = record { value = w.value; room = ss.room_after (get s.cells w.key) (size_of w) }

-- the cell that a write leaves its key, if it does
abbrev pub cell_left : Op → Store → Write → Option Cell
cell_left Put s w = Some (cell_put s w)
cell_left Add s w = Some (cell_put s w)
cell_left Touch s w = get s.cells w.key
cell_left Del s w = None

-- what a write that gives a value does
pub cell_given : (op : Op) (s : Store) (w : Write) → GivesValue op → cell_left op s w ≡ Some (cell_put s w)
cell_given op s w gives = grind (arith, common_steps)

-- and one that gives none leaves a key without a cell so
pub none_left : (op : Op) (s : Store) (w : Write) → ¬ (GivesValue op) → get s.cells w.key ≡ None → cell_left op s w ≡ None
none_left op s w other none = grind (arith, common_steps)

left_put : (s : Store) (w : Write) → get (ss.after_put s w).cells w.key ≡ Some (cell_put s w)
left_put s w = get-insert nat_list_cmp_total s.cells w.key (cell_put s w) w.key
    ∙ ap (λ b. cond b (Some (cell_put s w)) (get s.cells w.key)) ((eq_by_cmp_equiv nat_list_cmp_total).refl w.key)

left_by : (op : Op) (s : Store) (w : Write) → get (ss.after_op op s w).cells w.key ≡ cell_left op s w
left_by Put s w = left_put s w
left_by Add s w = left_put s w
left_by Touch s w = refl
left_by Del s w = get-remove nat_list_cmp_total s.cells w.key w.key ∙ ap (λ b. cond b None (get s.cells w.key)) ((eq_by_cmp_equiv nat_list_cmp_total).refl w.key)

pub left : (s : Store) (w : Write) → get (ss.after s w).cells w.key ≡ cell_left w.op s w
unfolding ss.after
left s w = left_by w.op s w

module _ (hashing : Hashing) (buckets b : ℕ) (s : Store) (w : Write) (here : b ≡ bucket_of hashing w.key buckets) (low : b < buckets) where
  exchanges_by : (op : Op) → Exchanges hashing buckets b s.cells (ss.after_op op s w).cells (get s.cells w.key) (cell_left op s w)
  exchanges_by Put = inserted hashing buckets b s.cells w.key here low _ (get s.cells w.key) refl
  exchanges_by Add = inserted hashing buckets b s.cells w.key here low _ (get s.cells w.key) refl
  exchanges_by Touch = record { here = refl; there = λ c other. refl; all = omega arith; room = refl }
  exchanges_by Del = deleted hashing buckets b s.cells w.key here low (get s.cells w.key) refl

  pub exchanges : Exchanges hashing buckets b s.cells (ss.after s w).cells (get s.cells w.key) (get (ss.after s w).cells w.key)
  unfolding ss.after
  exchanges = subst (Exchanges hashing buckets b s.cells (ss.after s w).cells (get s.cells w.key)) (sym (left s w)) (exchanges_by w.op)
