-- A partition between two writes: what its entries tell of the machine's cells and of the heap's blocks, what they answer to a get, and which
-- outcomes the machine allows a put or an add.
use Rattle.std.proofs.lemmas.Grind.{common_steps}
use Rattle.partition_words.proofs.Differing.{AllDiffer, differ_apart, differ_moved}
use Rattle.store_partition.proofs.Words.{SLOTS, Add, Allows, Bool, Exists, IsSome, AreBytes, AreParts, Block, Cell, Contains, Contains-append_right, Contains-get_or}
use Rattle.store_partition.proofs.Words.{Contains-permutation, Has, HasKey, HasNoSpot, Index, IsBlockList, IsBucket, IsMain, IsPermutation}
use Rattle.store_partition.proofs.Words.{IsPermutation-refl, IsPermutation-sym, IsSpotOf, Kept, List, ListStands, MayGive, None, Option, Outcome}
use Rattle.store_partition.proofs.Words.{OwnerState, RoomsApart, Some, Spells, Spot, Store, Write, [], accepted_in, accepted_is_length, ap, arith, at}
use Rattle.store_partition.proofs.Words.{bucket_at, bucket_in, cells_of, chain_inside, chained, entries_of, entry_offset, entry_tag, get}
use Rattle.store_partition.proofs.Words.{get_or_default, has_its_key, item_at, keys_in, len, length, listed, main_of, entry_there}
use Rattle.store_partition.proofs.Words.{is_within, view, place_in_chain, only_key, options_in, refl, room_in, room_is, rooms, same_Some, spelt_key}
use Rattle.store_partition.proofs.Words.{spot_at, spot_entry, stands_idle, state_in, store_state, stored_in, subst, sym, used_block, used_blocks}
use Rattle.store_partition.proofs.Words.{words_of, ℕ, ◌%◌, ◌++◌, ◌+◌, ◌/◌, ◌<◌, ◌^◌, ◌∙◌, ◌∷◌, ◌≡◌, ◌≢◌, ◌≤◌, HasItem, IsItem, IsValueAt, answer_of}
use Rattle.store_partition.proofs.Words.{option_map, value_in, FullBlock, FullSpare, IsOwnerStep, IsSomeAnd, IsTaken, LacksPlace, MayLack, GivesValue, Op, Replaces}
use Rattle.store_partition.proofs.Words.{Stored, free_spares, inl, inr, item_size, nil_from_length, refused_step, spares_in_use, subst₂}
use Rattle.store_partition.proofs.Words.{false, true}
use Rattle.store_partition.proofs.Words.{sum_by_popped, used_blocks-taken, words_of-fills, words_parted, write_of}
use Rattle.store_partition.proofs.Words.{block_within, same_or_apart}
use Rattle.store_partition.proofs.Lists.{nothing, once_by, single, added, list_on}
use Rattle.store_partition.proofs.Cells.{one_or_none}
use Rattle.circular_log.proofs.SpeltItem.{spelt_item}
use Rattle.partition_model.specs.StoreStep as ss
use Rattle.partition_model.specs.Rooms.{keeps}
use Rattle.std.proofs.lemmas.Bool.{and_left, lt-leb}
use Rattle.std.proofs.lemmas.Bool.Decides.{nat_tests}
use Rattle.mica_words.specs.Item.{largest_item}
use Rattle.std.specs.Prelude.{nat_le, ◌*◌}

-- an owner's state, with the index and the blocks that go with it
pub record Held : Type 0 where
  pub o : OwnerState
  pub kept : Kept o
  pub index : Index
  pub blocks : List Block
  pub parts : AreParts index blocks o

-- the room of the item that the entry names is a used block
abbrev pub HasBlock : OwnerState → List Block → ℕ → Type 0
HasBlock o blocks x = Contains (used_blocks blocks) (used_block (entry_offset x) (room_in o x))

-- an entry of a chain that spells another key than this one
pub record IsOther (h : Held) (key : List ℕ) (c x : ℕ) : Type 0 where
  pub main : IsMain h.o.shape c
  pub among : Contains (entries_of h.o c) x
  pub own : List ℕ
  pub cell : Cell
  pub spells : Spells h.o c x own cell
  pub differs : own ≢ key

-- no other key's item lies where one of these blocks begins
abbrev pub AreOwn : Held → List ℕ → List Block → Type 0
AreOwn h key blocks = (y : Block) → Contains blocks y → (c x : ℕ) → IsOther h key c x → y.place ≢ entry_offset x

pub main_at : (o : OwnerState) → Kept o → (key : List ℕ) (b : ℕ) → b ≡ bucket_in o key → IsMain o.shape b
main_at o s key b here = subst (IsMain o.shape) (sym here) (main_of o s key)

-- numbers within the heap that name one word are one
pub same_word : (o : OwnerState) (p q : ℕ) → p < o.shape.words → q < o.shape.words → item_at o.shape p ≡ item_at o.shape q → p ≡ q
same_word o p q less less' same = grind (arith, common_steps)

-- rooms that are blocks at different places share no word
pub rooms_apart : (o : OwnerState) (blocks : List Block) → IsBlockList o.shape.words blocks → (x x' : ℕ) → HasBlock o blocks x → HasBlock o blocks x'
    → entry_offset x ≢ entry_offset x' → RoomsApart o x x'
rooms_apart o blocks list x x' has has' differ q i i' =
    let within = block_within o.shape.words blocks list (entry_offset x) (room_in o x) has in
    let within' = block_within o.shape.words blocks list (entry_offset x') (room_in o x') has' in
    let same = same_word o (entry_offset x + i.0) (entry_offset x' + i'.0) (omega (arith, i.1)) (omega (arith, i'.1)) (i.2 ∙ sym i'.2) in
    let apart = same_or_apart o.shape.words blocks list (used_block (entry_offset x) (room_in o x))
    (used_block (entry_offset x') (room_in o x')) has has' in
    grind (arith, i.1, i'.1)

-- the entries of a chain, by what the words stand for
module _ (o : OwnerState) (c : ℕ) (list : ListStands o c) where
  stands_at : (x : ℕ) (has : Contains (entries_of o c) x) → at (entries_of o c) has.0 ≡ x
  stands_at x has = get_or_default (entries_of o c) has.0 0 x has.1 ∙ has.2

  pub spelt : (x : ℕ) → Contains (entries_of o c) x → (key : List ℕ) × (cell : Cell) × Spells o c x key cell
  spelt x has =
      let some = list.nothing_else has.0 has.1 in
      (some.0, some.1, subst (λ e. Spells o c e some.0 some.1) (stands_at x has) some.2)

  pub each : (key : List ℕ) (cell : Cell) (q : ℕ) → bucket_in o key ≡ c → Has (state_in o) key cell q → (x : ℕ) × Contains (entries_of o c) x × Spells o c x key cell
  each key cell q is has = grind (arith, common_steps)

  pub one_entry : (x x' : ℕ) (key : List ℕ) (cell : Cell) → Contains (entries_of o c) x → Contains (entries_of o c) x' → Spells o c x key cell → Spells o c x' key cell → x ≡ x'
  one_entry x x' key cell has has' sp sp' = grind (arith, common_steps, stands_at x has, stands_at x' has', at (entries_of o c))

  pub once : AllDiffer (entries_of o c)
  once =
      grind (arith, common_steps, once_by (entries_of o c) (λ i j l m same. let some = list.nothing_else i l in list.once i j some.0 some.1 l m some.2 (subst (λ e. Spells o c e some.0 some.1) same some.2)))

module _ (h : Held) where
  pub store_at : (s : Store) × (state_in h.o ≡ store_state s)
  store_at = stored_in (options_in h.o) h.parts.mode h.o.history

  abbrev pub m : Store
  m = store_at.0

  pub before : state_in h.o ≡ store_state m
  before = store_at.1

  pub has_cell : (key : List ℕ) (cell : Cell) (q : ℕ) → Has (state_in h.o) key cell q → get m.cells key ≡ Some cell
  has_cell key cell q has = subst (λ z. Has z key cell q) before has

  pub stood : (c : ℕ) → IsMain h.o.shape c → ListStands h.o c
  stood c l = listed h.o (chained h.o h.kept) h.parts.mode h.index h.parts.known c l (stands_idle h.o h.kept h.parts.idle c l)

  pub used : (c : ℕ) → IsMain h.o.shape c → (x : ℕ) → Contains (entries_of h.o c) x → HasBlock h.o h.blocks x
  used c l x has = subst (HasBlock h.o h.blocks) (get_or_default (entries_of h.o c) has.0 0 x has.1 ∙ has.2) (h.parts.used c l has.0 has.1)

  pub within : (c : ℕ) → IsMain h.o.shape c → (x : ℕ) → Contains (entries_of h.o c) x → entry_offset x + room_in h.o x ≤ h.o.shape.words
  within c l x has = block_within h.o.shape.words h.blocks h.parts.list (entry_offset x) (room_in h.o x) (used c l x has)

  other : (key : List ℕ) (c : ℕ) → IsMain h.o.shape c → (x : ℕ) → Contains (entries_of h.o c) x → ((cell : Cell) → Spells h.o c x key cell → ⊥) → IsOther h key c x
  other key c l x has none =
      let some = spelt h.o c (stood c l) x has in record {
        main = l;
        among = has;
        own = some.0;
        cell = some.1;
        spells = some.2;
        differs = λ same. none some.1 (subst (λ k. Spells h.o c x k some.1) same some.2);
      }

  -- The numbers of keys and blocks

  pub as_keys : (c : ℕ) → IsMain h.o.shape c → length (entries_of h.o c) ≡ keys_in h.o.shape.hashing h.o.shape.buckets c m.cells
  as_keys c l = h.parts.entries c l ∙ ap (keys_in h.o.shape.hashing h.o.shape.buckets c) (ap cells_of before)

  pub as_cells : length (used_blocks h.blocks) ≡ len m.cells
  as_cells = h.parts.count ∙ ap len (ap cells_of before)

  pub as_rooms : words_of (used_blocks h.blocks) ≡ rooms m.cells
  as_rooms = h.parts.words ∙ ap rooms (ap cells_of before)

  -- Outcomes

  pub not_worn : length h.o.history < h.o.shape.wear → ¬ (h.o.shape.wear ≤ m.accepted)
  not_worn unworn worn = omega (arith, ap accepted_in before, accepted_is_length (options_in h.o) h.o.history)

  pub may_give : (w : Write) (outcome : Outcome) → Allows (options_in h.o) (store_state m) w outcome → MayGive (options_in h.o) h.o.history w outcome
  may_give w outcome allowed = subst (λ z. Allows (options_in h.o) z w outcome) (sym before) allowed

-- the key's own entry, if it has one, and the other entries of its chain
pub record Split (h : Held) (key : List ℕ) (b : ℕ) (own rest : List ℕ) : Type 0 where
  pub lists : IsPermutation (entries_of h.o b) (own ++ rest)
  pub long : length own ≡ one_or_none (get (m h).cells key)
  pub its : (x : ℕ) → Contains own x → (cell : Cell) × Spells h.o b x key cell
  pub others : (x : ℕ) → Contains rest x → IsOther h key b x

-- A key that has an entry, in this spot.
pub record Known (h : Held) (key : List ℕ) (b : ℕ) (spot : Spot) : Type 0 where
  pub found : IsSpotOf h.o b key spot
  pub inside : IsBucket h.o.shape spot.bucket × (spot.slot < SLOTS)
  pub cell : Cell
  pub has : get (m h).cells key ≡ Some cell
  pub room : room_in h.o (spot_entry h.o spot) ≡ cell.room
  pub some : 0 < cell.room
  pub block : HasBlock h.o h.blocks (spot_entry h.o spot)
  pub within : entry_offset (spot_entry h.o spot) + cell.room ≤ h.o.shape.words
  pub small : entry_offset (spot_entry h.o spot) < 2 ^ 32
  pub spells : Spells h.o b (spot_entry h.o spot) key cell
  pub among : Contains (entries_of h.o b) (spot_entry h.o spot)
  pub split : (rest : List ℕ) → IsPermutation (entries_of h.o b) (spot_entry h.o spot ∷ rest) → Split h key b (spot_entry h.o spot ∷ []) rest
  pub elsewhere : (c x : ℕ) → IsOther h key c x → entry_offset (spot_entry h.o spot) ≢ entry_offset x

-- the entries of a key
module _ (h : Held) (key : List ℕ) (b : ℕ) (here : b ≡ bucket_in h.o key) where
  abbrev xs : List ℕ
  xs = entries_of h.o b

  main : IsMain h.o.shape b
  main = main_at h.o h.kept key b here

  pub other_bucket : (c x : ℕ) → IsMain h.o.shape c → Contains (entries_of h.o c) x → c ≢ b → IsOther h key c x
  other_bucket c x l has n = other h key c l x has (λ cell sp. n (sym sp.bucket ∙ sym here))

  -- where it has one
  module _ (bytes : AreBytes key) (spot : Spot) (found : IsSpotOf h.o b key spot) where
    abbrev e : ℕ
    e = spot_entry h.o spot

    there : Contains xs e
    there = subst (Contains xs) (entry_there h.o h.index b (view h.o (chained h.o h.kept) h.index h.parts.known b main) spot found.used)
        (Contains-get_or xs (place_in_chain h.o b spot) 0
        (is_within h.o h.index b (view h.o (chained h.o h.kept) h.index h.parts.known b main) spot found.used))

    own : (cell : Cell) × Spells h.o b e key cell
    own = spelt_key h.o h.kept b e key bytes found.item (spelt h.o b (stood h b main) e there)

    has_own : get (m h).cells key ≡ Some own.0
    has_own = has_cell h key own.0 (entry_offset e) own.1.has

    others : (x : ℕ) → Contains xs x → x ≢ e → IsOther h key b x
    others x has differ = other h key b main x has (λ cell sp.
        let is = same_Some cell own.0 (sym (has_cell h key cell (entry_offset x) sp.has) ∙ has_own) in
        differ (one_entry h.o b (stood h b main) x e key own.0 has there (subst (λ z. Spells h.o b x key z) is sp) own.1))

    pub known : Known h key b spot
    known =
        let room = room_is h.o h.kept b e key own.0 own.1 in record {
          found = found;
          inside = (chain_inside h.o (chained h.o h.kept) b spot.bucket main found.used.in_chain, found.used.in_bucket);
          cell = own.0;
          has = has_own;
          room = room;
          some = omega (arith, own.1.in_room);
          block = used h b main e there;
          within = omega (arith, within h b main e there, room);
          small = omega (arith, within h b main e there, own.1.in_room, room, h.kept.shape.ranges.words);
          spells = own.1;
          among = there;
          split = λ rest lists. record {
            lists = lists;
            long = sym (ap one_or_none has_own);
            its = λ x has. (own.0, subst (λ z. Spells h.o b z key own.0) (single e x has) own.1);
            others = λ x has. others x (Contains-permutation (e ∷ rest) xs x (IsPermutation-sym _ _ lists) (Contains-append_right (e ∷ []) rest x has))
                (λ same. differ_apart (e ∷ []) rest (differ_moved xs (e ∷ rest) lists (once h.o b (stood h b main))) x
                (0, omega arith, sym same) has);
          };
          elsewhere = λ c x other same. other.differs (sym (only_key h.o h.kept b c e x key other.own own.0 other.cell own.1 other.spells same));
        }

  -- where it has none
  module _ (none : HasNoSpot h.o b key) where
    all_others : (x : ℕ) → Contains xs x → IsOther h key b x
    all_others x has = other h key b main x has (λ cell sp.
        let there = spot_at h.o (chained h.o h.kept) h.parts.mode h.index h.parts.known b main has.0 has.1 in
        let is = there.live.found ∙ (get_or_default xs has.0 0 x has.1 ∙ has.2) in
        none (record { bucket = bucket_at h.o (has.0 / SLOTS) b; slot = has.0 % SLOTS }) record {
          used = record { in_chain = there.live.in_chain; in_bucket = there.live.in_bucket; used = λ empty. there.live.live.0 (sym there.live.found ∙ empty) };
          tag = ap entry_tag is ∙ sp.tag;
          item = subst (λ z. HasKey h.o (entry_offset z) key) (sym is) (has_its_key h.o h.kept b x key cell sp);
        })

    pub has_none : get (m h).cells key ≡ None
    has_none = by_cell (get (m h).cells key) refl
      where
        by_cell : (found : Option Cell) → get (m h).cells key ≡ found → found ≡ None
        by_cell None is = refl
        by_cell (Some cell) is =
            let found = each h.o b (stood h b main) key cell 0 (sym here) (subst (λ z. Has z key cell 0) (sym (before h)) is) in
            let one = all_others found.0 found.1 in
            absurd (one.differs (only_key h.o h.kept b b found.0 found.0 one.own key one.cell cell one.spells found.2 refl))

    pub split_none : Split h key b [] xs
    split_none = record { lists = IsPermutation-refl xs; long = sym (ap one_or_none has_none); its = λ x has. nothing x has; others = all_others }

-- What the words answer to a get

module _ (h : Held) (key : List ℕ) (b : ℕ) where
  answer : answer_of (options_in h.o) h.o.history key ≡ option_map (λ cell. cell.value) (get (m h).cells key)
  answer = ap (λ z. value_in z key) (before h)

  module _ (spot : Spot) (k : Known h key b spot) where
    is_item : IsItem h.o (entry_offset (spot_entry h.o spot)) key k.cell
    is_item = spelt_item h.o h.kept b (spot_entry h.o spot) key k.cell k.spells

    pub has_item : HasItem h.o (entry_offset (spot_entry h.o spot))
    has_item = (key, k.cell, is_item)

    pub answer_some : (out : List ℕ) → IsValueAt h.o (entry_offset (spot_entry h.o spot)) out → answer_of (options_in h.o) h.o.history key ≡ Some out
    answer_some out is = answer ∙ (ap (option_map (λ cell. cell.value)) k.has ∙ ap Some (sym (is key k.cell is_item)))

  pub answer_none : b ≡ bucket_in h.o key → HasNoSpot h.o b key → answer_of (options_in h.o) h.o.history key ≡ None
  answer_none here none = answer ∙ ap (option_map (λ cell. cell.value)) (has_none h key b here none)

-- Which outcomes the machine allows a put or an add: stored in the room that the key has or in a block, or refused since no spare bucket or no block is free

module _ (h : Held) (op : Op) (gives : GivesValue op) (key value : List ℕ) (b : ℕ) (here : b ≡ bucket_in h.o key) where
  abbrev w : Write
  w = write_of op key value

  abbrev size : ℕ
  size = item_size key value

  -- where a chain has no place, the machine's spares are in use, and the other way round

  counted : length h.index.free + spares_in_use h.o.shape.hashing h.o.shape.buckets (m h).cells ≡ h.o.shape.spares
  counted = free_spares h.o (chained h.o h.kept) h.index h.parts.known (m h).cells (as_keys h)

  own_keys : length (entries_of h.o b) ≡ keys_in h.o.shape.hashing h.o.shape.buckets (bucket_in h.o key) (m h).cells
  own_keys = as_keys h b (main_at h.o h.kept key b here) ∙ ap (λ c. keys_in h.o.shape.hashing h.o.shape.buckets c (m h).cells) here

  lacks_place : ss.NeedsSpare (options_in h.o) (m h) key → LacksPlace h.index h.o b
  lacks_place needs = grind (arith, common_steps, own_keys, nil_from_length h.index.free (let left = needs.none_left in let all = counted in omega arith), counted)

  -- which of them need a block

  pub grown_needs : Replaces op → (spot : Spot) → Known h key b spot → room_in h.o (spot_entry h.o spot) < size → ss.NeedsBlock (options_in h.o) (m h) w
  grown_needs replaces spot k grows = grind (arith, common_steps)

  pub new_needs : HasNoSpot h.o b key → ¬ (LacksPlace h.index h.o b) → ss.NeedsBlock (options_in h.o) (m h) w
  new_needs none places = grind (arith, common_steps, has_none h key b here none, lacks_place)

  -- before the partition is worn
  module _ (unworn : length h.o.history < h.o.shape.wear) where
    pub stored_in_room : Replaces op → (spot : Spot) (k : Known h key b spot) → size ≤ k.cell.room → Allows (options_in h.o) (store_state (m h)) w Stored
    stored_in_room replaces spot k fits = (not_worn h unworn, ((gives, inl replaces), inl (subst (λ z. IsSomeAnd z (λ cell. size ≤ cell.room)) (sym k.has) fits)))

    pub stored_taken : ss.NeedsBlock (options_in h.o) (m h) w → (blocks : List Block) (place : ℕ) → IsTaken h.blocks blocks place size → IsBlockList (words_of h.blocks) blocks
        → Allows (options_in h.o) (store_state (m h)) w Stored
    stored_taken needs blocks place taken list =
        let more = sum_by_popped (λ (y : Block). y.size) _ _ _ (added _ _ _ (used_blocks-taken h.blocks blocks place size taken)) in
        let total = words_of-fills 0 h.o.shape.words blocks (list_on h.o.shape.words h.blocks blocks h.parts.list list).fills in
        (not_worn h unworn, (needs.stores, inr (needs, omega (arith, words_parted blocks, as_rooms h))))

    pub full_spare : HasNoSpot h.o b key → LacksPlace h.index h.o b → IsOwnerStep h.o h.o w FullSpare
    full_spare none lacks =
        grind (arith, common_steps, has_none h key b here none, own_keys, counted, refused_step h.o h.parts.idle w FullSpare refl, may_give h w FullSpare, not_worn h unworn)

    pub full_block : ss.NeedsBlock (options_in h.o) (m h) w → MayLack h.blocks size → IsOwnerStep h.o h.o w FullBlock
    full_block needs lack =
        grind (arith, common_steps, words_of (used_blocks h.blocks), words_of-fills 0, refused_step h.o h.parts.idle w FullBlock refl, may_give h w FullBlock, not_worn h unworn, subst₂, as_cells h, as_rooms h)

-- an add of a key that has an item is refused
pub already : (h : Held) (key value : List ℕ) (b : ℕ) (spot : Spot) → Known h key b spot → length h.o.history < h.o.shape.wear
    → IsOwnerStep h.o h.o (write_of Add key value) Exists
already h key value b spot k unworn = refused_step h.o h.parts.idle (write_of Add key value) Exists refl
    (may_give h (write_of Add key value) Exists (not_worn h unworn, (refl, subst IsSome (sym k.has) refl)))

-- an item keeps no room that it does not fit, and fits the one that it keeps; one that it fits and does not keep is longer
pub not_kept : (size room : ℕ) → room < size → keeps size room ≡ false
not_kept size room short = and_left (nat_le size room) (nat_le room (2 * size + largest_item)) (lt-leb size room short)

pub fits_kept : (size room : ℕ) → keeps size room ≡ true → size ≤ room
fits_kept size room is = grind (arith, nat_tests, common_steps)

pub is_longer : (size room : ℕ) → size ≤ room → keeps size room ≡ false → size < room
is_longer size room fits not = grind (arith, nat_tests, common_steps)

-- a test that tells where a number is reached tells where it is not
pub not_reached : (most n : ℕ) (test : Bool) → (most ≤ n → test ≡ true) → test ≡ false → n < most
not_reached most n test reached not = grind (arith, common_steps)
