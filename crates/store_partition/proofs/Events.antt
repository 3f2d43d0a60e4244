-- The events of a write: when each may happen, what it makes of its key's entry and block, and the one theorem of all writes: after it the words
-- of its bucket stand for the machine's state, and the index and the heap are the partition's once it has ended.
use Rattle.std.proofs.lemmas.Grind.{common_steps}
use Rattle.partition_model.specs.StoreStep as ss
use Rattle.store_partition.proofs.Words.{AcceptedWrite, Allows, AreParts, Begins, Block, Ends, Index, IsBucket, IsIndexOf, IsMain, IsOwnerStep}
use Rattle.store_partition.proofs.Words.{IsUsed, IsWrite, Keeps, Kept, List, Marked, MayBegin, MayEnd, MayMark, Outcome, OwnerState, Spot, StandsFor}
use Rattle.store_partition.proofs.Words.{WhenMarked, Write, [], after, after_event, all_more, all_on, ap, at, bit_same, bucket_in, chain_inside}
use Rattle.store_partition.proofs.Words.{chained, ended_step, entries_of, entries_stay, entry_offset, header_room, index_stays, is_accepted, item_at}
use Rattle.store_partition.proofs.Words.{item_in, item_no_epoch, kept_marked, length, length-set, length_push, marked, marked_entry, marked_in}
use Rattle.store_partition.proofs.Words.{marked_in_bucket, marked_item, marked_link, may_begin, may_mark, entry_there, is_within, view, place_in_chain}
use Rattle.store_partition.proofs.Words.{options_in, other_word, refl, room_in, spot_entry, stamp_in, stamp_is_length, stamp_of, state_in, state_snoc}
use Rattle.store_partition.proofs.Words.{store_state, subst, subst₂, sym, true, written, written_state, ℕ, ◌++◌, ◌+◌, ◌<◌, ◌↔◌, ◌∙◌, ◌∷◌, ◌≡◌, Cell}
use Rattle.store_partition.proofs.Words.{Cells, ChangesChain, Contains, Contains-append_cases, Contains-append_left, Contains-append_right}
use Rattle.store_partition.proofs.Words.{Contains-get_or, Contains-permutation, Has, IsPermutation, IsPermutation-sym, RoomsApart, Some, Spells}
use Rattle.store_partition.proofs.Words.{arith, cells_of, dite, get, get_or_default, index_ends, entries_ends, inl, inr, keys_in, len, length-append}
use Rattle.store_partition.proofs.Words.{length_permutation, only_key, others_same, room_of, room_same, rooms, same_cell, same_or_other, spells_on}
use Rattle.store_partition.proofs.Words.{stands_by, sum_by-IsPermutation, used_block, used_blocks, words_of, words_of-append, ℕ_discrete, ◌≢◌, ◌≤◌}
use Rattle.store_partition.proofs.Words.{◌⊎◌}
use Rattle.chained_index.proofs.Filled.{SameBucket}
use Rattle.store_partition.proofs.Held.{AreOwn, Held, IsOther, before, m, main_at, may_give, HasBlock, Split, as_cells, as_keys, as_rooms, each, has_cell}
use Rattle.store_partition.proofs.Held.{once, one_entry, other_bucket, rooms_apart, stood, used}
use Rattle.partition_words.proofs.Differing.{AllDiffer, differ_joined, differ_last, differ_moved, one_place}
use Rattle.store_partition.proofs.Lists.{Heap, in_one}
use Rattle.store_partition.proofs.Cells.{exchanges, one_or_none}

-- what a write has made of the partition once it has ended: its step, and the facts that a partition goes by after so many writes
pub record Ended (o new : OwnerState) (index : Index) (blocks : List Block) (w : Write) (outcome : Outcome) (t : ℕ) : Type 0 where
  pub step : IsOwnerStep o new w outcome
  pub invariant :
      record { parts : ∥ AreParts index blocks new ∥₁; counted : t ≡ length new.history; stamped : t ≡ stamp_of (options_in new) new.history }

-- its first two events may happen
abbrev pub Opens : OwnerState → Write → ℕ → ℕ → Type 0
Opens o w b t = (o' : OwnerState) → o' ≡ o → record { begin : MayBegin o' b; mark : MayMark (after_event (Begins b) o') w t }

-- so may its last, and what it leaves, whichever heap that is
pub record Closes (o : OwnerState) (w : Write) (outcome : Outcome) (b t : ℕ) (index : Index) (Becomes : List Block → Type 0) (o4 : OwnerState) : Type 0 where
  pub end : MayEnd o4 b
  pub ended : (o5 : OwnerState) (blocks : List Block) → o5 ≡ after_event (Ends b) o4 → Becomes blocks → Ended o o5 index blocks w outcome t

-- the end of a write leaves the rooms
pub room_ends : (o : OwnerState) (b : ℕ) → IsMain o.shape b → (x : ℕ) → room_in (after_event (Ends b) o) x ≡ room_in o x
room_ends o b main x = ap header_room (other_word o (Ends b) (item_at o.shape (entry_offset x)) (item_no_epoch o.shape b (entry_offset x) main))

-- the stamp after a write more is the number of writes
pub stamp_more : (h : Held) (w : Write) → IsWrite w → length (h.o.history ++ w ∷ []) ≡ stamp_of (options_in h.o) (h.o.history ++ w ∷ [])
stamp_more h w is =
    let now = state_snoc (options_in h.o) h.o.history w ∙ ap (λ z. after (options_in h.o) z w) (before h) in
    sym (stamp_is_length (options_in h.o) (h.o.history ++ w ∷ []) (all_more IsWrite h.o.history w h.kept.history.writes is) (ss.after (m h) w) now) ∙ ap stamp_in (sym now)

-- a write that the machine accepts, after so many others
abbrev pub accepts : (h : Held) (w : Write) → IsWrite w → length h.o.history < h.o.shape.wear → (n : ℕ) → n ≡ length h.o.history
    → (outcome : Outcome) → is_accepted outcome ≡ true → Allows (options_in h.o) (store_state (m h)) w outcome → AcceptedWrite h.o
accepts h w is unworn n counted outcome accepted allowed = record {
  kept = h.kept;
  idle = h.parts.idle;
  unworn = unworn;
  w = w;
  is = is;
  outcome = outcome;
  accepted = accepted;
  may = may_give h w outcome allowed;
  t = n + 1;
  stamp = ap (λ k. k + 1) counted ∙ (sym (length_push h.o.history w) ∙ stamp_more h w is);
}

module _ (h : Held) (a : AcceptedWrite h.o) where
  pub now : (words : List ℕ) → state_in (written h.o a words) ≡ store_state (ss.after (m h) a.w)
  now words = written_state h.o a words ∙ ap (λ z. after (options_in h.o) z a.w) (before h)

  -- Before the index is changed: the chains and the items of other keys are as they were.
  pub record Base (b : ℕ) (o3 : OwnerState) : Type 0 where
    pub is : o3 ≡ written h.o a o3.words
    pub kept : Kept o3
    pub index : IsIndexOf h.index o3
    pub bit : marked_in o3.phase b ≡ 1
    pub mains : (c : ℕ) → IsMain h.o.shape c → IsMain o3.shape c
    pub entries : (c : ℕ) → IsMain h.o.shape c → entries_of o3 c ≡ entries_of h.o c
    pub spots : (spot : Spot) → IsUsed h.o b spot → IsUsed o3 b spot × (spot_entry o3 spot ≡ spot_entry h.o spot)
    pub keeps : (c x : ℕ) → IsOther h a.w.key c x → (i : ℕ) → i < room_in h.o x → item_in o3 (entry_offset x + i) ≡ item_in h.o (entry_offset x + i)

  module _ (b : ℕ) (here : b ≡ bucket_in h.o a.w.key) where
    pub main : IsMain h.o.shape b
    main = main_at h.o h.kept a.w.key b here

    pub may_open : Opens h.o a.w b a.t
    may_open o' same = grind (arith, common_steps, subst₂ MayBegin (sym same) (sym here) (may_begin h.o a), may_begin h.o a, subst₂, after_event, may_mark h.o a)

    pub base : (words : List ℕ) → length words ≡ length h.o.words → Kept (written h.o a words) →
        ((d : ℕ) → IsBucket h.o.shape d → SameBucket h.o (written h.o a words) d)
        → ((c x : ℕ) → IsOther h a.w.key c x → Keeps h.o a words x) → (o3 : OwnerState) → o3 ≡ written h.o a words → Base b o3
    base words long kept same keeps o3 at = subst (Base b) (sym at) record {
      is = refl;
      kept = kept;
      index = index_stays h.o words _ _ long (chained h.o h.kept) same h.index h.parts.known;
      bit = bit_same (bucket_in h.o a.w.key) b (sym here);
      mains = λ c l. l;
      entries = entries_stay h.o words _ _ long (chained h.o h.kept) same h.index h.parts.known;
      spots = λ spot used.
          let entry = (same spot.bucket (chain_inside h.o (chained h.o h.kept) b spot.bucket main used.in_chain)).entry spot.slot used.in_bucket in (
            record {
              in_chain = all_on h.o words (h.o.history ++ a.w ∷ []) (Marked (bucket_in h.o a.w.key) a.w h.o.history) long (chained h.o h.kept)
                  (λ d l. (same d l).link) b main spot.bucket used.in_chain;
              in_bucket = used.in_bucket;
              used = λ empty. used.used (sym entry ∙ empty);
            },
            entry,
          );
      keeps = keeps;
    }

    pub marked_at : (o2 : OwnerState) → o2 ≡ marked_in_bucket h.o b a.w a.t → o2 ≡ marked h.o a
    marked_at o2 at = at ∙ ap (λ c. marked_in_bucket h.o c a.w a.t) here

    pub marked_base : (o2 : OwnerState) → o2 ≡ marked_in_bucket h.o b a.w a.t → Base b o2
    marked_base o2 at = base (marked h.o a).words (length-set _ _ _ ∙ length-set h.o.words _ _) (kept_marked h.o a)
        (λ d l. record { link = marked_link h.o a d; entry = marked_entry h.o a d })
        (λ c x other i less. marked_item h.o a (entry_offset x + i)) o2 (marked_at o2 at)

    pub when_marked : (o3 : OwnerState) → Base b o3 → (F : ℕ → Type 0) → WhenMarked o3.phase (λ c write history. F c) ↔ F b
    when_marked o3 z F = grind (arith, common_steps)

    -- where the entry of a used spot stands
    module _ (o3 : OwnerState) (z : Base b o3) (spot : Spot) (used : IsUsed h.o b spot) where
      pub number_in : place_in_chain o3 b spot < length (entries_of o3 b)
      number_in = is_within o3 h.index b (view o3 (chained o3 z.kept) h.index z.index b (z.mains b main)) spot (z.spots spot used).0

      pub number_is : at (entries_of o3 b) (place_in_chain o3 b spot) ≡ spot_entry h.o spot
      number_is = entry_there o3 h.index b (view o3 (chained o3 z.kept) h.index z.index b (z.mains b main)) spot (z.spots spot used).0 ∙
          (z.spots spot used).1

    -- The end

    pub closes : (words : List ℕ) (index : Index) (Becomes : List Block → Type 0) → StandsFor (written h.o a words) b
        → ((blocks : List Block) → Becomes blocks → AreParts index blocks (after_event (Ends b) (written h.o a words))) → Closes h.o a.w a.outcome b a.t index Becomes (written h.o a words)
    closes words index Becomes stands parts =
        grind (arith, common_steps, marked, bit_same (bucket_in h.o a.w.key) b (sym here), bucket_in h.o a.w.key, stands, after_event, written h.o a words, ended_step h.o a words, stamp_more h a.w a.is)

-- What a write makes of its key's entry and block

-- the machine's cells after the write
abbrev pub later : (h : Held) → AcceptedWrite h.o → Cells
later h a = (ss.after (m h) a.w).cells

-- What goes and what comes: `own` is the key's entry before, `news` the one after it, and the blocks `taken`, `lost` and `given` are those of the heap.
pub record Exchange (h : Held) (a : AcceptedWrite h.o) (b : ℕ) (words ys : List ℕ) (blocks : List Block) (Becomes : List Block → Type 0) : Type 0 where
  pub own : List ℕ
  pub rest : List ℕ
  pub news : List ℕ
  pub taken : List Block
  pub lost : List Block
  pub given : List Block
  pub split : Split h a.w.key b own rest
  pub lists : IsPermutation ys (news ++ rest)
  pub few : length news ≤ 1
  pub long : length news ≡ one_or_none (get (later h a) a.w.key)
  pub spells : (x : ℕ) → Contains news x → (cell : Cell) × Spells (written h.o a words) b x a.w.key cell
  pub heap : Heap h.o.shape.words h.blocks blocks taken lost given Becomes
  pub housed : (x : ℕ) → Contains news x → HasBlock (written h.o a words) blocks x
  pub parted : AreOwn h a.w.key lost
  pub freed : AreOwn h a.w.key given
  pub apart : (y : Block) → Contains given y → (x : ℕ) → Contains news x → y.place ≢ entry_offset x
  pub count : length taken + length own ≡ length given + length lost + length news
  pub total : words_of taken + room_of (get (m h).cells a.w.key) ≡ words_of given + words_of lost + room_of (get (later h a) a.w.key)

-- with these words of the events, before the end
module _ (h : Held) (a : AcceptedWrite h.o) (b : ℕ) (here : b ≡ bucket_in h.o a.w.key) (words : List ℕ) where
  abbrev p : OwnerState
  p = written h.o a words

  has_now : (key : List ℕ) (cell : Cell) (q : ℕ) → Has (state_in p) key cell q → get (later h a) key ≡ Some cell
  has_now key cell q has = subst (λ z. Has z key cell q) (now h a words) has

  module _ (o3 : OwnerState) (z : Base h a b o3) (ys : List ℕ) (change : ChangesChain o3 p b ys) (kept : Kept p) (index : Index) (known : IsIndexOf index p)
      (blocks : List Block) (Becomes : List Block → Type 0) (e : Exchange h a b words ys blocks Becomes) where
    abbrev zs : List ℕ
    zs = entries_of p b

    chain_now : IsPermutation zs (e.news ++ e.rest)
    chain_now = subst (λ xs. IsPermutation xs (e.news ++ e.rest)) (sym change.entries) e.lists

    others_now : (c : ℕ) → IsMain h.o.shape c → c ≢ b → entries_of p c ≡ entries_of h.o c
    others_now c l n = (change.others c (z.mains c l) n).entries ∙ z.entries c l

    -- Another key's entry spells what it did, in its block

    module _ (c x : ℕ) (other : IsOther h a.w.key c x) where
      keeps : Keeps h.o a words x
      keeps i less = change.rest.items (entry_offset x + i) ∙ z.keeps c x other i less

      now_spells : Spells p c x other.own other.cell
      now_spells = spells_on h.o a words c x keeps other.own other.cell
          (subst (λ s. Has s other.own other.cell (entry_offset x)) (sym (now h a words))
          (others_same (m h) a.w other.own other.differs ∙ has_cell h other.own other.cell (entry_offset x) other.spells.has)) other.spells

      now_housed : HasBlock p blocks x
      now_housed =
          let block = used_block (entry_offset x) (room_in h.o x) in
          subst (λ n. Contains (used_blocks blocks) (used_block (entry_offset x) n)) (sym (room_same h.o a words x keeps (let fits = other.spells.in_room in omega arith)))
          (elim (Contains-append_cases e.lost (used_blocks blocks) block (Contains-permutation (e.taken ++ used_blocks h.blocks) (e.lost ++ used_blocks blocks) block (IsPermutation-sym _ _ e.heap.more)
          (Contains-append_right e.taken (used_blocks h.blocks) block (used h c other.main x other.among)))) [
            | inl gone ↦ absurd (e.parted block gone c x other refl)
            | inr stays ↦ stays
          ])

    -- The entries now: the write's own, and those of other keys

    abbrev Source : ℕ → ℕ → Type 0
    Source c x = ((c ≡ b) × Contains e.news x) ⊎ IsOther h a.w.key c x

    comes : (c : ℕ) → IsMain h.o.shape c → (x : ℕ) → Contains (entries_of p c) x → Source c x
    comes c l x has = dite (ℕ_discrete c b)
        (λ same. elim (Contains-append_cases e.news e.rest x (Contains-permutation zs (e.news ++ e.rest) x chain_now (subst (λ d. Contains (entries_of p d) x) same has))) [
          | inl new ↦ inl (same, new)
          | inr rest ↦ inr (subst (λ d. IsOther h a.w.key d x) (sym same) (e.split.others x rest))
        ])
        (λ n. inr (other_bucket h a.w.key b here c x l (subst (λ xs. Contains xs x) (others_now c l n) has) n))

    goes : (x : ℕ) → Contains (e.news ++ e.rest) x → Contains zs x
    goes x has = Contains-permutation (e.news ++ e.rest) zs x (IsPermutation-sym _ _ chain_now) has

    abbrev spelt_now : (c x : ℕ) → Source c x → (key : List ℕ) × (cell : Cell) × Spells p c x key cell
    spelt_now c x (inl new) = (a.w.key, (e.spells x new.1).0, subst (λ d. Spells p d x a.w.key (e.spells x new.1).0) (sym new.0) (e.spells x new.1).1)
    spelt_now c x (inr other) = (other.own, other.cell, now_spells c x other)

    housed : (c x : ℕ) → Source c x → HasBlock p blocks x
    housed c x (inl new) = e.housed x new.1
    housed c x (inr other) = now_housed c x other

    key_is : (c x : ℕ) (s : Source c x) (key : List ℕ) (cell : Cell) → Spells p c x key cell → (spelt_now c x s).0 ≡ key
    key_is c x s key cell sp = only_key p kept c c x x (spelt_now c x s).0 key (spelt_now c x s).1 cell (spelt_now c x s).2 sp refl

    one_now : (x y : ℕ) (s : Source b x) (t : Source b y) → (spelt_now b x s).0 ≡ (spelt_now b y t).0 → x ≡ y
    one_now x y (inl new) (inl new') same = in_one e.news x y e.few new.1 new'.1
    one_now x y (inl new) (inr other) same = absurd (other.differs (sym same))
    one_now x y (inr other) (inl new) same = absurd (other.differs same)
    one_now x y (inr one) (inr two) same =
        let moved = subst (λ k. Spells h.o b y k two.cell) (sym same) two.spells in
        let is = same_cell (state_in h.o) one.own two.cell one.cell (entry_offset y) (entry_offset x) moved.has one.spells.has in
        one_entry h.o b (stood h b (main h a b here)) x y one.own one.cell one.among two.among one.spells (subst (λ c. Spells h.o b y one.own c) is moved)

    each_now : (key : List ℕ) (cell : Cell) (q : ℕ) → bucket_in h.o key ≡ b → Has (state_in p) key cell q → (key ≡ a.w.key) ⊎ (key ≢ a.w.key)
        → (x : ℕ) × Contains zs x × Spells p b x key cell
    each_now key cell q is has (inl same) =
        let had = ap (get (later h a)) (sym same) ∙ has_now key cell q has in
        let new = Contains-get_or e.news 0 0 (omega (arith, e.long ∙ ap one_or_none had)) in
        let its = e.spells (at e.news 0) new in
        let moved = subst (λ k. Spells p b (at e.news 0) k its.0) (sym same) its.1 in
        (at e.news 0, goes _ (Contains-append_left e.news e.rest _ new), subst (λ c. Spells p b (at e.news 0) key c) (same_cell (state_in p) key its.0 cell _ q moved.has has) moved)
    each_now key cell q is has (inr differs) =
        let before = subst (λ s. Has s key cell q) (sym (before h)) (sym (others_same (m h) a.w key differs) ∙ has_now key cell q has) in
        let found = each h.o b (stood h b (main h a b here)) key cell q is before in
        elim (Contains-append_cases e.own e.rest found.0 (Contains-permutation _ _ found.0 e.split.lists found.1)) [
          | inl own ↦
              let its = e.split.its found.0 own in
              absurd (differs (only_key h.o h.kept b b found.0 found.0 key a.w.key cell its.0 found.2 its.1 refl))
          | inr stays ↦
              let other = e.split.others found.0 stays in
              let same = only_key h.o h.kept b b found.0 found.0 other.own key other.cell cell other.spells found.2 refl in
              let moved = subst (λ k. Spells p b found.0 k other.cell) same (now_spells b found.0 other) in (
                found.0,
                goes found.0 (Contains-append_right e.news e.rest found.0 stays),
                subst (λ c. Spells p b found.0 key c) (same_cell (state_in p) key other.cell cell (entry_offset found.0) q moved.has has) moved,
              )
        ]

    once_now : AllDiffer zs
    once_now = differ_moved (e.news ++ e.rest) zs (IsPermutation-sym _ _ chain_now)
        (differ_joined e.news e.rest (λ i j d less l. absurd (omega (arith, e.few)))
        (differ_last e.own e.rest (differ_moved (entries_of h.o b) (e.own ++ e.rest) e.split.lists (once h.o b (stood h b (main h a b here)))))
        (λ x new rest. (e.split.others x rest).differs (key_is b x (inr (e.split.others x rest)) a.w.key _ (e.spells x new).1)))

    from : (c : ℕ) → IsMain h.o.shape c → (i : ℕ) → i < length (entries_of p c) → Source c (at (entries_of p c) i)
    from c l i less = comes c l (at (entries_of p c) i) (Contains-get_or (entries_of p c) i 0 less)

    far : (c d x y : ℕ) (s : Source c x) (t : Source d y) → (spelt_now c x s).0 ≢ (spelt_now d y t).0 → RoomsApart p x y
    far c d x y s t n = rooms_apart p blocks e.heap.list x y (housed c x s) (housed d y t)
        (λ same. n (only_key p kept c d x y _ _ _ _ (spelt_now c x s).2 (spelt_now d y t).2 same))

    stands : StandsFor p b
    stands =
        let l = main h a b here in
        stands_by p (chained p kept) h.parts.mode index known b l record {
          nothing_else = λ i less. spelt_now b (at zs i) (from b l i less);
          each = λ key cell q is has.
              let found = each_now key cell q is has (same_or_other key a.w.key) in
              (found.1.0, found.1.1, subst (λ x. Spells p b x key cell) (sym (get_or_default zs found.1.0 0 found.0 found.1.1 ∙ found.1.2)) found.2);
          once = λ i j key cell less more sp sp'. one_place zs once_now i j less more (one_now (at zs i) (at zs j) (from b l i less) (from b l j more)
              (key_is b (at zs i) (from b l i less) key cell sp ∙ sym (key_is b (at zs j) (from b l j more) key cell sp')));
          rooms = λ i j less more n. far b b (at zs i) (at zs j) (from b l i less) (from b l j more)
              (λ same. n (one_place zs once_now i j less more (one_now (at zs i) (at zs j) (from b l i less) (from b l j more) same)));
          apart = λ c i j k n none less more. far b c (at zs i) (at (entries_of p c) j) (from b l i less) (from c k j more)
              (λ same. n (sym (spelt_now c (at (entries_of p c) j) (from c k j more)).2.bucket
              ∙ (ap (bucket_in h.o) (sym same) ∙ (spelt_now b (at zs i) (from b l i less)).2.bucket)));
        }

    -- Once it has ended

    keys_now : (c : ℕ) → IsMain h.o.shape c → length (entries_of p c) ≡ keys_in h.o.shape.hashing h.o.shape.buckets c (later h a)
    keys_now c l =
        let ex = exchanges h.o.shape.hashing h.o.shape.buckets b (m h) a.w here (main h a b here) in
        dite (ℕ_discrete c b)
        (λ same. subst (λ d. length (entries_of p d) ≡ keys_in h.o.shape.hashing h.o.shape.buckets d (later h a)) (sym same)
        (let was = length_permutation _ _ e.split.lists in
        let are = length_permutation _ _ chain_now in
        omega (arith, as_keys h b (main h a b here), ex.here, length-append e.own e.rest, length-append e.news e.rest, e.split.long, e.long)))
        (λ n. ap length (others_now c l n) ∙ (as_keys h c l ∙ sym (ex.there c n)))

    housed_last : (bs : List Block) → Becomes bs → (c x : ℕ) → Source c x → HasBlock p bs x
    housed_last bs becomes c x s =
        let block = used_block (entry_offset x) (room_in p x) in
        elim (Contains-append_cases e.given (used_blocks bs) block (Contains-permutation (used_blocks blocks) (e.given ++ used_blocks bs) block (e.heap.less bs becomes).1 (housed c x s))) [
          | inl gone ↦ absurd (left_alone s gone)
          | inr stays ↦ stays
        ]
      where
        left_alone : Source c x → Contains e.given (used_block (entry_offset x) (room_in p x)) → ⊥
        left_alone (inl new) gone = e.apart _ gone x new.1 refl
        left_alone (inr other) gone = e.freed _ gone c x other refl

    parts_last : (bs : List Block) → Becomes bs → AreParts index bs (after_event (Ends b) p)
    parts_last bs becomes =
        let l = main h a b here in
        let cells = sym (ap cells_of (now h a words)) in
        let ex = exchanges h.o.shape.hashing h.o.shape.buckets b (m h) a.w here l in
        let heap = e.heap.less bs becomes in record {
          mode = h.parts.mode;
          idle = refl;
          known = index_ends p (chained p kept) b l index known;
          entries = λ c k. ap length (entries_ends p (chained p kept) b l index known c k) ∙ (keys_now c k ∙ ap (keys_in h.o.shape.hashing h.o.shape.buckets c) cells);
          list = heap.0;
          used = λ c k i less.
              let x = at (entries_of (after_event (Ends b) p) c) i in
              let has = subst (λ xs. Contains xs x) (entries_ends p (chained p kept) b l index known c k)
              (Contains-get_or (entries_of (after_event (Ends b) p) c) i 0 less) in
              grind (arith, common_steps, room_ends p b l x, housed_last bs becomes c x (comes c k x has), comes c k x has);
          count =
              (let more = length_permutation _ _ e.heap.more in
              let less = length_permutation _ _ heap.1 in
              let lengths = length-append e.given (used_blocks bs) in
              omega (arith, as_cells h, ex.all, e.count, length-append e.taken (used_blocks h.blocks), length-append e.lost (used_blocks blocks), e.split.long, e.long)) ∙ ap len cells;
          words =
              (let more = sum_by-IsPermutation (λ (y : Block). y.size) _ _ e.heap.more in
              let less = sum_by-IsPermutation (λ (y : Block). y.size) _ _ heap.1 in
              omega (arith, as_rooms h, ex.room, e.total, words_of-append e.taken (used_blocks h.blocks), words_of-append e.lost (used_blocks blocks), words_of-append e.given (used_blocks bs)))
              ∙ ap rooms cells;
        }

    closed : Closes h.o a.w a.outcome b a.t index Becomes p
    closed = closes h a b here words index Becomes stands parts_last

-- So a write that exchanges its key's entry and block may end.
pub finished : (h : Held) (a : AcceptedWrite h.o) (b : ℕ) → b ≡ bucket_in h.o a.w.key → (o3 o4 : OwnerState) → Base h a b o3 → (ys : List ℕ) → ChangesChain o3 o4 b ys
    → Kept o4 → (index : Index) → IsIndexOf index o4 → (blocks : List Block) (Becomes : List Block → Type 0)
    → ((words : List ℕ) → ChangesChain o3 (written h.o a words) b ys → Kept (written h.o a words) → Exchange h a b words ys blocks Becomes) → Closes h.o a.w a.outcome b a.t index Becomes o4
finished h a b here o3 o4 z ys change kept index known blocks Becomes exchange =
    let at4 : o4 ≡ written h.o a o4.words = change.rest.same ∙ ap (λ (s : OwnerState). record s { words = o4.words }) z.is in
    subst (λ s. ChangesChain o3 s b ys → Kept s → IsIndexOf index s → Closes h.o a.w a.outcome b a.t index Becomes s) (sym at4)
    (λ change' kept' known'. closed h a b here o4.words o3 z ys change' kept' index known' blocks Becomes (exchange o4.words change' kept')) change kept known

-- no entry or link was put
pub same_chain : (o : OwnerState) (b : ℕ) → ChangesChain o o b (entries_of o b)
same_chain o b = grind (arith, common_steps)
