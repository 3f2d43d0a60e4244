-- The entries of a chain as a list: they fill its buckets, one after another, and the entry of a used spot stands at its number.
use Rattle.chained_index.proofs.Words.{SLOTS, Kept, Index, IsIndexOf, IsMain, ◌≡◌, ◌≢◌, ℕ, suc, ◌+◌, ◌-◌, ◌*◌, ◌/◌, ◌%◌, ◌<◌, ◌≤◌, List, [], ◌∷◌}
use Rattle.chained_index.proofs.Words.{◌++◌, length, take, get_or, nat_lt, filter, flat_map, slice_range, refl, sym, ap, ◌∙◌, subst, arith}
use Rattle.chained_index.proofs.Words.{length-take, Contains, dite, ℕ_discrete, get_or_past, Contains-get_or, filter-append}
use Rattle.chained_index.proofs.Words.{spares_behind, OwnerState, IsBucket, entry_at, word_count, entry_in, link_in, InChain, IsDense, entries_in}
use Rattle.chained_index.proofs.Words.{entries_of, IsChain, has_bucket, in_chain, inside, chain_there, All, All-head, All-tail, All-take}
use Rattle.chained_index.proofs.Words.{get_or-flat_map, common_steps, Bool, nat_eq, eq-eqb, ne_eqb, position_or_len, position_or_len_is, all_differ}
use Rattle.chained_index.proofs.Words.{IsBlank, Spot, place_in_chain, spot_entry, IsUsed}
use Rattle.chained_index.proofs.Lists.{at, AllUsed, below, place_in, filter_front, filter_used, same_used}
use Rattle.partition_words.proofs.Differing.{one_place}
use Rattle.chained_index.proofs.Chained.{chain_is, step_on, Chained, chained}

-- a bucket's link and entries are the same
pub record SameBucket (o p : OwnerState) (d : ℕ) : Type 0 where
  pub link : link_in p d ≡ link_in o d
  pub entry : (slot : ℕ) → slot < SLOTS → entry_in p d slot ≡ entry_in o d slot

pub still_blank : (o p : OwnerState) (d : ℕ) → SameBucket o p d → IsBlank o d → IsBlank p d
still_blank o p d same blank = record { no_link = same.link ∙ blank.no_link; no_entry = λ slot low. same.entry slot low ∙ blank.no_entry slot low }

-- Each slot of the buckets has the entry of its place in the list, and none past the list's end. The buckets are no more than that takes.
pub record IsFilled (o : OwnerState) (cs xs : List ℕ) : Type 0 where
  pub entries : (k slot : ℕ) → k < length cs → slot < SLOTS → entry_in o (at cs k) slot ≡ at xs (SLOTS * k + slot)
  pub used : AllUsed xs
  pub size : length cs ≡ suc (spares_behind (length xs))

-- The slots of the buckets, one after another

slots : OwnerState → ℕ → List ℕ
slots o c = slice_range o.words (entry_at o.shape c 0) (entry_at o.shape c SLOTS)

pub all_slots : OwnerState → List ℕ → List ℕ
all_slots o cs = flat_map (slots o) cs

filtered : (o : OwnerState) (cs : List ℕ) → flat_map (entries_in o) cs ≡ filter (nat_lt 0) (all_slots o cs)
unfolding all_slots slots entries_in
filtered o [] = refl
filtered o (c ∷ cs) = ap (λ (z : List ℕ). entries_in o c ++ z) (filtered o cs) ∙ sym (filter-append (nat_lt 0) (slots o c) (all_slots o cs))

pub entries_filtered : (o : OwnerState) (b : ℕ) (cs : List ℕ) → IsChain o b cs → entries_of o b ≡ filter (nat_lt 0) (all_slots o (b ∷ cs))
unfolding entries_of
entries_filtered o b cs chain = ap (flat_map (entries_in o)) (chain_is o b cs chain) ∙ filtered o (b ∷ cs)

module _ (o : OwnerState) (wide : length o.words ≡ word_count o.shape) where
  length-slots : (c : ℕ) → IsBucket o.shape c → length (slots o c) ≡ SLOTS
  unfolding slots
  length-slots c bucket = grind (arith, common_steps)

  at-slots : (c slot : ℕ) → slot < SLOTS → at (slots o c) slot ≡ entry_in o c slot
  unfolding slots
  at-slots c slot low = grind (arith, common_steps)

  pub length-all_slots : (cs : List ℕ) → All (IsBucket o.shape) cs → length (all_slots o cs) ≡ SLOTS * length cs
  unfolding all_slots
  length-all_slots [] buckets = refl
  length-all_slots (c ∷ cs) buckets =
      grind (arith, common_steps, length-slots c (All-head (IsBucket o.shape) c cs buckets), length-all_slots cs (All-tail (IsBucket o.shape) c cs buckets))

  by_slot : (cs : List ℕ) → All (IsBucket o.shape) cs → (k slot : ℕ) → k < length cs → slot < SLOTS → at (all_slots o cs) (SLOTS * k + slot) ≡ entry_in o (at cs k) slot
  unfolding all_slots
  by_slot cs buckets k slot l low =
      grind (arith, common_steps, length-all_slots (take k cs) (All-take (IsBucket o.shape) k cs buckets), length-take k cs, all_slots o cs, get_or-flat_map (slots o) cs k slot 0 0 l (omega (arith, length-slots (at cs k) (buckets k 0 l))), at-slots (at cs k) slot low)

  pub by_place : (cs : List ℕ) → All (IsBucket o.shape) cs → (i : ℕ) → i < SLOTS * length cs → at (all_slots o cs) i ≡ entry_in o (at cs (i / SLOTS)) (i % SLOTS)
  by_place cs buckets i l = grind (arith, by_slot cs buckets (i / SLOTS) (i % SLOTS))

pub all_inside : (o : OwnerState) (b : ℕ) (cs : List ℕ) → IsChain o b cs → IsMain o.shape b → All (IsBucket o.shape) (b ∷ cs)
all_inside o b cs chain main k d l = inside o b cs chain main (get_or (b ∷ cs) k d) (Contains-get_or (b ∷ cs) k d l)

module _ (o : OwnerState) (wide : length o.words ≡ word_count o.shape) (b : ℕ) (main : IsMain o.shape b) (behind : List ℕ) (chain : IsChain o b behind) where
  abbrev cs : List ℕ
  cs = b ∷ behind

  abbrev all : List ℕ
  all = all_slots o cs

  buckets : All (IsBucket o.shape) cs
  buckets = all_inside o b behind chain main

  size_all : length all ≡ SLOTS * length cs
  size_all = length-all_slots o wide cs buckets

  own : (k : ℕ) → k < length cs → InChain o b (at cs k)
  own k l = in_chain o b behind chain (at cs k) (Contains-get_or cs k 0 l)

  -- what fills the chain is its list, and the chain is dense
  module _ (xs : List ℕ) (f : IsFilled o cs xs) where
    same_places : (i : ℕ) → at all i ≡ at xs i
    same_places i = grind (arith, by_place o wide cs buckets i, f.entries (i / SLOTS) (i % SLOTS), get_or_past, size_all, f.size)

    pub entries_are : entries_of o b ≡ xs
    entries_are = entries_filtered o b behind chain ∙ same_used (filter (nat_lt 0) all) xs (filter_used all) f.used (λ i. filter_front all
        (λ j k less n. grind (arith, same_places j, same_places k, below xs k, f.used j 0)) i ∙ same_places i)

    pub dense_there : IsDense o b
    dense_there = record {
      full = λ c slot h linked low. let k = place c h in grind (arith, some c slot k, step_on (link_in o) b behind chain.behind k.0 k.1, f.size, k.2);
      in_order = λ c slot later h less low more. let k = place c h in grind (arith, some c slot k, below xs (SLOTS * k.0 + later), f.entries k.0 later k.1 low, k.2);
      some = λ c h other. let k = place c h in grind (arith, some c 0 k, f.size, k.1, k.2);
    }
      where
        place : (c : ℕ) → InChain o b c → (k : ℕ) × (k < length cs) × (at cs k ≡ c)
        place c h = place_in cs c (has_bucket o b behind chain c h)

        some : (c slot : ℕ) (k : (k : ℕ) × (k < length cs) × (at cs k ≡ c)) → slot < SLOTS → SLOTS * k.0 + slot < length xs → entry_in o c slot ≢ 0
        some c slot k low less none = grind (arith, f.used (SLOTS * k.0 + slot) 0 less, f.entries k.0 slot k.1 low, k.2)

  -- and a dense chain has such a list
  module _ (d : IsDense o b) where
    order : (i j : ℕ) → i < j → at all j ≢ 0 → at all i ≢ 0
    order i j less n =
        grind (arith, step_on (link_in o) b behind chain.behind (i / SLOTS), d.in_order (at cs (j / SLOTS)) (i % SLOTS) (j % SLOTS), by_place o wide cs buckets i, below all j n, (by_place o wide cs buckets i), by_place o wide cs buckets j, size_all, own (i / SLOTS), d.full (at cs (i / SLOTS)) (i % SLOTS))

    abbrev front : List ℕ
    front = filter (nat_lt 0) all

    pub filled_there : IsFilled o cs (entries_of o b)
    filled_there = subst (IsFilled o cs) (sym (entries_filtered o b behind chain))
        record { entries = entries; used = filter_used all; size = size }
      where
        entries : (k slot : ℕ) → k < length cs → slot < SLOTS → entry_in o (at cs k) slot ≡ at front (SLOTS * k + slot)
        entries k slot l low = sym (by_slot o wide cs buckets k slot l low) ∙ sym (filter_front all order (SLOTS * k + slot))

        most : length front ≤ SLOTS * length cs
        most = grind (arith, filter_used all (SLOTS * length cs) 0, filter_front all order (SLOTS * length cs), get_or_past, size_all)

        -- the last bucket is the main one or has an entry
        size : length cs ≡ suc (spares_behind (length front))
        size = dite (ℕ_discrete (length behind) 0)
            (λ none. omega (arith, most))
            (λ n.
            let last : length behind - 1 < length behind = omega arith in
            let spare = chain.spare (at behind (length behind - 1)) (Contains-get_or behind (length behind - 1) 0 last) in
            grind (arith, most, spare.0, below front (SLOTS * length behind + 0), d.some (at behind (length behind - 1)) (own (suc (length behind - 1)) (omega arith)), entries (length behind) 0))

-- Where its buckets are the same, so is the chain

pub same_filled : (o p : OwnerState) (cs xs : List ℕ) → IsFilled o cs xs → ((c : ℕ) → Contains cs c → SameBucket o p c) → IsFilled p cs xs
same_filled o p cs xs f same = grind (arith, common_steps, at cs, Contains-get_or cs)

-- The chain of a main bucket of an index, with the spares behind it and its entries as lists.
pub record View (o : OwnerState) (index : Index) (b : ℕ) : Type 0 where
  pub s : Chained o
  pub known : IsIndexOf index o
  pub main : IsMain o.shape b
  pub behind : List ℕ
  pub chain : IsChain o b behind
  pub filled : IsFilled o (b ∷ behind) (entries_of o b)

pub view : (o : OwnerState) → Chained o → (index : Index) → IsIndexOf index o → (b : ℕ) → IsMain o.shape b → View o index b
view o s index known b main =
    grind (arith, common_steps, chain_there o s.chains b main, filled_there o s.wide b main (chain_there o s.chains b main).0 (chain_there o s.chains b main).1 (known.dense b main))

-- as a call knows it that has read a word
pub view_read : (o n : OwnerState) (index : Index) (b : ℕ) → n ≡ o → Kept n → IsIndexOf index o → IsMain o.shape b → View o index b
view_read o n index b same kept known main = view o (chained o (subst Kept same kept)) index known b main

-- Where the entry of a used spot stands

module _ (o : OwnerState) (index : Index) (b : ℕ) (v : View o index b) (spot : Spot) (u : IsUsed o b spot) where
  abbrev list : List ℕ
  list = b ∷ v.behind

  pub place : (k : ℕ) × (k < length list) × (at list k ≡ spot.bucket)
  place = place_in list spot.bucket (has_bucket o b v.behind v.chain spot.bucket u.in_chain)

  pub number_is : place_in_chain o b spot ≡ SLOTS * place.0 + spot.slot
  unfolding place_in_chain
  number_is =
      let less = place.1 in
      let test : ℕ → Bool = λ c. nat_eq c spot.bucket in
      ap (λ (z : List ℕ). SLOTS * position_or_len test z + spot.slot) (chain_is o b v.behind v.chain)
      ∙ ap (λ (z : ℕ). SLOTS * z + spot.slot) (position_or_len_is test list place.0 0 (omega arith)
      (λ j below. ne_eqb (at list j) spot.bucket (λ same.
      let is = one_place list (all_differ (link_in o) b v.behind v.chain.behind) j place.0 (omega arith) place.1 (same ∙ sym place.2) in omega arith))
      (λ within. eq-eqb (at list place.0) spot.bucket place.2))

  pub entry_there : at (entries_of o b) (place_in_chain o b spot) ≡ spot_entry o spot
  entry_there = grind (arith, number_is, v.filled.entries place.0 spot.slot place.1 u.in_bucket, place.2)

  pub is_within : place_in_chain o b spot < length (entries_of o b)
  is_within = grind (arith, below (entries_of o b) (place_in_chain o b spot), u.used, entry_there)
