-- What the stores of each call make of a chain and its index.
use Rattle.chained_index.proofs.Words.{rules, SLOTS, ◌≡◌, ◌≢◌, ℕ, ◌+◌, ◌-◌, ◌*◌, ◌<◌, ◌≤◌, ◌⊎◌, List, [], ◌∷◌, ◌++◌, length, take, set, refl, sym, ap, ◌∙◌}
use Rattle.chained_index.proofs.Words.{subst, arith, length-set, Contains, Contains-push, OwnerState, PutsEntry, PutsLink, IsMain, IsBucket, entry_in}
use Rattle.chained_index.proofs.Words.{marked_in, InChain, IsFreeSpare, after, Kept, ends_main, Spot, ChainEnd, entries_of, place_in_chain}
use Rattle.chained_index.proofs.Words.{entries_without, IsUsed, EndsAt, Index, IsIndexOf, LacksPlace, last_of, link_in, in_chain, all_differ, at_most}
use Rattle.chained_index.proofs.Words.{Contains-get_or, take-length, take-suc, length-take, length-append, length_push, common_steps, append-nil}
use Rattle.chained_index.proofs.Words.{subst₂, inr, inl, IsPermutation, IsPermutation-sym, IsBlank, Contains-append_left, Contains-push_cases}
use Rattle.chained_index.proofs.Words.{get_or_append_left, words_after, entries_with, get_or-set_same, get_or-set_other, get_or_push, get_or-take}
use Rattle.chained_index.proofs.Words.{get_or_past, All-push, All-set, All-take}
use Rattle.chained_index.proofs.Lists.{at, AllUsed, at-push_other}
use Rattle.partition_words.proofs.Differing.{one_place}
use Rattle.chained_index.proofs.Chained.{last_at, step_on, chained, chain_inside, chained_before}
use Rattle.chained_index.proofs.Changed.{Leaves, spares_differ, spares_are, Entered, none_entered, with_free, entered, kept_buckets, link_here}
use Rattle.chained_index.proofs.Changed.{link_else, same_entry, relinks, moves, not_free}
use Rattle.chained_index.proofs.Filled.{View, view, view_read, place, number_is, is_within}
use Rattle.chained_index.proofs.Walking.{list, last_bucket}

-- The entry of a used spot is changed.
module _ (o : OwnerState) (index : Index) (b : ℕ) (v : View o index b) (spot : Spot) (u : IsUsed o b spot) (x y : ℕ) (is : x ≡ y) where
  spot_entered : Entered o index b v (b ∷ v.behind) (words_after (PutsEntry spot.bucket spot.slot x) o) (set (entries_of o b) (place_in_chain o b spot) y)
  spot_entered =
      let xs : List ℕ = entries_of o b in
      let at_k = place o index b v spot u in
      let number = number_is o index b v spot u in
      entered o index b v (none_entered o index b v) at_k.0 spot.bucket spot.slot x at_k.1 at_k.2 u.in_bucket (set xs (place_in_chain o b spot) y)
      (ap (at (set xs (place_in_chain o b spot) y)) (sym number) ∙ (get_or-set_same xs (place_in_chain o b spot) y 0 (is_within o index b v spot u) ∙ sym is))
      (λ i n. get_or-set_other xs (place_in_chain o b spot) i y 0 (λ e. n (e ∙ number)))

-- where the owner's fact is known after the store alone
pub replaced : (o p : OwnerState) → Kept p → (spot : Spot) (x : ℕ) → x ≢ 0 → p ≡ after (PutsEntry spot.bucket spot.slot x) o → (b : ℕ) → marked_in o.phase b ≡ 1
    → IsUsed o b spot → (index : Index) → IsIndexOf index o → Leaves o b index (entries_with o b spot x) p
replaced o p kept spot x some is b one u index known =
    let stored = subst Kept is kept in
    let t = chained (after (PutsEntry spot.bucket spot.slot x) o) stored in
    let v = view o (chained_before o spot.bucket spot.slot x u.in_bucket t) index known b (ends_main (after (PutsEntry spot.bucket spot.slot x) o) stored o.phase refl b one) in
    let xs : List ℕ = entries_of o b in
    kept_buckets o index b v (spot_entered o index b v spot u x x refl) p kept is (All-set (λ z. z ≢ 0) xs (place_in_chain o b spot) x some v.filled.used)
    (omega (arith, v.filled.size, length-set xs (place_in_chain o b spot) x))

-- A call in the chain of a main bucket that ends here.
pub record Call (o : OwnerState) (index : Index) (b : ℕ) (end : ChainEnd) : Type 0 where
  pub v : View o index b
  pub ends : EndsAt o b end

-- as `end_of` leaves it
pub call_at : (o n : OwnerState) (index : Index) (b : ℕ) (end : ChainEnd) → n ≡ o → Kept n → IsIndexOf index o → IsMain o.shape b → EndsAt o b end → Call o index b end
call_at o n index b end same kept known main ends = record { v = view_read o n index b same kept known main; ends = ends }

module _ (o : OwnerState) (index : Index) (b : ℕ) (end : ChainEnd) (call : Call o index b end) where
  abbrev behind : List ℕ
  behind = call.v.behind

  abbrev cs : List ℕ
  cs = b ∷ behind

  abbrev xs : List ℕ
  xs = entries_of o b

  last : at cs (length behind) ≡ end.bucket
  last = last_bucket o index b call.v end.before end.bucket call.ends.buckets

  last_is : last_of b behind ≡ end.bucket
  last_is = ap (last_of b) (sym (take-length behind)) ∙ (last_at b behind (length behind) (omega arith) ∙ last)

  some_behind : end.bucket ≢ b → 0 < length behind
  some_behind n = grind (arith, common_steps, last)

  before : end.bucket ≢ b → at cs (length behind - 1) ≡ end.before
  before n = grind (arith, some_behind n, list o index b call.v, call.ends.buckets.before (length behind - 1))

  size : length xs + SLOTS ≡ SLOTS * length cs + end.used
  size = omega (arith, call.ends.used, ap length (list o index b call.v))

  own : (k : ℕ) → k < length cs → InChain o b (at cs k)
  own k l = in_chain o b behind call.v.chain (at cs k) (Contains-get_or cs k 0 l)

  pub end_in_chain : InChain o b end.bucket
  end_in_chain = subst (InChain o b) last (own (length behind) (omega arith))

  pub end_inside : IsBucket o.shape end.bucket
  end_inside = chain_inside o call.v.s b end.bucket call.v.main end_in_chain

  pub before_in_chain : end.bucket ≢ b → InChain o b end.before
  before_in_chain n = subst (InChain o b) (before n) (own (length behind - 1) (omega arith))

  -- the chain lacks a place where the last bucket is full and no spare is free
  pub lacks : SLOTS ≤ end.used → index.free ≡ [] → LacksPlace index o b
  lacks full none = let within = call.ends.within in record { some = omega (arith, size); full = omega (arith, size); none_free = none }

  pub full_last : LacksPlace index o b → end.used ≡ SLOTS
  full_last l = omega (arith, call.ends.within, l.some, l.full, size, call.v.filled.size)

  -- An entry is added

  pub added : (x : ℕ) → x ≢ 0 → (low : end.used < SLOTS) → (p : OwnerState) → Kept p → p ≡ after (PutsEntry end.bucket end.used x) o → Leaves o b index (xs ++ x ∷ []) p
  added x some low p kept is =
      let full : SLOTS * length behind + end.used ≡ length xs = omega (arith, size) in
      kept_buckets o index b call.v (entered o index b call.v (none_entered o index b call.v) (length behind) end.bucket end.used x (omega arith) last low
      (xs ++ x ∷ []) (get_or_push xs x 0 (SLOTS * length behind + end.used) (sym full)) (λ i n. at-push_other xs x i (λ e. n (e ∙ sym full))))
      p kept is (All-push (λ z. z ≢ 0) xs x call.v.filled.used some) (omega (arith, full, length_push xs x))

  pub last_free : (rest : List ℕ) (next : ℕ) → index.free ≡ rest ++ next ∷ [] → IsFreeSpare o next
  last_free rest next split = (call.v.known.free next).0 (subst (λ (z : List ℕ). Contains z next) (sym split) (Contains-push rest next))

  pub added_behind : (x next : ℕ) (rest : List ℕ) → x ≢ 0 → SLOTS ≤ end.used → index.free ≡ rest ++ next ∷ [] → (p : OwnerState) → Kept p
      → p ≡ after (PutsLink end.bucket next) (after (PutsEntry next 0 x) o) → Leaves o b (record { shape = index.shape; free = rest }) (xs ++ x ∷ []) p
  added_behind x next rest some full split p kept is =
      let free = last_free rest next split in
      let within = call.ends.within in
      let place : SLOTS * length cs + 0 ≡ length xs = omega (arith, size) in
      let stored = entered o index b call.v (with_free o index b call.v next free (omega (arith, size))) (length cs) next 0 x (omega (arith, length_push cs next))
      (get_or_push cs next 0 (length cs) refl) (omega arith)
      (xs ++ x ∷ []) (get_or_push xs x 0 (SLOTS * length cs + 0) (sym place)) (λ i n. at-push_other xs x i (λ e. n (e ∙ sym place))) in
      let whole = sym (append-nil behind) in
      relinks o index b call.v stored end.bucket next behind [] last_is whole (next ∷ [])
      (link_here o index b call.v stored end.bucket next behind [] last_is whole, grind (arith, common_steps), search (rules, link_else, InChain, end_in_chain))
      (λ k l. (l, refl)) (λ d i. inr i) rest
      (subst (λ (z : List ℕ). IsPermutation (z ++ behind) (rest ++ (behind ++ next ∷ []))) (sym split) (moves rest behind next))
      (λ c i has. absurd (not_free o index b call.v c i (subst (λ (z : List ℕ). Contains z c) (sym split) (Contains-append_left rest (next ∷ []) c has))))
      (All-push (λ z. z ≢ 0) xs x call.v.filled.used some) (omega (arith, place, length_push cs next, length_push xs x)) p kept is

  -- An entry is removed: the last goes into its spot, and is dropped

  -- there is room for its bucket in the list of free spares
  pub release_room : end.bucket ≢ b → length index.free < o.shape.spares
  release_room n =
      grind (arith, common_steps, at_most (index.free ++ behind) o.shape.buckets o.shape.spares (spares_differ o index b call.v) (λ c i. ((spares_are o index b call.v c).0 i).0), some_behind n, length-append index.free behind)

  module _ (spot : Spot) (u : IsUsed o b spot) where
    pub used_some : 0 < end.used
    used_some = omega (arith, is_within o index b call.v spot u, size, call.v.filled.size)

    module _ (y : ℕ) (is_last : y ≡ entry_in o end.bucket (end.used - 1)) where
      abbrev m : OwnerState
      m = after (PutsEntry end.bucket (end.used - 1) 0) (after (PutsEntry spot.bucket spot.slot y) o)

      abbrev moved : List ℕ
      moved = set xs (place_in_chain o b spot) (at xs (length xs - 1))

      abbrev ys : List ℕ
      ys = entries_without o b spot

      there : SLOTS * length behind + (end.used - 1) ≡ length xs - 1
      there = omega (arith, used_some, size)

      long : length ys ≡ length xs - 1
      long = let size = length-set xs (place_in_chain o b spot) (at xs (length xs - 1)) in omega (arith, length-take (length xs - 1) moved)

      value : y ≡ at xs (length xs - 1)
      value = grind (arith, used_some, call.ends.within, is_last, last, there, call.v.filled.entries (length behind) (end.used - 1))

      dropped : Entered o index b call.v cs m.words ys
      dropped =
          let some = used_some in
          let within = call.ends.within in
          entered o index b call.v (spot_entered o index b call.v spot u y (at xs (length xs - 1)) value) (length behind) end.bucket (end.used - 1) 0
          (omega arith) last (omega arith) ys (get_or_past ys (SLOTS * length behind + (end.used - 1)) 0 (omega (arith, there, long)))
          (λ i n. let size = length-set xs (place_in_chain o b spot) (at xs (length xs - 1)) in
          grind (arith, get_or_past ys i 0, get_or_past moved i 0, get_or-take (length xs - 1) moved i 0, long, there))

      used : AllUsed ys
      used = All-take (λ z. z ≢ 0) (length xs - 1) moved (All-set (λ z. z ≢ 0) xs (place_in_chain o b spot) (at xs (length xs - 1))
          (call.v.filled.used (length xs - 1) 0 (omega (arith, used_some, size))) call.v.filled.used)

      -- its bucket stays where it is the main one or has more entries
      pub drop : ((end.used - 1 ≡ 0) × (end.bucket ≡ b)) ⊎ (end.used - 1 ≢ 0) → (p : OwnerState) → Kept p → p ≡ m → Leaves o b index ys p
      drop either p kept is = kept_buckets o index b call.v dropped p kept is used
          (grind (arith, either, one_place cs (all_differ (link_in o) b behind call.v.chain.behind) (length behind) 0, last, long, size, call.v.filled.size))

      -- else it is released, which has no other entry

      abbrev ds : List ℕ
      ds = take (length behind - 1) behind

      split : end.bucket ≢ b → behind ≡ ds ++ end.bucket ∷ []
      split n = let some = some_behind n in grind (arith, take-suc behind (length behind - 1) 0, take-length behind, last)

      before_is : end.bucket ≢ b → last_of b ds ≡ end.before
      before_is n = last_at b behind (length behind - 1) (omega arith) ∙ before n

      blank : end.used - 1 ≡ 0 → (n : end.bucket ≢ b) → IsBlank (after (PutsLink end.before 0) m) end.bucket
      blank none n =
          let some = some_behind n in
          let same = same_entry o index b call.v dropped end.before 0 ds (end.bucket ∷ []) (before_is n) (split n) in record {
            no_link = search (rules, link_else, one_place, before, last, step_on, before_is, split, all_differ, link_in, length);
            no_entry = λ slot low. grind (arith, same end.bucket slot low, last, dropped.entries (length behind) slot, get_or_past ys (SLOTS * length behind + slot) 0, used_some, size, long);
          }

      pub release : end.used - 1 ≡ 0 → end.bucket ≢ b → (p : OwnerState) → Kept p → p ≡ after (PutsLink end.before 0) m
          → Leaves o b (record { shape = index.shape; free = index.free ++ end.bucket ∷ [] }) ys p
      release none n p kept is =
          let some = some_behind n in
          let few = length-take (length behind - 1) behind in
          let same = append-nil ds in
          relinks o index b call.v dropped end.before 0 ds (end.bucket ∷ []) (before_is n) (split n) []
          (link_here o index b call.v dropped end.before 0 ds (end.bucket ∷ []) (before_is n) (split n))
          (λ k l. grind (arith, same, split n, few, get_or_append_left (b ∷ ds) (end.bucket ∷ []) 0 k)) (λ d i. inl i) (index.free ++ end.bucket ∷ [])
          (subst₂ (λ (y z : List ℕ). IsPermutation (index.free ++ y) ((index.free ++ end.bucket ∷ []) ++ z)) (sym (split n)) (sym same)
          (IsPermutation-sym ((index.free ++ end.bucket ∷ []) ++ ds) (index.free ++ (ds ++ end.bucket ∷ [])) (moves index.free ds end.bucket)))
          (λ c i has. elim (Contains-push_cases index.free end.bucket c has) [
            | inl was ↦ absurd (not_free o index b call.v c i was)
            | inr e ↦ subst (IsBlank (after (PutsLink end.before 0) m)) e (blank none n)
          ])
          used (omega (arith, used_some, few, long, size, ap length same)) p kept is
