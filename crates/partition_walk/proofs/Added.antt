-- What a walk over buckets adds to a list.
use Rattle.std.proofs.Common.{◌≡◌, ◌≢◌, ◌⊎◌, inl, inr, ℕ, zero, suc, ◌+◌, ◌<◌, List, [], ◌∷◌, ◌++◌, refl, sym, ap, subst, ◌∙◌, arith}
use Rattle.std.specs.Prelude.{Contains}
use Rattle.std.specs.Ordering.{nat_cmp}
use Rattle.std.specs.List.{dedup}
use Rattle.std.specs.List.Sorted.{IsPermutation, IsSorted}
use Rattle.std.proofs.Common.{eqb}
use Rattle.std.proofs.lemmas.List.Sorted.{Contains-permutation, IsPermutation-sym}
use Rattle.std.proofs.lemmas.List.Elements.{Contains-append_left, Contains-push, Contains-push_cases}
use Rattle.std.proofs.lemmas.List.Kept.{Contains-dedup_nat, Contains-from_dedup}
use Rattle.std.proofs.lemmas.Map.Keys.{IsStrictlyIncreasing-dedup}
use Rattle.mica_words.specs.Entry.{entry_offset}
use Rattle.partition_words.specs.declared.state.OwnerState.{OwnerState}
use Rattle.partition_words.specs.declared.shape.Shape.{Shape}
use Rattle.partition_words.specs.Kept.{Kept}
use Rattle.partition_words.specs.Shape.{IsMain, IsBucket, IsSpare}
use Rattle.partition_words.specs.OwnerState.{stamp_in, entry_in, link_in}
use Rattle.partition_words.specs.Chain.{IsAmong}
use Rattle.partition_words.specs.LiveEntry.{IsLive}
use Rattle.partition_words.proofs.Failing.{in_none}
use Rattle.partition_walk.specs.Listed.{HasItemBelow, HasItem, HasItemFrom, HasItemInChain, IsItemAt, Adds, AreListed}

module _ (P Q : ℕ → Type 0) (xs ys : List ℕ) (adds : Adds P xs ys) where
  adds_as : ((p : ℕ) → Q p → P p) → ((p : ℕ) → P p → Q p) → Adds Q xs ys
  adds_as from to = record {
    kept = adds.kept;
    added = λ p q. adds.added p (from p q);
    no_other = λ p i. elim (adds.no_other p i) [ inl old ↦ inl old | inr new ↦ inr (to p new) ];
  }

  adds_push : (x : ℕ) → ((p : ℕ) → Q p → P p ⊎ (x ≡ p)) → ((p : ℕ) → P p → Q p) → Q x → Adds Q xs (ys ++ x ∷ [])
  adds_push x from to has = record {
    kept = λ p i. Contains-append_left ys (x ∷ []) p (adds.kept p i);
    added = λ p q. elim (from p q) [
      | inl old ↦ Contains-append_left ys (x ∷ []) p (adds.added p old)
      | inr is ↦ subst (Contains (ys ++ x ∷ [])) is (Contains-push ys x)
    ];
    no_other = λ p i. elim (Contains-push_cases ys x p i) [
      | inl old ↦ elim (adds.no_other p old) [ inl first ↦ inl first | inr new ↦ inr (to p new) ]
      | inr is ↦ inr (subst Q is has)
    ];
  }

adds_both : (P Q R : ℕ → Type 0) (xs ys zs : List ℕ) → Adds P xs ys → Adds Q ys zs → ((p : ℕ) → R p → P p ⊎ Q p) → ((p : ℕ) → P p → R p) → ((p : ℕ) → Q p → R p) → Adds R xs zs
adds_both P Q R xs ys zs one two from by_one by_two = record {
  kept = λ p i. two.kept p (one.kept p i);
  added = λ p r. elim (from p r) [ inl first ↦ two.kept p (one.added p first) | inr second ↦ two.added p second ];
  no_other = λ p i. elim (two.no_other p i) [
    | inl old ↦ elim (one.no_other p old) [ inl first ↦ inl first | inr new ↦ inr (by_one p new) ]
    | inr new ↦ inr (by_two p new)
  ];
}

adds_nothing : (P : ℕ → Type 0) (xs : List ℕ) → ((p : ℕ) → ¬ (P p)) → Adds P xs xs
adds_nothing P xs none = record { kept = λ p i. i; added = λ p h. absurd (none p h); no_other = λ p i. inl i }

-- what is live by the shape and the stamp at hand

module _ (o : OwnerState) (shape : Shape) (stamp entry : ℕ) (same : shape ≡ o.shape) (now : stamp ≡ stamp_in o) where
  pub live_here : IsLive shape stamp entry → IsLive o.shape (stamp_in o) entry
  live_here live = subst (λ (n : ℕ). IsLive o.shape n entry) now (subst (λ (z : Shape). IsLive z stamp entry) same live)

  pub live_there : IsLive o.shape (stamp_in o) entry → IsLive shape stamp entry
  live_there live = subst (λ (z : Shape). IsLive z stamp entry) (sym same) (subst (λ (n : ℕ). IsLive o.shape n entry) (sym now) live)

-- a link that is not 0 names a spare
pub spare_behind : (o : OwnerState) → Kept o → (at link : ℕ) → IsBucket o.shape at → link ≡ link_in o at → link ≢ 0 → IsSpare o.shape (link_in o at)
spare_behind o s at link bucket is some = elim (s.chains.links at bucket) [ inl none ↦ absurd (some (is ∙ none)) | inr spare ↦ spare ]

-- the slots of a bucket

module _ (o : OwnerState) (c : ℕ) where
  below_more : (n p : ℕ) → HasItemBelow o n c p → HasItemBelow o (n + 1) c p
  below_more n p h = (h.0, (let low = h.1 in omega arith), h.2, h.3)

  last_or_below : (n p : ℕ) → HasItemBelow o (n + 1) c p → HasItemBelow o n c p ⊎ (IsLive o.shape (stamp_in o) (entry_in o c n) × (entry_offset (entry_in o c n) ≡ p))
  last_or_below n p h = by (slot_cases n h.0 h.1)
    where
      slot_cases : (n slot : ℕ) → slot < n + 1 → (slot < n) ⊎ (slot ≡ n)
      slot_cases zero zero l = inr refl
      slot_cases zero (suc slot) l = absurd (omega arith)
      slot_cases (suc n) zero l = inl (omega arith)
      slot_cases (suc n) (suc slot) l = elim (slot_cases n slot (omega arith)) [ inl less ↦ inl (omega arith) | inr is ↦ inr (ap (λ (k : ℕ). suc k) is) ]

      by : (h.0 < n) ⊎ (h.0 ≡ n) → HasItemBelow o n c p ⊎ (IsLive o.shape (stamp_in o) (entry_in o c n) × (entry_offset (entry_in o c n) ≡ p))
      by (inl less) = inl (h.0, less, h.2, h.3)
      by (inr is) = inr (subst (λ (s : ℕ). IsLive o.shape (stamp_in o) (entry_in o c s) × (entry_offset (entry_in o c s) ≡ p)) is (h.2, h.3))

  module _ (n : ℕ) (xs ys : List ℕ) (adds : Adds (HasItemBelow o n c) xs ys) where
    pub one_slot : (entry x : ℕ) → entry ≡ entry_in o c n → x ≡ entry_offset entry → IsLive o.shape (stamp_in o) entry → Adds (HasItemBelow o (n + 1) c) xs (ys ++ x ∷ [])
    one_slot entry x is at live =
        let offset : x ≡ entry_offset (entry_in o c n) = at ∙ ap entry_offset is in
        let here : IsLive o.shape (stamp_in o) (entry_in o c n) = subst (IsLive o.shape (stamp_in o)) is live in
        adds_push (HasItemBelow o n c) (HasItemBelow o (n + 1) c) xs ys adds x
        (λ p h. elim (last_or_below n p h) [ inl below ↦ inl below | inr last ↦ inr (offset ∙ last.1) ])
        (below_more n)
        (n, omega arith, here, sym offset)

    pub dead_slot : (entry : ℕ) → entry ≡ entry_in o c n → ¬ (IsLive o.shape (stamp_in o) entry) → Adds (HasItemBelow o (n + 1) c) xs ys
    dead_slot entry is dead =
        adds_as (HasItemBelow o n c) (HasItemBelow o (n + 1) c) xs ys adds
        (λ p h. elim (last_or_below n p h) [ inl below ↦ below | inr last ↦ absurd (dead (subst (IsLive o.shape (stamp_in o)) (sym is) last.0)) ])
        (below_more n)

-- Whatever is added of the buckets from here on, is added of the chain from its main bucket on.
pub record HasCome (o : OwnerState) (b : ℕ) (first : List ℕ) (turn at : ℕ) (now : List ℕ) : Type 0 where
  pub left : ℕ
  pub count : turn + left ≡ suc o.shape.spares
  pub bucket : IsBucket o.shape at
  pub goes_on : (new : List ℕ) → Adds (HasItemFrom o left at) now new → Adds (HasItemInChain o b) first new

pub come_first : (o : OwnerState) (b : ℕ) (xs : List ℕ) → IsMain o.shape b → HasCome o b xs 0 b xs
come_first o b xs main = record { left = suc o.shape.spares; count = omega arith; bucket = omega arith; goes_on = λ new adds. adds }

module _ (o : OwnerState) (b : ℕ) (first : List ℕ) (turn at : ℕ) (now : List ℕ) (come : HasCome o b first turn at now) where
  -- the walk has come to its end, by as many links as there can be
  pub come_out : suc o.shape.spares ≡ turn → Adds (HasItemInChain o b) first now
  come_out all = come.goes_on now (adds_nothing (HasItemFrom o come.left at) now (none come.left (omega (arith, come.count))))
    where
      none : (n : ℕ) → n ≡ 0 → (p : ℕ) → ¬ (HasItemFrom o n at p)
      none zero is p h = h.1
      none (suc n) is p h = absurd (omega arith)

  module _ (less : turn < suc o.shape.spares) (next : List ℕ) (adds : Adds (HasItem o at) now next) (link : ℕ) (is : link ≡ link_in o at) where
    from_here : (n p : ℕ) → HasItemFrom o (suc n) at p → HasItem o at p ⊎ ((link_in o at ≢ 0) × HasItemFrom o n (link_in o at) p)
    from_here n p h = elim h.1 [
      | inl own ↦ inl (subst (λ (c : ℕ). HasItem o c p) (sym own) h.2)
      | inr more ↦ inr (more.0, (h.0, more.1, h.2))
    ]

    here_from : (n p : ℕ) → HasItem o at p → HasItemFrom o (suc n) at p
    here_from n p h = (at, inl refl, h)

    pub come_end : link ≡ 0 → Adds (HasItemInChain o b) first next
    come_end none = by come.left (omega (arith, come.count)) come.goes_on
      where
        by : (left : ℕ) → 0 < left → ((new : List ℕ) → Adds (HasItemFrom o left at) now new → Adds (HasItemInChain o b) first new) → Adds (HasItemInChain o b) first next
        by zero some goes = absurd (omega arith)
        by (suc n) some goes = goes next (adds_as (HasItem o at) (HasItemFrom o (suc n) at) now next adds
            (λ p h. elim (from_here n p h) [ inl here ↦ here | inr more ↦ absurd (more.0 (sym is ∙ none)) ])
            (here_from n))

    pub come_then : link ≢ 0 → IsSpare o.shape (link_in o at) → HasCome o b first (turn + 1) link next
    come_then some spare = by come.left come.count come.goes_on
      where
        by : (left : ℕ) → turn + left ≡ suc o.shape.spares → ((new : List ℕ) → Adds (HasItemFrom o left at) now new → Adds (HasItemInChain o b) first new) → HasCome o b first (turn + 1) link next
        by zero count goes = absurd (omega arith)
        by (suc n) count goes = record {
          left = n;
          count = omega arith;
          bucket = subst (IsBucket o.shape) (sym is) spare.1;
          goes_on = λ new more. goes new (adds_both (HasItem o at) (HasItemFrom o n link) (HasItemFrom o (suc n) at) now next new adds more
              (λ p h. elim (from_here n p h) [ inl here ↦ inl here | inr more ↦ inr (subst (λ (x : ℕ). HasItemFrom o n x p) (sym is) more.1) ])
              (here_from n)
              (λ p h. (h.0, inr (λ none. some (is ∙ none), subst (λ (x : ℕ). IsAmong o n x h.0) is h.1), h.2)));
        }

-- the main buckets below a number
abbrev pub HasItemUpTo : OwnerState → ℕ → ℕ → Type 0
HasItemUpTo o n p = (b : ℕ) × (b < n) × HasItemInChain o b p

module _ (o : OwnerState) where
  pub one_bucket : (n : ℕ) (xs ys : List ℕ) → Adds (HasItemUpTo o n) [] xs → Adds (HasItemInChain o n) xs ys → Adds (HasItemUpTo o (n + 1)) [] ys
  one_bucket n xs ys so_far adds =
      adds_both (HasItemUpTo o n) (HasItemInChain o n) (HasItemUpTo o (n + 1)) [] xs ys so_far adds
      (λ p h. bucket_cases p h.0 h.1 h.2)
      (λ p h. (h.0, (let low = h.1 in omega arith), h.2))
      (λ p h. (n, omega arith, h))
    where
      below_or_last : (n b : ℕ) → b < n + 1 → (b < n) ⊎ (b ≡ n)
      below_or_last zero zero l = inr refl
      below_or_last zero (suc b) l = absurd (omega arith)
      below_or_last (suc n) zero l = inl (omega arith)
      below_or_last (suc n) (suc b) l = elim (below_or_last n b (omega arith)) [ inl less ↦ inl (omega arith) | inr is ↦ inr (ap (λ (k : ℕ). suc k) is) ]

      bucket_cases : (p b : ℕ) → b < n + 1 → HasItemInChain o b p → HasItemUpTo o n p ⊎ HasItemInChain o n p
      bucket_cases p b l h = elim (below_or_last n b l) [ inl less ↦ inl (b, less, h) | inr is ↦ inr (subst (λ (x : ℕ). HasItemInChain o x p) is h) ]

  pub all_buckets : (xs : List ℕ) → Adds (HasItemUpTo o o.shape.buckets) [] xs → Adds (IsItemAt o) [] xs
  all_buckets xs adds = adds_as (HasItemUpTo o o.shape.buckets) (IsItemAt o) [] xs adds from to
    where
      from : (p : ℕ) → IsItemAt o p → HasItemUpTo o o.shape.buckets p
      from p (b, c, slot, entry, main, h, at) =
          (b, main, (c, h.in_chain, (slot, h.in_bucket, subst (IsLive o.shape (stamp_in o)) (sym h.found) h.live, ap entry_offset h.found ∙ at)))

      to : (p : ℕ) → HasItemUpTo o o.shape.buckets p → IsItemAt o p
      to p (b, main, (c, chain, (slot, low, live, at))) = (b, c, slot, entry_in o c slot, main, record { in_chain = chain; in_bucket = low; found = refl; live = live }, at)

  -- sorted, each once
  pub are_listed : (xs ys zs : List ℕ) → Adds (IsItemAt o) [] xs → IsPermutation xs ys → IsSorted nat_cmp ys → zs ≡ dedup eqb ys → AreListed o zs
  are_listed xs ys zs adds moved sorted once = subst (AreListed o) (sym once) (record {
    each = λ p h. Contains-dedup_nat ys p (Contains-permutation xs ys p moved (adds.added p h));
    nothing_else = λ p i. elim (adds.no_other p (Contains-permutation ys xs p (IsPermutation-sym xs ys moved) (Contains-from_dedup eqb ys p i))) [ inl old ↦ absurd (in_none p old) | inr is ↦ is ];
    rise = IsStrictlyIncreasing-dedup ys sorted;
  })
