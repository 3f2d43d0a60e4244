-- What a change of one chain makes of all chains and of the index, and the stores of a call in a chain: entries are added, changed or dropped,
-- a spare bucket is taken or released.
use Rattle.chained_index.proofs.Words.{arith, ◌↔◌, ◌≡◌, ◌≢◌, ℕ, inl, inr, List, ◌∷◌, ◌++◌, length, sym, ◌∙◌, subst, Contains, dite, ℕ_discrete}
use Rattle.chained_index.proofs.Words.{OwnerState, link_in, IsMain, IsSpare, InChain, IsFreeSpare, ChangesOnlyIndex, in_cons, in_tail, ChangesChain}
use Rattle.chained_index.proofs.Words.{Index, IsBlank, IsIndexOf, AreBehind, IsChain, has_bucket, in_chain, chain_of, behind_differ, not_main}
use Rattle.chained_index.proofs.Words.{listed_or_not, IsPermutation, IsPermutation-sym, Contains-permutation, Contains-append_left}
use Rattle.chained_index.proofs.Words.{Contains-append_right, Contains-append_cases, Kept, bucket_words, SLOTS, suc, ◌+◌, ◌*◌, ◌<◌, ◌⊎◌, [], refl}
use Rattle.chained_index.proofs.Words.{length-set, append_assoc, all_pairs_push, get_or, common_steps, get_or_past, Contains-push_cases}
use Rattle.chained_index.proofs.Words.{Contains-get_or, spares_behind, PutsEntry, PutsLink, IsBucket, entry_at, entry_in, after, words_after}
use Rattle.chained_index.proofs.Words.{word_count, entry_puts, entry_puts_other, entry_puts_link, link_puts_entry, link_puts, link_puts_other}
use Rattle.chained_index.proofs.Words.{entries_of, inside, all_differ, same_behind, relinked, last_of, last_in, IsPermutation-refl}
use Rattle.chained_index.proofs.Words.{IsPermutation-append_comm, IsPermutation-append_right, Event, place_of, entries_at}
use Rattle.chained_index.proofs.Lists.{at, AllUsed}
use Rattle.partition_words.proofs.Differing.{AllDiffer, differ_moved, differ_joined, differ_first, differ_apart, one_place}
use Rattle.chained_index.proofs.Chained.{Chained, chain_on, chain_back, chained}
use Rattle.chained_index.proofs.Filled.{SameBucket, still_blank, IsFilled, View, entries_are, dense_there}
use Rattle.chained_index.proofs.Stays.{chain_kept, dense_kept}

module _ (o : OwnerState) (index : Index) (b : ℕ) (v : View o index b) where
  -- the free spares and those behind a bucket all differ
  pub spares_differ : AllDiffer (index.free ++ v.behind)
  spares_differ =
      grind (arith, common_steps, differ_joined index.free v.behind v.known.once (behind_differ (link_in o) b v.behind v.chain.behind) (λ c has i. ((v.known.free c).0 has).free b v.main (in_chain o b v.behind v.chain c (in_tail b c v.behind i))))

  -- they are the spares that stand behind no other bucket
  pub spares_are : (c : ℕ) → Contains (index.free ++ v.behind) c ↔ (IsSpare o.shape c × ((d : ℕ) → IsMain o.shape d → d ≢ b → ¬ (InChain o d c)))
  spares_are c = (
    λ i. elim (Contains-append_cases index.free v.behind c i) [
      | inl has ↦ (let f = (v.known.free c).0 has in (f.spare, λ d m n. f.free d m))
      | inr own ↦ (v.chain.spare c own, λ d m n h. v.s.chains.apart d b c m v.main n h (in_chain o b v.behind v.chain c (in_tail b c v.behind own)))
    ],
    λ is. elim (listed_or_not v.behind c) [
      | inl own ↦ Contains-append_right index.free v.behind c own
      | inr not ↦ Contains-append_left index.free v.behind c ((v.known.free c).1 (record {
        spare = is.0;
        free = λ d m h.
            grind (arith, is.1 d m, λ (i : InChain o b c). not_main o.shape b c v.behind v.main is.0 (has_bucket o b v.behind v.chain c i));
      }))
    ],
  )

-- Behind bucket b stand ds now, which have the entries ys. The spares that it lost and gained moved to and from the free ones. No bucket but
-- those of its chain changed.
pub record Rewrites (o p : OwnerState) (index : Index) (b : ℕ) (cs ds free ys : List ℕ) : Type 0 where
  pub only : ChangesOnlyIndex o p
  pub behind : AreBehind (link_in p) b ds
  pub filled : IsFilled p (b ∷ ds) ys
  pub same : (c : ℕ) → ¬ (Contains (b ∷ cs) c) → ¬ (Contains (b ∷ ds) c) → SameBucket o p c
  pub moved : IsPermutation (index.free ++ cs) (free ++ ds)
  pub blank : (c : ℕ) → Contains cs c → Contains free c → IsBlank p c

-- the chain of bucket b has these entries now, each other one is as it was, and the index is one of the words
abbrev pub Leaves : OwnerState → ℕ → Index → List ℕ → OwnerState → Type 0
Leaves o b index ys p = ChangesChain o p b ys × IsIndexOf index p

module _ (o : OwnerState) (words : List ℕ) (t : Chained (record o { words = words })) (index : Index) (b : ℕ)
    (v : View o index b) (ds free ys : List ℕ) (r : Rewrites o (record o { words = words }) index b v.behind ds free ys) where
  abbrev p : OwnerState
  p = record o { words = words }

  long : length words ≡ length o.words
  long = t.wide ∙ sym v.s.wide

  chain_now : IsChain p b ds
  chain_now = chain_of p t.chains.links b ds v.main r.behind

  all : AllDiffer (free ++ ds)
  all = differ_moved (index.free ++ v.behind) (free ++ ds) r.moved (spares_differ o index b v)

  -- a spare was free or behind the bucket if it is chain_now
  was : (c : ℕ) → Contains (free ++ ds) c → Contains (index.free ++ v.behind) c
  was c = Contains-permutation (free ++ ds) (index.free ++ v.behind) c (IsPermutation-sym (index.free ++ v.behind) (free ++ ds) r.moved)

  -- the other chains
  other_same : (d : ℕ) → IsMain o.shape d → d ≢ b → (c : ℕ) → InChain o d c → SameBucket o p c
  other_same d m n c h = r.same c
      (λ i. v.s.chains.apart d b c m v.main n h (in_chain o b v.behind v.chain c i))
      (λ i. elim (in_cons b c ds i) [
        | inl e ↦ v.s.chains.apart d b c m v.main n h (inl e)
        | inr more ↦ ((spares_are o index b v c).0 (was c (Contains-append_right free ds c more))).1 d m n h
      ])

  other_link : (d : ℕ) → IsMain o.shape d → d ≢ b → (c : ℕ) → InChain o d c → link_in p c ≡ link_in o c
  other_link d m n c h = (other_same d m n c h).link

  changes : ChangesChain o p b ys
  changes = record {
    entries = entries_are p t.wide b v.main ds chain_now ys r.filled;
    others = λ d m n. chain_kept o words o.history o.phase long v.s d m (v.known.dense d m) (other_same d m n);
    rest = r.only;
  }

  is_free : (c : ℕ) → Contains free c → IsFreeSpare p c
  is_free c has =
      let is = (spares_are o index b v c).0 (was c (Contains-append_left free ds c has)) in record {
        spare = is.0;
        free = λ d m h. dite (ℕ_discrete d b)
            (λ e. differ_apart free ds all c has
            (not_main o.shape b c ds v.main is.0 (has_bucket p b ds chain_now c (subst (λ (z : ℕ). InChain p z c) e h))))
            (λ n. is.1 d m n (chain_back o words o.history o.phase long v.s d m (other_link d m n) c h));
      }

  is_listed : (c : ℕ) → IsFreeSpare p c → Contains free c
  is_listed c f = elim (Contains-append_cases free ds c (Contains-permutation (index.free ++ v.behind) (free ++ ds) c r.moved
      ((spares_are o index b v c).1 (f.spare, λ d m n h. f.free d m (chain_on o words o.history o.phase long v.s d m (other_link d m n) c h))))) [
        | inl has ↦ has
        | inr own ↦ absurd (f.free b v.main (in_chain p b ds chain_now c (in_tail b c ds own)))
      ]

  blank : (c : ℕ) → Contains free c → IsBlank p c
  blank c has =
      let from = was c (Contains-append_left free ds c has) in
      elim (Contains-append_cases index.free v.behind c from) [
        | inl was ↦
            let f = (v.known.free c).0 was in
            still_blank o p c (r.same c (λ i. f.free b v.main (in_chain o b v.behind v.chain c i))
            (λ i. differ_apart free ds all c has (not_main o.shape b c ds v.main f.spare i))) (v.known.blank c f)
        | inr own ↦ r.blank c own has
      ]

  pub rewritten : Leaves o b (record { shape = index.shape; free = free }) ys p
  rewritten = (
    changes,
    record {
      shape = v.known.shape;
      dense = λ d m.
          let own = dense_there p t.wide b v.main ds chain_now ys r.filled in
          grind (arith, λ (n : d ≢ b). dense_kept o words o.history o.phase long v.s d m (v.known.dense d m) (other_same d m n));
      free = λ c. (is_free c, is_listed c);
      once = differ_first free ds all;
      blank = λ c f. blank c (is_listed c f);
    },
  )

-- The stores of a call

-- from the end of one list to that of the next
pub moves : (xs ys : List ℕ) (x : ℕ) → IsPermutation ((xs ++ x ∷ []) ++ ys) (xs ++ (ys ++ x ∷ []))
moves xs ys x = grind (arith, IsPermutation, append_assoc xs (x ∷ []) ys, IsPermutation-append_right xs (x ∷ ys) (ys ++ x ∷ []) (IsPermutation-append_comm (x ∷ []) ys))

module _ (o : OwnerState) (index : Index) (b : ℕ) (v : View o index b) where
  abbrev cs : List ℕ
  cs = b ∷ v.behind

  abbrev xs : List ℕ
  xs = entries_of o b

  bucket_in : (c : ℕ) → Contains cs c → IsBucket o.shape c
  bucket_in = inside o b v.behind v.chain v.main

  pub not_free : (c : ℕ) → Contains v.behind c → ¬ (Contains index.free c)
  not_free c i has = ((v.known.free c).0 has).free b v.main (in_chain o b v.behind v.chain c (in_tail b c v.behind i))

  abbrev pub now : List ℕ → OwnerState
  now words = record o { words = words }

  -- one more event, at one of the words of a bucket, changes entries and links alone
  only_more : (words : List ℕ) → ChangesOnlyIndex o (now words) → (c i : ℕ) → IsBucket o.shape c → i < bucket_words → (e : Event)
      → place_of o.shape e ≡ entries_at o.shape c + i → after e (now words) ≡ now (words_after e (now words)) → ChangesOnlyIndex o (after e (now words))
  only_more words was c i bucket low e at same = grind (arith, common_steps)

  -- Entries were stored in these buckets alone, whose slots, one after another, have these now.
  pub record Entered (bs words ys : List ℕ) : Type 0 where
    pub inside : (c : ℕ) → Contains bs c → IsBucket o.shape c
    pub differ : AllDiffer bs
    pub wide : length words ≡ word_count o.shape
    pub only : ChangesOnlyIndex o (now words)
    pub links : (d : ℕ) → link_in (now words) d ≡ link_in o d
    pub entries : (k slot : ℕ) → k < length bs → slot < SLOTS → entry_in (now words) (at bs k) slot ≡ at ys (SLOTS * k + slot)
    pub others : (d slot : ℕ) → ¬ (Contains bs d) → slot < SLOTS → entry_in (now words) d slot ≡ entry_in o d slot

  begin : (bs : List ℕ) → ((c : ℕ) → Contains bs c → IsBucket o.shape c) → AllDiffer bs
      → ((k slot : ℕ) → k < length bs → slot < SLOTS → entry_in o (at bs k) slot ≡ at xs (SLOTS * k + slot)) → Entered bs o.words xs
  begin bs inside differ entries = grind (arith, common_steps)

  -- none in those of the chain, or of the chain and a free spare behind it

  pub none_entered : Entered cs o.words xs
  none_entered = begin cs bucket_in (all_differ (link_in o) b v.behind v.chain.behind) v.filled.entries

  pub with_free : (next : ℕ) → IsFreeSpare o next → length xs ≡ SLOTS * length cs → Entered (cs ++ next ∷ []) o.words xs
  with_free next free full = begin (cs ++ next ∷ [])
      (λ c i. elim (Contains-push_cases cs next c i) [ inl own ↦ bucket_in c own | inr e ↦ subst (IsBucket o.shape) e free.spare.1 ])
      (all_pairs_push (λ c d. c ≢ d) cs next (all_differ (link_in o) b v.behind v.chain.behind)
      (λ k d l e. free.free b v.main (subst (InChain o b) e (in_chain o b v.behind v.chain (get_or cs k d) (Contains-get_or cs k d l)))))
      (λ k slot l low. grind (arith, common_steps, v.filled.entries k slot, (v.known.blank next free).no_entry slot low, get_or_past))

  module _ {bs words ys : List ℕ} (r : Entered bs words ys) where
    -- one more goes into a slot
    pub entered : (k c slot x : ℕ) → k < length bs → at bs k ≡ c → slot < SLOTS → (zs : List ℕ) → at zs (SLOTS * k + slot) ≡ x
        → ((i : ℕ) → i ≢ SLOTS * k + slot → at zs i ≡ at ys i) → Entered bs (words_after (PutsEntry c slot x) (now words)) zs
    entered k c slot x l is low zs here else = record {
      inside = r.inside;
      differ = r.differ;
      wide = length-set words (entry_at o.shape c slot) x ∙ r.wide;
      only = only_more words r.only c slot (r.inside c own) (omega arith) (PutsEntry c slot x) refl refl;
      links = λ d. link_puts_entry (now words) r.wide c slot x d low ∙ r.links d;
      entries = entries;
      others = λ d u n small. entry_puts_other (now words) r.wide c slot x d u low small (inl (λ e. n (subst (Contains bs) (sym e) own))) ∙ r.others d u n small;
    }
      where
        own : Contains bs c
        own = subst (Contains bs) is (Contains-get_or bs k 0 l)

        entries : (j u : ℕ) → j < length bs → u < SLOTS → entry_in (after (PutsEntry c slot x) (now words)) (at bs j) u ≡ at zs (SLOTS * j + u)
        entries j u m small =
            let put = entry_puts (now words) r.wide c slot x (r.inside c own) low in
            let other = entry_puts_other (now words) r.wide c slot x (at bs j) u low small in
            grind (arith, one_place bs r.differ j k m l, r.entries j u m small, else (SLOTS * j + u))

    -- The link of c is put, which stands in the chain before those of `cut`, and now before those of `rest`.
    module _ (c next : ℕ) (front cut : List ℕ) (is : last_of b front ≡ c) (split : v.behind ≡ front ++ cut) where
      abbrev pub linked : OwnerState
      linked = after (PutsLink c next) (now words)

      own_link : Contains (b ∷ front) c
      own_link = subst (Contains (b ∷ front)) is (last_in b front)

      was_link : Contains cs c
      was_link = subst (λ (z : List ℕ). Contains (b ∷ z) c) (sym split) (Contains-append_left (b ∷ front) cut c own_link)

      pub link_else : (d : ℕ) → d ≢ c → link_in linked d ≡ link_in o d
      link_else d n = link_puts_other (now words) r.wide c next d n ∙ r.links d

      pub link_here : link_in linked c ≡ next
      link_here = link_puts (now words) r.wide c next (bucket_in c was_link)

      pub same_entry : (d slot : ℕ) → slot < SLOTS → entry_in linked d slot ≡ entry_in (now words) d slot
      same_entry d slot low = entry_puts_link (now words) r.wide c next d slot low

      pub relinks : (rest : List ℕ) → AreBehind (link_in linked) c rest → ((k : ℕ) → k < length (b ∷ front ++ rest) → (k < length bs) × (at (b ∷ front ++ rest) k ≡ at bs k))
          → ((d : ℕ) → Contains bs d → Contains cs d ⊎ Contains (b ∷ front ++ rest) d) → (free : List ℕ) → IsPermutation (index.free ++ v.behind) (free ++ (front ++ rest))
          → ((d : ℕ) → Contains v.behind d → Contains free d → IsBlank linked d) → AllUsed ys → length (b ∷ front ++ rest) ≡ suc (spares_behind (length ys))
          → (p : OwnerState) → Kept p → p ≡ linked → Leaves o b (record { shape = index.shape; free = free }) ys p
      relinks rest to place within free moved blank used size p kept stored = subst (Leaves o b (record { shape = index.shape; free = free }) ys) (sym stored)
          (rewritten o linked.words (chained linked (subst Kept stored kept)) index b v (front ++ rest) free ys record {
            only = only_more words r.only c SLOTS (bucket_in c was_link) (omega arith) (PutsLink c next) refl refl;
            behind = relinked (link_in o) (link_in linked) c link_else rest to b front cut is (subst (AreBehind (link_in o) b) split v.chain.behind);
            filled = grind (arith, same_entry, r.entries, place, used, size);
            same = λ d out out'. record {
              link = link_else d (λ e. out (subst (Contains cs) (sym e) was_link));
              entry = λ slot low. same_entry d slot low ∙ r.others d slot (λ i. elim (within d i) [ inl was ↦ out was | inr now ↦ out' now ]) low;
            };
            moved = moved;
            blank = blank;
          })

  -- the chain keeps its buckets
  pub kept_buckets : {words ys : List ℕ} → Entered cs words ys → (p : OwnerState) → Kept p → p ≡ now words → AllUsed ys → length cs ≡ suc (spares_behind (length ys))
      → Leaves o b index ys p
  kept_buckets {words} {ys} r p kept is used size = subst (Leaves o b index ys) (sym is)
      (rewritten o words (chained (now words) (subst Kept is kept)) index b v v.behind index.free ys record {
        only = r.only;
        behind = same_behind (link_in o) (link_in (now words)) b v.behind (λ d i. r.links d) v.chain.behind;
        filled = record { entries = r.entries; used = used; size = size };
        same = λ d n n'. record { link = r.links d; entry = λ slot low. r.others d slot n low };
        moved = IsPermutation-refl (index.free ++ v.behind);
        blank = λ d i has. absurd (not_free d i has);
      })
