-- What a step of the cache machine leaves: of the records once the write is made those that the log has not passed, but for one that is displaced.
-- And how many of them the written bucket has: as many as it has live slots, and the written key's own.
use Rattle.partition_model.specs.CacheStep as cs
use Rattle.partition_model.proofs.Found as found
use Rattle.partition_model.proofs.Laid as laid
use Rattle.cache_partition.proofs.Words.{AllOf, Bool, Cache, Del, HasNoSlot, IsDistinct, IsDistinct-cons, IsLaid, IsUnique, IsWrite, IsWritten, List}
use Rattle.cache_partition.proofs.Words.{None, Op, Option, Put, Touch, Record, SLOTS, Some, StandsFor, Write, [], after_write_is, all_filter, all_passes}
use Rattle.cache_partition.proofs.Words.{all_weaker, ap, arith, bucket_in, cases_Bool, cases_lt, cond, count_by, count_cons, entry_in, entry_offset}
use Rattle.cache_partition.proofs.Words.{eq-eqb, eqb, eqb-true, false, filter, find, found_has, has_key, has_other_key, here_of, inl, inr, is_its_key}
use Rattle.cache_partition.proofs.Words.{is_live, keeps_put, kept_record, laid_found, le-leb, le-length_from_below, leb-true, left_of, length}
use Rattle.cache_partition.proofs.Words.{length-filter, length-le_from_distinct_below, list_any, live_of, missed_all, nat_tests, ne_eqb, new_record}
use Rattle.cache_partition.proofs.Words.{options_in, others_lack, record_of, refl, rewritten, rewritten_key, same_Some, same_or_other, subst}
use Rattle.cache_partition.proofs.Words.{suc, sym, tail_of, true, true≢false, without_first, written_same, ℕ, ⊎_elim, ◌+◌, ◌<◌, ◌∙◌, ◌∷◌, ◌≡◌, ◌≢◌}
use Rattle.cache_partition.proofs.Words.{◌≤◌, ◌⊎◌}
use Rattle.cache_partition.proofs.Held.{HasSlot, Held, live_entry, machine, of_others, one_slot, slot_key, slot_of, slot_record, stamp_is}
use Rattle.std.proofs.lemmas.Grind.{common_steps}

-- Lists of the log's records

all_both : {X : Type 0} (P Q : X → Type 0) (xs : List X) → AllOf P xs → AllOf Q xs → AllOf (λ x. P x × Q x) xs
all_both P Q [] ps qs = tt
all_both P Q (x ∷ xs) ps qs = ((ps.0, qs.0), all_both P Q xs ps.1 qs.1)

-- what all of a list have, those that pass a test have too, and they pass it
pub all_filtered : {X : Type 0} (P : X → Type 0) (q : X → Bool) (xs : List X) → AllOf P xs → AllOf (λ x. P x × (q x ≡ true)) (filter q xs)
all_filtered P q xs all = all_both P (λ x. q x ≡ true) (filter q xs) (all_filter P q xs all) (all_passes q xs)

-- where some pass, one is found
pub some_found : {X : Type 0} (p : X → Bool) (xs : List X) → 0 < count_by p xs → (x : X) × (find p xs ≡ Some x)
some_found p [] some = absurd (omega arith)
some_found p (x ∷ xs) some =
    elim (p x) as (λ b. cond b 1 0 + count_by p xs ≡ count_by p (x ∷ xs) → (y : _) × (cond b (Some x) (find p xs) ≡ Some y)) [
      | true ↦ λ w. (x, refl)
      | false ↦ λ w. some_found p xs (omega arith)
    ] (sym (count_cons p x xs))

-- a key that another, found record has
apart_key : (here : Record → Bool) (x f : Record) (xs : List Record) → find (has_key x.key) xs ≡ None → find here xs ≡ Some f → x.key ≢ f.key
apart_key here x f xs none is same =
    true≢false (sym (is_its_key x.key f (sym same)) ∙ found_has (λ r. has_key x.key r ≡ false) here xs f (missed_all (has_key x.key) xs none) is)

-- each of unique records is the one of its key
pub each_found : (rs : List Record) → IsUnique rs → AllOf (λ r. find (has_key r.key) rs ≡ Some r) rs
each_found [] unique = tt
each_found (x ∷ rs) unique = (
  ap (λ b. cond b (Some x) (find (has_key x.key) rs)) (is_its_key x.key x refl),
  all_weaker (λ r. (find (has_key r.key) rs ≡ Some r) × (has_key x.key r ≡ false)) (λ r. cond (has_key r.key x) (Some x) (find (has_key r.key) rs) ≡ Some r)
      (λ r h. ap (λ b. cond b (Some x) (find (has_key r.key) rs)) (has_other_key r.key x (λ same. true≢false (sym (is_its_key x.key r (sym same)) ∙ h.1))) ∙ h.0) rs
      (all_both (λ r. find (has_key r.key) rs ≡ Some r) (λ r. has_key x.key r ≡ false) rs (each_found rs unique.1) (missed_all (has_key x.key) rs unique.0)),
)

-- the first that passes a test, and what is left without it

pub found_other : (here : Record → Bool) (rs : List Record) (f : Record) → find here rs ≡ Some f → (key : List ℕ) → key ≢ f.key
    → find (has_key key) (without_first here rs) ≡ find (has_key key) rs
found_other here [] f is key other = refl
found_other here (x ∷ rs) f is key other =
    elim (here x) as (λ b. cond b (Some x) (find here rs) ≡ Some f → find (has_key key) (cond b rs (x ∷ without_first here rs)) ≡ cond (has_key key x) (Some x) (find (has_key key) rs)) [
      | true ↦ λ e. ap (λ b. cond b (Some x) (find (has_key key) rs)) (sym (has_other_key key x (λ same. other (sym same ∙ ap (λ (r : Record). r.key) (same_Some x f e)))))
      | false ↦ λ e. ap (cond (has_key key x) (Some x)) (found_other here rs f e key other)
    ] is

pub found_gone : (here : Record → Bool) (rs : List Record) (f : Record) → IsUnique rs → find here rs ≡ Some f → find (has_key f.key) (without_first here rs) ≡ None
found_gone here [] f unique is = refl
found_gone here (x ∷ rs) f unique is =
    elim (here x) as (λ b. cond b (Some x) (find here rs) ≡ Some f → find (has_key f.key) (cond b rs (x ∷ without_first here rs)) ≡ None) [
      | true ↦ λ e. ap (λ (k : List ℕ). find (has_key k) rs) (ap (λ (r : Record). r.key) (sym (same_Some x f e))) ∙ unique.0
      | false ↦ λ e. ap (λ b. cond b (Some x) (find (has_key f.key) (without_first here rs))) (has_other_key f.key x (apart_key here x f rs unique.0 e)) ∙ found_gone here rs f unique.1 e
    ] is

-- it begins first
pub first_least : (here : Record → Bool) (from upto : ℕ) (rs : List Record) (f r : Record) (key : List ℕ) → IsLaid from upto rs → find here rs ≡ Some f
    → find (has_key key) rs ≡ Some r → here r ≡ true → f.offset ≤ r.offset
first_least here from upto [] f r key laid is found passes = cc
first_least here from upto (x ∷ rs) f r key laid is found passes =
    elim (here x) as (λ b. here x ≡ b → cond b (Some x) (find here rs) ≡ Some f → f.offset ≤ r.offset) [
      | true ↦ λ yes e. subst (λ (z : Record). z.offset ≤ r.offset) (same_Some x f e)
          (laid_found (has_key key) x.offset upto (x ∷ rs) r (omega arith, laid.1) found).0
      | false ↦ λ no e. elim (has_key key x) as (λ b. cond b (Some x) (find (has_key key) rs) ≡ Some r → f.offset ≤ r.offset) [
        | true ↦ λ e'. absurd (true≢false (sym passes ∙ (ap here (sym (same_Some x r e')) ∙ no)))
        | false ↦ λ e'. first_least here (x.offset + x.room) upto rs f r key laid.1 e e' passes
      ] found
    ] refl is

below_all : (n : ℕ) (xs : List ℕ) → AllOf (λ y. y < n) xs → (q : ℕ) → list_any (eqb q) xs ≡ true → q < n
below_all n [] all q has = cc
below_all n (x ∷ xs) all q has = ⊎_elim
    (λ t. let e : q ≡ x = grind (arith, nat_tests) in let l = all.0 in omega arith)
    (λ f. below_all n xs all.1 q (rw f at has))
    (cases_Bool (eqb q x))

-- Steps of the machine

module _ (h : Held) (w : Write) where
  -- what the machine has once the write is made
  abbrev pub made : Cache
  made = cs.after_write (options_in h.o) h.m w

  abbrev new : Cache
  new = cs.after (options_in h.o) h.m w

  -- they are all but for those of lost keys
  pub record Leaves (IsLost : List ℕ → Type 0) : Type 0 where
    pub back : (key : List ℕ) (r : Record) → record_of new key ≡ Some r → (record_of made key ≡ Some r) × ¬ (IsLost key)
    pub on : (key : List ℕ) (r : Record) → record_of made key ≡ Some r → tail_of made.stamp ≤ r.offset + h.o.shape.words → ¬ (IsLost key) → record_of new key ≡ Some r

  -- The write itself

  pub is_deleted : w.op ≡ Del → made ≡ cs.after_delete h.m w
  is_deleted op = ap (λ (z : Op). cs.after_op z (options_in h.o) h.m w) op

  pub is_rewritten : (held : Record) → w.op ≡ Put → kept_record (options_in h.o) h.m w ≡ Some held → made ≡ cs.after_rewrite h.m w
  is_rewritten held op at = ap (λ (z : Op). cs.after_op z (options_in h.o) h.m w) op ∙ ap (λ (z : Option Record). cs.after_put z h.m w) at

  pub is_appended : w.op ≡ Put → kept_record (options_in h.o) h.m w ≡ None → made ≡ cs.after_append h.m (new_record h.m w.key w.value)
  is_appended op at = ap (λ (z : Op). cs.after_op z (options_in h.o) h.m w) op ∙ ap (λ (z : Option Record). cs.after_put z h.m w) at

  pub is_untouched : w.op ≡ Touch → record_of h.m w.key ≡ None → made ≡ record h.m { stamp = h.m.stamp + 1 }
  is_untouched op none = ap (λ (z : Op). cs.after_op z (options_in h.o) h.m w) op ∙ ap (λ (z : Option Record). cs.after_touch z h.m w) none

  -- its stamp is the step's
  pub step_stamp : new.stamp ≡ made.stamp
  unfolding cs.after
  step_stamp = refl

  -- and what it leaves the key: no record, or one with the new value

  pub deleted_none : w.op ≡ Del → record_of made w.key ≡ None
  deleted_none op = ap (λ (z : Cache). record_of z w.key) (is_deleted op) ∙ others_lack w.key h.m.records

  pub rewritten_own : (held : Record) → w.op ≡ Put → kept_record (options_in h.o) h.m w ≡ Some held
      → record_of made w.key ≡ Some (record held { key = w.key; value = w.value })
  rewritten_own held op at =
      let keeps = keeps_put (options_in h.o) h.m w held at in
      ap (λ (z : Cache). record_of z w.key) (is_rewritten held op at)
      ∙ (laid.found_map (rewritten w) (rewritten_key w) w.key h.m.records held keeps.is
      ∙ (λ j. Some (cond (found.found_passes (has_key w.key) h.m.records held keeps.is j) (record held { key = laid.found_key w.key h.m.records held keeps.is j; value = w.value }) held)))

  pub untouched_none : w.op ≡ Touch → record_of h.m w.key ≡ None → record_of made w.key ≡ None
  untouched_none op none = ap (λ (z : Cache). record_of z w.key) (is_untouched op none) ∙ none

  -- Then the log passes

  module _ (is : IsWrite w) where
    abbrev here : Record → Bool
    here = here_of (options_in h.o) w

    abbrev pub lives : List Record
    lives = live_of (options_in h.o) made

    abbrev pub is_living : Record → Bool
    is_living r = is_live h.o.shape.words made.stamp r.offset

    pub written : IsWritten (options_in h.o) h.m w made
    written = after_write_is (options_in h.o) h.m (machine h) w is

    pub live_on : (key : List ℕ) (r : Record) → record_of made key ≡ Some r
        → tail_of made.stamp ≤ r.offset + h.o.shape.words → find (has_key key) lives ≡ Some r
    live_on key r at live = found.found_filter (has_key key) is_living made.records r at (le-leb (tail_of made.stamp) (r.offset + h.o.shape.words) live)

    live_back : (key : List ℕ) (r : Record) → find (has_key key) lives ≡ Some r → (record_of made key ≡ Some r) × (is_living r ≡ true)
    live_back key r at = laid.found_before_filter key is_living made.records r written.unique at

    unique : IsUnique lives
    unique = laid.unique_filter is_living made.records written.unique

    -- and where the bucket has no more records than slots, no other is lost
    pub none_lost : count_by here lives ≢ SLOTS + 1 → Leaves (λ key. ⊥)
    unfolding cs.after
    none_lost few =
        let left : left_of (options_in h.o) w lives ≡ lives = ap (λ b. cond b (without_first here lives) lives) (ne_eqb (count_by here lives) (SLOTS + 1) few) in record {
          back = λ key r at. ((live_back key r (sym (ap (find (has_key key)) left) ∙ at)).0, λ lost. lost);
          on = λ key r at live kept. ap (find (has_key key)) left ∙ live_on key r at live;
        }

    -- where it has one more, its first is, before which none of them begins
    module _ (f : Record) (first : find here lives ≡ Some f) where
      pub first_is : (record_of made f.key ≡ Some f) × (bucket_in h.o f.key ≡ bucket_in h.o w.key)
      first_is =
          let there = found.found_passes here lives f first in
          let own = found_has (λ r. find (has_key r.key) lives ≡ Some r) here lives f (each_found lives unique) first in
          ((live_back f.key f own).0, eqb-true (bucket_in h.o f.key) (bucket_in h.o w.key) there)

      pub first_begins : (key : List ℕ) (r : Record) → record_of made key ≡ Some r → tail_of made.stamp ≤ r.offset + h.o.shape.words
          → bucket_in h.o key ≡ bucket_in h.o w.key → f.offset ≤ r.offset
      first_begins key r at live there =
          first_least here 0 (tail_of made.stamp) lives f r key
          (laid.laid_filter is_living 0 (tail_of made.stamp) made.records written.laid) first (live_on key r at live)
          (eq-eqb (bucket_in h.o r.key) (bucket_in h.o w.key)
          (ap (bucket_in h.o) (laid.found_key key made.records r at) ∙ there))

      pub first_lost : count_by here lives ≡ SLOTS + 1 → Leaves (λ key. key ≡ f.key)
      unfolding cs.after
      first_lost full =
          let left : left_of (options_in h.o) w lives ≡ without_first here lives = ap (λ b. cond b (without_first here lives) lives) (eq-eqb (count_by here lives) (SLOTS + 1) full) in record {
            back = λ key r at.
                let there : find (has_key key) (without_first here lives) ≡ Some r = sym (ap (find (has_key key)) left) ∙ at in
                let kept : key ≢ f.key = λ same. cc (sym (ap (λ (k : List ℕ). find (has_key k) (without_first here lives)) same ∙ found_gone here lives f unique first) ∙ there) in
                ((live_back key r (sym (found_other here lives f first key kept) ∙ there)).0, kept);
            on = λ key r at live kept. ap (find (has_key key)) left ∙ (found_other here lives f first key kept ∙ live_on key r at live);
          }

    -- How many records the bucket has then: as many as it has live slots, and the written key's own

    module _ (stood : StandsFor h.o (bucket_in h.o w.key)) where
      abbrev b : ℕ
      b = bucket_in h.o w.key

      -- the bucket's records that the log does not pass
      abbrev its : List Record
      its = filter here lives

      -- a record's number is that of its slot, and one more than those of slots where it is the written key's
      abbrev pub IsNumber : Record → ℕ → Type 0
      IsNumber r i = ((r.key ≡ w.key) × (i ≡ SLOTS)) ⊎ ((r.key ≢ w.key) × HasSlot h b r.key r i)

      record Numbered (r : Record) : Type 0 where
        pub number : ℕ
        pub low : number < SLOTS + 1
        pub number_is : IsNumber r number
        pub found : record_of made r.key ≡ Some r
        pub live : tail_of made.stamp ≤ r.offset + h.o.shape.words

      numbered : (r : Record) → ((record_of made r.key ≡ Some r) × (is_living r ≡ true)) × (here r ≡ true) → Numbered r
      numbered r at =
          let live = leb-true (tail_of made.stamp) (r.offset + h.o.shape.words) at.0.1 in
          elim (same_or_other r.key w.key) [
            | inl mine ↦ record { number = SLOTS; low = omega arith; number_is = inl (mine, refl); found = at.0.0; live = live }
            | inr other ↦
                let slot = slot_of h b stood r.key r (eqb-true (bucket_in h.o r.key) b at.1) (sym (written_same (options_in h.o) h.m w r.key other) ∙ at.0.0) in
                record { number = slot.0; low = omega (arith, slot.1.entry.in_bucket); number_is = inr (other, slot.1); found = at.0.0; live = live }
          ]

      all_numbered : AllOf Numbered its
      all_numbered = found.all_weaker _ Numbered numbered its
          (all_filtered _ here lives (all_filtered _ is_living made.records (each_found made.records written.unique)))

      numbers : (rs : List Record) → AllOf Numbered rs → List ℕ
      numbers [] all = []
      numbers (r ∷ rs) all = all.0.number ∷ numbers rs all.1

      length-numbers : (rs : List Record) (all : AllOf Numbered rs) → length (numbers rs all) ≡ length rs
      unfolding numbers
      length-numbers [] all = refl
      length-numbers (r ∷ rs) all = ap suc (length-numbers rs all.1)

      numbers_all : (P : ℕ → Type 0) (rs : List Record) (all : AllOf Numbered rs) → AllOf (λ r. (n : Numbered r) → P n.number) rs → AllOf P (numbers rs all)
      unfolding numbers
      numbers_all P [] all ps = tt
      numbers_all P (r ∷ rs) all ps = (ps.0 all.0, numbers_all P rs all.1 ps.1)

      numbers_each : (P : ℕ → Type 0) → ((r : Record) (n : Numbered r) → P n.number) → AllOf P (numbers its all_numbered)
      numbers_each P each = numbers_all P its all_numbered (found.all_weaker Numbered (λ r. (n : Numbered r) → P n.number) (λ r n. each r) its all_numbered)

      -- those of two keys differ
      differ : (r r' : Record) (i i' : ℕ) → has_key r.key r' ≡ false → IsNumber r i → IsNumber r' i' → i ≢ i'
      differ r r' i i' other is is' same =
          let low = λ (at : HasSlot h b r.key r i). at.entry.in_bucket in
          let low' = λ (at : HasSlot h b r'.key r' i'). at.entry.in_bucket in
          let keys = λ (at : HasSlot h b r.key r i) (at' : HasSlot h b r'.key r' i').
          slot_key h b i' r'.key r.key r' r at' (subst (HasSlot h b r.key r) same at) in
          grind (arith, is, is', same, low, low', keys, laid.has_its_key r.key r', other, true≢false)

      numbers_distinct : (rs : List Record) (all : AllOf Numbered rs) → IsUnique rs → IsDistinct eqb (numbers rs all)
      unfolding numbers IsDistinct
      numbers_distinct [] all single = tt
      numbers_distinct (r ∷ rs) all single = (
        numbers_all (λ i. eqb all.0.number i ≡ false) rs all.1 (found.all_weaker (λ r'. has_key r.key r' ≡ false) (λ r'. (n : Numbered r') → eqb all.0.number n.number ≡ false)
            (λ r' other n. ne_eqb all.0.number n.number (differ r r' all.0.number n.number other all.0.number_is n.number_is)) rs (found.missed_all (has_key r.key) rs single.0)),
        numbers_distinct rs all.1 single.1,
      )

      -- where a number is no record's, there are at most 15
      pub few : (j : ℕ) → j < SLOTS + 1 → ((r : Record) → record_of made r.key ≡ Some r → tail_of made.stamp ≤ r.offset + h.o.shape.words → ¬ (IsNumber r j))
          → count_by here lives ≢ SLOTS + 1
      few j low free full =
          let none = numbers_each (λ i. eqb j i ≡ false) (λ r n. ne_eqb j n.number (λ same. free r n.found n.live (subst (IsNumber r) (sym same) n.number_is))) in
          let most = length-le_from_distinct_below (j ∷ numbers its all_numbered) (SLOTS + 1)
          (IsDistinct-cons eqb j (numbers its all_numbered) none (numbers_distinct its all_numbered (laid.unique_filter here lives unique)))
          (below_all (SLOTS + 1) (j ∷ numbers its all_numbered) (low, numbers_each (λ i. i < SLOTS + 1) (λ r n. n.low))) in
          omega (arith, most, length-numbers its all_numbered, length-filter here lives, full)

      one_number : (r : Record) (i i' : ℕ) → IsNumber r i → IsNumber r i' → i ≡ i'
      one_number r i i' is is' = grind (arith, is, is', one_slot h b stood i i' r.key r.key r r)

      -- a record that is among those counted has its number among theirs
      among : (key : List ℕ) (r : Record) (i : ℕ) → IsNumber r i → (rs : List Record) (all : AllOf Numbered rs)
          → find (has_key key) rs ≡ Some r → list_any (eqb i) (numbers rs all) ≡ true
      unfolding numbers
      among key r i its [] all is = cc
      among key r i its (x ∷ rs) all is =
          elim (has_key key x) as (λ b. cond b (Some x) (find (has_key key) rs) ≡ Some r → list_any (eqb i) (all.0.number ∷ numbers rs all.1) ≡ true) [
            | true ↦ λ e. rw (eq-eqb i all.0.number (one_number r i all.0.number its (subst (λ (z : Record). IsNumber z all.0.number) (same_Some x r e) all.0.number_is))) refl
            | false ↦ λ e. grind (arith, nat_tests, common_steps, among key r i its rs all.1 e)
          ] is

      found_among : (key : List ℕ) (r : Record) (i : ℕ) → IsNumber r i → record_of made key ≡ Some r → tail_of made.stamp ≤ r.offset + h.o.shape.words
          → bucket_in h.o key ≡ b → list_any (eqb i) (numbers its all_numbered) ≡ true
      found_among key r i number at live there = among key r i number its all_numbered
          (found.found_filter (has_key key) here lives r (live_on key r at live)
          (eq-eqb (bucket_in h.o r.key) b (ap (bucket_in h.o) (laid.found_key key made.records r at) ∙ there)))

      -- a slot whose entry stays live has a key's record
      pub record_at : (i : ℕ) → i < SLOTS → (entry_in h.o b i ≢ 0) × (tail_of made.stamp ≤ entry_offset (entry_in h.o b i) + h.o.shape.words)
          → (key : List ℕ) × (r : Record) × HasSlot h b key r i
      record_at i low live =
          let e = live_entry h b i (entry_in h.o b i) low refl live.0 (omega (arith, stamp_is h, written.least, live.1)) in
          slot_record h b stood i (entry_in h.o b i) e

      -- where every slot is live and of another key, and the key has a record, there are 16
      pub many : (own : Record) → record_of made w.key ≡ Some own → tail_of made.stamp ≤ own.offset + h.o.shape.words → HasNoSlot h.o b w.key
          → ((i : ℕ) → i < SLOTS → (entry_in h.o b i ≢ 0) × (tail_of made.stamp ≤ entry_offset (entry_in h.o b i) + h.o.shape.words))
          → count_by here lives ≡ SLOTS + 1
      many own at own_live none live =
          let least = le-length_from_below (numbers its all_numbered) (SLOTS + 1) each in
          let most = written.here in
          omega (arith, least, most, length-numbers its all_numbered, length-filter here lives, found.count_filter here is_living made.records)
        where
          at_slot : (i : ℕ) → i < SLOTS → list_any (eqb i) (numbers its all_numbered) ≡ true
          at_slot i low =
              let at = record_at i low (live i low) in
              let other = of_others h b w.key none i at.0 at.1 at.2 in
              let its_key = sym (laid.found_key at.0 h.m.records at.1 at.2.is) in
              let number : IsNumber at.1 i = inr ((λ mine. other (its_key ∙ mine)), subst (λ (k : List ℕ). HasSlot h b k at.1 i) its_key at.2) in
              found_among at.0 at.1 i number (written_same (options_in h.o) h.m w at.0 other ∙ at.2.is) (omega (arith, at.2.offset, (live i low).1))
              at.2.spelt.bucket

          each : (i : ℕ) → i < SLOTS + 1 → list_any (eqb i) (numbers its all_numbered) ≡ true
          each i low = elim (cases_lt i SLOTS) [
            | inl slot ↦ at_slot i slot
            | inr last ↦ found_among w.key own i (inl (laid.found_key w.key made.records own at, omega arith)) at own_live refl
          ]
