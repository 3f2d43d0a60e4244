-- A search, entry by entry and bucket by bucket.
use Rattle.std.proofs.Common.{◌≡◌, ◌≢◌, ℕ, ◌+◌, ◌*◌, ◌<◌, ◌≤◌, List, [], ◌∷◌, refl, sym, ap, ◌∙◌, subst, arith, Option, Some, None, ◌⊎◌, inl, inr, ⊎_elim}
use Rattle.std.specs.Prelude.{Contains, true, false, is_some}
use Rattle.std.proofs.lemmas.Bool.{cases_lt}
use Rattle.mica_words.specs.declared.entry.TheConstants.{SLOTS}
use Rattle.mica_words.specs.declared.hashing.Hashing.{Hashing}
use Rattle.mica_words.specs.Hash.{tag_of}
use Rattle.mica_words.specs.Entry.{entry_tag, entry_offset}
use Rattle.mica_words.specs.Item.{largest_stored_item}
use Rattle.mica_words.proofs.Hashes.{tag_of-range}
use Rattle.partition_model.specs.declared.options.Mode.TheVariants.{Store}
use Rattle.partition_words.specs.declared.shape.Shape.{Shape}
use Rattle.partition_words.specs.declared.reader.ReaderState.{ReaderState}
use Rattle.partition_words.specs.Layout.{entry_at, item_at}
use Rattle.partition_words.specs.ReaderState.{loaded}
use Rattle.partition_words.specs.Spelt.{Loads, HasLoad, ShowsOther, by_offset, by_key_len, by_value_len, by_hash, by_key_word, ShowsItem, IsEntryOf}
use Rattle.partition_words.proofs.Failing.{in_head}
use Rattle.optimistic_get.specs.Loading.{loads_in, Keeps, GoesOn}
use Rattle.optimistic_get.specs.Search.{IsWeighed, by_tag, by_item, by_best, IsBest, IsNoWorse, IsSlotWeighed, IsSlotSeen, Weighs, Scans, ScansFirst}
use Rattle.optimistic_get.proofs.Loads.{on_then, on_at_most, on_open, on_keeps, on_shape, load_here}
use Rattle.optimistic_get.proofs.Items.{on_one}

-- What loads tell they tell still with more of them.

module _ (shape : Shape) (loads more : Loads) (keeps : Keeps loads more) where
  pub other_keeps : (p : ℕ) (key : List ℕ) → ShowsOther shape loads p key → ShowsOther shape more p key
  other_keeps p key (by_offset out) = by_offset out
  other_keeps p key (by_key_len x load n) = by_key_len x (keeps (item_at shape p) x load) n
  other_keeps p key (by_value_len x load n) = by_value_len x (keeps (item_at shape p) x load) n
  other_keeps p key (by_hash x load n) = by_hash x (keeps (item_at shape (p + 1)) x load) n
  other_keeps p key (by_key_word i x l load n) = by_key_word i x l (keeps (item_at shape (p + 2 + i)) x load) n

  pub item_keeps : (p : ℕ) (key value : List ℕ) → ShowsItem shape loads p key value → ShowsItem shape more p key value
  item_keeps p key value shows = record {
    header = shows.header;
    header_load = keeps _ _ shows.header_load;
    key_len = shows.key_len;
    value_len = shows.value_len;
    hash = keeps _ _ shows.hash;
    key_words = λ i l. keeps _ _ (shows.key_words i l);
    words = shows.words;
    words_len = shows.words_len;
    value_words = λ i l. keeps _ _ (shows.value_words i l);
    held = shows.held;
  }

  entry_keeps : (chain wider key : List ℕ) (entry : ℕ) → ((c : ℕ) → Contains chain c → Contains wider c) → IsEntryOf shape loads chain key entry
      → IsEntryOf shape more wider key entry
  entry_keeps chain wider key entry widens is = record {
    bucket = is.bucket;
    slot = is.slot;
    in_chain = widens is.bucket is.in_chain;
    in_bucket = is.in_bucket;
    load = keeps _ _ is.load;
    tag = is.tag;
  }

  pub best_keeps : (chain wider key : List ℕ) (best : Option ℕ) (value : List ℕ) → ((c : ℕ) → Contains chain c → Contains wider c)
      → IsBest shape loads chain key best value → IsBest shape more wider key best value
  best_keeps chain wider key None value widens is = tt
  best_keeps chain wider key (Some p) value widens is = (is.0, entry_keeps chain wider key is.0 widens is.1, is.2, item_keeps p key value is.3)

  no_worse : (p : ℕ) (best now : Option ℕ) → best ≡ Some p → IsNoWorse best now → (q : ℕ) × (now ≡ Some q) × (p ≤ q)
  no_worse p None now is worse = cc is
  no_worse p (Some r) None is worse = absurd worse
  no_worse p (Some r) (Some q) is worse = let same : p ≡ r = cc in (q, refl, omega arith)

  pub weighed_keeps : (key : List ℕ) (best now : Option ℕ) (entry : ℕ) → IsNoWorse best now → IsWeighed shape loads key best entry → IsWeighed shape more key now entry
  weighed_keeps key best now entry worse (by_tag n) = by_tag n
  weighed_keeps key best now entry worse (by_item shows) = by_item (other_keeps (entry_offset entry) key shows)
  weighed_keeps key best now entry worse (by_best p is less) =
      let later = no_worse p best now is worse in by_best later.0 later.1 (let more = later.2 in omega arith)

  pub slot_keeps : (key : List ℕ) (best now : Option ℕ) (c slot : ℕ) → IsNoWorse best now → IsSlotWeighed shape loads key best c slot → IsSlotWeighed shape more key now c slot
  slot_keeps key best now c slot worse is = (is.0, keeps _ _ is.1, weighed_keeps key best now is.0 worse is.2)

pub no_worse_same : (best : Option ℕ) → IsNoWorse best best
no_worse_same None = tt
no_worse_same (Some p) = omega arith

no_worse_then : (a b c : Option ℕ) → IsNoWorse a b → IsNoWorse b c → IsNoWorse a c
no_worse_then None b c x y = tt
no_worse_then (Some p) None c x y = absurd x
no_worse_then (Some p) (Some q) None x y = absurd y
no_worse_then (Some p) (Some q) (Some r) x y = omega arith

pub later_no_worse : (best : Option ℕ) (q : ℕ) → ((p : ℕ) → best ≡ Some p → p ≤ q) → IsNoWorse best (Some q)
later_no_worse None q later = tt
later_no_worse (Some p) q later = later p refl

-- One entry

pub weighs_none : (r q : ReaderState) (n entry : ℕ) (key : List ℕ) (best : Option ℕ) (value : List ℕ) → GoesOn r n q → n ≤ largest_stored_item
    → IsWeighed q.shape (loads_in q) key best entry → Weighs r entry key best value best value q
weighs_none r q n entry key best value g few weighed =
    record { on = on_at_most r q n largest_stored_item few g; rises = no_worse_same best; found = inl (refl, refl); weighed = weighed }

pub weighs_one : (r q : ReaderState) (entry : ℕ) (key : List ℕ) (best : Option ℕ) (value now : List ℕ) → GoesOn r largest_stored_item q
    → ((p : ℕ) → best ≡ Some p → p ≤ entry_offset entry) → entry_tag entry ≡ tag_of q.shape.hashing key → ShowsItem q.shape (loads_in q) (entry_offset entry) key now
    → Weighs r entry key best value (Some (entry_offset entry)) now q
weighs_one r q entry key best value now g later tag shows = record {
  on = g;
  rises = later_no_worse best (entry_offset entry) later;
  found = inr (refl, tag, shows);
  weighed = by_best (entry_offset entry) refl (omega arith);
}

-- One slot more

module _ (r q q1 q2 : ReaderState) (c n entry : ℕ) (key : List ℕ) (best : Option ℕ) (value : List ℕ) (now : Option ℕ) (v : List ℕ) (next : Option ℕ) (w : List ℕ)
    (before : Scans r c n key best value now v q) (load : q1 ≡ loaded (entry_at q.shape c n) entry q) (weigh : Weighs q1 entry key now v next w q2) (in_bucket : n < SLOTS) where
  one : GoesOn q 1 q1
  one = on_one q q1 (entry_at q.shape c n) entry (on_open r q _ before.on) load

  all : GoesOn q (1 + largest_stored_item) q2
  all = on_then q q1 q2 1 largest_stored_item one weigh.on

  shape : q2.shape ≡ q.shape
  shape = on_shape q q2 (1 + largest_stored_item) all

  keeps : Keeps (loads_in q) (loads_in q2)
  keeps = on_keeps q q2 (1 + largest_stored_item) all

  entry_there : HasLoad (loads_in q2) (entry_at q.shape c n) entry
  entry_there = on_keeps q1 q2 largest_stored_item weigh.on (entry_at q.shape c n) entry (load_here q q1 (entry_at q.shape c n) entry (on_open r q _ before.on) load)

  found_more : ((next ≡ best) × (w ≡ value)) ⊎ IsBest q2.shape (loads_in q2) (c ∷ []) key next w
  found_more = elim weigh.found [
    | inl same ↦ elim before.found [
      | inl still ↦ inl (same.0 ∙ still.0, same.1 ∙ still.1)
      | inr was ↦
          inr (subst (λ (z : Shape). IsBest z (loads_in q2) (c ∷ []) key next w) (sym shape)
          (subst (λ (z : Option ℕ × List ℕ). IsBest q.shape (loads_in q2) (c ∷ []) key z.0 z.1) (λ i. (sym same.0 i, sym same.1 i))
          (best_keeps q.shape (loads_in q) (loads_in q2) keeps (c ∷ []) (c ∷ []) key now v (λ d h. h) was)))
    ]
    | inr one ↦
        inr (subst (λ (z : Option ℕ). IsBest q2.shape (loads_in q2) (c ∷ []) key z w) (sym one.0) (
          entry,
          record {
            bucket = c;
            slot = n;
            in_chain = in_head c [];
            in_bucket = in_bucket;
            load = subst (λ (z : Shape). HasLoad (loads_in q2) (entry_at z c n) entry) (sym shape) entry_there;
            tag = one.1;
          },
          refl,
          one.2,
        ))
  ]

  pub scans_more : Scans r c (n + 1) key best value next w q2
  scans_more = record {
    on = on_at_most r q2 (n * (1 + largest_stored_item) + (1 + largest_stored_item)) ((n + 1) * (1 + largest_stored_item)) (omega arith)
        (on_then r q q2 (n * (1 + largest_stored_item)) (1 + largest_stored_item) before.on all);
    rises = no_worse_then best now next before.rises weigh.rises;
    found = found_more;
    slots = λ slot l. ⊎_elim
        (λ (less : slot < n).
        subst (λ (z : Shape). IsSlotWeighed z (loads_in q2) key next c slot) (sym shape)
        (slot_keeps q.shape (loads_in q) (loads_in q2) keeps key now next c slot weigh.rises (before.slots slot less)))
        (λ (not : n ≤ slot).
        let same : n ≡ slot = omega arith in
        subst (IsSlotWeighed q2.shape (loads_in q2) key next c) same
        (entry, subst (λ (z : Shape). HasLoad (loads_in q2) (entry_at z c n) entry) (sym shape) entry_there, weigh.weighed))
        (cases_lt slot n);
  }

-- A bucket of store mode

pub tagged : (hashing : Hashing) (entry : ℕ) (key : List ℕ) → entry_tag entry ≡ tag_of hashing key → entry ≢ 0
tagged hashing entry key tag none = let some = (tag_of-range hashing key).0 in omega arith

pub some_no_none : (best : Option ℕ) → is_some best ≡ true → best ≢ None
some_no_none None some none = cc some
some_no_none (Some p) some none = cc none

pub none_of : (best : Option ℕ) → is_some best ≡ false → best ≡ None
none_of None none = refl
none_of (Some p) none = cc none

pub is_best : (shape : Shape) (loads : Loads) (chain key value v : List ℕ) (best : Option ℕ) → ((best ≡ None) × (v ≡ value)) ⊎ IsBest shape loads chain key best v → IsBest shape loads chain key best v
is_best shape loads chain key value v best (inl none) = subst (λ (z : Option ℕ). IsBest shape loads chain key z v) (sym none.0) tt
is_best shape loads chain key value v best (inr is) = is

-- up to the key's item
pub first_found : (r q : ReaderState) (c n : ℕ) (key value : List ℕ) (now : Option ℕ) (v : List ℕ) → Scans r c n key None value now v q → n ≤ SLOTS → is_some now ≡ true
    → ScansFirst r c key now v q
first_found r q c n key value now v scans few some = record {
  on = on_at_most r q (n * (1 + largest_stored_item)) (SLOTS * (1 + largest_stored_item)) (omega arith) scans.on;
  found = is_best q.shape (loads_in q) (c ∷ []) key value v now scans.found;
  slots = λ none. absurd (some_no_none now some none);
}

-- whole
pub first_whole : (r q : ReaderState) (c n : ℕ) (key value v : List ℕ) → Scans r c n key None value None v q → n ≡ SLOTS → ScansFirst r c key None v q
first_whole r q c n key value v scans all = record {
  on = on_at_most r q (n * (1 + largest_stored_item)) (SLOTS * (1 + largest_stored_item)) (omega arith) scans.on;
  found = tt;
  slots = λ none slot l. inr (scans.slots slot (omega arith));
}

-- up to an empty slot
pub first_empty : (r q q1 : ReaderState) (c n entry : ℕ) (key value v : List ℕ) → Scans r c n key None value None v q → q1 ≡ loaded (entry_at q.shape c n) entry q → entry ≡ 0 → n < SLOTS
    → r.shape.mode ≡ Store → ScansFirst r c key None v q1
first_empty r q q1 c n entry key value v before load empty in_bucket store =
    let one = on_one q q1 (entry_at q.shape c n) entry (on_open r q _ before.on) load in
    let all = on_then r q q1 (n * (1 + largest_stored_item)) 1 before.on one in
    let shape : q1.shape ≡ q.shape = on_shape q q1 1 one in
    let there = load_here q q1 (entry_at q.shape c n) entry (on_open r q _ before.on) load in
    record {
      on = on_at_most r q1 (n * (1 + largest_stored_item) + 1) (SLOTS * (1 + largest_stored_item)) (omega arith) all;
      found = tt;
      slots = λ none slot l. subst (λ (z : Shape). IsSlotSeen z (loads_in q1) key None c slot) (sym shape) (⊎_elim
          (λ (less : slot < n). inr (slot_keeps q.shape (loads_in q) (loads_in q1) (on_keeps q q1 1 one) key None None c slot tt (before.slots slot less)))
          (λ (not : n ≤ slot). ⊎_elim
          (λ (less : n < slot). inl (ap (λ (z : Shape). z.mode) (on_shape r q _ before.on) ∙ store, n, less, subst (HasLoad (loads_in q1) (entry_at q.shape c n)) empty there))
          (λ (last : slot ≤ n).
          let same : n ≡ slot = omega arith in
          inr (subst (IsSlotWeighed q.shape (loads_in q1) key None c) same (entry, there, by_tag (λ tag. tagged q.shape.hashing entry key tag empty))))
          (cases_lt n slot))
          (cases_lt slot n));
    }
