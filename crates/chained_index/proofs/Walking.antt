-- A step along a chain, its end, and a search along it.
use Rattle.std.proofs.Common.{rules}
use Rattle.std.proofs.lemmas.Grind.{common_steps}
use Rattle.chained_index.proofs.Words.{SLOTS, ◌≡◌, ◌≢◌, ℕ, suc, ◌+◌, ◌-◌, ◌*◌, ◌<◌, ◌≤◌, ◌⊎◌, List, ◌∷◌, length, sym, ap, ◌∙◌, subst, arith}
use Rattle.chained_index.proofs.Words.{OwnerState, IsMain, IsBucket, entry_in, link_in, buckets_of, entries_of, bucket_at, EndsIn, EndsAt, Index}
use Rattle.chained_index.proofs.Words.{Contains-get_or, tag_of, entry_tag, entry_offset, InChain, HasKey, in_chain, IsSpotOf}
use Rattle.chained_index.proofs.Words.{HasNoSpot}
use Rattle.chained_index.proofs.Lists.{at, below}
use Rattle.chained_index.proofs.Filled.{is_within, entry_there, View}
use Rattle.chained_index.proofs.Chained.{chain_is, step_on, first_bucket, length-buckets_of}

-- where a walk stands: at the bucket that so many links lead to
pub record HasWalkedTo (o : OwnerState) (b link c : ℕ) : Type 0 where
  pub inside : IsBucket o.shape c
  pub within : link < length (buckets_of o b)
  pub here : bucket_at o link b ≡ c

pub at_first : (o : OwnerState) (b : ℕ) → IsMain o.shape b → HasWalkedTo o b 0 b
at_first o b main = let first = first_bucket o b in record { inside = omega arith; within = first.0; here = first.1 }

-- no walk goes past all spares
pub at_most : (o : OwnerState) (b link c : ℕ) → HasWalkedTo o b link c → link ≤ o.shape.spares
at_most o b link c w = let few = length-buckets_of o b in let within = w.within in omega arith

pub at_last : (o : OwnerState) (b link c : ℕ) → HasWalkedTo o b link c → o.shape.spares ≤ link → length (buckets_of o b) ≡ suc link
at_last o b link c w far = let few = length-buckets_of o b in let within = w.within in omega arith

-- the bucket one link before
abbrev pub IsBehind : OwnerState → ℕ → ℕ → ℕ → Type 0
IsBehind o b link c = (k : ℕ) → suc k ≡ link → bucket_at o k b ≡ c

pub behind_further : (o : OwnerState) (b link c : ℕ) → HasWalkedTo o b link c → IsBehind o b (link + 1) c
behind_further o b link c w k e = let same : k ≡ link = omega arith in ap (at (buckets_of o b)) same ∙ w.here

-- a walk that came to the end has the last two
pub ends_in : (o : OwnerState) (b link before c : ℕ) → HasWalkedTo o b link c → IsBehind o b link before → length (buckets_of o b) ≡ suc link → EndsIn o b before c
ends_in o b link before c w behind size = grind (arith, common_steps)

module _ (o : OwnerState) (index : Index) (b : ℕ) (v : View o index b) where
  abbrev cs : List ℕ
  cs = b ∷ v.behind

  pub list : buckets_of o b ≡ cs
  list = chain_is o b v.behind v.chain

  module _ (link c : ℕ) (w : HasWalkedTo o b link c) where
    pub placed : (link < length cs) × (at cs link ≡ c)
    placed = subst (λ (z : List ℕ). (link < length z) × (at z link ≡ c)) list (w.within, w.here)

    step : (link < length v.behind) × (link_in o c ≢ 0) × (link_in o c ≡ at cs (suc link)) ⊎ (length v.behind ≡ link) × (link_in o c ≡ 0)
    step = grind (arith, placed.1, step_on (link_in o) b v.behind v.chain.behind link placed.0)

    -- the link was read: one further, or at the end

    pub one_further : (x : ℕ) → x ≡ link_in o c → x ≢ 0 → HasWalkedTo o b (link + 1) x
    one_further x is some = search (rules, step, is, IsBucket, list, some)

    pub at_end : (x : ℕ) → x ≡ link_in o c → x ≡ 0 → length (buckets_of o b) ≡ suc link
    at_end x is none = grind (arith, step, ap length list, is)

  -- the end of a chain, from its last two buckets and the used slots of the last

  pub last_bucket : (before last : ℕ) → EndsIn o b before last → at cs (length v.behind) ≡ last
  last_bucket before last ends = grind (arith, list, ends.last (length v.behind))

  pub end_there : (before last used : ℕ) → EndsIn o b before last
      → (used ≤ SLOTS) × ((slot : ℕ) → slot < used → entry_in o last slot ≢ 0) × (used < SLOTS → entry_in o last used ≡ 0)
      → EndsAt o b (record { before = before; bucket = last; used = used })
  end_there before last used ends slots = record { buckets = ends; within = slots.0; used = used_is }
    where
      entry : (slot : ℕ) → slot < SLOTS → at (entries_of o b) (SLOTS * length v.behind + slot) ≡ entry_in o last slot
      entry slot low = sym (v.filled.entries (length v.behind) slot (omega arith) low) ∙ ap (λ (z : ℕ). entry_in o z slot) (last_bucket before last ends)

      used_is : length (entries_of o b) + SLOTS ≡ SLOTS * length (buckets_of o b) + used
      used_is =
          let more = below (entries_of o b) (SLOTS * length v.behind + (used - 1)) in
          let most = v.filled.used (SLOTS * length v.behind + used) 0 in
          grind (arith, ap length list, v.filled.size, slots.0, slots.1 (used - 1), slots.2, entry (used - 1), entry used)

-- A search along the chain

-- the entry has the key's tag, and its item the key
abbrev pub IsOfKey : OwnerState → List ℕ → ℕ → Type 0
IsOfKey o key entry = (entry_tag entry ≡ tag_of o.shape.hashing key) × HasKey o (entry_offset entry) key

-- none of the chain's first entries, this many, is the key's
abbrev pub NoneBefore : OwnerState → ℕ → List ℕ → ℕ → Type 0
NoneBefore o b key n = (i : ℕ) → i < n → ¬ (IsOfKey o key (at (entries_of o b) i))

module _ (o : OwnerState) (index : Index) (b : ℕ) (v : View o index b) (key : List ℕ) where
  pub none_at_all : (n : ℕ) → length (entries_of o b) ≤ n → NoneBefore o b key n → HasNoSpot o b key
  none_at_all n all none spot is = grind (arith, common_steps, is_within o index b v spot is.used, entry_there o index b v spot is.used)

  module _ (link c : ℕ) (w : HasWalkedTo o b link c) where
    here : (link < length (b ∷ v.behind)) × (at (b ∷ v.behind) link ≡ c)
    here = placed o index b v link c w

    entry_here : (slot : ℕ) → slot < SLOTS → entry_in o c slot ≡ at (entries_of o b) (SLOTS * link + slot)
    entry_here slot low = ap (λ (z : ℕ). entry_in o z slot) (sym here.1) ∙ v.filled.entries link slot here.0 low

    pub spot_found : (slot : ℕ) → slot < SLOTS → entry_in o c slot ≢ 0 → IsOfKey o key (entry_in o c slot) → IsSpotOf o b key (record { bucket = c; slot = slot })
    spot_found slot low some is =
        grind (arith, InChain o b, here.1, in_chain o b v.behind v.chain (at (b ∷ v.behind) link) (Contains-get_or (b ∷ v.behind) link 0 here.0), low, some, is.0, is.1)

    -- where a slot is empty, so is all behind it
    pub none_past_empty : (slot : ℕ) → slot < SLOTS → entry_in o c slot ≡ 0 → NoneBefore o b key (SLOTS * link + slot) → HasNoSpot o b key
    none_past_empty slot low empty = none_at_all (SLOTS * link + slot) (grind (arith, v.filled.used (SLOTS * link + slot) 0, entry_here slot low, empty))

    -- where there is no link, there is no other bucket
    pub none_at_end : length (buckets_of o b) ≡ suc link → NoneBefore o b key (SLOTS * link + SLOTS) → HasNoSpot o b key
    none_at_end last = none_at_all (SLOTS * link + SLOTS) (omega (arith, last, ap length (list o index b v), v.filled.size))

    pub one_more : (slot : ℕ) → slot < SLOTS → NoneBefore o b key (SLOTS * link + slot) → ¬ (IsOfKey o key (entry_in o c slot)) → NoneBefore o b key (SLOTS * link + (slot + 1))
    one_more slot low none not i less is = grind (arith, entry_here slot low, none i, not, is)
