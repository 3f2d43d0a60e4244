-- The words of a bucket stand for the machine's state, by the list of the chain's entries.
use Rattle.std.proofs.Common.{rules}
use Rattle.chained_index.proofs.Words.{SLOTS, ◌≡◌, ◌≢◌, ℕ, ◌+◌, ◌*◌, ◌/◌, ◌%◌, ◌<◌, List, length, refl, sym, ap, subst, arith, entry_offset, Mode}
use Rattle.chained_index.proofs.Words.{Store, Cell, OwnerState, IsMain, stamp_in, state_in, bucket_in, marked_in, IsLiveItem, HasLiveEntry, Has}
use Rattle.chained_index.proofs.Words.{Spells, RoomsApart, StandsFor, buckets_of, entries_of, bucket_at, Index, IsIndexOf, ◌∷◌, InChain}
use Rattle.chained_index.proofs.Words.{Contains-get_or, all_differ, in_chain, has_bucket, has_chain, subst₂}
pub use Rattle.chained_index.proofs.Lists.{at}
use Rattle.chained_index.proofs.Lists.{below, place_in}
use Rattle.partition_words.proofs.Differing.{one_place}
use Rattle.chained_index.proofs.Chained.{chain_is, Chained}
use Rattle.chained_index.proofs.Filled.{View, view}

-- The entries of the bucket stand for the machine's state: as `StandsFor`, by places in the list.
pub record ListStands (o : OwnerState) (b : ℕ) : Type 0 where
  pub nothing_else : (i : ℕ) → i < length (entries_of o b) → (key : List ℕ) × (cell : Cell) × Spells o b (at (entries_of o b) i) key cell
  pub each : (key : List ℕ) (cell : Cell) (p : ℕ) → bucket_in o key ≡ b → Has (state_in o) key cell p
      → (i : ℕ) × (i < length (entries_of o b)) × Spells o b (at (entries_of o b) i) key cell
  pub once : (i j : ℕ) (key : List ℕ) (cell : Cell) → i < length (entries_of o b) → j < length (entries_of o b)
      → Spells o b (at (entries_of o b) i) key cell → Spells o b (at (entries_of o b) j) key cell → i ≡ j
  pub rooms : (i j : ℕ) → i < length (entries_of o b) → j < length (entries_of o b) → i ≢ j → RoomsApart o (at (entries_of o b) i) (at (entries_of o b) j)
  pub apart : (other i j : ℕ) → IsMain o.shape other → other ≢ b → marked_in o.phase other ≡ 0
      → i < length (entries_of o b) → j < length (entries_of o other) → RoomsApart o (at (entries_of o b) i) (at (entries_of o other) j)

-- an entry of a chain, by its spot and by its place in the list
pub record Stands (o : OwnerState) (b c slot entry i : ℕ) : Type 0 where
  pub live : HasLiveEntry o b c slot entry
  pub inside : i < length (entries_of o b)
  pub is : at (entries_of o b) i ≡ entry
  pub bucket : bucket_at o (i / SLOTS) b ≡ c
  pub in_slot : slot ≡ i % SLOTS

module _ {o : OwnerState} {b c slot c' slot' entry entry' i j : ℕ} (one : Stands o b c slot entry i) (two : Stands o b c' slot' entry' j) where
  -- one place is one spot
  same_spot : i ≡ j → (c ≡ c') × (slot ≡ slot')
  same_spot same = grind (arith, one.bucket, two.bucket, one.in_slot, two.in_slot, same)

  -- and one spot one place
  same_place : (index : Index) → View o index b → (c ≡ c') × (slot ≡ slot') → i ≡ j
  same_place index v same = search (rules, chain_is, one_place, all_differ)

module _ (o : OwnerState) (s : Chained o) (mode : o.shape.mode ≡ Store) (index : Index) (known : IsIndexOf index o) where
  module _ (b : ℕ) (main : IsMain o.shape b) where
    abbrev xs : List ℕ
    xs = entries_of o b

    v : View o index b
    v = view o s index known b main

    is_list : buckets_of o b ≡ b ∷ v.behind
    is_list = chain_is o b v.behind v.chain

    pub place : (c slot entry : ℕ) → HasLiveEntry o b c slot entry → (i : ℕ) × Stands o b c slot entry i
    place c slot entry live =
        let k = place_in (b ∷ v.behind) c (has_bucket o b v.behind v.chain c live.in_chain) in
        let low = live.in_bucket in
        let i : ℕ = SLOTS * k.0 + slot in
        let is : at xs i ≡ entry = grind (arith, v.filled.entries k.0 slot k.1 low, k.2, live.found) in (
          i,
          record {
            live = live;
            inside = grind (arith, below xs i, is, live.live.0);
            is = is;
            bucket = grind (arith, is_list, k.2);
            in_slot = omega arith;
          },
        )

    pub spot : (i : ℕ) → i < length xs → Stands o b (bucket_at o (i / SLOTS) b) (i % SLOTS) (at xs i) i
    spot i less =
        let low : i / SLOTS < length (b ∷ v.behind) = omega (arith, v.filled.size) in
        let here : bucket_at o (i / SLOTS) b ≡ at (b ∷ v.behind) (i / SLOTS) = ap (λ (z : List ℕ). at z (i / SLOTS)) is_list in record {
          live = record {
            in_chain = subst (InChain o b) (sym here) (in_chain o b v.behind v.chain (at (b ∷ v.behind) (i / SLOTS)) (Contains-get_or (b ∷ v.behind) (i / SLOTS) 0 low));
            in_bucket = omega arith;
            found = grind (arith, here, v.filled.entries (i / SLOTS) (i % SLOTS) low);
            live = (v.filled.used i 0 less, subst (λ (z : Mode). IsLiveItem z o.shape.words (stamp_in o) (entry_offset (at xs i))) (sym mode) tt);
          };
          inside = less;
          is = refl;
          bucket = refl;
          in_slot = refl;
        }

  module _ (b : ℕ) (main : IsMain o.shape b) where
    -- what the words stand for, told by the list
    pub listed : StandsFor o b → ListStands o b
    listed f = record {
      nothing_else = λ i l. f.nothing_else _ _ _ (spot b main i l).live;
      each = λ key cell p is has.
          let found = f.each key cell p is has in
          let one = place b main _ _ _ found.3 in
          (one.0, one.1.inside, rw (sym one.1.is) at found.4);
      once = λ i j key cell l m sp sp'. same_place (spot b main i l) (spot b main j m) index (view o s index known b main)
          (f.once _ _ _ _ _ _ key cell (spot b main i l).live (spot b main j m).live sp sp');
      rooms = λ i j l m n. f.rooms _ _ _ _ _ _ (spot b main i l).live (spot b main j m).live
          (λ same. n (same_place (spot b main i l) (spot b main j m) index (view o s index known b main) same));
      apart = λ other i j l n unmarked less more. f.apart other _ _ _ _ _ _ l n unmarked (spot b main i less).live (spot other l j more).live;
    }

    -- and back: what `end_write` asks
    pub stands : ListStands o b → StandsFor o b
    stands f = record {
      nothing_else = λ c slot entry live.
          let one = place b main c slot entry live in
          subst (λ (z : ℕ). (key : List ℕ) × (cell : Cell) × Spells o b z key cell) one.1.is (f.nothing_else one.0 one.1.inside);
      each = λ key cell p is has. let found = f.each key cell p is has in (_, _, _, (spot b main found.0 found.1).live, found.2);
      once = λ c slot entry c' slot' entry' key cell live live' sp sp'.
          let one = place b main c slot entry live in
          let two = place b main c' slot' entry' live' in
          same_spot one.1 two.1 (f.once one.0 two.0 key cell one.1.inside two.1.inside (rw (sym one.1.is) at sp) (rw (sym two.1.is) at sp'));
      rooms = λ c slot entry c' slot' entry' live live' n.
          let one = place b main c slot entry live in
          let two = place b main c' slot' entry' live' in
          subst₂ (RoomsApart o) one.1.is two.1.is (f.rooms one.0 two.0 one.1.inside two.1.inside (λ same. n (same_spot one.1 two.1 same)));
      apart = λ other c slot entry c' slot' entry' l n unmarked live live'.
          let one = place b main c slot entry live in
          let two = place other l c' slot' entry' live' in
          subst₂ (RoomsApart o) one.1.is two.1.is (f.apart other one.0 two.0 l n unmarked one.1.inside two.1.inside);
      chain = has_chain o s.chains mode b main (known.dense b main);
    }
