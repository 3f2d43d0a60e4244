-- What the words stand for in a bucket stays where the words in its reach do, and the machine has the same of its keys.
use Rattle.std.proofs.lemmas.Grind.{common_steps}
use Rattle.partition_words.proofs.Vocabulary.{Cache, Cell, Has, HasChain, HasChains, HasLiveEntry, History, InChain, IsDense, IsInRoom, IsLiveItem, IsMain}
use Rattle.partition_words.proofs.Vocabulary.{IsInReach, List, Marked, Mode, OwnerState, Phase, Spells, StandsFor, Store, add-zero, ap, arith, by_entry}
use Rattle.partition_words.proofs.Vocabulary.{by_item, by_link, entry_at, entry_offset, get_or, header_room, inl, inr, item_at, item_in, item_size}
use Rattle.partition_words.proofs.Vocabulary.{link_at, link_in, marked_in, options_in, refl, room_in, stamp_in, stamp_of, state_in, sym, ℕ}
use Rattle.partition_words.proofs.Vocabulary.{◌+◌, ◌<◌, ◌∙◌, ◌≡◌, ◌≢◌, ◌⊎◌}
use Rattle.partition_words.proofs.Behind.{same_behind}
use Rattle.partition_words.proofs.Walks.{IsChain, chain_there, has_bucket, in_chain}
use Rattle.partition_words.proofs.Machine.{HasStill}

-- the state with other words, another history and another phase
abbrev pub changed : OwnerState → List ℕ → History → Phase → OwnerState
changed o words history phase = record o { words = words; history = history; phase = phase }

-- an entry spells there what it spells here, where its room, its item's words and what the machine has of the key are the same
pub spells_there : (o new : OwnerState) (b entry : ℕ) (key : List ℕ) (cell : Cell)
    → Has (state_in (record new { shape = o.shape })) key cell (entry_offset entry)
    → room_in (record new { shape = o.shape }) entry ≡ room_in o entry
    → ((i : ℕ) → i < item_size key cell.value
    → item_in (record new { shape = o.shape }) (entry_offset entry + i) ≡ item_in o (entry_offset entry + i))
    → Spells o b entry key cell → Spells (record new { shape = o.shape }) b entry key cell
spells_there o new b entry key cell has room same sp = grind (arith, common_steps)

-- what has to be known of a bucket
pub record Carries (o new : OwnerState) (b : ℕ) : Type 0 where
  pub chains : HasChains o
  pub main : IsMain o.shape b
  pub stands : StandsFor o b
  pub word : (i : ℕ) → IsInReach o b i → get_or new.words i 0 ≡ get_or o.words i 0
  pub stamp : stamp_in o ≡ stamp_of (options_in o) o.history
  pub stamp_now : stamp_in new ≡ stamp_of (options_in o) new.history
  pub has : HasStill o.shape.mode (options_in o) o.history new.history b

-- of two buckets one has no marked write
one_unmarked : (phase : Phase) (b c : ℕ) → b ≢ c → (marked_in phase b ≡ 0) ⊎ (marked_in phase c ≡ 0)
one_unmarked (Marked d write before) b c n = grind (arith, common_steps)
one_unmarked phase b c n = inl refl

module _ (o new : OwnerState) where
  abbrev p : OwnerState
  p = record new { shape = o.shape }

  module _ (b : ℕ) (k : Carries o new b) where
    -- the chain

    link_same : (c : ℕ) → InChain o b c → link_in p c ≡ link_in o c
    link_same c h = k.word (link_at o.shape c) (by_link c h refl)

    chain : (cs : List ℕ) × IsChain o b cs
    chain = chain_there o k.chains b k.main

    same_chain : IsChain p b chain.0
    same_chain = record {
      behind = same_behind (link_in o) (link_in p) b chain.0 (λ c i. link_same c (in_chain o b chain.0 chain.1 c i)) chain.1.behind;
      spare = chain.1.spare;
      few = chain.1.few;
    }

    chain_back : (c : ℕ) → InChain p b c → InChain o b c
    chain_back c h = in_chain o b chain.0 chain.1 c (has_bucket p b chain.0 same_chain c h)

    entry_same : (c slot : ℕ) → InChain o b c → slot < 15 → get_or new.words (entry_at o.shape c slot) 0 ≡ get_or o.words (entry_at o.shape c slot) 0
    entry_same c slot h x = k.word (entry_at o.shape c slot) (by_entry c slot h x refl)

    dense_on : IsDense o b → IsDense p b
    dense_on d = record {
      full = λ c slot h linked x none. grind (arith, common_steps, chain_back c h, link_same c (chain_back c h), entry_same c slot (chain_back c h) x);
      in_order = λ c slot later h less x used none. let before = chain_back c h in
          d.in_order c slot later before less x (λ empty. used (entry_same c later before x ∙ empty)) (sym (entry_same c slot before (omega arith)) ∙ none);
      some = λ c h other none. let before = chain_back c h in d.some c before other (sym (entry_same c 0 before (omega arith)) ∙ none);
    }

    -- a live entry

    pub back : (c slot entry : ℕ) → HasLiveEntry p b c slot entry → HasLiveEntry o b c slot entry
    back c slot entry h = grind (arith, common_steps, chain_back c h.in_chain, in_chain, entry_same c slot (chain_back c h.in_chain) h.in_bucket)

    on : (c slot entry : ℕ) → HasLiveEntry o b c slot entry → IsLiveItem o.shape.mode o.shape.words (stamp_in p) (entry_offset entry)
        → HasLiveEntry p b c slot entry
    on c slot entry h live = record {
      in_chain = in_chain p b chain.0 same_chain c (has_bucket o b chain.0 chain.1 c h.in_chain);
      in_bucket = h.in_bucket;
      found = entry_same c slot h.in_chain h.in_bucket ∙ h.found;
      live = (h.live.0, live);
    }

    room : (c slot entry : ℕ) → HasLiveEntry o b c slot entry → room_in p entry ≡ room_in o entry
    room c slot entry h =
        let some = (k.stands.nothing_else c slot entry h).2.in_room in
        let first = ap (item_at o.shape) (sym (add-zero (entry_offset entry))) in
        ap header_room (k.word (item_at o.shape (entry_offset entry)) (by_item c slot entry 0 h (omega arith) first))

    pub in_room : (c slot entry q : ℕ) → HasLiveEntry p b c slot entry → IsInRoom p entry q → IsInRoom o entry q
    in_room c slot entry q h i = (i.0, omega (arith, i.1, room c slot entry (back c slot entry h)), i.2)

    spells_on : (c slot entry : ℕ) (key : List ℕ) (cell : Cell) → HasLiveEntry o b c slot entry
        → IsLiveItem o.shape.mode o.shape.words (stamp_in p) (entry_offset entry) → Spells o b entry key cell → Spells p b entry key cell
    spells_on c slot entry key cell h live sp = spells_there o new b entry key cell
        (k.has.on key cell (entry_offset entry) sp.bucket sp.has (rw (sym k.stamp_now) live)) (room c slot entry h)
        (λ i x. k.word _ (by_item c slot entry i h (omega (arith, sp.in_room)) refl)) sp

    spells_back : (c slot entry : ℕ) (key : List ℕ) (cell : Cell) → HasLiveEntry p b c slot entry
        → Spells p b entry key cell → Spells o b entry key cell
    spells_back c slot entry key cell h sp =
        let before = back c slot entry h in
        let same = room c slot entry before in
        spells_there p o b entry key cell (k.has.back key cell (entry_offset entry) sp.bucket sp.has) (sym same)
        (λ i x. sym (k.word _ (by_item c slot entry i before (omega (arith, sp.in_room, same)) refl))) sp

    -- and so what is reached now was reached before
    pub reach_back : (i : ℕ) → IsInReach p b i → IsInReach o b i
    reach_back i (by_entry c slot h x is) = by_entry c slot (chain_back c h) x is
    reach_back i (by_link c h is) = by_link c (chain_back c h) is
    reach_back i (by_item c slot entry j h x is) =
        let before = back c slot entry h in
        let same = room c slot entry before in
        by_item c slot entry j before (omega arith) is

  -- Chains of other buckets may grow, but not by a spare of this one: the fact on all chains says so.
  has_chain_on : (mode : Mode) (b : ℕ) → Carries o new b → IsMain o.shape b → HasChains p → HasChain mode o b → HasChain mode p b
  has_chain_on Cache b k l chains h = tt
  has_chain_on Store b k l chains h = (dense_on b k h.0, λ c d main other i j. chains.apart b c d l main (λ same. other (sym same)) i j)

  -- where each bucket with no marked write is carried
  pub stands_on : HasChains p → ((b : ℕ) → IsMain o.shape b → marked_in new.phase b ≡ 0 → Carries o new b)
      → (b : ℕ) → IsMain o.shape b → marked_in new.phase b ≡ 0 → StandsFor p b
  stands_on chains carries b l none = let k = carries b l none in record {
    nothing_else = λ c slot entry h.
        let before = back b k c slot entry h in
        let some = k.stands.nothing_else c slot entry before in
        (some.0, some.1, spells_on b k c slot entry some.0 some.1 before h.live.1 some.2);
    each = λ key cell q is has.
        let at = k.stands.each key cell q is (k.has.back key cell q is has) in
        let live : IsLiveItem o.shape.mode o.shape.words (stamp_in new) (entry_offset at.2) =
        rw k.stamp_now (k.has.live_on key cell q (entry_offset at.2) is has at.4.has (rw (sym k.stamp) at.3.live.1)) in
        (at.0, at.1, at.2, on b k at.0 at.1 at.2 at.3 live, spells_on b k at.0 at.1 at.2 key cell at.3 live at.4);
    once = λ c slot entry c' slot' entry' key cell h h' sp sp'.
        k.stands.once c slot entry c' slot' entry' key cell (back b k c slot entry h) (back b k c' slot' entry' h')
        (spells_back b k c slot entry key cell h sp) (spells_back b k c' slot' entry' key cell h' sp');
    rooms = λ c slot entry c' slot' entry' h h' other q i i'.
        k.stands.rooms c slot entry c' slot' entry' (back b k c slot entry h) (back b k c' slot' entry' h') other q
        (in_room b k c slot entry q h i) (in_room b k c' slot' entry' q h' i');
    apart = λ other c slot entry c' slot' entry' main differs unmarked h h' q i i'.
        let k' = carries other main unmarked in
        let was = back b k c slot entry h in
        let was' = back other k' c' slot' entry' h' in
        let i = in_room b k c slot entry q h i in
        let i' = in_room other k' c' slot' entry' q h' i' in
        elim (one_unmarked o.phase other b differs) [
          | inl none ↦ k.stands.apart other c slot entry c' slot' entry' main differs none was was' q i i'
          | inr none ↦ k'.stands.apart b c' slot' entry' c slot entry l (λ same. differs (sym same)) none was' was q i' i
        ];
    chain = has_chain_on o.shape.mode b k l chains k.stands.chain;
  }
