-- A search along the links of a chain.
use Rattle.std.proofs.Common.{◌≡◌, ◌≢◌, ℕ, zero, suc, ◌+◌, ◌*◌, ◌<◌, ◌≤◌, List, [], ◌∷◌, ◌++◌, length, refl, sym, ap, ◌∙◌, subst, arith, Option, None, inl, inr, length-append}
use Rattle.std.specs.Prelude.{Contains}
use Rattle.mica_words.specs.declared.entry.TheConstants.{SLOTS}
use Rattle.mica_words.specs.Item.{largest_stored_item}
use Rattle.partition_model.specs.declared.options.Mode.TheVariants.{Store}
use Rattle.partition_words.specs.declared.shape.Shape.{Shape}
use Rattle.partition_words.specs.declared.reader.ReaderState.{ReaderState}
use Rattle.partition_words.specs.Layout.{bucket_words, link_at}
use Rattle.partition_words.specs.ReaderState.{loaded}
use Rattle.partition_words.specs.Spelt.{Loads, HasLoad, LinksTo, HasLinks}
use Rattle.partition_words.proofs.Failing.{in_cons, in_none, in_both, in_last}
use Rattle.optimistic_get.specs.Loading.{loads_in, Keeps, GoesOn}
use Rattle.optimistic_get.specs.Search.{IsBest, IsSlotWeighed, IsSlotSeen, Scans, ScansFirst, Searches}
use Rattle.optimistic_get.proofs.Loads.{on_then, on_at_most, on_open, on_keeps, on_shape, load_here}
use Rattle.optimistic_get.proofs.Items.{on_one}
use Rattle.optimistic_get.proofs.Entries.{is_best, best_keeps, slot_keeps}

-- the buckets cs stand behind b, by links that were loaded, and the last one is this
abbrev pub HasPath : Shape → Loads → ℕ → List ℕ → ℕ → Type 0
HasPath shape loads b [] last = b ≡ last
HasPath shape loads b (c ∷ cs) last = (c ≢ 0) × HasLoad loads (link_at shape b) c × HasPath shape loads c cs last

path_keeps : (shape : Shape) (loads more : Loads) → Keeps loads more → (b : ℕ) (cs : List ℕ) (last : ℕ) → HasPath shape loads b cs last → HasPath shape more b cs last
path_keeps shape loads more keeps b [] last is = is
path_keeps shape loads more keeps b (c ∷ cs) last h = (h.0, keeps (link_at shape b) c h.1, path_keeps shape loads more keeps c cs last h.2)

path_snoc : (shape : Shape) (loads : Loads) (b : ℕ) (cs : List ℕ) (last next : ℕ) → HasPath shape loads b cs last → next ≢ 0 → HasLoad loads (link_at shape last) next
    → HasPath shape loads b (cs ++ next ∷ []) next
path_snoc shape loads b [] last next is some load = (some, subst (λ (z : ℕ). HasLoad loads (link_at shape z) next) (sym is) load, refl)
path_snoc shape loads b (c ∷ cs) last next h some load = (h.0, h.1, path_snoc shape loads c cs last next h.2 some load)

-- a path that ends, or is as long as may be, is the chain's links

path_ends : (shape : Shape) (loads : Loads) (left b : ℕ) (cs : List ℕ) (last : ℕ) → HasPath shape loads b cs last → length cs < left → HasLoad loads (link_at shape last) 0
    → HasLinks shape loads left b cs
path_ends shape loads zero b cs last h few load = absurd (omega arith)
path_ends shape loads (suc left) b [] last is few load = subst (λ (z : ℕ). HasLoad loads (link_at shape z) 0) (sym is) load
path_ends shape loads (suc left) b (c ∷ cs) last h few load = (h.0, h.1, path_ends shape loads left c cs last h.2 (omega arith) load)

path_full : (shape : Shape) (loads : Loads) (left b : ℕ) (cs : List ℕ) (last : ℕ) → HasPath shape loads b cs last → length cs ≡ left → HasLinks shape loads left b cs
path_full shape loads zero b [] last h full = tt
path_full shape loads zero b (c ∷ cs) last h full = absurd (omega arith)
path_full shape loads (suc left) b [] last h full = absurd (omega arith)
path_full shape loads (suc left) b (c ∷ cs) last h full = (h.0, h.1, path_full shape loads left c cs last h.2 (omega arith))

path_links : (shape : Shape) (loads : Loads) (left b : ℕ) (cs : List ℕ) (last : ℕ) → HasPath shape loads b cs last → length cs ≤ left → LinksTo shape loads left b cs
path_links shape loads left b [] last h few = tt
path_links shape loads zero b (c ∷ cs) last h few = absurd (omega arith)
path_links shape loads (suc left) b (c ∷ cs) last h few = (h.0, h.1, path_links shape loads left c cs last h.2 (omega arith))

-- In cache mode the bucket is all of its chain.
pub searched_one : (r q : ReaderState) (b : ℕ) (key value : List ℕ) (best : Option ℕ) (v : List ℕ) → Scans r b SLOTS key None value best v q → r.shape.spares ≡ 0 → Searches r b key best v q
searched_one r q b key value best v scans none =
    let spares : q.shape.spares ≡ 0 = ap (λ (z : Shape). z.spares) (on_shape r q _ scans.on) ∙ none in
    record {
      on = on_at_most r q (SLOTS * (1 + largest_stored_item)) ((r.shape.spares + 1) * (bucket_words + SLOTS * largest_stored_item)) (omega arith) scans.on;
      behind = [];
      links = tt;
      found = is_best q.shape (loads_in q) (b ∷ []) key value v best scans.found;
      whole = λ _. (
        subst (λ (n : ℕ). HasLinks q.shape (loads_in q) n b []) (sym spares) tt,
        λ c slot h l. elim (in_cons b c [] h) [
          | inl is ↦ inr (subst (λ (z : ℕ). IsSlotWeighed q.shape (loads_in q) key best z slot) is (scans.slots slot l))
          | inr none ↦ absurd (in_none c none)
        ],
      );
    }

-- So many links were followed in store mode. The key's item is in the last bucket, or in none.
pub record Walks (old : ReaderState) (b links at : ℕ) (key : List ℕ) (best : Option ℕ) (value : List ℕ) (new : ReaderState) : Type 0 where
  pub on : GoesOn old (links * (bucket_words + SLOTS * largest_stored_item) + SLOTS * (1 + largest_stored_item)) new
  pub behind : List ℕ
  pub long : length behind ≡ links
  pub path : HasPath new.shape (loads_in new) b behind at
  pub found : IsBest new.shape (loads_in new) (b ∷ behind) key best value
  pub slots : best ≡ None → (c slot : ℕ) → Contains (b ∷ behind) c → slot < SLOTS → IsSlotSeen new.shape (loads_in new) key None c slot

seen_keeps : (shape : Shape) (loads more : Loads) → Keeps loads more → (key : List ℕ) (c slot : ℕ) → IsSlotSeen shape loads key None c slot → IsSlotSeen shape more key None c slot
seen_keeps shape loads more keeps key c slot (inl empty) = inl (empty.0, empty.1, empty.2, keeps _ _ empty.3)
seen_keeps shape loads more keeps key c slot (inr weighed) = inr (slot_keeps shape loads more keeps key None None c slot tt weighed)

-- the first bucket
pub walks_first : (r q : ReaderState) (b : ℕ) (key : List ℕ) (best : Option ℕ) (v : List ℕ) → ScansFirst r b key best v q → Walks r b 0 b key best v q
walks_first r q b key best v scans = record {
  on = on_at_most r q (SLOTS * (1 + largest_stored_item)) (0 * (bucket_words + SLOTS * largest_stored_item) + SLOTS * (1 + largest_stored_item)) (omega arith) scans.on;
  behind = [];
  long = refl;
  path = refl;
  found = scans.found;
  slots = λ none c slot h l. elim (in_cons b c [] h) [
    | inl is ↦ subst (λ (z : ℕ). IsSlotSeen q.shape (loads_in q) key None z slot) is (scans.slots none slot l)
    | inr none ↦ absurd (in_none c none)
  ];
}

module _ (r q q1 q2 : ReaderState) (b links at next : ℕ) (key : List ℕ) (best : Option ℕ) (value : List ℕ) (now : Option ℕ) (v : List ℕ)
    (before : Walks r b links at key best value q) (nothing : best ≡ None) (load : q1 ≡ loaded (link_at q.shape at) next q) where
  one : GoesOn q 1 q1
  one = on_one q q1 (link_at q.shape at) next (on_open r q _ before.on) load

  link_there : HasLoad (loads_in q1) (link_at q.shape at) next
  link_there = load_here q q1 (link_at q.shape at) next (on_open r q _ before.on) load

  -- where there is no link, the chain was looked at
  pub searched : next ≡ 0 → links < r.shape.spares → Searches r b key None value q1
  searched none few =
      let shape = on_shape q q1 1 one in
      let keeps = on_keeps q q1 1 one in
      let spares = ap (λ (z : Shape). z.spares) (on_shape r q _ before.on) in
      let path = path_keeps q.shape (loads_in q) (loads_in q1) keeps b before.behind at before.path in record {
        on = on_at_most r q1 (links * (bucket_words + SLOTS * largest_stored_item) + SLOTS * (1 + largest_stored_item) + 1) ((r.shape.spares + 1) * (bucket_words + SLOTS * largest_stored_item)) (omega arith)
            (on_then r q q1 (links * (bucket_words + SLOTS * largest_stored_item) + SLOTS * (1 + largest_stored_item)) 1 before.on one);
        behind = before.behind;
        links = subst (λ (z : Shape). LinksTo z (loads_in q1) z.spares b before.behind) (sym shape)
            (path_links q.shape (loads_in q1) q.shape.spares b before.behind at path (omega (arith, before.long, spares)));
        found = tt;
        whole = λ _. (
          subst (λ (z : Shape). HasLinks z (loads_in q1) z.spares b before.behind) (sym shape)
              (path_ends q.shape (loads_in q1) q.shape.spares b before.behind at path (omega (arith, before.long, spares))
              (subst (HasLoad (loads_in q1) (link_at q.shape at)) none link_there)),
          λ c slot h l. subst (λ (z : Shape). IsSlotSeen z (loads_in q1) key None c slot) (sym shape)
              (seen_keeps q.shape (loads_in q) (loads_in q1) keeps key c slot (before.slots nothing c slot h l)),
        );
      }

  module _ (some : next ≢ 0) (scans : ScansFirst q1 next key now v q2) where
    all : GoesOn q (1 + SLOTS * (1 + largest_stored_item)) q2
    all = on_then q q1 q2 1 (SLOTS * (1 + largest_stored_item)) one scans.on

    shape : q2.shape ≡ q.shape
    shape = on_shape q q2 _ all

    keeps : Keeps (loads_in q) (loads_in q2)
    keeps = on_keeps q q2 _ all

    new_one : (c : ℕ) → Contains (next ∷ []) c → Contains (b ∷ (before.behind ++ next ∷ [])) c
    new_one c h = elim (in_cons next c [] h) [
      | inl is ↦ subst (Contains (b ∷ (before.behind ++ next ∷ []))) is (in_last (b ∷ before.behind) next)
      | inr none ↦ absurd (in_none c none)
    ]

    -- the bucket behind
    pub walks_more : Walks r b (links + 1) next key now v q2
    walks_more = record {
      on = on_at_most r q2 (links * (bucket_words + SLOTS * largest_stored_item) + SLOTS * (1 + largest_stored_item) + (1 + SLOTS * (1 + largest_stored_item))) ((links + 1) * (bucket_words + SLOTS * largest_stored_item) + SLOTS * (1 + largest_stored_item)) (omega arith)
          (on_then r q q2 (links * (bucket_words + SLOTS * largest_stored_item) + SLOTS * (1 + largest_stored_item)) (1 + SLOTS * (1 + largest_stored_item)) before.on all);
      behind = before.behind ++ next ∷ [];
      long = omega (arith, before.long, length-append before.behind (next ∷ []));
      path = subst (λ (z : Shape). HasPath z (loads_in q2) b (before.behind ++ next ∷ []) next) (sym shape)
          (path_snoc q.shape (loads_in q2) b before.behind at next
          (path_keeps q.shape (loads_in q) (loads_in q2) keeps b before.behind at before.path) some
          (on_keeps q1 q2 _ scans.on (link_at q.shape at) next link_there));
      found = best_keeps q2.shape (loads_in q2) (loads_in q2) (λ place x h. h) (next ∷ []) (b ∷ (before.behind ++ next ∷ [])) key now v new_one scans.found;
      slots = λ none c slot h l. elim (in_both (b ∷ before.behind) (next ∷ []) c h) [
        | inl old ↦
            subst (λ (z : Shape). IsSlotSeen z (loads_in q2) key None c slot) (sym shape)
            (seen_keeps q.shape (loads_in q) (loads_in q2) keeps key c slot (before.slots nothing c slot old l))
        | inr new ↦ elim (in_cons next c [] new) [
          | inl is ↦ subst (λ (z : ℕ). IsSlotSeen q2.shape (loads_in q2) key None z slot) is (scans.slots none slot l)
          | inr none ↦ absurd (in_none c none)
        ]
      ];
    }

-- Where the key's item was found, or as many links were followed as there are spares, the chain was looked at.
pub searched_all : (r q : ReaderState) (b links at : ℕ) (key : List ℕ) (best : Option ℕ) (value : List ℕ) → Walks r b links at key best value q → r.shape.mode ≡ Store → links ≤ r.shape.spares
    → (best ≡ None → links ≡ r.shape.spares) → Searches r b key best value q
searched_all r q b links at key best value w store few all =
    let shape = on_shape r q _ w.on in
    let spares = ap (λ (z : Shape). z.spares) shape in record {
      on = on_at_most r q (links * (bucket_words + SLOTS * largest_stored_item) + SLOTS * (1 + largest_stored_item)) ((r.shape.spares + 1) * (bucket_words + SLOTS * largest_stored_item)) (omega arith) w.on;
      behind = w.behind;
      links = path_links q.shape (loads_in q) q.shape.spares b w.behind at w.path (omega (arith, w.long, spares));
      found = w.found;
      whole = λ none.
          let nothing = none (ap (λ (z : Shape). z.mode) shape ∙ store) in (
            path_full q.shape (loads_in q) q.shape.spares b w.behind at w.path (w.long ∙ (all nothing ∙ sym spares)),
            λ c slot h l. subst (λ (z : Option ℕ). IsSlotSeen q.shape (loads_in q) key z c slot) (sym nothing) (w.slots nothing c slot h l),
          );
    }
