-- What is kept of a walk, and what is saved of it.
use Rattle.std.proofs.Common.{◌≡◌, ℕ, Bool, true, false, MatchBool, filter, List, [], ◌∷◌, ◌++◌, Option, Some, None, refl, sym, ap, subst, ◌∙◌, append_assoc}
use Rattle.partition_model.specs.Cache.{Record}
use Rattle.partition_model.specs.History.{State, cache_state, store_state, state_of}
use Rattle.memcached_commands.specs.declared.moment.Moment.{Moment}
use Rattle.saved_items.specs.declared.spiller.Spiller.{Spiller}
use Rattle.saved_items.specs.declared.items.Closing.{Closing}
use Rattle.saved_items.specs.Items.{Pair, Entry, Keeps, Closes}
use Rattle.saved_items.specs.Spiller.{HasSaved, Saves}
use Rattle.kept_items.specs.Parts.{Part, entries_of, entries_in, with_pair, parts_of}
use Rattle.kept_items.specs.Kept.{behind, is_saved, kept_at, kept_of, AreRecords, AreInOrder, AreKeptInOrder}
use Rattle.kept_items.specs.Walk.{SavesAll, SavesStep}
use Rattle.kept_items.specs.Laws.{PartsAgain, KeepsWhatIsThere}
use Rattle.kept_items.proofs.Pairs.{passing, pass, stored_passing, once_passing}

-- ---- parts

parts_behind : (pairs : List Pair) (closing : Closing) (entries : List Entry) → parts_of (entries_of pairs closing ++ entries) ≡ record { pairs = pairs; closing = closing } ∷ parts_of entries
parts_behind [] closing entries = refl
parts_behind (pair ∷ pairs) closing entries = ap (with_pair pair) (parts_behind pairs closing entries)

pub parts_again : PartsAgain
parts_again [] = refl
parts_again (part ∷ parts) = parts_behind part.pairs part.closing (entries_in parts) ∙ ap (λ (ps : List Part). part ∷ ps) (parts_again parts)

-- ---- what is kept

kept_is : (at : Moment) (key : List ℕ) (o : Option (List ℕ)) → passing (is_saved at key) o ≡ kept_of at key o
kept_is at key None = refl
kept_is at key (Some stored) = refl

records_passing : (test : List ℕ → List ℕ → Bool) (pairs : List Pair) (records : List Record) → AreRecords pairs records → AreRecords (pass test pairs) (filter (λ held. test held.key held.value) records)
records_passing test [] [] are = tt
records_passing test [] (held ∷ records) are = absurd are
records_passing test (pair ∷ pairs) [] are = absurd are
records_passing test (pair ∷ pairs) (held ∷ records) are = go (test pair.key pair.value) refl (records_passing test pairs records are.2)
  where
    there : (t : Bool) → test pair.key pair.value ≡ t → test held.key held.value ≡ t
    there t is = subst (λ (k : List ℕ). test k held.value ≡ t) are.0 (subst (λ (v : List ℕ). test pair.key v ≡ t) are.1 is)

    go : (t : Bool) → test pair.key pair.value ≡ t → AreRecords (pass test pairs) (filter (λ h. test h.key h.value) records)
        → AreRecords (pass test (pair ∷ pairs)) (filter (λ h. test h.key h.value) (held ∷ records))
    go true t rest = let here = there true t in rw (t, here) (are.0, are.1, rest)
    go false t rest = let here = there false t in rw (t, here) rest

order_kept : (at : Moment) (state : State) (pairs : List Pair) → AreInOrder state pairs → AreKeptInOrder at state (kept_at at pairs)
order_kept at (cache_state cache) pairs are = records_passing (is_saved at) pairs cache.records are
order_kept at (store_state store) pairs are = tt

pub keeps_what_is_there : KeepsWhatIsThere
keeps_what_is_there options base second history walked is =
    let at = behind options base second history in
    record {
      each = λ key. stored_passing (is_saved at) walked key is.once ∙ ap (passing (is_saved at key)) (is.each key) ∙ kept_is at key _;
      once = once_passing (is_saved at) walked is.once;
      order = order_kept at (state_of options history) walked is.order;
      written = refl;
      next = refl;
      until = refl;
    }

-- ---- what is saved

pub saves_then : (a b c : Option (List ℕ)) (s t u : Spiller) (entry : Entry) (more : List Entry) → Saves a b s t entry → SavesAll b c t u more → SavesAll a c s u (entry ∷ more)
saves_then a b c s t u entry more first second = λ before head entries has. subst (HasSaved before c u head) (append_assoc entries (entry ∷ []) more) (second before head (entries ++ entry ∷ []) (first before head entries has))

-- Whatever is saved of what is left, all is saved with what was saved so far.
abbrev pub SoFar : Moment → Closing → Option (List ℕ) → Option (List ℕ) → Spiller → Spiller → List Pair → List Pair → Type 0
SoFar at closing old now spiller spiller' walked left = (new : Option (List ℕ)) (last : Spiller) → SavesAll now new spiller' last (entries_of (kept_at at left) closing) → SavesAll old new spiller last (entries_of (kept_at at walked) closing)

pub so_far_first : (at : Moment) (closing : Closing) (old : Option (List ℕ)) (s : Spiller) (walked : List Pair) → SoFar at closing old old s s walked walked
so_far_first at closing old s walked = λ new last all. all

module _ (at : Moment) (closing : Closing) (old now : Option (List ℕ)) (s t : Spiller) (walked rest : List Pair) (so_far : SoFar at closing old now s t walked rest) where
  on : (next : Option (List ℕ)) (u : Spiller) (left : List Pair) (pair : Pair) → rest ≡ pair ∷ left → (b : Bool) → is_saved at pair.key pair.value ≡ b
      → MatchBool b (Saves now next t u (Keeps pair)) ((next ≡ now) × (u ≡ t)) → SoFar at closing old next s u walked left
  on next u left pair is true kept saves = λ new last all.
      so_far new last (subst (λ (r : List Pair). SavesAll now new t last (entries_of (kept_at at r) closing)) (sym is) (rw kept (saves_then now next new t u last (Keeps pair) (entries_of (kept_at at left) closing) saves all)))
  on next u left pair is false kept same = λ new last all.
      so_far new last (subst (λ (r : List Pair). SavesAll now new t last (entries_of (kept_at at r) closing)) (sym is) (rw kept (subst (λ (o : Option (List ℕ)). SavesAll o new t last (entries_of (kept_at at left) closing)) same.0 (subst (λ (v : Spiller). SavesAll next new v last (entries_of (kept_at at left) closing)) same.1 all))))

  pub so_far_then : (next : Option (List ℕ)) (u : Spiller) (left : List Pair) (more : Bool) → SavesStep now next t u at rest left more → SoFar at closing old next s u walked left
  so_far_then next u left true step = on next u left step.0 step.1 (is_saved at step.0.key step.0.value) refl step.2
  so_far_then next u left false step = λ new last all.
      so_far new last (subst (λ (r : List Pair). SavesAll now new t last (entries_of (kept_at at r) closing)) (step.1 ∙ sym step.0) (subst (λ (o : Option (List ℕ)). SavesAll o new t last (entries_of (kept_at at left) closing)) step.2 (subst (λ (v : Spiller). SavesAll next new v last (entries_of (kept_at at left) closing)) step.3 all)))

  pub so_far_end : (next : Option (List ℕ)) (u : Spiller) → rest ≡ [] → Saves now next t u (Closes closing) → SavesAll old next s u (entries_of (kept_at at walked) closing)
  so_far_end next u none saves = so_far next u (subst (λ (r : List Pair). SavesAll now next t u (entries_of (kept_at at r) closing)) (sym none) saves)

-- where there was no pair, none is left
pub none_left : (old new : Option (List ℕ)) (s t : Spiller) (at : Moment) (rest left : List Pair) (more : Bool) → SavesStep old new s t at rest left more → more ≡ false → left ≡ []
none_left old new s t at rest left true step e = absurd cc
none_left old new s t at rest left false step e = step.1
