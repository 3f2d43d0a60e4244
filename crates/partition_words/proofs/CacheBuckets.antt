-- In cache mode the log keeps rooms apart, so a bucket's words stand for the state where its entries spell each record once.
use Rattle.partition_words.proofs.Vocabulary.{Cache, Cell, Has, HasChain, HasLiveEntry, InChain, IsAmong, IsMain, Kept, List, Mode, OwnerState, RoomsApart}
use Rattle.partition_words.proofs.Vocabulary.{Spells, StandsFor, ap, arith, bucket_in, cached_in, entry_offset, inl, inr, link_in, options_in, state_in}
use Rattle.partition_words.proofs.Vocabulary.{subst, sym, tail_of, ℕ, ◌%◌, ◌+◌, ◌∙◌, ◌≡◌, ◌≢◌}
use Rattle.partition_model.proofs.CacheLaws.{kept_in, window_kept, apart_kept}
use Rattle.partition_words.proofs.Log.{one_place, spelt_record}
use Rattle.partition_words.proofs.Machine.{same_cell}

module _ (o : OwnerState) (s : Kept o) (mode : o.shape.mode ≡ Cache) where
  -- a chain is its main bucket alone

  pub alone : (b c : ℕ) → InChain o b c → b ≡ c
  alone b c (inl is) = is
  alone b c (inr h) = absurd (subst (λ (n : ℕ). IsAmong o n (link_in o b) c) (s.shape.no_spares mode) h.1)

  -- the rooms of the items of two keys share no word
  pub rooms_of_keys : (b b' entry entry' : ℕ) (key key' : List ℕ) (cell cell' : Cell) → Spells o b entry key cell → Spells o b' entry' key' cell'
      → key ≢ key' → RoomsApart o entry entry'
  rooms_of_keys b b' entry entry' key key' cell cell' sp sp' differ p i i' =
      let at = cached_in (options_in o) mode o.history in
      let kept = kept_in (options_in o) o.history s.history.writes at.0 at.1 in
      let one = spelt_record o s b entry key cell sp at.0 at.1 in
      let two = spelt_record o s b' entry' key' cell' sp' at.0 at.1 in
      let here = window_kept (options_in o) at.0 kept key one.0 one.1 in
      let there = window_kept (options_in o) at.0 kept key' two.0 two.1 in
      let place : (one.0.offset + i.0) % o.shape.words ≡ (two.0.offset + i'.0) % o.shape.words = rw one.2 (rw two.2 (omega (arith, i.2, i'.2))) in
      let same = one_place o.shape.words (tail_of at.0.stamp) (one.0.offset + i.0) (two.0.offset + i'.0) place
      (omega arith) (omega arith) (omega (arith, one.3, i.1)) (omega (arith, two.3, i'.1)) in
      grind (arith, same, one.3, two.3, i.1, i'.1, apart_kept (options_in o) at.0 kept key key' one.0 two.0 one.1 two.1 differ)

  -- so a bucket's rooms need no proof of their own
  pub stands_cached : (b : ℕ) → IsMain o.shape b
      → ((c slot entry : ℕ) → HasLiveEntry o b c slot entry → (key : List ℕ) × (cell : Cell) × Spells o b entry key cell)
      → ((key : List ℕ) (cell : Cell) (p : ℕ) → bucket_in o key ≡ b → Has (state_in o) key cell p
      → (c : ℕ) × (slot : ℕ) × (entry : ℕ) × HasLiveEntry o b c slot entry × Spells o b entry key cell)
      → ((c slot entry c' slot' entry' : ℕ) (key : List ℕ) (cell : Cell) → HasLiveEntry o b c slot entry → HasLiveEntry o b c' slot' entry'
      → Spells o b entry key cell → Spells o b entry' key cell → (c ≡ c') × (slot ≡ slot'))
      → StandsFor o b
  stands_cached b l nothing_else each once = record {
    nothing_else = nothing_else;
    each = each;
    once = once;
    rooms = λ c slot entry c' slot' entry' h h' other.
        let some = nothing_else c slot entry h in
        let some' = nothing_else c' slot' entry' h' in
        rooms_of_keys b b entry entry' some.0 some'.0 some.1 some'.1 some.2 some'.2 (λ same.
        let sp : Spells o b entry' some.0 some'.1 = rw same some'.2 in
        let one = same_cell (state_in o) some.0 some.1 some'.1 (entry_offset entry) (entry_offset entry') some.2.has sp.has in
        other (once c slot entry c' slot' entry' some.0 some.1 h h' some.2 (rw one sp)));
    apart = λ other c slot entry c' slot' entry' m n unmarked h h'.
        let some = nothing_else c slot entry h in
        let some' = (s.state other m unmarked).nothing_else c' slot' entry' h' in
        rooms_of_keys b other entry entry' some.0 some'.0 some.1 some'.1 some.2 some'.2
        (λ same. n (sym some'.2.bucket ∙ (ap (bucket_in o) (sym same) ∙ some.2.bucket)));
    chain = subst (λ (m : Mode). HasChain m o b) (sym mode) tt;
  }
