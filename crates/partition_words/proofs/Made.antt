-- The owner's fact holds before any event.
use Rattle.partition_words.proofs.Vocabulary.{Cache, Has, HasChain, HasLiveEntry, IsPossibleShape, Kept, List, Mode, OwnerState, Shape, StandsFor}
use Rattle.partition_words.proofs.Vocabulary.{Store, [], arith, as_made, entry_at, epoch_at, get-empty, get_or, length-replicate, refl}
use Rattle.partition_words.proofs.Vocabulary.{replicate, start, suc, sym, word_count, zero, ℕ, ◌∙◌, ◌≡◌}
use Rattle.std.specs.Ordering.{nat_cmp}
use Rattle.std.specs.Cmp.Lexicographic.{slice_cmp}
use Rattle.std.proofs.lemmas.Grind.{common_steps}
use Rattle.partition_model.specs.Cache as cache
use Rattle.partition_model.specs.Store as store
use Rattle.partition_model.specs.History.{stamp_in}
use Rattle.partition_words.proofs.Failing.{in_none}

zeros : (n i : ℕ) → ◌≡◌ {A = ℕ} (get_or (replicate n 0) i 0) 0
zeros zero i = refl
zeros (suc n) zero = refl
zeros (suc n) (suc i) = zeros n i

pub no_stamp_yet : (mode : Mode) → stamp_in (start mode) ≡ 0
unfolding cache.start store.start
no_stamp_yet Cache = refl
no_stamp_yet Store = refl

has_nothing : (mode : Mode) (key : List ℕ) (cell : store.Cell) (p : ℕ) → ¬ (Has (start mode) key cell p)
unfolding cache.start store.start
has_nothing Cache key cell p h = cc h
has_nothing Store key cell p h = cc (sym h ∙ get-empty {X = store.Cell} (slice_cmp nat_cmp) key)

module _ (shape : Shape) (valid : IsPossibleShape shape) where
  abbrev o : OwnerState
  o = as_made shape

  no_entry : (b c slot entry : ℕ) → ¬ (HasLiveEntry o b c slot entry)
  no_entry b c slot entry h = h.live.0 (sym h.found ∙ zeros (word_count shape) (entry_at shape c slot))

  has_chain : (mode : Mode) (b : ℕ) → HasChain mode o b
  has_chain Cache b = tt
  has_chain Store b = grind (arith, common_steps)

  stands_for : (b : ℕ) → StandsFor o b
  stands_for b = grind (arith, common_steps, no_entry b, has_nothing shape.mode, has_chain shape.mode b)

  pub kept_as_made : Kept o
  kept_as_made = record {
    shape = valid;
    wide = length-replicate (word_count shape) 0;
    chains = grind (arith, common_steps);
    history = record { accepted = tt; writes = tt; not_above_wear = omega arith };
    stamp = zeros (word_count shape) 0 ∙ sym (no_stamp_yet shape.mode);
    epochs = λ b l. omega (arith, zeros (word_count shape) (epoch_at b));
    state = λ b l none. stands_for b;
    phase = tt;
    met_seen = ([], refl);
    met_fails = λ f has. absurd (in_none f has);
  }
