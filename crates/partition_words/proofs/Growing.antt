-- The central law: an event leaves the words in reach of a bucket whose even epoch stands still. So whatever is kept of a reader
-- is kept past it.
use Rattle.std.proofs.lemmas.Grind.{common_steps}
use Rattle.partition_words.proofs.Vocabulary.{Event, Grows, IfSome_then, IsAllowed, IsMain, IsSpelt, Kept, OwnerState, ReaderKept, ReaderState, Shape, Try}
use Rattle.partition_words.proofs.Vocabulary.{TryKept, after, ap, arith, epoch_in, refl, subst, sym, ℕ, ◌%◌, ◌∙◌, ◌≡◌}
use Rattle.partition_words.proofs.Prefixes.{prefix_then}
use Rattle.partition_words.proofs.Failing.{fails_rise}
use Rattle.partition_words.proofs.Carried.{reach_back}
use Rattle.partition_words.proofs.Keeps.{calm_after, carries, goes_on, rises}

pub grows : (o : OwnerState) → Kept o → (e : Event) → IsAllowed e o → Grows o (after e o)
grows o s e a = record {
  shape = refl;
  history = goes_on e o.history;
  rises = rises o s e a;
  still = λ b l even same place reached.
      let k = carries o s e a b l (calm_after o s e a b l even) in
      let before = reach_back o (after e o) b k place reached in
      (before, k.word place before);
}

-- What is kept of a reader is kept past what grows.

module _ (o p : OwnerState) (g : Grows o p) where
  module _ (t : Try) (k : TryKept o t) where
    -- where the epoch is the first one after, it was so before
    unmoved : epoch_in p t.bucket ≡ t.first → epoch_in o t.bucket ≡ t.first
    unmoved is = let rise = g.rises t.bucket k.main in let low = k.first in omega arith

    try_grows : TryKept p t
    try_grows = let rise = g.rises t.bucket k.main in let low = k.first in record {
      main = subst (λ (z : Shape). IsMain z t.bucket) (sym g.shape) k.main;
      even = k.even;
      first = omega arith;
      loads = λ is place x has reached.
          let was = unmoved is in
          let even = ap (λ (z : ℕ). z % 2) was ∙ k.even in
          let same = g.still t.bucket k.main even (is ∙ sym was) place reached in
          same.1 ∙ k.loads was place x has same.0;
      at = IfSome_then t.at k.at (λ at c. record {
        seen = prefix_then at.history o.history p.history c.seen g.history;
        spelt = λ is. subst (λ (z : Shape). IsSpelt z t.bucket at) (sym g.shape) (c.spelt (unmoved is));
      });
    }

  pub reader_grows : (r : ReaderState) → ReaderKept o r → ReaderKept p r
  reader_grows r k = grind (arith, common_steps, prefix_then r.seen o.history p.history k.seen g.history, fails_rise o p g.shape g.rises r.fails k.fails, try_grows)
