-- The words that events change are there, and an epoch never comes to its type's end.
use Rattle.std.proofs.lemmas.Grind.{common_steps}
use Rattle.partition_words.proofs.Vocabulary.{Ends, Event, IsAllowed, IsMain, Kept, OwnerState, PutsEntry, PutsLink, arith}
use Rattle.partition_words.proofs.Vocabulary.{epoch_in, length, mod-lt, place_of, refl, ℕ, ◌+◌, ◌<◌, ◌^◌}
use Rattle.partition_words.proofs.Marked.{ends_main, its_inside}

module _ (o : OwnerState) (s : Kept o) where
  pub some_words : 0 < o.shape.words
  some_words = let least = s.shape.ranges.words.0 in omega arith

  pub event_inside : (e : Event) → IsAllowed e o → place_of o.shape e < length o.words
  event_inside (PutsEntry c slot entry) a = grind (arith, common_steps, its_inside o s o.phase refl c a.its_bucket)
  event_inside (PutsLink c next) a = let wide = s.wide in let bucket = its_inside o s o.phase refl c a.its_bucket in omega arith
  event_inside (Ends b) a = let wide = s.wide in let main = ends_main o s o.phase refl b a.marked in omega arith
  event_inside e a = let wide = s.wide in omega (arith, λ (p : ℕ). mod-lt p some_words)

  -- an epoch is at most twice the wear and one
  pub epoch_small : (b : ℕ) → IsMain o.shape b → epoch_in o b + 1 < 2 ^ 64
  epoch_small b l = grind (arith, common_steps)
