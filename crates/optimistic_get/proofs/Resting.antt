-- The answer of one try of a script that is settled.
use Rattle.std.proofs.Common.{◌≡◌, ℕ, List, false, sym, ap, ◌∙◌, subst, Option}
use Rattle.partition_model.specs.declared.write.Answer.{Answer}
use Rattle.partition_model.specs.History.{answer_of}
use Rattle.partition_model.specs.Answer.{IsAnswer}
use Rattle.partition_words.specs.declared.reader.ReaderState.{ReaderState}
use Rattle.scripted_reader.specs.declared.scripted.Scripted.{Scripted}
use Rattle.partition_words.specs.Shape.{options_of}
use Rattle.scripted_reader.specs.Script.{HasPlayedOut}
use Rattle.scripted_reader.specs.Seat.{book_of}
use Rattle.scripted_reader.proofs.Settling.{at_rest, same_owner, settled_still}
use Rattle.optimistic_get.specs.declared.getting.Got.{Got}
use Rattle.optimistic_get.specs.Gets.{is_again, TryAnswers}
use Rattle.optimistic_get.specs.Settled.{SeesAll, TriesAtRest, AnswersPlayed}

module _ (s t : Scripted) (settled : HasPlayedOut (book_of s)) (got : Got) (planned : TriesAtRest (book_of s).reader got (book_of t).reader (book_of s).plan) where
  sees : SeesAll (book_of s).reader got (book_of s).owner (book_of t).reader
  sees = planned (book_of s).owner (at_rest s settled)

  pub never_again : is_again got ≡ false
  never_again = sees.answered

  pub answers_played : (book_of t).plan ≡ (book_of s).plan → (key out : List ℕ) (found : Option (List ℕ)) (stamp : ℕ) (answer : Answer) → IsAnswer answer out found
      → TryAnswers (book_of s).reader key found stamp (book_of t).reader → AnswersPlayed (book_of s) key answer out (book_of t)
  answers_played plan key out found stamp answer is tried = record {
    answered = subst (IsAnswer answer out) (sym tried.answered.answered ∙ (λ i. answer_of (options_of (shape i)) (sees.seen i) key)) is;
    made = tried.made;
    fails = tried.fails;
    closed = tried.closed;
    seen = sees.seen;
    owner = same_owner s settled t plan sees.later;
    settled = settled_still s settled t plan sees.later;
  }
    where
      shape : (book_of t).reader.shape ≡ (book_of s).owner.shape
      shape = ap (λ (z : ReaderState). z.shape) tried.made.same ∙ s.read_shape ∙ sym s.stage.shaped
