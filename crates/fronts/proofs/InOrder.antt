-- Answers one after another.
use Rattle.std.proofs.Common.{◌≡◌, ℕ, ◌+◌, Bool, List, [], ◌∷◌, ◌++◌, length, ap, ◌∙◌, subst, length-append}
use Rattle.std.proofs.lemmas.List.Elements.{filter_map-append}
use Rattle.partition_model.specs.declared.options.Options.{Options}
use Rattle.fronts.specs.Answered.{Answered, step_in, partition_in, count_of_writes}
use Rattle.fronts.specs.Session.{Session, Sessions, Answers, AnswersOne, AnswersInOrder}

-- the writes of answers, and of more
pub count_append : (one two : List Answered) → count_of_writes (one ++ two) ≡ count_of_writes one + count_of_writes two
count_append one two = ap length (filter_map-append step_in one two) ∙ length-append _ _

module _ (options : Options) (is_alone : Bool) where
  pub answers_moved : (answers : List Answered) (old between new : Sessions) → ((q : ℕ) → between q ≡ old q) → AnswersInOrder options is_alone between answers new
      → AnswersInOrder options is_alone old answers new
  answers_moved [] old between new same h = λ q. h q ∙ same q
  answers_moved (a ∷ later) old between new same h =
      let p = partition_in options a in
      let answered : Answers options is_alone old a h.0 = record {
        one = subst (λ (s : Session). AnswersOne options is_alone s a (h.0 p)) (same p) h.1.one;
        others = λ q other. h.1.others q other ∙ same q;
      } in
      (h.0, answered, h.2)

  pub answers_append : (one two : List Answered) (old between new : Sessions) → AnswersInOrder options is_alone old one between
      → AnswersInOrder options is_alone between two new → AnswersInOrder options is_alone old (one ++ two) new
  answers_append [] two old between new first second = answers_moved two old between new first second
  answers_append (a ∷ one) two old between new first second = (first.0, first.1, answers_append one two first.0 between new first.2 second)
