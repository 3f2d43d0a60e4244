-- What a front was answered in one partition, one answer after another.
use Rattle.std.proofs.Common.{◌≡◌, ℕ, Bool, true, false, cond, List, [], ◌∷◌, refl, sym, ◌∙◌, subst, eqb, eqb-true}
use Rattle.std.proofs.lemmas.Bool.{true≢false, eq-eqb}
use Rattle.partition_model.specs.declared.options.Options.{Options}
use Rattle.fronts.specs.Answered.{Answered, partition_in, answers_of}
use Rattle.fronts.specs.Session.{Session, Sessions, AnswersOne, AnswersInOrder}

abbrev pub InOrder : Options → Session → List Answered → Session → Type 0
InOrder options old [] new = new ≡ old
InOrder options old (answered ∷ later) new = (between : Session) × AnswersOne options false old answered between × InOrder options between later new

-- of all answers of a front, those of the partition are these
pub in_partition : (options : Options) (p : ℕ) (answers : List Answered) (old new : Sessions) → AnswersInOrder options false old answers new
    → InOrder options (old p) (answers_of options p answers) (new p)
in_partition options p [] old new h = h p
in_partition options p (a ∷ answers) old new h = by (eqb (partition_in options a) p) refl (in_partition options p answers h.0 new h.2)
  where
    by : (b : Bool) → eqb (partition_in options a) p ≡ b → InOrder options (h.0 p) (answers_of options p answers) (new p)
        → InOrder options (old p) (cond b (a ∷ answers_of options p answers) (answers_of options p answers)) (new p)
    by true here rest = (h.0 p, subst (λ (q : ℕ). AnswersOne options false (old q) a (h.0 q)) (eqb-true (partition_in options a) p here) h.1.one, rest)
    by false away rest =
        subst (λ (s : Session). InOrder options s (answers_of options p answers) (new p))
        (h.1.others p (λ e. absurd (true≢false (sym (eq-eqb _ _ (sym e)) ∙ away)))) rest
