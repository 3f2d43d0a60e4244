-- The stamps that a front is given in one partition never fall.
use Rattle.std.proofs.Common.{◌≡◌, ℕ, ◌<◌, ◌≤◌, Bool, true, false, List, [], ◌∷◌, sym, subst, arith}
use Rattle.std.specs.List.{All, AllPairs}
use Rattle.std.proofs.lemmas.Bool.{true≢false}
use Rattle.std.proofs.lemmas.List.Elements.{All-nil, All-cons, All-weaker}
use Rattle.std.proofs.lemmas.List.Kept.{AllPairs-cons}
use Rattle.partition_model.specs.declared.options.Options.{Options}
use Rattle.partition_model.specs.Write.{is_accepted}
use Rattle.partition_model.specs.History.{stamp_of}
use Rattle.partition_model.specs.Run.{RunStep}
use Rattle.partition_model.proofs.Rises.{prefix_rises}
use Rattle.fronts.specs.Answered.{Answered, wrote, got, changed, kept, stamp_given, accepts}
use Rattle.fronts.specs.Session.{Session, Writes, AnswersOne}
use Rattle.served.specs.Served.{NoFall}
use Rattle.served.proofs.OnePartition.{InOrder}

module _ (options : Options) where
  abbrev Follows : ℕ → Answered → Type 0
  Follows last answered = (last ≤ stamp_given answered) × (accepts answered ≡ true → last < stamp_given answered)

  -- the stamp that was answered last is one of what was seen
  abbrev IsKnown : Session → Type 0
  IsKnown session = session.last ≤ stamp_of options session.seen

  -- what one answer makes of the session
  record Given (old new : Session) (stamp : ℕ) (accepted : Bool) : Type 0 where
    pub last : new.last ≡ stamp
    pub known : IsKnown new
    pub follows : IsKnown old → (old.last ≤ stamp) × (accepted ≡ true → old.last < stamp)

  given_write : (step : RunStep) (old new : Session) → Writes options false old step new → Given old new step.stamp (is_accepted step.outcome)
  given_write step old new w =
      let low = prefix_rises options w.cut new.seen w.at.begins in
      record { last = w.last; known = omega (arith, low, w.at.stamped, w.last); follows = λ _. (w.order, w.rises) }

  given : (answered : Answered) (old new : Session) → AnswersOne options false old answered new → Given old new (stamp_given answered) (accepts answered)
  given (wrote step) old new w = given_write step old new w
  given (got key stamp value) old new r =
      let low = prefix_rises options old.seen new.seen r.grows in
      record {
        last = r.last;
        known = omega (arith, r.last, r.answer.0);
        follows = λ known. (omega (arith, known, low, r.answer.0), λ off. absurd (true≢false (sym off)));
      }
  given (changed step look) old new c = given_write step old new c.written
  given (kept key stamp look) old new k =
      let low = prefix_rises options k.cut new.seen k.at.begins in
      record { last = k.last; known = omega (arith, low, k.at.stamped, k.last); follows = λ _. (k.order, λ off. absurd (true≢false (sym off))) }

  all_follow : (own : List Answered) (old new : Session) → InOrder options old own new → IsKnown old → All (Follows old.last) own
  all_follow [] old new h known = All-nil (Follows old.last)
  all_follow (a ∷ own) old new h known =
      let one = given a old h.0 h.1 in
      let first = one.follows known in
      All-cons (Follows old.last) a own first
      (All-weaker (Follows h.0.last) (Follows old.last)
      (λ b later. (omega (arith, first.0, later.0, one.last), λ accepted. let above = later.1 accepted in omega (arith, first.0, one.last))) own (all_follow own h.0 new h.2 one.known))

  pub order_of : (own : List Answered) (old new : Session) → InOrder options old own new → AllPairs NoFall own
  order_of [] old new h = λ i j d lt within. absurd (omega arith)
  order_of (a ∷ own) old new h =
      let one = given a old h.0 h.1 in
      AllPairs-cons NoFall a own (subst (λ (n : ℕ). All (Follows n) own) one.last (all_follow own h.0 new h.2 one.known)) (order_of own h.0 new h.2)
