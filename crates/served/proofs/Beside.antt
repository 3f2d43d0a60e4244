-- What a front beside others makes of a partition: its writes stand among the answers that it took, and all that it got or looked at is of what it has
-- seen.
use Rattle.std.proofs.Common.{◌≡◌, ℕ, ◌+◌, inl, List, [], ◌∷◌, ◌++◌, length, Option, Some, refl, sym, ap, ◌∙◌, subst, append_assoc, arith}
use Rattle.std.specs.List.{All, AllByRecursion, filter}
use Rattle.std.proofs.lemmas.List.{append-nil}
use Rattle.std.proofs.lemmas.List.Elements.{All-nil, All-cons, All-weaker, All-from_recursion, recursion_from_All}
use Rattle.partition_model.specs.declared.options.Options.{Options}
use Rattle.partition_model.specs.History.{IsPrefix, History, stamp_of}
use Rattle.partition_model.specs.Run.{RunStep, history_of}
use Rattle.partition_words.proofs.Prefixes.{prefix_then, prefix_same}
use Rattle.fronts.specs.Looks.{Look, IsLookAt}
use Rattle.fronts.specs.Answered.{Answered, wrote, got, changed, kept, is_get, steps_of}
use Rattle.fronts.specs.Session.{Told, Session, TellsWrite, TellsRead, TellsLook}
use Rattle.served.specs.Served.{ServesGet, ServesKept}
use Rattle.served.proofs.Among.{StandAmong, stand_after}
use Rattle.served.proofs.OnePartition.{InOrder}

-- A write was made of a look with nothing between, as the history of its stamp shows.
pub record MadeOfLast (options : Options) (early late : History) (step : RunStep) (look : Look) : Type 0 where
  pub before : History
  pub filled : IsPrefix early before
  pub begins : IsPrefix (before ++ history_of (step ∷ [])) late
  pub stamped : step.stamp ≡ stamp_of options (before ++ history_of (step ∷ []))
  pub looked : IsLookAt options before step.write.key look

-- what was got or looked at is what the machine has behind a beginning of one history that begins with another
abbrev pub IsOf : Options → History → History → Answered → Type 0
IsOf options early late (wrote step) = Unit {0}
IsOf options early late (got key stamp value) = ServesGet options early late (got key stamp value)
IsOf options early late (changed step look) = MadeOfLast options early late step look
IsOf options early late (kept key stamp look) = ServesKept options early late key stamp look

module _ (options : Options) (late early old new : History) (earlier : IsPrefix early late) (grows : IsPrefix old new) where
  one_grows : (answered : Answered) → IsOf options late old answered → IsOf options early new answered
  one_grows (wrote step) is = tt
  one_grows (got key stamp value) is =
      record { cut = is.cut; begins = prefix_then is.cut old new is.begins grows; filled = prefix_then early late is.cut earlier is.filled; is = is.is }
  one_grows (changed step look) is = record {
    before = is.before;
    filled = prefix_then early late is.before earlier is.filled;
    begins = prefix_then (is.before ++ history_of (step ∷ [])) old new is.begins grows;
    stamped = is.stamped;
    looked = is.looked;
  }
  one_grows (kept key stamp look) is = record {
    cut = is.cut;
    begins = prefix_then is.cut old new is.begins grows;
    filled = prefix_then early late is.cut earlier is.filled;
    stamped = is.stamped;
    looked = is.looked;
  }

  -- what is of a history is of any that begins with it, over any beginning of what that begins with
  pub all_grow : (own : List Answered) → All (IsOf options late old) own → All (IsOf options early new) own
  all_grow own = All-weaker (IsOf options late old) (IsOf options early new) one_grows own

-- the gets among them
pub gets_among : (options : Options) (early late : History) (own : List Answered) → All (IsOf options early late) own → All (ServesGet options early late) (filter is_get own)
gets_among options early late own all = All-from_recursion (ServesGet options early late) (filter is_get own) (among own (recursion_from_All (IsOf options early late) own all))
  where
    among : (own : List Answered) → AllByRecursion (IsOf options early late) own → AllByRecursion (ServesGet options early late) (filter is_get own)
    among [] all = tt
    among (wrote step ∷ own) all = among own all.1
    among (got key stamp value ∷ own) all = (all.0, among own all.1)
    among (changed step look ∷ own) all = among own all.1
    among (kept key stamp look ∷ own) all = among own all.1

-- What a front that told this tells after these writes and so many gets of a partition: more steps, among which the writes stand, and one closed try for
-- each get.
pub record TellsAnswers (old : Told) (writes : List RunStep) (gets : ℕ) (new : Option Told) : Type 0 where
  pub told : Told
  pub is : new ≡ Some told
  pub more : List RunStep
  pub steps : told.steps ≡ old.steps ++ more
  pub stand : StandAmong writes more
  pub closed : told.closed ≡ old.closed + gets

-- one write more
tells_write : {old between new : Option Told} {step : RunStep} {writes : List RunStep} {gets : ℕ} → TellsWrite old step between
    → ((told : Told) → between ≡ Some told → TellsAnswers told writes gets new) → (told : Told) → old ≡ Some told → TellsAnswers told (step ∷ writes) gets new
tells_write {between = between} {step = step} {writes = writes} one rest told tells =
    let t = subst (λ (o : Option Told). TellsWrite o step between) tells one in
    let r = rest t.0 t.1 in
    record {
      told = r.told;
      is = r.is;
      more = t.2.more ++ step ∷ r.more;
      steps = r.steps ∙ ap (λ (l : List RunStep). l ++ r.more) t.2.steps ∙ append_assoc (told.steps ++ t.2.more) (step ∷ []) r.more
          ∙ append_assoc told.steps t.2.more (step ∷ r.more);
      stand = stand_after t.2.more (step ∷ r.more) (step ∷ writes) (inl (refl, r.stand));
      closed = omega (arith, r.closed, t.2.closed);
    }

-- what these answers make of the partition's session
pub record Beside (options : Options) (old new : Session) (own : List Answered) : Type 0 where
  pub grows : IsPrefix old.seen new.seen
  pub tells : (told : Told) → old.told ≡ Some told → TellsAnswers told (steps_of own) (length (filter is_get own)) new.told
  pub known : All (IsOf options old.seen new.seen) own

-- one answer before others
known_more : (options : Options) (old between new : Session) (answered : Answered) (own : List Answered) → IsPrefix old.seen between.seen → IsOf options old.seen new.seen answered
    → Beside options between new own → All (IsOf options old.seen new.seen) (answered ∷ own)
known_more options old between new answered own grows is rest =
    All-cons (IsOf options old.seen new.seen) answered own is (all_grow options between.seen old.seen new.seen new.seen grows (prefix_same new.seen) own rest.known)

pub beside_of : (options : Options) (own : List Answered) (old new : Session) → InOrder options old own new → Beside options old new own
beside_of options [] old new same =
    record {
      grows = ([], ap (λ s. s.seen) same ∙ sym (append-nil old.seen));
      tells = λ told tells. record {
        told = told;
        is = ap (λ s. s.told) same ∙ tells;
        more = [];
        steps = sym (append-nil told.steps);
        stand = tt;
        closed = omega arith;
      };
      known = All-nil (IsOf options old.seen new.seen);
    }
beside_of options (wrote step ∷ own) old new (between, w, later) =
    let rest = beside_of options own between new later in
    record {
      grows = prefix_then old.seen between.seen new.seen w.grows rest.grows;
      tells = tells_write w.told rest.tells;
      known = known_more options old between new (wrote step) own w.grows tt rest;
    }
beside_of options (got key stamp value ∷ own) old new (between, r, later) =
    let rest = beside_of options own between new later in
    let is : ServesGet options old.seen new.seen (got key stamp value) =
    record { cut = between.seen; begins = rest.grows; filled = r.grows; is = λ i. got key (r.answer.0 i) (r.answer.1 i) } in
    record {
      grows = prefix_then old.seen between.seen new.seen r.grows rest.grows;
      tells = λ told tells.
          let t = subst (λ (o : Option Told). TellsRead o between.told) tells r.told in
          let more = rest.tells _ t.1 in
          record { told = more.told; is = more.is; more = more.more; steps = more.steps; stand = more.stand; closed = omega (arith, more.closed) };
      known = known_more options old between new (got key stamp value) own r.grows is rest;
    }
beside_of options (changed step look ∷ own) old new (between, c, later) =
    let rest = beside_of options own between new later in
    let w = c.written in
    let made : MadeOfLast options old.seen new.seen step look = record {
      before = c.before;
      filled = c.newest;
      begins = subst (λ (cut : History). IsPrefix cut new.seen) c.next (prefix_then w.cut between.seen new.seen w.at.begins rest.grows);
      stamped = sym w.at.stamped ∙ ap (stamp_of options) c.next;
      looked = c.looked;
    } in
    record {
      grows = prefix_then old.seen between.seen new.seen w.grows rest.grows;
      tells = tells_write w.told rest.tells;
      known = known_more options old between new (changed step look) own w.grows made rest;
    }
beside_of options (kept key stamp look ∷ own) old new (between, k, later) =
    let rest = beside_of options own between new later in
    let left : ServesKept options old.seen new.seen key stamp look = record {
      cut = k.cut;
      begins = prefix_then k.cut between.seen new.seen k.at.begins rest.grows;
      filled = k.newest;
      stamped = sym k.at.stamped;
      looked = k.looked;
    } in
    record {
      grows = prefix_then old.seen between.seen new.seen k.grows rest.grows;
      tells = λ told tells.
          let t = subst (λ (o : Option Told). TellsLook o between.told) tells k.told in
          let more = rest.tells _ t.1 in
          record { told = more.told; is = more.is; more = more.more; steps = more.steps; stand = more.stand; closed = more.closed };
      known = known_more options old between new (kept key stamp look) own k.grows left rest;
    }
