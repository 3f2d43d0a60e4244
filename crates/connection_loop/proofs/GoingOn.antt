-- Visits go on, as the front's sessions do by their answers.
use Rattle.std.proofs.Common.{◌≡◌, ℕ, ◌<◌, Bool, ◌++◌, length, subst}
use Rattle.std.specs.Prelude.{Option, Result, Ok, Err, MatchResult}
use Rattle.partition_model.specs.declared.options.Options.{Options}
use Rattle.connections.specs.Log.{Log}
use Rattle.fronts.specs.Session.{Sessions}
use Rattle.connection_loop.specs.declared.client.Client.{Client}
use Rattle.connection_loop.specs.declared.visit.After.{After}
use Rattle.connection_loop.specs.declared.visit.After.TheVariants.{Again}
use Rattle.connection_loop.specs.Going.{GoesBySome}
use Rattle.connection_loop.specs.Open.{OnLogs}
use Rattle.connection_loop.specs.Traffic.{OnHeld}
use Rattle.connection_loop.specs.Held.{Visits, VisitLacks}
use Rattle.connection_loop.proofs.Going.{these_then}
use Rattle.connection_loop.proofs.Traffic.{on_one, on_two}
use Rattle.connection_loop.proofs.Staying.{passes_under}
use Rattle.connection_loop.proofs.Revisiting.{visits_once, lacks_once, visits_then, visits_lack}

module _ (options : Options) (is_alone : Bool) (base number : ℕ) where
  module _ {old new : Sessions} {left left_after : ℕ} {told tells : ℕ} (client : Client) (a b : Option Log) where
    -- one visit was enough
    pub goes_once : (now : Client) (x after : After) → x ≡ after
        → (some : GoesBySome options is_alone old left told new left_after tells (λ answers. OnLogs (OnHeld number (Visits options base 1 client answers now x)) a b)) → (after ≡ Again → 0 < length some.0)
        → GoesBySome options is_alone old left told new left_after tells (λ answers. OnLogs (OnHeld number (Visits options base 2 client answers now after)) a b)
    goes_once now x after is some given = (
      some.0,
      some.1,
      on_one number (Visits options base 1 client some.0 now x) (Visits options base 2 client some.0 now after) a b
          (λ c y z one. visits_once options base c after given (subst (λ (w : After). Visits options base 1 client some.0 now w c y z) is one)) some.2,
    )

    -- memory lacked at the first
    pub goes_lack_once : GoesBySome options is_alone old left told new left_after tells (λ answers. OnLogs (OnHeld number (VisitLacks options base 1 client answers)) a b)
        → GoesBySome options is_alone old left told new left_after tells (λ answers. OnLogs (OnHeld number (VisitLacks options base 2 client answers)) a b)
    goes_lack_once some = (
      some.0,
      some.1,
      on_one number (VisitLacks options base 1 client some.0) (VisitLacks options base 2 client some.0) a b (λ c x y one. lacks_once options base c one) some.2,
    )

  module _ {old between : Sessions} {left then_left : ℕ} {told then_told : ℕ} (client mid : Client) (a b : Option Log) (x : After) (again : x ≡ Again)
      (seen : GoesBySome options is_alone old left told between then_left then_told (λ answers. OnLogs (OnHeld number (Visits options base 1 client answers mid x)) a b)) where
    first : GoesBySome options is_alone old left told between then_left then_told (λ answers. OnLogs (OnHeld number (Visits options base 1 client answers mid Again)) a b)
    first = subst (λ (w : After). GoesBySome options is_alone old left told between then_left then_told (λ answers. OnLogs (OnHeld number (Visits options base 1 client answers mid w)) a b)) again seen

    -- one more, or memory lacked at that
    pub goes_on : {E : Type 0} {new : Sessions} {left_after : ℕ} {tells : ℕ} (d : Option Log) (o : Options) (b' : ℕ) → o ≡ options → b' ≡ base → (now : Client) (r : Result After E)
        → GoesBySome o is_alone between then_left then_told new left_after tells
        (λ answers. MatchResult r (λ after. OnLogs (OnHeld number (Visits o b' 1 mid answers now after)) b d) (λ _. OnLogs (OnHeld number (VisitLacks o b' 1 mid answers)) b d))
        → GoesBySome options is_alone old left told new left_after tells
        (λ answers. MatchResult r (λ after. OnLogs (OnHeld number (Visits options base 2 client answers now after)) a d) (λ _. OnLogs (OnHeld number (VisitLacks options base 2 client answers)) a d))
    goes_on {E} {new} {left_after} {tells} d o b' same same_base now (Ok after) more =
        let here = subst (λ (x : Options). GoesBySome x is_alone between then_left then_told new left_after tells (λ answers. OnLogs (OnHeld number (Visits x b' 1 mid answers now after)) b d)) same more in
        let second = subst (λ x. GoesBySome options is_alone between then_left then_told new left_after tells (λ answers. OnLogs (OnHeld number (Visits options x 1 mid answers now after)) b d)) same_base here in (
          first.0 ++ second.0,
          these_then options is_alone first.1 second.1,
          on_two number (Visits options base 1 client first.0 mid Again) (Visits options base 1 mid second.0 now after) (Visits options base 2 client (first.0 ++ second.0) now after) a b d
              (λ c x y is one. passes_under one.passes number c is) (λ c x y z one two. visits_then options base c one after two) first.2 second.2,
        )
    goes_on {E} {new} {left_after} {tells} d o b' same same_base now (Err e) more =
        let here = subst (λ (x : Options). GoesBySome x is_alone between then_left then_told new left_after tells (λ answers. OnLogs (OnHeld number (VisitLacks x b' 1 mid answers)) b d)) same more in
        let second = subst (λ x. GoesBySome options is_alone between then_left then_told new left_after tells (λ answers. OnLogs (OnHeld number (VisitLacks options x 1 mid answers)) b d)) same_base here in (
          first.0 ++ second.0,
          these_then options is_alone first.1 second.1,
          on_two number (Visits options base 1 client first.0 mid Again) (VisitLacks options base 1 mid second.0) (VisitLacks options base 2 client (first.0 ++ second.0)) a b d
              (λ c x y is one. passes_under one.passes number c is) (λ c x y z one two. visits_lack options base c one two) first.2 second.2,
        )
