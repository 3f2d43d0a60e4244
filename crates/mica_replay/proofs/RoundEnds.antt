-- Lines of one round.
use Rattle.std.proofs.Common.{◌≡◌, ℕ, ◌+◌, ◌-◌, ◌<◌, ◌≤◌, List, [], ◌∷◌, ◌++◌, length, take, drop, get_or, ap, ◌∙◌, arith, true, false}
use Rattle.std.specs.List.{AllByRecursion}
use Rattle.std.proofs.lemmas.List.{take_more, get_or-drop, length-drop}
use Rattle.mica_trace.specs.declared.line.TraceLine.{TraceLine}
use Rattle.mica_trace.specs.TraceGrammar.{is_sync}
use Rattle.mica_trace.specs.RoundReport.{EndsRound, IsOneRound}

abbrev pub IsNoSync : TraceLine → Type 0
IsNoSync line = is_sync line ≡ false

pub one_round : (xs : List TraceLine) (x : TraceLine) → AllByRecursion IsNoSync xs → IsOneRound (xs ++ x ∷ [])
one_round [] x all = tt
one_round (y ∷ []) x all = (all.0, tt)
one_round (y ∷ (z ∷ xs)) x all = (all.0, one_round (z ∷ xs) x all.1)

pub whole_round : (xs : List TraceLine) → AllByRecursion IsNoSync xs → IsOneRound xs
whole_round [] all = tt
whole_round (y ∷ []) all = tt
whole_round (y ∷ (z ∷ xs)) all = (all.0, whole_round (z ∷ xs) all.1)

pub ends_round : (xs : List TraceLine) (x : TraceLine) → is_sync x ≡ true → EndsRound (xs ++ x ∷ [])
ends_round [] x is = is
ends_round (y ∷ []) x is = is
ends_round (y ∷ (z ∷ xs)) x is = ends_round (z ∷ xs) x is

-- one more line of a part
pub part_more : (lines : List TraceLine) (from to : ℕ) (d : TraceLine) → from ≤ to → to < length lines → take (to + 1 - from) (drop from lines) ≡ take (to - from) (drop from lines) ++ get_or lines to d ∷ []
part_more lines from to d low less =
    let long = length-drop from lines in
    let one : to + 1 - from ≡ to - from + 1 = omega arith in
    let at : from + (to - from) ≡ to = omega arith in
    ap (λ n. take n (drop from lines)) one ∙ take_more (drop from lines) (to - from) d (omega arith)
    ∙ ap (λ l. take (to - from) (drop from lines) ++ l ∷ []) (get_or-drop from lines (to - from) d ∙ ap (λ n. get_or lines n d) at)
