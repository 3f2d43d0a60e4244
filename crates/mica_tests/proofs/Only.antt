-- Shares that were given out have not ended.
use Rattle.std.proofs.Common.{◌≡◌, ℕ, Bool, false, List, [], ◌∷◌, ◌++◌, length, map, refl, sym, ap, ◌∙◌}
use Rattle.std.specs.Prelude.{slice_get, Option, None, Some, IfSome}
use Rattle.std.specs.Option.{option_to_list}
use Rattle.std.proofs.lemmas.List.{map-append}
use Rattle.connections.specs.Log.{Log}
use Rattle.connections.specs.Shares.{ShareLogs, ShareFacts, GivesShares, share_facts}

here : (front : List ShareFacts) (facts : ShareFacts) (back : List ShareFacts) → slice_get (front ++ facts ∷ back) (length front) ≡ Some facts
here [] facts back = refl
here (x ∷ front) facts back = here front facts back

-- whichever it is
pub given_open : {Port : Type 0} (share faults : Port → ℕ) (has_ended : Port → Bool) (log : Port → Option Log) {waited : Option ShareLogs} {first count : ℕ} {all : List Port}
    (front : List Port) (c : Port) (back : List Port) → GivesShares waited first count [] (map (share_facts share faults has_ended log) all) → all ≡ front ++ c ∷ back → has_ended c ≡ false
given_open share faults has_ended log front c back g is =
    let facts = share_facts share faults has_ended log in
    (g.each (length (map facts front)) (facts c) (ap (λ xs. slice_get xs (length (map facts front))) (sym g.behind ∙ ap (map facts) is ∙ map-append facts front (c ∷ back))
    ∙ here (map facts front) (facts c) (map facts back))).unended

-- the only one
pub only_open : {Port : Type 0} (share faults : Port → ℕ) (has_ended : Port → Bool) (log : Port → Option Log) {waited : Option ShareLogs} {first count : ℕ} {all : List Port} (front : List Port) (last : Option Port)
    → GivesShares waited first count [] (map (share_facts share faults has_ended log) all) → all ≡ front ++ option_to_list last → IfSome last (λ c. has_ended c ≡ false)
only_open share faults has_ended log front None g is = tt
only_open share faults has_ended log front (Some c) g is = given_open share faults has_ended log front c [] g is
