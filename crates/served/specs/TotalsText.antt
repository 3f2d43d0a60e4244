-- How totals are told.
use Rattle.std.specs.Prelude.{ℕ, List, [], ◌∷◌, ◌++◌, codes}
use Rattle.std.specs.Fmt.{decimal}
use Rattle.fronts.specs.declared.totals.Totals.{Totals}

-- the line of what the fronts of a server received
abbrev pub totals_text : Totals → List ℕ
totals_text totals =
    codes "batches " ++ decimal totals.batches ++ codes " requests " ++ decimal totals.requests ++ codes " bad " ++ decimal totals.bad ++ 10 ∷ []
