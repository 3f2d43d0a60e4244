-- Shares that were made one after another, and put behind others.
use Rattle.std.proofs.Common.{◌≡◌, ℕ, List, [], ◌++◌, map, sym, ap, ◌∙◌, subst}
use Rattle.std.specs.Prelude.{None}
use Rattle.std.proofs.lemmas.List.{map-append}
use Rattle.connections.specs.Shares.{GivesShares}
use Rattle.connections.proofs.Shares.{gives_none}
use Rattle.server_rows.specs.declared.overheard.OverheardConnections.{OverheardConnections}
use Rattle.server_rows.specs.Heard.{facts_of}

-- there are none yet
pub none_made : (first : ℕ) (all : List OverheardConnections) → all ≡ [] → GivesShares None first 0 [] (map facts_of all)
none_made first all none = subst (λ (l : List OverheardConnections). GivesShares None first 0 [] (map facts_of l)) (sym none) (gives_none None first [])

-- all were put behind these
pub gives_behind : (first count : ℕ) (old all new : List OverheardConnections) → new ≡ old ++ all → GivesShares None first count [] (map facts_of all)
    → GivesShares None first count (map facts_of old) (map facts_of new)
gives_behind first count old all new is gives = record {
  more = gives.more;
  behind = ap (map facts_of) is ∙ map-append facts_of old all ∙ ap (λ l. map facts_of old ++ l) gives.behind;
  many = gives.many;
  each = gives.each;
}
