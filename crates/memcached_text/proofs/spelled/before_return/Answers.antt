use Rattle.std.proofs.Common.{◌≡◌, ◌≢◌, ◌∷◌, [], ◌++◌, ◌∙◌, List, ℕ, ap, Option, Some, None}
use Rattle.std.specs.Prelude.{MatchOption, IfSome}
use denote.Ref.{Bor}
use Rattle.std.proofs.lemmas.Slice.Eq.{strip_suffix_is}
use Rattle.std.proofs.lemmas.Bool.Decides.{Decides-eqb}
use Rattle.memcached_text.proofs.spelled.before_return.Goals as goal

known : (line end : List ℕ) (r : Option (Bor (List ℕ))) → MatchOption r ((front : List ℕ) → line ≢ front ++ end) (λ x. line ≡ x.now ++ end) → end ≡ 13 ∷ [] → IfSome r (λ x. line ≡ x.now ++ 13 ∷ [])
known line end None told is = tt
known line end (Some x) told is = told ∙ ap (λ e. x.now ++ e) is

pub returns : goal.returns
returns c = known c.args.line.now c.as_slice.result.now c.strip_suffix.result (strip_suffix_is Decides-eqb c.args.line.now c.as_slice.result.now c.strip_suffix.result c.strip_suffix.ensures.cases) c.as_slice.ensures
