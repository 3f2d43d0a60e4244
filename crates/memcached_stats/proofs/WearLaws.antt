-- Of one partition after another it is told how far it is worn.
use Rattle.std.proofs.Common.{◌≡◌, ℕ, zero, suc, ◌+◌, List, ◌++◌, sym, ap, ◌∙◌, append_assoc, arith}
use Rattle.std.proofs.lemmas.List.{append-nil}
use Rattle.memcached_requests.specs.declared.request.Style.{Style}
use Rattle.memcached_stats.specs.declared.figures.Wear.{Wear}
use Rattle.memcached_stats.specs.Stats.{lines_of, wear_stats, wear_text}

abbrev one : Style → ℕ → (ℕ → Wear) → List ℕ
one style p wear = lines_of style (wear_stats p (wear p))

-- with one partition more
pub one_more : (style : Style) (first count : ℕ) (wear : ℕ → Wear) → wear_text style first (suc count) wear ≡ wear_text style first count wear ++ one style (first + count) wear
one_more style first zero wear = append-nil (one style first wear) ∙ ap (λ p. one style p wear) (omega arith)
one_more style first (suc count) wear =
    ap (λ text. one style first wear ++ text) (one_more style (suc first) count wear) ∙ sym (append_assoc (one style first wear) (wear_text style (suc first) count wear) (one style (suc first + count) wear))
    ∙ ap (λ p. (one style first wear ++ wear_text style (suc first) count wear) ++ one style p wear) (omega arith)

-- five texts that were appended one after another
pub in_turn : (before a b c d e : List ℕ) → before ++ a ++ b ++ c ++ d ++ e ≡ before ++ (a ++ b ++ c ++ d ++ e)
in_turn before a b c d e =
    ap (λ text. text ++ c ++ d ++ e) (append_assoc before a b) ∙ ap (λ text. text ++ d ++ e) (append_assoc before (a ++ b) c)
    ∙ ap (λ text. text ++ e) (append_assoc before (a ++ b ++ c) d) ∙ append_assoc before (a ++ b ++ c ++ d) e
