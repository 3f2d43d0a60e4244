-- What is told of shares that were let go.
use Rattle.std.proofs.Common.{◌≡◌, ℕ, zero, suc, ◌+◌, ◌⊎◌, inl, inr, Bool, true, false, cond, List, [], ◌∷◌, Option, Some, slice_get, eqb, eqb-true, eq-eqb, true≢false, refl, sym, ap, ◌∙◌, arith}
use Rattle.std.proofs.lemmas.Option.{none-some, same_Some}
use Rattle.connections.specs.Log.{Log}
use Rattle.connections.specs.Shares.{ShareLogs, ShareFacts, with_share}
use Rattle.locked_server.specs.Streams.{with_shares}

-- one of these is this share
abbrev IsOneAt : ℕ → List ShareFacts → Type 0
IsOneAt share shares = (k : ℕ) × (s : ShareFacts) × (slice_get shares k ≡ Some s) × (s.share ≡ share)

-- what is told of a share that all of its number have left, of which there is one, or that had been told before
left_at : (share : ℕ) (log : Option Log) (shares : List ShareFacts) (logs : ShareLogs) → ((k : ℕ) (s : ShareFacts) → slice_get shares k ≡ Some s → s.share ≡ share → s.log ≡ log)
    → (logs share ≡ log) ⊎ IsOneAt share shares → with_shares shares logs share ≡ log
left_at share log [] logs same (inl is) = is
left_at share log [] logs same (inr one) = absurd (none-some one.1 one.2)
left_at share log (s ∷ later) logs same some =
    left_at share log later (with_share s.share s.log logs) (λ k t at. same (suc k) t at) (by (eqb share s.share) refl)
  where
    behind : eqb share s.share ≡ false → (k : ℕ) (t : ShareFacts) → slice_get (s ∷ later) k ≡ Some t → t.share ≡ share → IsOneAt share later
    behind other zero t at here = absurd (true≢false (sym (eq-eqb share s.share (sym (ap (λ (x : ShareFacts). x.share) (same_Some s t at) ∙ here))) ∙ other))
    behind other (suc k) t at here = (k, t, at, here)

    by : (b : Bool) → eqb share s.share ≡ b → (cond b s.log (logs share) ≡ log) ⊎ IsOneAt share later
    by true is = inl (same zero s refl (sym (eqb-true share s.share is)))
    by false other = elim some as (λ _. (logs share ≡ log) ⊎ IsOneAt share later) [ inl is ↦ inl is | inr one ↦ inr (behind other one.0 one.1 one.2 one.3) ]

-- of shares one after another
module _ (first : ℕ) (shares : List ShareFacts) (at : (k : ℕ) (s : ShareFacts) → slice_get shares k ≡ Some s → s.share ≡ first + k) (logs : ShareLogs) where
  pub left_of : (f : ℕ) (a : ShareFacts) → slice_get shares f ≡ Some a → with_shares shares logs (first + f) ≡ a.log
  left_of f a is = left_at (first + f) a.log shares logs (λ k s at_k here.
      let its = at k s at_k in
      let same : k ≡ f = omega (arith, its, here) in
      ap (λ (x : ShareFacts). x.log) (same_Some s a (sym at_k ∙ ap (slice_get shares) same ∙ is))) (inr (f, a, is, at f a is))
