-- Shares that were given out one after another.
use Rattle.std.proofs.Common.{◌≡◌, ℕ, zero, suc, ◌+◌, ◌-◌, ◌<◌, ◌≤◌, Bool, true, false, cond, List, [], ◌∷◌, ◌++◌, length, refl, sym, ap, ◌∙◌, subst, arith}
use Rattle.std.specs.Prelude.{slice_get, nat_lt, ◌==◌, ◌&&◌, is_some, Option, None, Some, IfSome, option_map}
use Rattle.std.proofs.lemmas.Bool.{ltb-true, ltb-false, lt-ltb, le-ltb, eqb-true, eqb-false}
use Rattle.std.proofs.lemmas.List.{append-nil, append_assoc, length-append}
use Rattle.std.proofs.lemmas.Option.{none-some, same_Some}
use Rattle.connections.specs.Log.{Log}
use Rattle.connections.specs.Shares.{ShareLogs, ShareFacts, IsNewShare, GivesShares, are_awaited, with_share, without_shares}

same_logs : (f g : ShareLogs) → ((n : ℕ) → f n ≡ g n) → f ≡ g
same_logs f g h = λ i. λ n. h n i

-- a share behind those that were given out waits still
pub past_without : (first count : ℕ) (all : ShareLogs) (share : ℕ) → first + count ≤ share → without_shares first count all share ≡ all share
past_without first count all share past =
    ap (λ b. cond b (all share) (cond (nat_lt share (first + count)) None (all share))) (le-ltb share first (omega (arith, past)))
    ∙ ap (λ b. cond b None (all share)) (le-ltb share (first + count) past)

-- none were given out
pub without_none : (first : ℕ) (all : ShareLogs) → without_shares first 0 all ≡ all
without_none first all = same_logs _ _ (λ n. by n (nat_lt n first) refl)
  where
    by : (n : ℕ) (b : Bool) → nat_lt n first ≡ b → cond b (all n) (cond (nat_lt n (first + 0)) None (all n)) ≡ all n
    by n true low = refl
    by n false high = ap (λ c. cond c None (all n)) (le-ltb n (first + 0) (let past = ltb-false n first high in omega (arith, past)))

-- one more was given out
pub without_more : (first count : ℕ) (all : ShareLogs) → with_share (first + count) None (without_shares first count all) ≡ without_shares first (count + 1) all
without_more first count all = same_logs _ _ (λ n. by n (n == first + count) (nat_lt n first) (nat_lt n (first + count)) refl refl refl)
  where
    by : (n : ℕ) (e l h : Bool) → (n == first + count) ≡ e → nat_lt n first ≡ l → nat_lt n (first + count) ≡ h
        → cond e None (cond l (all n) (cond h None (all n))) ≡ cond l (all n) (cond (nat_lt n (first + (count + 1))) None (all n))
    by n true true h is low high = absurd (let same = eqb-true n (first + count) is in let less = ltb-true n first low in omega (arith, same, less))
    by n true false h is low high = sym (ap (λ c. cond c None (all n)) (lt-ltb n (first + (count + 1)) (let same = eqb-true n (first + count) is in omega (arith, same))))
    by n false true h is low high = refl
    by n false false true is low high = sym (ap (λ c. cond c None (all n)) (lt-ltb n (first + (count + 1)) (let less = ltb-true n (first + count) high in omega (arith, less))))
    by n false false false is low high =
        sym (ap (λ c. cond c None (all n)) (le-ltb n (first + (count + 1)) (let other = eqb-false n (first + count) is in let past = ltb-false n (first + count) high in omega (arith, other, past))))

-- of those that are awaited the next one is, and then the others
pub awaited_next : (first k count : ℕ) (all : ShareLogs) → k < count
    → are_awaited (first + k) (count - k) all ≡ (is_some (all (first + k)) && are_awaited (first + (k + 1)) (count - (k + 1)) all)
awaited_next first k count all lt =
    let one : count - k ≡ suc (count - (k + 1)) = omega (arith, lt) in
    let next : suc (first + k) ≡ first + (k + 1) = omega arith in
    ap (λ n. are_awaited (first + k) n all) one ∙ ap (λ n. is_some (all (first + k)) && are_awaited n (count - (k + 1)) all) next

-- what is so of each in two lists, by its place
each_in : (P : ℕ → ShareFacts → Type 0) (xs ys : List ShareFacts) → ((k : ℕ) (x : ShareFacts) → slice_get xs k ≡ Some x → P k x)
    → ((k : ℕ) (x : ShareFacts) → slice_get ys k ≡ Some x → P (length xs + k) x) → (k : ℕ) (x : ShareFacts) → slice_get (xs ++ ys) k ≡ Some x → P k x
each_in P [] ys f g k x at = subst (λ n. P n x) (let none : 0 + k ≡ k = omega arith in none) (g k x at)
each_in P (y ∷ xs) ys f g zero x at = f zero x at
each_in P (y ∷ xs) ys f g (suc k) x at =
    each_in (λ n. P (suc n)) xs ys (λ n. f (suc n)) (λ n z is. subst (λ m. P m z) (let one : suc (length xs) + n ≡ suc (length xs + n) = omega arith in one) (g n z is)) k x at

waited_still : (waited waits : Option ShareLogs) (first count share : ℕ) (log : Option Log) → waits ≡ option_map (without_shares first count) waited → first + count ≤ share
    → IfSome waits (λ all. all share ≡ log) → IfSome waited (λ all. all share ≡ log)
waited_still None waits first count share log is past w = tt
waited_still (Some all) waits first count share log is past w =
    sym (past_without first count all share past) ∙ subst (λ (o : Option ShareLogs). IfSome o (λ all. all share ≡ log)) is w

-- no share was given out
pub gives_none : (waited : Option ShareLogs) (first : ℕ) (all : List ShareFacts) → GivesShares waited first 0 all all
gives_none waited first all = record { more = []; behind = sym (append-nil all); many = refl; each = λ k facts at. absurd (none-some facts at) }

-- one was
pub gives_one : (waited : Option ShareLogs) (share : ℕ) (all : List ShareFacts) (facts : ShareFacts) → IsNewShare waited share facts → GivesShares waited share 1 all (all ++ facts ∷ [])
gives_one waited share all facts new = record { more = facts ∷ []; behind = refl; many = refl; each = each }
  where
    each : (k : ℕ) (x : ShareFacts) → slice_get (facts ∷ []) k ≡ Some x → IsNewShare waited (share + k) x
    each zero x at = subst (λ n. IsNewShare waited n x) (let here : share ≡ share + 0 = omega arith in here) (subst (IsNewShare waited share) (same_Some facts x at) new)
    each (suc k) x at = absurd (none-some x at)

-- first these were and then those
pub gives_on : (waited waits : Option ShareLogs) (first m n : ℕ) (old mid new : List ShareFacts) → GivesShares waited first m old mid → waits ≡ option_map (without_shares first m) waited
    → GivesShares waits (first + m) n mid new → GivesShares waited first (m + n) old new
gives_on waited waits first m n old mid new g is h = record {
  more = g.more ++ h.more;
  behind = h.behind ∙ ap (λ xs. xs ++ h.more) g.behind ∙ append_assoc old g.more h.more;
  many = length-append g.more h.more ∙ (λ i. g.many i + h.many i);
  each = each_in (λ k facts. IsNewShare waited (first + k) facts) g.more h.more g.each later;
}
  where
    later : (k : ℕ) (facts : ShareFacts) → slice_get h.more k ≡ Some facts → IsNewShare waited (first + (length g.more + k)) facts
    later k facts at =
        let new = h.each k facts at in
        let number : first + m + k ≡ first + (length g.more + k) = (let many = g.many in omega (arith, many)) in
        subst (λ share. IsNewShare waited share facts) number (record {
          share_is = new.share_is;
          no_faults = new.no_faults;
          unended = new.unended;
          fresh = new.fresh;
          waited_is = waited_still waited waits first m (first + m + k) facts.log is (omega arith) new.waited_is;
        })
