-- What is held under a number.
use Rattle.std.proofs.Common.{◌≡◌, ◌≢◌, ◌⊎◌, inl, inr, ℕ, zero, suc, ◌<◌, ◌-◌, List, [], ◌∷◌, ◌++◌, length, refl, sym, ap, ◌∙◌, subst, arith}
use Rattle.std.specs.Prelude.{slice_set, Option, None, Some, is_some, IfSome}
use Rattle.std.proofs.lemmas.Option.{none-some, same_Some}
use Rattle.std.proofs.lemmas.Bool.{cases_eq, true≢false}
use Rattle.connections.specs.Log.{Log}
use Rattle.connection_loop.specs.declared.client.Client.{Client}
use Rattle.connection_loop.specs.Clients.{at, IsClient, AreOpen}
use Rattle.connection_loop.specs.Open.{IsOpen, Keeps, KeepsOthers, AsksOnce, OnLogs}
use Rattle.connection_loop.proofs.Opening.{still_open, others_open}

pub at_pushed : (all : List (Option Client)) (n : ℕ) → at (all ++ None ∷ []) n ≡ at all n
at_pushed [] zero = refl
at_pushed [] (suc n) = refl
at_pushed (o ∷ all) zero = refl
at_pushed (o ∷ all) (suc n) = at_pushed all n

pub at_set : (all : List (Option Client)) (n : ℕ) (o : Option Client) → n < length all → at (slice_set all n o) n ≡ o
at_set [] n o there = absurd (omega arith)
at_set (x ∷ all) zero o there = refl
at_set (x ∷ all) (suc n) o there = at_set all n o (omega (arith, there))

pub at_others : (all : List (Option Client)) (m : ℕ) (o : Option Client) (n : ℕ) → n ≢ m → at (slice_set all m o) n ≡ at all n
at_others [] m o n other = refl
at_others (x ∷ all) zero o zero other = absurd (other refl)
at_others (x ∷ all) zero o (suc n) other = refl
at_others (x ∷ all) (suc m) o zero other = refl
at_others (x ∷ all) (suc m) o (suc n) other = at_others all m o n (λ e. other (ap suc e))

-- What is held of all, where one was visited

-- what is known of a client that is held under a number
abbrev pub IsHeldSo : ℕ → Client → Option Log → Type 0
IsHeldSo n client log = IsClient client × IfSome log (IsOpen n client.asks)

-- so of one that was found
pub found_held : (one : ℕ) (all : List (Option Client)) (got : Option Client) (client : Client) (log : Option Log) → AreOpen all log → got ≡ at all one → got ≡ Some client
    → IsHeldSo one client log
found_held one all got client log are taken is = are one client (sym taken ∙ is)

-- each other number stays open
abbrev pub MovesOthers : ℕ → Option Log → Option Log → Type 0
MovesOthers one old new = (n a : ℕ) → n ≢ one → IfSome old (IsOpen n a) → IfSome new (IsOpen n a)

pub all_but_one : (one : ℕ) (old new : List (Option Client)) (before after : Option Log) → AreOpen old before → ((n : ℕ) → n ≢ one → at new n ≡ at old n)
    → MovesOthers one before after → ((client : Client) → at new one ≡ Some client → IsHeldSo one client after) → AreOpen new after
all_but_one one old new before after are others moves here = λ n client is. by n client is (cases_eq n one)
  where
    by : (n : ℕ) (client : Client) → at new n ≡ Some client → ((n ≡ one) ⊎ (n ≡ one → ⊥)) → IsHeldSo n client after
    by n client is (inl same) = subst (λ m. IsHeldSo m client after) (sym same) (here client (subst (λ m. at new m ≡ Some client) same is))
    by n client is (inr other) =
        let k = are n client (sym (others n other) ∙ is) in
        (k.0, moves n client.asks other k.1)

-- a client was put back
pub put_back : (one : ℕ) (old taken new : List (Option Client)) (before after : Option Log) (client : Client) → AreOpen old before
    → ((n : ℕ) → n ≢ one → at taken n ≡ at old n) → ((n : ℕ) → n ≢ one → at new n ≡ at taken n) → at new one ≡ Some client
    → MovesOthers one before after → IsClient client → IfSome after (IsOpen one client.asks) → AreOpen new after
put_back one old taken new before after client are first second is moves fit opened =
    all_but_one one old new before after are (λ n other. second n other ∙ first n other) moves
    (λ other here. subst (λ c. IsHeldSo one c after) (same_Some client other (sym is ∙ here)) (fit, opened))

-- or let go
pub let_go : (one : ℕ) (old new : List (Option Client)) (before after : Option Log) → AreOpen old before → ((n : ℕ) → n ≢ one → at new n ≡ at old n) → at new one ≡ None
    → MovesOthers one before after → AreOpen new after
let_go one old new before after are others gone moves =
    all_but_one one old new before after are others moves (λ client is. absurd (none-some client (sym gone ∙ is)))

-- nothing changed but the log
pub all_kept : (all : List (Option Client)) (before after : Option Log) → AreOpen all before → is_some after ≡ is_some before → OnLogs Keeps before after → AreOpen all after
all_kept all before after are told keeps = λ n client is. let k = are n client is in (k.0, still_open n client.asks before after told keeps k.1)

pub none_held : (log : Option Log) → AreOpen [] log
none_held log = λ n client is. absurd (none-some client is)

pub moves_keeps : (one : ℕ) (old new : Option Log) → is_some new ≡ is_some old → OnLogs Keeps old new → MovesOthers one old new
moves_keeps one old new told keeps = λ n a other opened. still_open n a old new told keeps opened

pub moves_then : (one : ℕ) (old between new : Option Log) → MovesOthers one old between → is_some new ≡ is_some between → OnLogs (KeepsOthers one) between new → MovesOthers one old new
moves_then one old between new first told second = λ n a other opened. others_open n a one between new other told second (first n a other opened)

pub others_of_asked : (one asks : ℕ) (old new : Option Log) → OnLogs (AsksOnce one asks) old new → OnLogs (KeepsOthers one) old new
others_of_asked one asks None new asked = tt
others_of_asked one asks (Some old) None asked = asked
others_of_asked one asks (Some old) (Some new) asked = asked.0

pub asked_open : (one asks : ℕ) (old new : Option Log) → is_some new ≡ is_some old → OnLogs (AsksOnce one asks) old new → IfSome new (IsOpen one (asks - 1))
asked_open one asks None None told asked = tt
asked_open one asks None (Some new) told asked = absurd (true≢false told)
asked_open one asks (Some old) None told asked = absurd asked
asked_open one asks (Some old) (Some new) told asked = asked.1
