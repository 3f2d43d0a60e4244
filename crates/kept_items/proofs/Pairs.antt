-- What is stored among pairs that pass a test.
use Rattle.std.proofs.Common.{◌≡◌, ℕ, Bool, true, false, cond, filter, List, [], ◌∷◌, Option, Some, None, bytes_eq, refl, sym, ap, subst, ◌∙◌}
use Rattle.std.specs.List.{AllByRecursion}
use Rattle.std.proofs.lemmas.Slice.Eq.{bytes_eq-Decides}
use Rattle.saved_items.specs.Items.{Pair}
use Rattle.kept_items.specs.Kept.{stored_under, AreOnce}

abbrev pub passing : (List ℕ → Bool) → Option (List ℕ) → Option (List ℕ)
passing test None = None
passing test (Some stored) = cond (test stored) (Some stored) None

abbrev pub pass : (List ℕ → List ℕ → Bool) → List Pair → List Pair
pass test pairs = filter (λ pair. test pair.key pair.value) pairs

-- a key that the first pair has, is that of no other
none_behind : (pair : Pair) (pairs : List Pair) (key : List ℕ) → AreOnce (pair ∷ pairs) → bytes_eq pair.key key ≡ true → stored_under key pairs ≡ None
none_behind pair pairs key once is = subst (λ (k : List ℕ). stored_under k pairs ≡ None) ((bytes_eq-Decides pair.key key).0 is) once.0

pub stored_passing : (test : List ℕ → List ℕ → Bool) (pairs : List Pair) (key : List ℕ) → AreOnce pairs → stored_under key (pass test pairs) ≡ passing (test key) (stored_under key pairs)
stored_passing test [] key once = refl
stored_passing test (pair ∷ pairs) key once = go (test pair.key pair.value) (bytes_eq pair.key key) refl refl (stored_passing test pairs key once.1)
  where
    own : (t : Bool) → bytes_eq pair.key key ≡ true → test pair.key pair.value ≡ t → test key pair.value ≡ t
    own t b is = subst (λ (k : List ℕ). test k pair.value ≡ t) ((bytes_eq-Decides pair.key key).0 b) is

    go : (t b : Bool) → test pair.key pair.value ≡ t → bytes_eq pair.key key ≡ b → stored_under key (pass test pairs) ≡ passing (test key) (stored_under key pairs)
        → stored_under key (pass test (pair ∷ pairs)) ≡ passing (test key) (stored_under key (pair ∷ pairs))
    go true true t b rest = let here = own true b t in rw (t, b, here) refl
    go true false t b rest = rw (t, b) rest
    go false true t b rest = let here = own false b t in rw (t, b, here) (rest ∙ ap (passing (test key)) (none_behind pair pairs key once b))
    go false false t b rest = rw (t, b) rest

pub once_passing : (test : List ℕ → List ℕ → Bool) (pairs : List Pair) → AreOnce pairs → AreOnce (pass test pairs)
once_passing test [] once = tt
once_passing test (pair ∷ pairs) once = go (test pair.key pair.value) refl (once_passing test pairs once.1)
  where
    go : (t : Bool) → test pair.key pair.value ≡ t → AreOnce (pass test pairs) → AreOnce (pass test (pair ∷ pairs))
    go true t rest = rw t (stored_passing test pairs pair.key once.1 ∙ ap (passing (test pair.key)) once.0, rest)
    go false t rest = rw t rest

-- what is stored under a pair's own key
abbrev pub IsStoredIn : List Pair → Pair → Type 0
IsStoredIn all pair = stored_under pair.key all ≡ Some pair.value

own_first : (pair : Pair) (pairs : List Pair) → IsStoredIn (pair ∷ pairs) pair
own_first pair pairs = let own : bytes_eq pair.key pair.key ≡ true = (bytes_eq-Decides pair.key pair.key).1 refl in rw own refl

behind_first : (pair : Pair) (pairs others : List Pair) → AreOnce (pair ∷ pairs) → AllByRecursion (IsStoredIn pairs) others → AllByRecursion (IsStoredIn (pair ∷ pairs)) others
behind_first pair pairs [] once are = tt
behind_first pair pairs (other ∷ others) once are = (go (bytes_eq pair.key other.key) refl, behind_first pair pairs others once are.1)
  where
    go : (b : Bool) → bytes_eq pair.key other.key ≡ b → IsStoredIn (pair ∷ pairs) other
    go true b = absurd (let e : None ≡ Some other.value = sym (none_behind pair pairs other.key once b) ∙ are.0 in cc)
    go false b = rw b are.0

pub all_stored : (pairs : List Pair) → AreOnce pairs → AllByRecursion (IsStoredIn pairs) pairs
all_stored [] once = tt
all_stored (pair ∷ pairs) once = (own_first pair pairs, behind_first pair pairs pairs once (all_stored pairs once.1))
