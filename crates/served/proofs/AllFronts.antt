-- All fronts of a server: the others, and then those over datagrams.
use Rattle.std.proofs.Common.{◌≡◌, ℕ, zero, suc, ◌+◌, ◌⊎◌, inl, inr, List, [], ◌∷◌, ◌++◌, length, map, Some, sym, subst, slice_get, arith, length-append}
use Rattle.std.proofs.lemmas.List.{length-map}
use Rattle.list_laws.proofs.Places.{from_map}
use Rattle.partition_model.specs.declared.options.Options.{Options}
use Rattle.partition_model.specs.History.{History}
use Rattle.fronts.specs.Answered.{Answered}
use Rattle.datagram_answers.specs.Dealing.{Dealing, answered_in}
use Rattle.fronts.specs.Session.{Sessions}
use Rattle.fronts.specs.Placed.{Placed}
use Rattle.served.specs.Others.{Others, all_answers}
use Rattle.served.specs.Beside.{AnsweredBeside, AreAnsweredBeside}

-- what stands at a place of two lists behind each other
at_append : {X : Type 0} (xs ys : List X) (i : ℕ) (y : X) → slice_get (xs ++ ys) i ≡ Some y
    → (slice_get xs i ≡ Some y) ⊎ ((j : ℕ) × (i ≡ length xs + j) × (slice_get ys j ≡ Some y))
at_append [] ys i y is = inr (i, omega arith, is)
at_append (x ∷ xs) ys zero y is = inl is
at_append (x ∷ xs) ys (suc i) y is = elim (at_append xs ys i y is) [
  | inl h ↦ inl h
  | inr h ↦ inr (h.0, omega (arith, h.1), h.2)
]

-- a front is one of the others, or one over datagrams
pub front_at : (others : Others) (fronts : List (List Dealing)) (f : ℕ) (answers : List Answered) → slice_get (all_answers others fronts) f ≡ Some answers
    → (slice_get others.answers f ≡ Some answers)
    ⊎ ((j : ℕ) × (dealings : List Dealing) × (f ≡ length others.answers + j) × (slice_get fronts j ≡ Some dealings) × (answered_in dealings ≡ answers))
front_at others fronts f answers is = elim (at_append others.answers (map answered_in fronts) f answers is) [
  | inl h ↦ inl h
  | inr h ↦ let d = from_map answered_in fronts h.0 answers h.2 in inr (h.0, d.0, h.1, d.1, d.2)
]

pub all_long : (others : Others) (fronts : List (List Dealing)) → length (all_answers others fronts) ≡ length others.answers + length fronts
all_long others fronts = omega (arith, length-append others.answers (map answered_in fronts), length-map fronts answered_in)

-- all were answered beside each other, where those over datagrams and the others were
pub beside_all : (others : Others) (options : Options) (origin : ℕ → History) (runs : ℕ → List Placed) (fronts : List (List Dealing)) → AreAnsweredBeside options origin runs others.answers
    → ((f : ℕ) (dealings : List Dealing) → slice_get fronts f ≡ Some dealings
    → (old : Sessions) × (new : Sessions) × AnsweredBeside options origin runs (length others.answers + f) (answered_in dealings) old new)
    → AreAnsweredBeside options origin runs (all_answers others fronts)
beside_all others options origin runs fronts before own f answers is = by (front_at others fronts f answers is)
  where
    by : (slice_get others.answers f ≡ Some answers)
        ⊎ ((j : ℕ) × (dealings : List Dealing) × (f ≡ length others.answers + j) × (slice_get fronts j ≡ Some dealings) × (answered_in dealings ≡ answers))
        → (old : Sessions) × (new : Sessions) × AnsweredBeside options origin runs f answers old new
    by (inl h) = before f answers h
    by (inr h) =
        let k = own h.0 h.1 h.3 in
        (k.0, k.1, subst (λ (y : ℕ × List Answered). AnsweredBeside options origin runs y.0 y.1 k.0 k.1) (λ i. (sym h.2 i, h.4 i)) k.2)
