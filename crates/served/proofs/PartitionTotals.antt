-- Sums of a number for each partition.
use Rattle.std.proofs.Common.{◌≡◌, ℕ, zero, suc, ◌+◌, ◌<◌, ◌≤◌, inl, inr, Bool, true, false, cond, eqb, List, [], ◌∷◌, length, Option, Some, None, refl, ap, subst, arith}
use Rattle.std.specs.Prelude.{is_some, ◌&&◌}
use Rattle.std.specs.List.{cons_option}
use Rattle.std.proofs.lemmas.Bool.{eq-eqb, ne_eqb, cases_lt}
use Rattle.mica_words.proofs.Hashes.{partition_of-below}
use Rattle.partition_model.specs.declared.options.Options.{Options}
use Rattle.partition_model.specs.Run.{RunStep}
use Rattle.fronts.specs.Answered.{Answered, key_of, step_in, partition_in, answers_of, steps_of, writes_of, count_of_writes}
use Rattle.served.specs.Beside.{total_below}

pub total_add : (n : ℕ) (f g : ℕ → ℕ) → total_below n (λ p. f p + g p) ≡ total_below n f + total_below n g
total_add zero f g = refl
total_add (suc n) f g = let rest = total_add n f g in omega arith

pub total_same : (n : ℕ) (f g : ℕ → ℕ) → ((p : ℕ) → p < n → f p ≡ g p) → total_below n f ≡ total_below n g
total_same zero f g same = refl
total_same (suc n) f g same = omega (arith, total_same n f g (λ p lt. same p (omega arith)), same n (omega arith))

pub total_le : (n : ℕ) (f g : ℕ → ℕ) → ((p : ℕ) → p < n → f p ≤ g p) → total_below n f ≤ total_below n g
total_le zero f g le = omega arith
total_le (suc n) f g le = omega (arith, total_le n f g (λ p lt. le p (omega arith)), le n (omega arith))

-- where none is greater and the sum is no less, all are equal
pub total_all : (n : ℕ) (f g : ℕ → ℕ) → ((p : ℕ) → p < n → f p ≤ g p) → total_below n g ≤ total_below n f → (p : ℕ) → p < n → g p ≤ f p
total_all zero f g le sum p lt = absurd (omega arith)
total_all (suc n) f g le sum p lt =
    let below = total_le n f g (λ p lt. le p (omega arith)) in
    let last = le n (omega arith) in
    elim (cases_lt p n) as (λ _. g p ≤ f p) [
      | inl less ↦ total_all n f g (λ p lt. le p (omega arith)) (omega arith) p less
      | inr more ↦ let here : n ≡ p = omega arith in subst (λ (q : ℕ). g q ≤ f q) here (omega arith)
    ]

-- the one number that counts, or none
off : (q n : ℕ) (b : Bool) → ¬ (q ≡ n) → ◌≡◌ {A = ℕ} (cond (b && eqb q n) 1 0) 0
off q n true other = ap (λ (e : Bool). cond {A = ℕ} e 1 0) (ne_eqb q n other)
off q n false other = refl

here : (q n : ℕ) (b : Bool) → q ≡ n → ◌≡◌ {A = ℕ} (cond (b && eqb q n) 1 0) (cond b 1 0)
here q n true same = ap (λ (e : Bool). cond {A = ℕ} e 1 0) (eq-eqb q n same)
here q n false same = refl

total_none : (n q : ℕ) (b : Bool) → n ≤ q → total_below n (λ p. cond (b && eqb q p) 1 0) ≡ 0
total_none zero q b le = refl
total_none (suc n) q b le =
    let rest = total_none n q b (omega arith) in
    let one = off q n b (λ e. absurd (omega arith)) in
    omega arith

total_one : (n q : ℕ) (b : Bool) → q < n → total_below n (λ p. cond (b && eqb q p) 1 0) ≡ cond b 1 0
total_one zero q b lt = absurd (omega arith)
total_one (suc n) q b lt = elim (cases_lt q n) as (λ _. total_below (suc n) (λ p. cond (b && eqb q p) 1 0) ≡ cond b 1 0) [
  | inl less ↦
      let rest = total_one n q b less in
      let one = off q n b (λ e. absurd (omega arith)) in
      omega arith
  | inr more ↦
      let rest = total_none n q b more in
      let one = here q n b (omega arith) in
      omega arith
]

module _ (options : Options) (some : 1 ≤ options.partitions) where
  writes_cons : (p : ℕ) (a : Answered) (answers : List Answered)
      → length (writes_of options p (a ∷ answers)) ≡ cond (is_some (step_in a) && eqb (partition_in options a) p) 1 0 + length (writes_of options p answers)
  writes_cons p a answers = by (eqb (partition_in options a) p)
    where
      here_one : (o : Option RunStep) → length (cons_option o (writes_of options p answers)) ≡ cond (is_some o && true) 1 0 + length (writes_of options p answers)
      here_one (Some step) = omega arith
      here_one None = omega arith

      away : (b : Bool) → length (writes_of options p answers) ≡ cond (b && false) 1 0 + length (writes_of options p answers)
      away true = omega arith
      away false = omega arith

      by : (b : Bool) → length (steps_of (cond b (a ∷ answers_of options p answers) (answers_of options p answers))) ≡ cond (is_some (step_in a) && b) 1 0 + length (writes_of options p answers)
      by true = here_one (step_in a)
      by false = away (is_some (step_in a))

  -- each write is one of one partition
  pub writes_total : (answers : List Answered) → count_of_writes answers ≡ total_below options.partitions (λ p. length (writes_of options p answers))
  writes_total [] = none options.partitions
    where
      none : (n : ℕ) → 0 ≡ total_below n (λ p. 0)
      none zero = refl
      none (suc n) = omega (arith, none n)
  writes_total (a ∷ answers) =
      let rest = writes_total answers in
      let q = partition_in options a in
      let own = total_one options.partitions q (is_some (step_in a)) (partition_of-below options.hashing (key_of a) options.partitions some) in
      let sum = total_add options.partitions (λ p. cond (is_some (step_in a) && eqb q p) 1 0) (λ p. length (writes_of options p answers)) in
      let all = total_same options.partitions (λ p. length (writes_of options p (a ∷ answers)))
      (λ p. cond (is_some (step_in a) && eqb q p) 1 0 + length (writes_of options p answers)) (λ p _. writes_cons p a answers) in
      omega (arith, rest, own, sum, all, one (step_in a))
    where
      one : (o : Option RunStep) → length (cons_option o (steps_of answers)) ≡ cond (is_some o) 1 0 + count_of_writes answers
      one (Some step) = omega arith
      one None = omega arith
