-- The looks that stand first among what a front was answered, where they are of one stamp.
use Rattle.std.proofs.Common.{◌≡◌, ◌==◌, ◌&&◌, ◌≤◌, ◌<◌, ℕ, zero, suc, Bool, true, false, cond, List, [], ◌∷◌, ◌++◌, length, map, Option, Some, None, slice_index_or, nat_lt, refl, sym, ap, subst, ◌∙◌, eqb-true, arith}
use Rattle.std.specs.List.{AllByRecursion, AllPairs, cons_option}
use Rattle.std.proofs.lemmas.Bool.{eq-eqb, eqb-false, ltb-true, ltb-false}
use Rattle.std.proofs.lemmas.List.Elements.{filter_map-append}
use Rattle.std.proofs.lemmas.List.{append-nil}
use Rattle.partition_model.specs.Write.{is_accepted}
use Rattle.partition_model.specs.Run.{RunStep}
use Rattle.fronts.specs.Answered.{Answered, wrote, got, changed, kept, stamp_given, accepts, steps_of}
use Rattle.served.specs.Served.{NoFall}
use Rattle.one_order.specs.Order.{Turn, answers_to}

pub all_both : {X : Type 0} (P : X → Type 0) (xs ys : List X) → AllByRecursion P xs → AllByRecursion P ys → AllByRecursion P (xs ++ ys)
all_both P [] ys one two = two
all_both P (x ∷ xs) ys one two = (one.0, all_both P xs ys one.1 two)

abbrev pub is_look : Answered → Bool
is_look (wrote step) = false
is_look (got key stamp value) = true
is_look (changed step look) = false
is_look (kept key stamp look) = true

-- a look of this stamp
abbrev pub is_at : ℕ → Answered → Bool
is_at s a = is_look a && (stamp_given a == s)

-- those that stand first, and what stands behind them
abbrev pub here : ℕ → List Answered → List Answered
here s [] = []
here s (a ∷ following) = cond (is_at s a) (a ∷ here s following) []

abbrev pub past : ℕ → List Answered → List Answered
past s [] = []
past s (a ∷ following) = cond (is_at s a) (past s following) (a ∷ following)

pub parts : (s : ℕ) (following : List Answered) → here s following ++ past s following ≡ following
parts s [] = refl
parts s (a ∷ following) = by (is_at s a) (parts s following)
  where
    by : (b : Bool) → here s following ++ past s following ≡ following → cond b (a ∷ here s following) [] ++ cond b (past s following) (a ∷ following) ≡ a ∷ following
    by true rest = ap (λ l. a ∷ l) rest
    by false rest = refl

-- What holds of all holds of what stands behind.
pub all_past : (P : Answered → Type 0) (s : ℕ) (following : List Answered) → AllByRecursion P following → AllByRecursion P (past s following)
all_past P s [] all = tt
all_past P s (a ∷ following) all = by (is_at s a) (all_past P s following all.1)
  where
    by : (b : Bool) → AllByRecursion P (past s following) → AllByRecursion P (cond b (past s following) (a ∷ following))
    by true rest = rest
    by false rest = all

-- Looks make no step of the machine.
no_step : (s : ℕ) (a : Answered) (following : List Answered) → is_at s a ≡ true → steps_of (a ∷ following) ≡ steps_of following
no_step s (wrote step) following at = absurd (cc)
no_step s (got key stamp value) following at = refl
no_step s (changed step look) following at = absurd (cc)
no_step s (kept key stamp look) following at = refl

pub steps_past : (s : ℕ) (following : List Answered) → steps_of (past s following) ≡ steps_of following
steps_past s [] = refl
steps_past s (a ∷ following) = by (is_at s a) refl (steps_past s following)
  where
    by : (b : Bool) → is_at s a ≡ b → steps_of (past s following) ≡ steps_of following → steps_of (cond b (past s following) (a ∷ following)) ≡ steps_of (a ∷ following)
    by true at same = same ∙ sym (no_step s a following at)
    by false at same = refl

-- Order

-- no answer has a lower stamp than one before it
abbrev pub Pairs : List Answered → Type 0
Pairs [] = Unit {0}
Pairs (a ∷ following) = AllByRecursion (NoFall a) following × Pairs following

each_later : (a : Answered) (following : List Answered) → ((j : ℕ) (d : Answered) → j < length following → NoFall a (slice_index_or following j d)) → AllByRecursion (NoFall a) following
each_later a [] all = tt
each_later a (b ∷ following) all = (all 0 b (omega arith), each_later a following (λ j d less. all (suc j) d (omega arith)))

pub pairs : (following : List Answered) → AllPairs NoFall following → Pairs following
pairs [] all = tt
pairs (a ∷ following) all = (each_later a following (λ j d less. all 0 (suc j) d (omega arith) (omega arith)), pairs following (λ i j d less within. all (suc i) (suc j) d (omega arith) (omega arith)))

pub pairs_past : (s : ℕ) (following : List Answered) → Pairs following → Pairs (past s following)
pairs_past s [] all = tt
pairs_past s (a ∷ following) all = by (is_at s a) (pairs_past s following all.1)
  where
    by : (b : Bool) → Pairs (past s following) → Pairs (cond b (past s following) (a ∷ following))
    by true rest = rest
    by false rest = all

-- the first has no lower stamp than this
abbrev pub IsLow : ℕ → List Answered → Type 0
IsLow s [] = Unit {0}
IsLow s (a ∷ following) = s ≤ stamp_given a

pub low_next : (s : ℕ) (a : Answered) (following : List Answered) → s ≤ stamp_given a → AllByRecursion (NoFall a) following → IsLow s following
low_next s a [] low all = tt
low_next s a (b ∷ following) low all = let rises : stamp_given a ≤ stamp_given b = all.0.0 in omega (arith, low, rises)

pub low_past : (s : ℕ) (following : List Answered) → Pairs following → IsLow s following → IsLow s (past s following)
low_past s [] all low = tt
low_past s (a ∷ following) all low = by (is_at s a) (low_past s following all.1 (low_next s a following low all.0))
  where
    by : (b : Bool) → IsLow s (past s following) → IsLow s (cond b (past s following) (a ∷ following))
    by true rest = rest
    by false rest = low

-- the first is no look of this stamp
abbrev pub IsAway : ℕ → List Answered → Type 0
IsAway s [] = Unit {0}
IsAway s (a ∷ following) = is_at s a ≡ false

pub away_past : (s : ℕ) (following : List Answered) → IsAway s (past s following)
away_past s [] = tt
away_past s (a ∷ following) = by (is_at s a) refl (away_past s following)
  where
    by : (b : Bool) → is_at s a ≡ b → IsAway s (past s following) → IsAway s (cond b (past s following) (a ∷ following))
    by true at rest = rest
    by false at rest = at

-- The answer to the first write, with what holds of all.
pub record Write (P : Answered → Type 0) (step : RunStep) : Type 0 where
  pub answer : Answered
  pub holds : P answer
  pub stamp : stamp_given answer ≡ step.stamp
  pub accepted : accepts answer ≡ is_accepted step.outcome

pub first_write : (P : Answered → Type 0) (following : List Answered) (step : RunStep) (rest : List RunStep) → steps_of following ≡ step ∷ rest → AllByRecursion P following → Write P step
first_write P [] step rest is all = absurd (cc)
first_write P (wrote own ∷ following) step rest is all =
    let same : own ≡ step = cc in
    record { answer = wrote own; holds = all.0; stamp = ap (λ (s : RunStep). s.stamp) same; accepted = ap (λ (s : RunStep). is_accepted s.outcome) same }
first_write P (got key stamp value ∷ following) step rest is all = first_write P following step rest is all.1
first_write P (changed own look ∷ following) step rest is all =
    let same : own ≡ step = cc in
    record { answer = changed own look; holds = all.0; stamp = ap (λ (s : RunStep). s.stamp) same; accepted = ap (λ (s : RunStep). is_accepted s.outcome) same }
first_write P (kept key stamp look ∷ following) step rest is all = first_write P following step rest is all.1

-- By front

abbrev pub pick_of : ℕ → Turn → Option Answered
pick_of f turn = cond (turn.front == f) (Some turn.answered) None

abbrev pub to_front : ℕ → List Answered → List Turn
to_front f following = map (λ a. record { front = f; answered = a }) following

own : (f : ℕ) (following : List Answered) → answers_to f (to_front f following) ≡ following
own f [] = refl
own f (a ∷ following) = ap (λ b. cons_option (cond b (Some a) None) (answers_to f (to_front f following))) (eq-eqb f f refl) ∙ ap (λ l. a ∷ l) (own f following)

another : (f g : ℕ) (following : List Answered) → (g == f) ≡ false → answers_to f (to_front g following) ≡ []
another f g [] away = refl
another f g (a ∷ following) away = ap (λ b. cons_option (cond b (Some a) None) (answers_to f (to_front g following))) away ∙ another f g following away

-- the looks that stand first at each front below a number
abbrev pub heres : ℕ → (ℕ → List Answered) → ℕ → List Turn
heres s L zero = []
heres s L (suc n) = heres s L n ++ to_front n (here s (L n))

pub all_heres : (P : Turn → Type 0) (s : ℕ) (L : ℕ → List Answered) (n : ℕ) → ((f : ℕ) → f < n → AllByRecursion P (to_front f (here s (L f)))) → AllByRecursion P (heres s L n)
all_heres P s L zero each = tt
all_heres P s L (suc n) each =
    all_both P (heres s L n) (to_front n (here s (L n))) (all_heres P s L n (λ f less. each f (omega (arith, less)))) (each n (omega arith))

pub all_to : (P : Turn → Type 0) (f : ℕ) (following : List Answered) → AllByRecursion (λ a. P (record { front = f; answered = a })) following → AllByRecursion P (to_front f following)
all_to P f [] all = tt
all_to P f (a ∷ following) all = (all.0, all_to P f following all.1)

-- none of a front that comes later
none_yet : (s : ℕ) (L : ℕ → List Answered) (n f : ℕ) → n ≤ f → answers_to f (heres s L n) ≡ []
none_yet s L zero f le = refl
none_yet s L (suc n) f le =
    filter_map-append (pick_of f) (heres s L n) (to_front n (here s (L n)))
    ∙ ap (λ l. l ++ answers_to f (to_front n (here s (L n)))) (none_yet s L n f (omega (arith, le)))
    ∙ another f n (here s (L n)) (differ (n == f) refl)
  where
    differ : (b : Bool) → (n == f) ≡ b → (n == f) ≡ false
    differ true same = absurd (omega (arith, le, eqb-true n f same))
    differ false away = away

apart : (n f : ℕ) → n ≤ f → (n == f) ≡ false → suc n ≤ f
apart n f le away = by (nat_lt n f) refl
  where
    by : (b : Bool) → nat_lt n f ≡ b → suc n ≤ f
    by true less = let is = ltb-true n f less in omega (arith, is)
    by false more = absurd (eqb-false n f away (let is = ltb-false n f more in omega (arith, is, le)))

-- those of one front are its own
pub heres_of : (s : ℕ) (L : ℕ → List Answered) (n f : ℕ) → (n ≤ f → L f ≡ []) → answers_to f (heres s L n) ≡ here s (L f)
heres_of s L zero f few = ap (here s) (sym (few (omega arith)))
heres_of s L (suc n) f few = by (n == f) refl (heres_of s L n f)
  where
    split : answers_to f (heres s L (suc n)) ≡ answers_to f (heres s L n) ++ answers_to f (to_front n (here s (L n)))
    split = filter_map-append (pick_of f) (heres s L n) (to_front n (here s (L n)))

    by : (b : Bool) → (n == f) ≡ b → ((n ≤ f → L f ≡ []) → answers_to f (heres s L n) ≡ here s (L f)) → answers_to f (heres s L (suc n)) ≡ here s (L f)
    by true same before =
        let is : n ≡ f = eqb-true n f same in
        subst (λ m. answers_to m (heres s L (suc n)) ≡ here s (L m)) is (filter_map-append (pick_of n) (heres s L n) (to_front n (here s (L n))) ∙ ap (λ l. l ++ answers_to n (to_front n (here s (L n)))) (none_yet s L n n (omega arith)) ∙ own n (here s (L n)))
    by false away before =
        let rest : n ≤ f → L f ≡ [] = λ le. few (apart n f le away) in
        split ∙ ap (λ l. answers_to f (heres s L n) ++ l) (another f n (here s (L n)) away) ∙ append-nil (answers_to f (heres s L n)) ∙ before rest
