-- The seconds of deeds, by the log of a share.
use Rattle.std.specs.Prelude.{IfSome, filter_map, flat_map, AllPairs}
use Rattle.std.specs.List.{AllByRecursion, cons_option}
use Rattle.std.proofs.Common.{◌≡◌, ◌≤◌, ◌+◌, ◌⊎◌, inl, inr, ℕ, suc, List, [], ◌∷◌, ◌++◌, length, drop, Option, Some, None, refl, sym, ap, subst, ◌∙◌, append_assoc, arith, length-append}
use Rattle.std.proofs.lemmas.List.Elements.{All-from_recursion}
use Rattle.std.proofs.lemmas.List.Kept.{AllPairs-cons}
use Rattle.partition_model.specs.declared.options.Options.{Options}
use Rattle.connections.specs.declared.schedule.Step.{Step}
use Rattle.connections.specs.State.{Entry, opened, reported, turned_away, met, second, received, sent, asked, closed}
use Rattle.connections.specs.Log.{second_of as told_second}
use Rattle.fronts.specs.Answered.{Answered}
use Rattle.command_answers.specs.Seconds.{second_in, AreAt}
use Rattle.command_answers.specs.Sweeps.{IsSweep}
use Rattle.command_answers.proofs.AskLaws.{all_append}
use Rattle.connection_loop.specs.Given.{Given, answers_in}
use Rattle.connection_loop.specs.Going.{Rise}
use Rattle.connection_loop.specs.Moments.{TalksThrough}
use Rattle.connection_loop.specs.Turns.{Turn, AreShort, calls_in}
use Rattle.memcached_page.specs.Course.{Done}
use Rattle.memcached_page.specs.Talk.{second_of}
use Rattle.client_stories.proofs.Moments.{none_yet}

if_same : (o : Option ℕ) (s : ℕ) (P : ℕ → Type 0) → IfSome o (λ x. x ≡ s) → P s → IfSome o P
if_same None s P is p = tt
if_same (Some x) s P is p = subst P (sym is) p

-- A second of a log

-- what holds of each that the log told
abbrev pub OfTold : (ℕ → Type 0) → List Entry → Type 0
OfTold P entries = (k : ℕ) → k ≤ length entries → P (told_second (drop k entries))

all_at : (options : Options) (s : ℕ) (P : ℕ → Type 0) (answers : List Answered) → AreAt options s answers → P s → AllByRecursion (λ a. IfSome (second_in options a) P) answers
all_at options s P [] at p = tt
all_at options s P (a ∷ answers) at p = (if_same (second_in options a) s P at.0 p, all_at options s P answers at.1 p)

none_at_end : (xs : List Entry) → told_second (drop (length xs) xs) ≡ 0
none_at_end [] = refl
none_at_end (x ∷ xs) = none_at_end xs

part_of_told : (xs ys : List Entry) → (told_second (xs ++ ys) ≡ told_second xs) ⊎ (told_second xs ≡ 0)
part_of_told [] ys = inr refl
part_of_told (second s ∷ xs) ys = inl refl
part_of_told (opened number ∷ xs) ys = part_of_told xs ys
part_of_told (reported number ∷ xs) ys = part_of_told xs ys
part_of_told (turned_away ∷ xs) ys = part_of_told xs ys
part_of_told (met ∷ xs) ys = part_of_told xs ys
part_of_told (received c bytes ∷ xs) ys = part_of_told xs ys
part_of_told (sent c bytes ∷ xs) ys = part_of_told xs ys
part_of_told (asked c ∷ xs) ys = part_of_told xs ys
part_of_told (closed c ∷ xs) ys = part_of_told xs ys

drop_both : (xs ys : List Entry) (k : ℕ) → drop (length xs + k) (xs ++ ys) ≡ drop k ys
drop_both [] ys k = ap (λ n. drop n ys) (omega arith)
drop_both (x ∷ xs) ys k = ap (λ n. drop n (x ∷ xs ++ ys)) (let same : length (x ∷ xs) + k ≡ suc (length xs + k) = omega arith in same) ∙ drop_both xs ys k

-- a turn's second is the log's, or none was told in it
turn_told : (P : ℕ → Type 0) (own earlier : List Entry) → OfTold P (own ++ earlier) → P (told_second own)
turn_told P own earlier told = elim (part_of_told own earlier) [
  | inl same ↦ subst P same (told 0 (omega arith))
  | inr none ↦ subst P (none_at_end (own ++ earlier) ∙ sym none) (told (length (own ++ earlier)) (omega arith))
]

module _ (options : Options) (base most : ℕ) (schedule : List Step) (lacking : List ℕ) (P : ℕ → Type 0) where
  -- what was given to clients
  pub given_told : (entries : List Entry) (all : List Given) → TalksThrough options base most schedule lacking entries all → OfTold P entries
      → AllByRecursion (λ a. IfSome (second_in options a) P) (answers_in all)
  given_told [] all t told = subst (λ l. AllByRecursion (λ a. IfSome (second_in options a) P) (answers_in l)) (sym (none_yet options base most schedule lacking all t)) tt
  given_told (entry ∷ entries) all t told =
      subst (AllByRecursion (λ a. IfSome (second_in options a) P)) (sym (ap answers_in t.1.1.1 ∙ answers_append t.1.0 t.1.1.0))
      (all_append (λ a. IfSome (second_in options a) P) (answers_in t.1.0) (answers_in t.1.1.0) (given_told entries t.1.0 t.1.3 (λ k low. told (suc k) (omega (arith, low))))
      (all_at options (told_second (entry ∷ entries)) P (answers_in t.1.1.0) t.1.1.2.at (told 0 (omega arith))))
    where
      answers_append : (xs ys : List Given) → answers_in (xs ++ ys) ≡ answers_in xs ++ answers_in ys
      answers_append [] ys = refl
      answers_append (x ∷ xs) ys = ap (λ l. x.answered ∷ l) (answers_append xs ys)

  -- and what was swept
  pub swept_told : (in_all piece : ℕ) (turns : List Turn) → AreShort options base most in_all schedule piece lacking turns → OfTold P (calls_in turns)
      → AllByRecursion (λ turn. AllByRecursion (λ a. IsSweep options base a × IfSome (second_in options a) P) turn.swept) turns
  swept_told in_all piece [] short told = tt
  swept_told in_all piece (turn ∷ earlier) short told = (
    both turn.swept short.0.sweeps (all_at options (told_second own) P turn.swept short.0.at (turn_told P own (calls_in earlier) all)),
    swept_told in_all piece earlier short.4 (λ k low. subst P (ap told_second (drop_both own (calls_in earlier) k)) (all (length own + k) (let many = length-append own (calls_in earlier) in omega (arith, low, many)))),
  )
    where
      own : List Entry
      own = turn.calls ++ turn.report ∷ []

      all : OfTold P (own ++ calls_in earlier)
      all = subst (OfTold P) (sym (append_assoc turn.calls (turn.report ∷ []) (calls_in earlier))) told

      both : (swept : List Answered) → AllByRecursion (IsSweep options base) swept → AllByRecursion (λ a. IfSome (second_in options a) P) swept → AllByRecursion (λ a. IsSweep options base a × IfSome (second_in options a) P) swept
      both [] sweeps seconds = tt
      both (a ∷ swept) sweeps seconds = ((sweeps.0, seconds.0), both swept sweeps.1 seconds.1)

-- They never fall

later_rise : (low from to : ℕ) (xs : List ℕ) → low ≤ from → Rise from xs to → Rise low xs to
later_rise low from to [] le rise = omega (arith, le, rise)
later_rise low from to (x ∷ xs) le rise = (omega (arith, le, rise.0), rise.1)

pub pairs_of : (from to : ℕ) (xs : List ℕ) → Rise from xs to → AllPairs (λ earlier later. earlier ≤ later) xs
pairs_of from to [] rise = λ i j d lt within. absurd (omega (arith, within))
pairs_of from to (x ∷ xs) rise = AllPairs-cons (λ earlier later. earlier ≤ later) x xs (All-from_recursion (λ y. x ≤ y) xs (above x x to xs (omega arith) rise.1)) (pairs_of x to xs rise.1)
  where
    above : (low from to : ℕ) (xs : List ℕ) → low ≤ from → Rise from xs to → AllByRecursion (λ y. low ≤ y) xs
    above low from to [] le rise = tt
    above low from to (x ∷ xs) le rise = (omega (arith, le, rise.0), above low x to xs (omega (arith, le, rise.0)) rise.1)

-- each of some deeds is at one second, or at none
abbrev pub seconds_in : List Done → List ℕ
seconds_in dones = filter_map (λ (done : Done). second_of done.deed) dones

seconds_append : (xs ys : List Done) → seconds_in (xs ++ ys) ≡ seconds_in xs ++ seconds_in ys
seconds_append [] ys = refl
seconds_append (x ∷ xs) ys = by (second_of x.deed) (seconds_append xs ys)
  where
    by : (o : Option ℕ) → seconds_in (xs ++ ys) ≡ seconds_in xs ++ seconds_in ys → cons_option o (seconds_in (xs ++ ys)) ≡ cons_option o (seconds_in xs) ++ seconds_in ys
    by None rest = rest
    by (Some s) rest = ap (λ l. s ∷ l) rest

rise_group : (o : Option ℕ) (dones : List Done) (rest deeds : List ℕ) (from to : ℕ) → AllByRecursion (λ (done : Done). second_of done.deed ≡ o) dones → Rise from (cons_option o rest) to
    → ((low : ℕ) → Rise low rest to → Rise low deeds to) → Rise from (seconds_in dones ++ deeds) to
rise_group None [] rest deeds from to all rise later = later from rise
rise_group (Some s) [] rest deeds from to all rise later = later from (later_rise from s to rest rise.0 rise.1)
rise_group None (d ∷ dones) rest deeds from to all rise later = subst (λ o. Rise from (cons_option o (seconds_in dones) ++ deeds) to) (sym all.0) (rise_group None dones rest deeds from to all.1 rise later)
rise_group (Some s) (d ∷ dones) rest deeds from to all rise later = subst (λ o. Rise from (cons_option o (seconds_in dones) ++ deeds) to) (sym all.0)
    (rise.0, rise_group (Some s) dones rest deeds s to all.1 (omega arith, rise.1) later)

-- as answers don't, the deeds that they came to don't
pub rise_of : {A : Type 0} (of : A → List Done) (at : A → Option ℕ) (xs : List A) (from to : ℕ) → AllByRecursion (λ x. AllByRecursion (λ (done : Done). second_of done.deed ≡ at x) (of x)) xs → Rise from (filter_map at xs) to
    → Rise from (seconds_in (flat_map of xs)) to
rise_of of at [] from to all rise = rise
rise_of of at (x ∷ xs) from to all rise =
    subst (λ l. Rise from l to) (sym (seconds_append (of x) (flat_map of xs)))
    (rise_group (at x) (of x) (filter_map at xs) (seconds_in (flat_map of xs)) from to all.0 rise (λ low rest. rise_of of at xs low to all.1 rest))
