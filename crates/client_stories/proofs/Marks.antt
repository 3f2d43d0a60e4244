-- What a front answered in its turns, each with what it was given for.
use Rattle.std.specs.Prelude.{is_some}
use Rattle.std.specs.List.{AllByRecursion}
use Rattle.std.proofs.Common.{◌≡◌, ℕ, Bool, true, false, List, [], ◌∷◌, ◌++◌, map, filter, Option, Some, None, refl, sym, ap, subst, ◌∙◌, append-nil, append_assoc}
use Rattle.std.proofs.lemmas.List.{map-append}
use Rattle.std.proofs.lemmas.List.Elements.{filter-append}
use Rattle.fronts.specs.Answered.{Answered}
use Rattle.command_answers.proofs.AskLaws.{all_append}
use Rattle.connection_loop.specs.Given.{Given, answers_in}
use Rattle.connection_loop.specs.Turns.{Turn, given_in, answered_in}
use Rattle.part_courses.specs.Courses.{Purpose, asks, flushes, sweeps}
use Rattle.client_stories.proofs.Weave.{Parted, parted}

-- an answer, the client that it was given to, if it was to one, and what for
pub record Mark : Type 0 where
  pub answered : Answered
  pub client : Option ℕ
  pub purpose : Purpose

abbrev pub is_wanted : Purpose → Bool
is_wanted (asks asked) = true
is_wanted (flushes flush) = true
is_wanted sweeps = false

abbrev pub given_mark : Given × Purpose → Mark
given_mark z = record { answered = z.0.answered; client = Some z.0.to; purpose = z.1 }

abbrev pub swept_mark : Answered → Mark
swept_mark a = record { answered = a; client = None; purpose = sweeps }

abbrev pub for_client : Mark → Bool
for_client m = is_some m.client

pub all_parted : {X : Type 0} (P : X → Type 0) (xs ys : List X) → AllByRecursion P (xs ++ ys) → AllByRecursion P xs × AllByRecursion P ys
all_parted P [] ys all = (tt, all)
all_parted P (x ∷ xs) ys all = let rest = all_parted P xs ys all.1 in ((all.0, rest.0), rest.1)

given_answers : (pairs : List (Given × Purpose)) → map (λ (m : Mark). m.answered) (map given_mark pairs) ≡ answers_in (map (λ (z : Given × Purpose). z.0) pairs)
given_answers [] = refl
given_answers (z ∷ pairs) = ap (λ l. z.0.answered ∷ l) (given_answers pairs)

swept_answers : (swept : List Answered) → map (λ (m : Mark). m.answered) (map swept_mark swept) ≡ swept
swept_answers [] = refl
swept_answers (a ∷ swept) = ap (λ l. a ∷ l) (swept_answers swept)

all_given : (pairs : List (Given × Purpose)) → filter for_client (map given_mark pairs) ≡ map given_mark pairs
all_given [] = refl
all_given (z ∷ pairs) = ap (λ l. given_mark z ∷ l) (all_given pairs)

none_swept : (swept : List Answered) → filter for_client (map swept_mark swept) ≡ []
none_swept [] = refl
none_swept (a ∷ swept) = none_swept swept

module _ (P : Mark → Type 0) where
  given_all : (pairs : List (Given × Purpose)) → AllByRecursion (λ z. P (given_mark z)) pairs → AllByRecursion P (map given_mark pairs)
  given_all [] all = tt
  given_all (z ∷ pairs) all = (all.0, given_all pairs all.1)

  swept_all : (swept : List Answered) → AllByRecursion (λ a. P (swept_mark a)) swept → AllByRecursion P (map swept_mark swept)
  swept_all [] all = tt
  swept_all (a ∷ swept) all = (all.0, swept_all swept all.1)

  pub record Marked (turns : List Turn) (pairs : List (Given × Purpose)) : Type 0 where
    pub marks : List Mark
    pub answered : map (λ m. m.answered) marks ≡ answered_in turns
    pub given : filter for_client marks ≡ map given_mark pairs
    pub each : AllByRecursion P marks

  none_paired : (pairs : List (Given × Purpose)) → map (λ (z : Given × Purpose). z.0) pairs ≡ [] → pairs ≡ []
  none_paired [] is = refl
  none_paired (z ∷ pairs) is = absurd (cc)

  pub mark : (turns : List Turn) (pairs : List (Given × Purpose)) → map (λ z. z.0) pairs ≡ given_in turns → AllByRecursion (λ z. P (given_mark z)) pairs
      → AllByRecursion (λ turn. AllByRecursion (λ a. P (swept_mark a)) turn.swept) turns → Marked turns pairs
  mark [] pairs is all swept = record { marks = []; answered = refl; given = ap (map given_mark) (sym (none_paired pairs is)); each = tt }
  mark (turn ∷ earlier) pairs is all swept = more (mark earlier p.first p.firsts both.0 swept.1)
    where
      p : Parted (λ (z : Given × Purpose). z.0) pairs (given_in earlier) turn.given
      p = parted (λ (z : Given × Purpose). z.0) pairs (given_in earlier) turn.given is

      both : AllByRecursion (λ z. P (given_mark z)) p.first × AllByRecursion (λ z. P (given_mark z)) p.later
      both = all_parted (λ z. P (given_mark z)) p.first p.later (subst (AllByRecursion (λ z. P (given_mark z))) p.whole all)

      more : Marked earlier p.first → Marked (turn ∷ earlier) pairs
      more before = record {
        marks = before.marks ++ (map given_mark p.later ++ map swept_mark turn.swept);
        answered =
            map-append (λ (m : Mark). m.answered) before.marks (map given_mark p.later ++ map swept_mark turn.swept)
            ∙ ap (λ l. map (λ (m : Mark). m.answered) before.marks ++ l) (map-append (λ (m : Mark). m.answered) (map given_mark p.later) (map swept_mark turn.swept))
            ∙ (λ i. before.answered i ++ ((given_answers p.later ∙ ap answers_in p.laters) i ++ swept_answers turn.swept i))
            ∙ sym (append_assoc (answered_in earlier) (answers_in turn.given) turn.swept);
        given =
            filter-append for_client before.marks (map given_mark p.later ++ map swept_mark turn.swept)
            ∙ ap (λ l. filter for_client before.marks ++ l) (filter-append for_client (map given_mark p.later) (map swept_mark turn.swept))
            ∙ (λ i. before.given i ++ (all_given p.later i ++ none_swept turn.swept i))
            ∙ ap (λ l. map given_mark p.first ++ l) (append-nil (map given_mark p.later))
            ∙ sym (ap (map given_mark) p.whole ∙ map-append given_mark p.first p.later);
        each = all_append P before.marks (map given_mark p.later ++ map swept_mark turn.swept) before.each
            (all_append P (map given_mark p.later) (map swept_mark turn.swept) (given_all p.later both.1) (swept_all turn.swept swept.0));
      }
