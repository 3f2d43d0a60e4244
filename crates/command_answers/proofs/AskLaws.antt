-- Answers to asks, one after another.
use Rattle.std.proofs.Common.{◌≡◌, ◌<◌, ◌≤◌, ◌==◌, ◌+◌, ◌⊎◌, inl, inr, ℕ, Bool, true, false, true≢false, cond, List, [], ◌∷◌, ◌++◌, length, drop, Option, Some, None, refl, sym, ap, ◌∙◌, subst, arith, append_assoc, length-append}
use Rattle.std.specs.Prelude.{◌&&◌, IfOk, IfSome, MatchOption}
use Rattle.std.specs.declared.result.Result.{Result}
use Rattle.std.specs.declared.result.Result.TheVariants.{Ok, Err}
use Rattle.std.proofs.Math.Dec.{eqb-suc-zero, eqb-zero-suc}
use Rattle.std.proofs.lemmas.Bool.{eqb-true, eq-eqb, ne_eqb}
use Rattle.std.proofs.lemmas.List.{append-nil, length-drop}
use Rattle.std.specs.List.{AllByRecursion}
use Rattle.partition_model.specs.declared.options.Options.{Options}
use Rattle.memcached_commands.specs.declared.asks.Asked.{Asked}
use Rattle.memcached_requests.specs.declared.request.Next.{Next}
use Rattle.memcached_requests.specs.declared.request.Style.{Style}
use Rattle.memcached_requests.specs.Replies.{said_text}
use Rattle.fronts.specs.Answered.{Answered}
use Rattle.command_answers.specs.Seconds.{second_in, IsAt}
use Rattle.command_answers.specs.AskAnswers.{AnswersAsk, AnswersAsks, said_of, is_set, is_refused, spoiled, asks_behind, asks_by, asks_text}
use Rattle.command_answers.specs.Exchange.{style_of, flush_text}

pub all_append : {X : Type 0} (P : X → Type 0) (xs ys : List X) → AllByRecursion P xs → AllByRecursion P ys → AllByRecursion P (xs ++ ys)
all_append P [] ys first then = then
all_append P (x ∷ xs) ys first then = (first.0, all_append P xs ys first.1 then)

pub is_at : (options : Options) (a : Answered) (second : ℕ) → second_in options a ≡ Some second → IsAt options second a
is_at options a second is = subst (λ o. IfSome o (λ s. s ≡ second)) (sym is) refl

pub if_ok : {T E : Type 0} (P Q : T → Type 0) (r : Result T E) → ((t : T) → P t → Q t) → IfOk r P → IfOk r Q
if_ok P Q (Ok t) then is = then t is
if_ok P Q (Err e) then is = is

-- where some of it is left, less was answered than was asked
pub is_less : {X : Type 0} (xs left : List X) (n : ℕ) → left ≡ drop n xs → 0 < length left → n < length xs
is_less xs left n is some = let many = ap length is ∙ length-drop n xs in omega (arith, many, some)

same_more : (k m n : ℕ) → (k + m == k + n) ≡ (m == n)
same_more k m n = go (m == n) refl
  where
    go : (t : Bool) → (m == n) ≡ t → (k + m == k + n) ≡ (m == n)
    go true is = eq-eqb (k + m) (k + n) (ap (λ x. k + x) (eqb-true m n is)) ∙ sym is
    go false is = ne_eqb (k + m) (k + n) (λ all. absurd (true≢false (sym (eq-eqb m n (omega (arith, all))) ∙ is))) ∙ sym is

module _ (style : Style) where
  -- What is asked behind the last

  few_behind : (asked : Asked) (t : Bool) → length (cond t (spoiled asked ∷ []) []) ≤ 1
  few_behind asked true = omega arith
  few_behind asked false = omega arith

  pub behind_few : (asked : Asked) (a : Answered) → length (asks_behind style asked a) ≤ 1
  behind_few asked a = few_behind asked (is_refused a && is_set style asked.ask)

  pub few_by : (asks : List Asked) (answers : List Answered) → length (asks_by style asks answers) ≤ length asks + 1
  few_by asks [] = omega arith
  few_by [] (a ∷ answers) = omega arith
  few_by (asked ∷ []) (a ∷ answers) = let few = behind_few asked a in omega (arith, few)
  few_by (asked ∷ next ∷ asks) (a ∷ answers) = let few = few_by (next ∷ asks) answers in omega (arith, few)

  -- nothing is, where the last is not answered
  pub part_by : (asks : List Asked) (answers : List Answered) → length answers < length asks → asks_by style asks answers ≡ asks
  part_by asks [] less = refl
  part_by [] (a ∷ answers) less = absurd (omega (arith, less))
  part_by (asked ∷ []) (a ∷ answers) less = absurd (omega (arith, less))
  part_by (asked ∷ next ∷ asks) (a ∷ answers) less = ap (λ l. asked ∷ l) (part_by (next ∷ asks) answers (omega (arith, less)))

  pub many_by : (asks : List Asked) (one two : List Answered) → length one < length asks
      → length (asks_by style asks (one ++ two)) ≡ length one + length (asks_by style (drop (length one) asks) two)
  many_by asks [] two less = omega arith
  many_by [] (a ∷ one) two less = absurd (omega (arith, less))
  many_by (asked ∷ []) (a ∷ one) two less = absurd (omega (arith, less))
  many_by (asked ∷ next ∷ asks) (a ∷ one) two less = let rest = many_by (next ∷ asks) one two (omega (arith, less)) in omega (arith, rest)

  -- whether all is answered, by what was before
  pub all_by : (asks : List Asked) (one two : List Answered) → length one < length asks
      → (length (one ++ two) == length (asks_by style asks (one ++ two))) ≡ (length two == length (asks_by style (drop (length one) asks) two))
  all_by asks one two less =
      (λ i. length-append one two i == many_by asks one two less i) ∙ same_more (length one) (length two) (length (asks_by style (drop (length one) asks) two))

  pub whole_part : (asks left : List Asked) (answers : List Answered) → left ≡ drop (length answers) asks → (answers ≡ []) ⊎ (0 < length left)
      → (length left == 0) ≡ (length answers == length (asks_by style asks answers))
  whole_part asks left [] is part = ap (λ l. length l == 0) is ∙ none asks
    where
      none : (l : List Asked) → (length l == 0) ≡ (0 == length l)
      none [] = refl
      none (x ∷ l) = eqb-suc-zero (length l) ∙ sym (eqb-zero-suc (length l))
  whole_part asks left (a ∷ answers) is part =
      let some : 0 < length left = elim part as (λ _. 0 < length left) [ inl none ↦ absurd (cc) | inr more ↦ more ] in
      let less = is_less asks left (length (a ∷ answers)) is some in
      let many = ap length (part_by asks (a ∷ answers) less) in
      ne_eqb (length left) 0 (λ none. absurd (omega (arith, none, some)))
      ∙ sym (ne_eqb (length (a ∷ answers)) (length (asks_by style asks (a ∷ answers))) (λ all. absurd (omega (arith, all, less, many))))

  pub behind_none : (asked : Asked) (a : Answered) → (is_refused a && is_set style asked.ask) ≡ false → asks_behind style asked a ≡ []
  behind_none asked a is = ap (λ t. cond t (spoiled asked ∷ []) []) is

  pub behind_one : (asked : Asked) (a : Answered) → (is_refused a && is_set style asked.ask) ≡ true → asks_behind style asked a ≡ spoiled asked ∷ []
  behind_one asked a is = ap (λ t. cond t (spoiled asked ∷ []) []) is

module _ (base : ℕ) where
  -- Answers

  pub more_by : (style : Style) (asks : List Asked) (one two : List Answered) → length one < length asks → AnswersAsks base (asks_by style asks one) one
      → AnswersAsks base (asks_by style (drop (length one) asks) two) two → AnswersAsks base (asks_by style asks (one ++ two)) (one ++ two)
  more_by style asks [] two less first then = then
  more_by style [] (a ∷ one) two less first then = absurd (omega (arith, less))
  more_by style (asked ∷ []) (a ∷ one) two less first then = absurd (omega (arith, less))
  more_by style (asked ∷ next ∷ asks) (a ∷ one) two less first then = (first.0, more_by style (next ∷ asks) one two (omega (arith, less)) first.1 then)

  pub one_by : (style : Style) (asked : Asked) (left : List Asked) (a : Answered) → AnswersAsk base asked a → AnswersAsks base (asks_by style (asked ∷ left) (a ∷ [])) (a ∷ [])
  one_by style asked [] a is = (is, tt)
  one_by style asked (next ∷ left) a is = (is, tt)

  pub few_answers : (asks : List Asked) (answers : List Answered) → AnswersAsks base asks answers → length answers ≤ length asks
  few_answers asks [] is = omega arith
  few_answers [] (a ∷ answers) is = absurd is
  few_answers (asked ∷ asks) (a ∷ answers) is = let few = few_answers asks answers is.1 in omega (arith, few)

  -- Texts

  pub no_text : (style : Style) (answers : List Answered) → asks_text base style [] answers ≡ []
  no_text style [] = refl
  no_text style (a ∷ answers) = refl

  pub more_text : (style : Style) (asks : List Asked) (one two : List Answered)
      → asks_text base style asks (one ++ two) ≡ asks_text base style asks one ++ asks_text base style (drop (length one) asks) two
  more_text style asks [] two = refl
  more_text style [] (a ∷ one) two = sym (no_text style two)
  more_text style (asked ∷ asks) (a ∷ one) two =
      let here = said_text style (length asks == 0) asked.key (said_of base asked a) in
      ap (λ text. here ++ text) (more_text style asks one two) ∙ sym (append_assoc here (asks_text base style asks one) (asks_text base style (drop (length one) asks) two))

  pub one_text : (style : Style) (asked : Asked) (asks : List Asked) (a : Answered) (later : List Answered) → asks_text base style asks later ≡ []
      → said_text style (length asks == 0) asked.key (said_of base asked a) ≡ asks_text base style (asked ∷ asks) (a ∷ later)
  one_text style asked asks a later none =
      let here = said_text style (length asks == 0) asked.key (said_of base asked a) in
      sym (append-nil here) ∙ ap (λ text. here ++ text) (sym none)

-- nothing is due of a flush before it was answered
pub none_flushed_yet : (next : Next) (t : Bool) → cond t [] (flush_text (style_of next) t []) ≡ []
none_flushed_yet next true = refl
none_flushed_yet next false = refl

-- what is left once one was taken
pub left_of : (old new : List Asked) (taken : Option Asked) → MatchOption taken ((old ≡ []) × (new ≡ [])) (λ asked. old ≡ asked ∷ new) → new ≡ drop 1 old
left_of old new None is = is.1 ∙ ap (drop 1) (sym is.0)
left_of old new (Some asked) is = ap (drop 1) (sym is)

pub none_left : (asks : List Asked) → (length asks == 0) ≡ true → asks ≡ []
none_left [] is = refl
none_left (asked ∷ asks) is = absurd (true≢false (sym is ∙ eqb-suc-zero (length asks)))

pub some_left : (asks : List Asked) → (length asks == 0) ≡ false → 0 < length asks
some_left [] is = absurd (true≢false is)
some_left (asked ∷ asks) is = omega arith
