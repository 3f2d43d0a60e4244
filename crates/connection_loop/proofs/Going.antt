-- Answers that were given one after another.
use Rattle.std.proofs.Common.{◌≡◌, ◌+◌, ◌<◌, ◌≤◌, ℕ, Bool, List, [], ◌∷◌, ◌++◌, length, refl, sym, ap, ◌∙◌, subst, arith, length-append}
use Rattle.std.specs.Prelude.{⊤, Option, None, Some, IfSome}
use Rattle.std.specs.List.{cons_option}
use Rattle.std.proofs.lemmas.List.Elements.{filter_map-append}
use Rattle.partition_model.specs.declared.options.Options.{Options}
use Rattle.fronts.specs.Answered.{Answered, step_in, steps_of, count_of_writes}
use Rattle.fronts.specs.Session.{Sessions}
use Rattle.fronts.proofs.InOrder.{answers_append}
use Rattle.memcached_requests.specs.declared.request.Next.{Next}
use Rattle.command_answers.specs.Going.{GoesOn}
use Rattle.command_answers.specs.Seconds.{second_in, AreAt}
use Rattle.connection_loop.specs.declared.hand.Hand.{Hand}
use Rattle.connection_loop.specs.Calls.{KeepsHand}
use Rattle.connection_loop.specs.Given.{Given, answers_in}
use Rattle.connection_loop.specs.Going.{GoesBy, GoesByThese, GoesBySome, NeverFall, Rise, seconds_of}

writes_append : (one two : List Answered) → count_of_writes (one ++ two) ≡ count_of_writes one + count_of_writes two
writes_append one two = ap length (filter_map-append step_in one two) ∙ length-append (steps_of one) (steps_of two)

-- Seconds that never fall

rise_from : (earlier from to : ℕ) (seconds : List ℕ) → earlier ≤ from → Rise from seconds to → Rise earlier seconds to
rise_from earlier from to [] less rise = omega (arith, less, rise)
rise_from earlier from to (second ∷ seconds) less rise = (omega (arith, less, rise.0), rise.1)

rise_to : (from to later : ℕ) (seconds : List ℕ) → to ≤ later → Rise from seconds to → Rise from seconds later
rise_to from to later [] less rise = omega (arith, less, rise)
rise_to from to later (second ∷ seconds) less rise = (rise.0, rise_to second to later seconds less rise.1)

rise_both : (from between to : ℕ) (one two : List ℕ) → Rise from one between → Rise between two to → Rise from (one ++ two) to
rise_both from between to [] two first then = rise_from from between to two first then
rise_both from between to (second ∷ one) two first then = (first.0, rise_both second between to one two first.1 then)

rise_all : (from to : ℕ) (seconds : List ℕ) → Rise from seconds to → from ≤ to
rise_all from to [] rise = rise
rise_all from to (second ∷ seconds) rise = let later = rise_all second to seconds rise.1 in omega (arith, rise.0, later)

module _ (options : Options) where
  at_first : (second : ℕ) (given : Option ℕ) (later : List ℕ) → IfSome given (λ s. s ≡ second) → Rise second later second → Rise second (cons_option given later) second
  at_first second None later is rise = rise
  at_first second (Some s) later is rise = (omega (arith, is), rise_from s second second later (omega (arith, is)) rise)

  -- those that are all at one
  pub at_rise : (second : ℕ) (answers : List Answered) → AreAt options second answers → Rise second (seconds_of options answers) second
  at_rise second [] at = omega arith
  at_rise second (a ∷ answers) at = at_first second (second_in options a) (seconds_of options answers) at.0 (at_rise second answers at.1)

  is_first : (second : ℕ) (given : Option ℕ) (later : List ℕ) → Rise second (cons_option given later) second → IfSome given (λ s. s ≡ second)
  is_first second None later rise = tt
  is_first second (Some s) later rise = let all = rise_all s second later rise.1 in omega (arith, rise.0, all)

  behind_first : (second : ℕ) (given : Option ℕ) (later : List ℕ) → Rise second (cons_option given later) second → Rise second later second
  behind_first second None later rise = rise
  behind_first second (Some s) later rise = rise_from second s second later rise.0 rise.1

  -- where it is the same second before and behind them, they are
  pub rise_at : (second : ℕ) (answers : List Answered) → Rise second (seconds_of options answers) second → AreAt options second answers
  rise_at second [] rise = tt
  rise_at second (a ∷ answers) rise = (
    is_first second (second_in options a) (seconds_of options answers) rise,
    rise_at second answers (behind_first second (second_in options a) (seconds_of options answers) rise),
  )

module _ (options : Options) (is_alone : Bool) where
  pub by_none : (old : Sessions) (left : ℕ) → GoesBy options is_alone old left old left
  by_none old left = record { answers = []; in_order = λ q. refl; seconds = (0, omega arith); few = omega arith }

  pub these_none : (old : Sessions) (left told tells : ℕ) → told ≤ tells → GoesByThese options is_alone old left told [] old left tells
  these_none old left told tells rises = record { in_order = λ q. refl; seconds = rises; few = omega arith }

  pub these_then : {old between new : Sessions} {left then_left left_after : ℕ} {told then_told tells : ℕ} {one two : List Answered}
      → GoesByThese options is_alone old left told one between then_left then_told → GoesByThese options is_alone between then_left then_told two new left_after tells
      → GoesByThese options is_alone old left told (one ++ two) new left_after tells
  these_then {old} {between} {new} {told = told} {then_told = then_told} {tells = tells} {one = one} {two = two} first second = record {
    in_order = answers_append options is_alone one two old between new first.in_order second.in_order;
    seconds = subst (λ (s : List ℕ). Rise told s tells) (sym (filter_map-append (second_in options) one two))
        (rise_both told then_told tells (seconds_of options one) (seconds_of options two) first.seconds second.seconds);
    few = omega (arith, first.few, second.few, writes_append one two);
  }

  pub these_of : {old new : Sessions} {left left_after base second : ℕ} {next : Next} {done : ℕ} {answers : List Answered} → GoesOn options is_alone base second next done old new answers
      → left ≤ left_after + count_of_writes answers → GoesByThese options is_alone old left second answers new left_after second
  these_of {second = second} {answers = answers} goes few = record { in_order = goes.in_order; seconds = at_rise options second answers goes.seconds; few = few }

  -- the clock may have been looked at before and behind them
  pub these_within : {old : Sessions} {left earlier told : ℕ} {answers : List Answered} {new : Sessions} {left_after tells later : ℕ} → earlier ≤ told → tells ≤ later
      → GoesByThese options is_alone old left told answers new left_after tells → GoesByThese options is_alone old left earlier answers new left_after later
  these_within {earlier = earlier} {told = told} {answers = answers} {tells = tells} {later = later} before behind these = record {
    in_order = these.in_order;
    seconds = rise_from earlier told later (seconds_of options answers) before (rise_to told tells later (seconds_of options answers) behind these.seconds);
    few = these.few;
  }

  pub these_rise : {old : Sessions} {left told : ℕ} {answers : List Answered} {new : Sessions} {left_after tells : ℕ} → GoesByThese options is_alone old left told answers new left_after tells
      → NeverFall (seconds_of options answers)
  these_rise {told = told} {answers = answers} {tells = tells} these = (tells, rise_from 0 told tells (seconds_of options answers) (omega arith) these.seconds)

  pub some_goes : {old : Sessions} {left told : ℕ} {new : Sessions} {left_after tells : ℕ} → GoesBySome options is_alone old left told new left_after tells (λ answers. ⊤)
      → GoesBy options is_alone old left new left_after
  some_goes some = record { answers = some.0; in_order = some.1.in_order; seconds = these_rise some.1; few = some.1.few }

  -- where it was the same second behind them, they are at it
  pub these_at : {old : Sessions} {left told : ℕ} {answers : List Answered} {new : Sessions} {left_after tells : ℕ} (second : ℕ) → told ≡ second → tells ≡ told
      → GoesByThese options is_alone old left told answers new left_after tells → AreAt options second answers
  these_at {told = told} {answers = answers} {tells = tells} second is same these =
      subst (λ s. AreAt options s answers) is (rise_at options told answers (subst (λ t. Rise told (seconds_of options answers) t) same these.seconds))

  -- and no fewer writes are left, where there were none
  pub none_fewer : {old : Sessions} {left : ℕ} {told : ℕ} {answers : List Answered} {new : Sessions} {left_after : ℕ} {tells : ℕ}
      → GoesByThese options is_alone old left told answers new left_after tells → answers ≡ [] → left ≤ left_after
  none_fewer these none = let few = these.few in let same = ap count_of_writes none in omega (arith, few, same)

  -- some were given, where the front may be given fewer writes
  pub these_some : {old : Sessions} {left : ℕ} {told : ℕ} (answers : List Answered) {new : Sessions} {left_after : ℕ} {tells : ℕ}
      → GoesByThese options is_alone old left told answers new left_after tells → left_after < left → 0 < length answers
  these_some [] these fewer = let few = these.few in absurd (omega (arith, few, fewer))
  these_some (a ∷ answers) these fewer = omega arith

  -- by the same answers, of which more is known
  pub these_given : {old : Sessions} {left : ℕ} {told : ℕ} {new : Sessions} {left_after : ℕ} {tells : ℕ} (answers : List Answered) (given : List Given) → answers_in given ≡ answers
      → GoesByThese options is_alone old left told answers new left_after tells → GoesByThese options is_alone old left told (answers_in given) new left_after tells
  these_given {old} {left} {told} {new} {left_after} {tells} answers given same these =
      subst (λ a. GoesByThese options is_alone old left told a new left_after tells) (sym same) these

-- What is at hand

pub hand_same : {Front Stand : Type 0} (options : Front → Options) (number : Front → ℕ) (stands : Front → List Stand) (hand : Hand Front) → KeepsHand options number stands hand hand
hand_same options number stands hand = record { same_options = refl; same_number = refl; same_stands = refl; same_numbering = refl }

pub hand_then : {Front Stand : Type 0} {options : Front → Options} {number : Front → ℕ} {stands : Front → List Stand} {old between new : Hand Front} → KeepsHand options number stands old between
    → KeepsHand options number stands between new → KeepsHand options number stands old new
hand_then first then = record {
  same_options = then.same_options ∙ first.same_options;
  same_number = then.same_number ∙ first.same_number;
  same_stands = then.same_stands ∙ first.same_stands;
  same_numbering = then.same_numbering ∙ first.same_numbering;
}
