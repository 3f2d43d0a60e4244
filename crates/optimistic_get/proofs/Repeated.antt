-- A seat's answers, one after another.
use Rattle.std.proofs.Common.{◌≡◌, ◌≢◌, ℕ, ◌+◌, List, [], ◌++◌, Option, Some, None, refl, sym, ap, ◌∙◌, subst, arith, append-nil, append_assoc, length-append}
use Rattle.partition_model.specs.declared.options.Options.{Options}
use Rattle.partition_model.specs.History.{History, State, stamp_in, value_in}
use Rattle.partition_model.specs.Run.{IsAnswerAt}
use Rattle.partition_words.specs.declared.shape.Shape.{Shape}
use Rattle.partition_words.specs.declared.reader.ReaderState.{ReaderState}
use Rattle.partition_words.specs.Shape.{shape_of, options_of}
use Rattle.partition_words.proofs.SameMachine.{same_state}
use Rattle.partition_words.proofs.Prefixes.{prefix_same, prefix_then}
use Rattle.optimistic_get.specs.declared.getting.Got.{Got}
use Rattle.optimistic_get.specs.declared.getting.Got.TheVariants.{Hit, Miss, Again}
use Rattle.optimistic_get.specs.Gets.{TriesMade, FailsMore, Answered}
use Rattle.optimistic_get.specs.Gets.{AnswersGet as GetAnswers}
use Rattle.optimistic_get.specs.Asked.{SeatAnswers, IsReadAt, IsRead}

pub no_answers : (old : ReaderState) → SeatAnswers old old 0
no_answers old = record {
  shape = refl;
  seen = prefix_same old.seen;
  done = refl;
  more = [];
  fails = sym (append-nil old.fails);
  tried = omega arith;
  closed = omega arith;
}

pub seat_further : (old mid new : ReaderState) (m n : ℕ) → SeatAnswers old mid m → SeatAnswers mid new n → SeatAnswers old new (m + n)
seat_further old mid new m n one two =
    let count = length-append one.more two.more in
    let a = one.closed in
    let b = two.closed in
    let c = one.tried in
    let d = two.tried in
    record {
      shape = two.shape ∙ one.shape;
      seen = prefix_then old.seen mid.seen new.seen one.seen two.seen;
      done = two.done ∙ one.done;
      more = one.more ++ two.more;
      fails = two.fails ∙ ap (λ f. f ++ two.more) one.fails ∙ append_assoc old.fails one.more two.more;
      tried = omega arith;
      closed = omega arith;
    }

-- What a get makes of its seat, whatever it answers: so many tries failed, and so many closed.
seat_by : (old new : ReaderState) (b failed answers : ℕ) → TriesMade old (failed + answers) new → FailsMore old.fails new.fails b failed → new.closed ≡ old.closed + answers → SeatAnswers old new answers
seat_by old new b failed answers made fails closed =
    let tried = ap (λ (r : ReaderState). r.tried) made.same in
    let count = fails.count in
    record {
      shape = ap (λ (r : ReaderState). r.shape) made.same;
      seen = made.seen;
      done = ap (λ (r : ReaderState). r.done) made.same;
      more = fails.more;
      fails = fails.fails;
      tried = omega arith;
      closed = closed;
    }

-- a get that answered, after others that did not

is_read_at : (old mid new : ReaderState) (b tries stamp : ℕ) (key : List ℕ) (value : Option (List ℕ)) → SeatAnswers old mid 0 → Answered mid b tries key value stamp new → IsReadAt old key stamp value new
is_read_at old mid new b tries stamp key value one two =
    let seat = seat_by mid new b two.failed 1 two.made two.fails two.closed in
    record {
      seat = seat_further old mid new 0 1 one seat;
      answer = subst (λ (s : Shape). IsAnswerAt (options_of s) new.seen key stamp value) (seat.shape ∙ one.shape) (two.answered.stamped, sym two.answered.answered);
    }

pub is_read : (old mid new : ReaderState) (b tries : ℕ) (key : List ℕ) (got : Got) (buffer : List ℕ) → SeatAnswers old mid 0 → GetAnswers mid b tries key got buffer new
    → ((first last : ℕ) → got ≢ Again first last) → IsRead old key got buffer new
is_read old mid new b tries key (Hit stamp) buffer one two other = is_read_at old mid new b tries stamp key (Some buffer) one two
is_read old mid new b tries key (Miss stamp) buffer one two other = (is_read_at old mid new b tries stamp key None one two.0, two.1)
is_read old mid new b tries key (Again first last) buffer one two other = absurd (other first last refl)

pub fails_again : (old mid new : ReaderState) (b tries : ℕ) (key : List ℕ) (got : Got) (buffer : List ℕ) (first last : ℕ) → SeatAnswers old mid 0 → GetAnswers mid b tries key got buffer new
    → got ≡ Again first last → SeatAnswers old new 0
fails_again old mid new b tries key got buffer first last one two is =
    let it = subst (λ (g : Got). GetAnswers mid b tries key g buffer new) is two in
    let all = it.0 in
    let count : tries + 0 ≡ tries = omega arith in
    seat_further old mid new 0 0 one
    (seat_by mid new b tries 0 (subst (λ (n : ℕ). TriesMade mid n new) (sym count) all.made) all.fails (omega (arith, all.closed)))

-- an answer by the options of the shape is one by the options
pub same_answer : (options : Options) (shape : Shape) (history : History) (key : List ℕ) (stamp : ℕ) (value : Option (List ℕ)) → shape ≡ shape_of options
    → IsAnswerAt (options_of shape) history key stamp value → IsAnswerAt options history key stamp value
same_answer options shape history key stamp value is answer =
    let here = subst (λ (s : Shape). IsAnswerAt (options_of s) history key stamp value) is answer in
    (here.0 ∙ ap stamp_in (same_state options history), here.1 ∙ ap (λ (s : State). value_in s key) (same_state options history))
