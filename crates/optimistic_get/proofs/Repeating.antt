-- Tries one after another.
use Rattle.std.proofs.Common.{◌≡◌, ℕ, true, ◌+◌, ◌*◌, ◌<◌, ◌≤◌, List, [], ◌∷◌, ◌++◌, refl, sym, ap, ◌∙◌, subst, arith, append_assoc, length-append, Option, Some, None, inl, inr}
use Rattle.std.proofs.lemmas.List.{append-nil}
use Rattle.std.proofs.lemmas.List.Sums.{sum_by-append}
use Rattle.partition_model.specs.History.{History, writes_to_bucket}
use Rattle.partition_words.specs.declared.shape.Shape.{Shape}
use Rattle.partition_words.specs.declared.state.Failure.{Failure}
use Rattle.partition_words.specs.declared.reader.ReaderState.{ReaderState}
use Rattle.partition_words.specs.Shape.{options_of}
use Rattle.partition_words.specs.Failures.{failure, IsFailure}
use Rattle.partition_words.proofs.Prefixes.{prefix_same, prefix_then}
use Rattle.partition_words.proofs.Failing.{in_cons, in_none, in_both}
use Rattle.optimistic_get.specs.declared.getting.Got.{Got}
use Rattle.optimistic_get.specs.declared.getting.Got.TheVariants.{Hit, Miss, Again}
use Rattle.optimistic_get.specs.Loading.{most_loads}
use Rattle.optimistic_get.specs.Gets.{is_again, TriesMade, IsFailureAt, most_of_failure, most_of_failures, TryAnswers, TryFails, Tries, FailsMore, Answered, AllFailed, AnswersGet}

made_none : (r : ReaderState) → TriesMade r 0 r
made_none r = record {
  same = λ i. record {
    shape = r.shape;
    seen = r.seen;
    done = r.done;
    met = r.met;
    loads = r.loads;
    tried = (let none : r.tried ≡ r.tried + 0 = omega arith in none) i;
    fails = r.fails;
    closed = r.closed;
    current = r.current;
  };
  seen = prefix_same r.seen;
  ended = λ some. absurd (omega arith);
}

made_shape : (r q : ReaderState) (n : ℕ) → TriesMade r n q → q.shape ≡ r.shape
made_shape r q n made = ap (λ (z : ReaderState). z.shape) made.same

made_more : (r q p : ReaderState) (n : ℕ) → TriesMade r n q → TriesMade q 1 p → TriesMade r (n + 1) p
made_more r q p n before one = record {
  same = λ i. record {
    shape = (made_shape q p 1 one ∙ made_shape r q n before) i;
    seen = p.seen;
    done = (ap (λ (z : ReaderState). z.done) one.same ∙ ap (λ (z : ReaderState). z.done) before.same) i;
    met = (ap (λ (z : ReaderState). z.met) one.same ∙ ap (λ (z : ReaderState). z.met) before.same) i;
    loads = p.loads;
    tried = tried_now i;
    fails = p.fails;
    closed = p.closed;
    current = p.current;
  };
  seen = prefix_then r.seen q.seen p.seen before.seen one.seen;
  ended = λ _. one.ended (omega arith);
}
  where
    tried_now : p.tried ≡ r.tried + (n + 1)
    tried_now = let a = ap (λ (z : ReaderState). z.tried) one.same in let b = ap (λ (z : ReaderState). z.tried) before.same in omega arith

done_same : (r q : ReaderState) (n : ℕ) → TriesMade r n q → q.done ≡ r.done
done_same r q n made = ap (λ (z : ReaderState). z.done) made.same

fails_none : (fails : List Failure) (b : ℕ) → FailsMore fails fails b 0
fails_none fails b = record { more = []; fails = sym (append-nil fails); count = refl; each = λ f has. absurd (in_none f has) }

-- a try that failed

abbrev fails_more : (old mid new : List Failure) (b n : ℕ) (f : Failure) → FailsMore old mid b n → new ≡ mid ++ f ∷ [] → (f.bucket ≡ b) × IsFailure f → FailsMore old new b (n + 1)
fails_more old mid new b n f before is fits = record {
  more = before.more ++ f ∷ [];
  fails = is ∙ (ap (λ (z : List Failure). z ++ f ∷ []) before.fails ∙ append_assoc old before.more (f ∷ []));
  count = omega (arith, before.count, length-append before.more (f ∷ []));
  each = λ g has. elim (in_both before.more (f ∷ []) g has) [
    | inl one ↦ before.each g one
    | inr new' ↦ elim (in_cons f g [] new') [
      | inl same ↦ subst (λ (z : Failure). (z.bucket ≡ b) × IsFailure z) same fits
      | inr none ↦ absurd (in_none g none)
    ]
  ];
}

failure_at : (r q : ReaderState) (n b first last : ℕ) → TriesMade r n q → IsFailureAt q b first last → IsFailureAt r b first last
failure_at r q n b first last made f = record {
  fails = f.fails;
  least = subst (λ (z : Shape × History). 2 * writes_to_bucket (options_of z.0) z.1 b ≤ first) (λ i. (made_shape r q n made i, done_same r q n made i)) f.least;
}

-- So many tries failed.
pub record Failing (old : ReaderState) (b n : ℕ) (new : ReaderState) : Type 0 where
  pub made : TriesMade old n new
  pub fails : FailsMore old.fails new.fails b n
  pub loads : new.loads ≤ old.loads + most_of_failures old.shape fails.more
  pub closed : new.closed ≡ old.closed

pub failing_none : (r : ReaderState) (b : ℕ) → Failing r b 0 r
failing_none r b = record { made = made_none r; fails = fails_none r.fails b; loads = omega arith; closed = refl }

pub failing_more : (r q p : ReaderState) (b n first last : ℕ) → Failing r b n q → TryFails q b first last p → Failing r b (n + 1) p
failing_more r q p b n first last before t = record {
  made = made_more r q p n before.made t.made;
  fails = fails_more r.fails q.fails p.fails b n (failure b first last) before.fails t.fails (refl, t.failure.fails);
  loads =
      let few = before.loads in
      let one = subst (λ (z : Shape). p.loads ≤ q.loads + most_of_failure z (failure b first last)) (made_shape r q n before.made) t.loads in
      let all = sum_by-append (most_of_failure r.shape) before.fails.more (failure b first last ∷ []) in
      omega arith;
  closed = t.closed ∙ before.closed;
}

-- and the next one failed, or answered

all_failed : (r q p : ReaderState) (b n tries first last : ℕ) → Failing r b n q → TryFails q b first last p → n + 1 ≡ tries → AllFailed r b tries first last p
all_failed r q p b n tries first last f t all = let more = failing_more r q p b n first last f t in record {
  made = subst (λ (z : ℕ). TriesMade r z p) all more.made;
  fails = record { more = more.fails.more; fails = more.fails.fails; count = more.fails.count ∙ all; each = more.fails.each };
  loads = more.loads;
  closed = more.closed;
  before = q.fails;
  ends = t.fails;
  failure = failure_at r q n b first last f.made t.failure;
}

answered_after : (r q p : ReaderState) (b n tries : ℕ) (key : List ℕ) (answer : Option (List ℕ)) (stamp : ℕ) → Failing r b n q → n < tries → TryAnswers q key answer stamp p
    → Answered r b tries key answer stamp p
answered_after r q p b n tries key answer stamp f few t = record {
  failed = n;
  few = few;
  made = made_more r q p n f.made t.made;
  fails = record { more = f.fails.more; fails = t.fails ∙ f.fails.fails; count = f.fails.count; each = f.fails.each };
  loads =
      let before = f.loads in
      let one = subst (λ (z : Shape). p.loads ≤ q.loads + most_loads z) (made_shape r q n f.made) t.loads in
      omega arith;
  closed = t.closed ∙ ap (λ (z : ℕ). z + 1) f.closed;
  answered = t.answered;
}

pub answers_after : (r q p : ReaderState) (b n tries : ℕ) (key out : List ℕ) (got : Got) → Failing r b n q → n < tries → (is_again got ≡ true → n + 1 ≡ tries) → Tries q b key got out p
    → AnswersGet r b tries key got out p
answers_after r q p b n tries key out (Hit stamp) f few all t = answered_after r q p b n tries key (Some out) stamp f few t
answers_after r q p b n tries key out (Miss stamp) f few all t = (answered_after r q p b n tries key None stamp f few t.0, t.1)
answers_after r q p b n tries key out (Again first last) f few all t = (all_failed r q p b n tries first last f t.0 (all refl), t.1)

pub fails_again : (r q p : ReaderState) (b n : ℕ) (key out : List ℕ) (got : Got) → Failing r b n q → is_again got ≡ true → Tries q b key got out p → Failing r b (n + 1) p
fails_again r q p b n key out (Hit stamp) f again t = absurd (cc again)
fails_again r q p b n key out (Miss stamp) f again t = absurd (cc again)
fails_again r q p b n key out (Again first last) f again t = failing_more r q p b n first last f t.0
