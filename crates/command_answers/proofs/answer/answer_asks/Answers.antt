use Rattle.std.proofs.Common.{◌≡◌, ◌∷◌, ◌++◌, ◌+◌, ◌==◌, ℕ, List, [], length, drop, refl, sym, ap, ◌∙◌, subst, arith, append_assoc, length-append, inl, inr, true}
use Rattle.std.specs.Prelude.{IfOk, OnErr}
use Rattle.std.specs.List.{AllByRecursion}
use Rattle.std.specs.declared.result.Result.{Result}
use Rattle.std.specs.declared.result.Result.TheVariants.{Ok, Err}
use Rattle.std.proofs.lemmas.Bool.{eq-eqb}
use Rattle.std.proofs.lemmas.List.{append-nil, drop-drop, drop_all, length-drop}
use Rattle.partition_model.specs.declared.options.Options.{Options}
use Rattle.memcached_commands.specs.declared.asks.Asked.{Asked}
use Rattle.memcached_commands.specs.Fit.{IsFitAsked}
use Rattle.memcached_requests.specs.Replies.{said_text}
use Rattle.command_answers.specs.AskAnswers.{asks_by, asks_text, said_of}
use Rattle.command_answers.specs.Counting.{tally_after, tally_after_all}
use Rattle.command_answers.specs.Going.{AnswersAt, AnswersFirst, RepliesFirst}
use Rattle.command_answers.proofs.AskLaws.{behind_few, if_ok, is_less, left_of, many_by, no_text, none_left, some_left, whole_part}
use Rattle.command_answers.proofs.Asking.{none_yet, one_first, more_first, text_more, writes_more}
use Rattle.command_answers.proofs.Counting.{counted_more}
use Rattle.command_answers.proofs.answer.answer_asks.Goals as goal

-- what a last answer appended
part_of : {E : Type 0} (old new said : List ℕ) (r : Result ℕ E) (n : ℕ → Type 0) → IfOk r (λ many. n many × (new ≡ old ++ said)) → OnErr r (new ≡ old) → (text : List ℕ) × (new ≡ old ++ text)
part_of old new said (Ok many) n ok err = (said, ok.1)
part_of old new said (Err e) n ok err = ([], err ∙ sym (append-nil old))

pub loop-count-init : goal.loop-count-init
loop-count-init g c =
    let F = g.F.Front in record {
      answers = [];
      first = none_yet (F.options c.args.front.now) F.is_alone c.args.base c.args.second c.args.style.now c.args.asks.now (F.sessions c.args.front.now);
      many = refl;
      left_is = refl;
      whole = whole_part c.args.style.now c.args.asks.now c.args.asks.now [] refl (inl refl);
      fit = c.requires.fit;
      text = sym (append-nil c.args.out.now.items);
      short = omega arith;
      few = omega arith;
      few_answers = omega arith;
      left = omega arith;
      given = omega arith;
      counted = refl;
      options = refl;
      number = refl;
      stands = refl;
    }

-- what is left begins with what was taken
here : (asks now left : List Asked) (asked : Asked) (count n : ℕ) → count ≡ n → now ≡ drop count asks → now ≡ asked ∷ left → drop n asks ≡ asked ∷ left
here asks now left asked count n many left_is is = ap (λ k. drop k asks) (sym many) ∙ sym left_is ∙ is

pub loop-count-preserved : goal.loop-count-preserved
loop-count-preserved g c =
    let F = g.F.Front in
    let options = F.options c.args.front.now in
    let inv = c.loop-count.invariant in
    let asks = c.args.asks.now in
    let asked = c.in-Some.asked in
    let one = c.in-Ok.ensures.answered in
    let left = c.answer_ask.ensures.left in
    let less = c.loop-count-test.true in
    let all = here asks c.loop-count.asks c.next_asked.new.self asked c.loop-count.count (length inv.answers) inv.many inv.left_is c.in-Some.ensures in
    let is_last = sym c.is_empty.ensures ∙ c.if-is_empty.false in
    let at = subst (λ (o : Options). AnswersAt o F.is_alone c.args.base c.args.second (F.sessions c.loop-count.front) asked (F.sessions c.answer_ask.new.front) one.0) inv.options one.1 in
    let fit = subst (AllByRecursion IsFitAsked) c.in-Some.ensures inv.fit in
    let said = said_of c.args.base asked one.0 in
    let text = one.2 ∙ ap (λ t. c.loop-count.out.items ++ said_text c.args.style.now t asked.key said) (sym is_last) in
    let then : c.next_asked.new.self ≡ drop (c.loop-count.count + 1) asks =
    left_of c.loop-count.asks c.next_asked.new.self c.next_asked.result c.next_asked.ensures ∙ ap (drop 1) inv.left_is ∙ drop-drop 1 c.loop-count.count asks in
    let grown = length-append inv.answers (one.0 ∷ []) in record {
      answers = inv.answers ++ one.0 ∷ [];
      first = more_first (asked ∷ c.next_asked.new.self) (one.0 ∷ []) inv.first all (omega arith) (one_first c.next_asked.new.self one.0 at);
      many = let many = inv.many in omega (arith, many, grown);
      left_is = then;
      whole = whole_part c.args.style.now asks c.next_asked.new.self (inv.answers ++ one.0 ∷ []) (then ∙ ap (λ n. drop n asks) (let many = inv.many in omega (arith, many, grown)))
          (inr (some_left c.next_asked.new.self is_last));
      fit = fit.1;
      text = text_more c.args.base c.args.style.now asks c.next_asked.new.self inv.answers asked one.0 [] c.args.out.now.items c.loop-count.out.items c.answer_ask.new.out.items all inv.text refl text;
      short = omega (arith, less, c.answer_ask.ensures.short);
      few = omega (arith, less);
      few_answers = let many = inv.many in omega (arith, less, many, grown);
      left = omega (arith, left, inv.left);
      given = omega (arith, one.3, inv.given, writes_more inv.answers (one.0 ∷ []));
      counted =
          one.4 ∙ (λ i. tally_after c.args.base (inv.options i).hashing c.args.partitions asked one.0 (inv.counted i))
          ∙ sym (counted_more c.args.base (F.options c.args.front.now).hashing c.args.partitions asks c.next_asked.new.self inv.answers asked one.0 [] c.args.buffers.now.tally all);
      options = c.answer_ask.ensures.options ∙ inv.options;
      number = c.answer_ask.ensures.number ∙ inv.number;
      stands = c.answer_ask.ensures.stands ∙ inv.stands;
    }

pub returns-in_default-answer_ask-clause-answered : goal.returns-in_default-answer_ask-clause-answered
returns-in_default-answer_ask-clause-answered g c =
    let F = g.F.Front in
    let inv = c.loop-count.invariant in
    let asks = c.args.asks.now in
    let asked = c.in-Some.asked in
    let one = c.answer_ask.ensures.answered in
    let less = c.loop-count-test.true in
    let all = here asks c.loop-count.asks c.next_asked.new.self asked c.loop-count.count (length inv.answers) inv.many inv.left_is c.in-Some.ensures in
    let at = subst (λ (o : Options). AnswersAt o F.is_alone c.args.base c.args.second (F.sessions c.loop-count.front) asked (F.sessions c.answer_ask.new.front) one.0) inv.options one.1 in
    let grown = length-append inv.answers (one.0 ∷ []) in (
      inv.answers ++ one.0 ∷ [],
      more_first (asked ∷ c.next_asked.new.self) (one.0 ∷ []) inv.first all (omega arith) (one_first c.next_asked.new.self one.0 at),
      tt,
      omega (arith, one.3, inv.given, writes_more inv.answers (one.0 ∷ [])),
      one.4 ∙ (λ i. tally_after c.args.base (inv.options i).hashing c.args.partitions asked one.0 (inv.counted i))
          ∙ sym (counted_more c.args.base (F.options c.args.front.now).hashing c.args.partitions asks c.next_asked.new.self inv.answers asked one.0 [] c.args.buffers.now.tally all),
      (let many = inv.many in omega (arith, less, many, grown)),
    )

pub returns-then-is_empty-clause-part : goal.returns-then-is_empty-clause-part
returns-then-is_empty-clause-part g c =
    let r = c.answer_last.ensures.answered in
    let so_far = asks_text c.args.base c.args.style.now c.args.asks.now c.loop-count.invariant.answers in
    let one = part_of c.loop-count.out.items c.answer_last.new.out.items (said_text c.args.style.now true c.in-Some.asked.key (said_of c.args.base c.in-Some.asked r.0)) c.answer_last.result _ r.4
    c.answer_last.ensures.err in
    (so_far ++ one.0, one.1 ∙ ap (λ t. t ++ one.0) c.loop-count.invariant.text ∙ append_assoc c.args.out.now.items so_far one.0)

pub returns-then-is_empty-clause-answered : goal.returns-then-is_empty-clause-answered
returns-then-is_empty-clause-answered g c =
    let F = g.F.Front in
    let inv = c.loop-count.invariant in
    let asks = c.args.asks.now in
    let asked = c.in-Some.asked in
    let r = c.answer_last.ensures.answered in
    let two = r.0 ∷ r.1 in
    let less = c.loop-count-test.true in
    let before = c.args.out.now.items in
    let after = c.answer_last.new.out.items in
    let left = c.next_asked.new.self in
    let none = none_left left (sym c.is_empty.ensures ∙ c.if-is_empty.true) in
    let all : drop (length inv.answers) asks ≡ asked ∷ [] =
    here asks c.loop-count.asks left asked c.loop-count.count (length inv.answers) inv.many inv.left_is c.in-Some.ensures ∙ ap (λ l. asked ∷ l) none in
    let last = subst (λ (o : Options). AnswersFirst o F.is_alone c.args.base c.args.second c.args.style.now (asked ∷ []) (F.sessions c.loop-count.front) (F.sessions c.answer_last.new.front) two) inv.options r.2 in
    let below = is_less asks (asked ∷ []) (length inv.answers) (sym all) (omega arith) in
    let many = many_by c.args.style.now asks inv.answers two below ∙ ap (λ l. length inv.answers + length (asks_by c.args.style.now l two)) all in
    let grown = length-append inv.answers two in
    let asked_all = ap length all ∙ refl in
    let len = length-drop (length inv.answers) asks in
    let few = behind_few c.args.style.now asked r.0 in (
      inv.answers ++ two,
      more_first (asked ∷ []) two inv.first all (omega arith) last,
      if_ok _ (λ count. RepliesFirst c.args.base c.args.style.now asks c.args.limits (inv.answers ++ two) before after count left) c.answer_last.result (λ count is. record {
        many = let at = inv.many in omega (arith, is.0, at, grown);
        left_is = none ∙ sym (drop_all count asks (let at = inv.many in omega (arith, is.0, at, asked_all, len)));
        whole = ap (λ l. length l == 0) none ∙ sym (eq-eqb (length (inv.answers ++ two)) (length (asks_by c.args.style.now asks (inv.answers ++ two))) (omega (arith, grown, many, r.3)));
        text = text_more c.args.base c.args.style.now asks [] inv.answers asked r.0 r.1 before c.loop-count.out.items after all inv.text (no_text c.args.base c.args.style.now r.1) is.1;
        stops = inl none;
      }) r.4,
      omega (arith, r.5, inv.given, writes_more inv.answers two),
      r.6 ∙ (λ i. tally_after_all c.args.base (inv.options i).hashing c.args.partitions [] r.1 (tally_after c.args.base (inv.options i).hashing c.args.partitions asked r.0 (inv.counted i)))
          ∙ sym (counted_more c.args.base (F.options c.args.front.now).hashing c.args.partitions asks [] inv.answers asked r.0 r.1 c.args.buffers.now.tally all),
      (let at = inv.many in let one = r.3 in omega (arith, less, at, grown, one, few)),
    )
