use Rattle.std.proofs.Common.{◌≡◌, ◌∷◌, [], length, true, false, sym, ap, ◌∙◌, subst, arith}
use Rattle.std.specs.Prelude.{◌&&◌}
use Rattle.partition_model.specs.declared.options.Options.{Options}
use Rattle.command_answers.specs.AskAnswers.{is_refused, is_set, spoiled}
use Rattle.command_answers.specs.Counting.{noted_by}
use Rattle.command_answers.specs.Going.{AnswersAt}
use Rattle.command_answers.proofs.AskLaws.{behind_none, behind_one}
use Rattle.command_answers.proofs.Asking.{one_first, two_first, writes_more}
use Rattle.command_answers.proofs.ask.answer_last.Goals as goal

pub returns-in_default-clause-answered : goal.returns-in_default-clause-answered
returns-in_default-clause-answered g c =
    let one = c.answer_ask-said.ensures.answered in
    let stays : (is_refused one.0 && is_set c.args.style.now c.args.asked.now.ask) ≡ false =
    ap (λ t. t && is_set c.args.style.now c.args.asked.now.ask) (sym one.5) ∙ sym c.is_to_go.ensures ∙ c.if-not-is_to_go.true in
    (one.0, [], one_first [] one.0 one.1, sym (ap length (behind_none c.args.style.now c.args.asked.now one.0 stays)), tt, one.3, one.4)

pub returns-then-not-is_to_go-clause-answered : goal.returns-then-not-is_to_go-clause-answered
returns-then-not-is_to_go-clause-answered g c =
    let one = c.in-Ok.ensures.answered in
    let stays : (is_refused one.0 && is_set c.args.style.now c.args.asked.now.ask) ≡ false =
    ap (λ t. t && is_set c.args.style.now c.args.asked.now.ask) (sym one.5) ∙ sym c.is_to_go.ensures ∙ c.if-not-is_to_go.true in
    (one.0, [], one_first [] one.0 one.1, sym (ap length (behind_none c.args.style.now c.args.asked.now one.0 stays)), (omega arith, one.2), one.3, one.4)

pub returns-in_default-said-clause-answered : goal.returns-in_default-said-clause-answered
returns-in_default-said-clause-answered g c =
    let F = g.F.Front in
    let one = c.answer_ask-said.ensures.answered in
    let gone = c.spoil.ensures.answered in
    let goes : (is_refused one.0 && is_set c.args.style.now c.args.asked.now.ask) ≡ true =
    ap (λ t. t && is_set c.args.style.now c.args.asked.now.ask) (sym one.5) ∙ sym c.is_to_go.ensures ∙ c.if-not-is_to_go.false in
    let behind = behind_one c.args.style.now c.args.asked.now one.0 goes in
    let then = subst (λ (o : Options). AnswersAt o F.is_alone c.args.base c.args.second (F.sessions c.answer_ask-said.new.front) (spoiled c.args.asked.now) (F.sessions c.spoil.new.front) gone.0)
    c.answer_ask-said.ensures.options gone.1 in (
      one.0,
      gone.0 ∷ [],
      two_first one.0 gone.0 one.1 then behind,
      sym (ap length behind),
      tt,
      omega (arith, one.3, gone.2, writes_more (one.0 ∷ []) (gone.0 ∷ [])),
      gone.3 ∙ (λ i. noted_by (c.answer_ask-said.ensures.options i).hashing c.args.partitions gone.0 (one.4 i)),
    )

pub returns-clause-answered : goal.returns-clause-answered
returns-clause-answered g c =
    let F = g.F.Front in
    let one = c.in-Ok-said.ensures.answered in
    let gone = c.spoil.ensures.answered in
    let goes : (is_refused one.0 && is_set c.args.style.now c.args.asked.now.ask) ≡ true =
    ap (λ t. t && is_set c.args.style.now c.args.asked.now.ask) (sym one.5) ∙ sym c.is_to_go.ensures ∙ c.if-not-is_to_go.false in
    let behind = behind_one c.args.style.now c.args.asked.now one.0 goes in
    let then = subst (λ (o : Options). AnswersAt o F.is_alone c.args.base c.args.second (F.sessions c.answer_ask-said.new.front) (spoiled c.args.asked.now) (F.sessions c.spoil.new.front) gone.0)
    c.answer_ask-said.ensures.options gone.1 in (
      one.0,
      gone.0 ∷ [],
      two_first one.0 gone.0 one.1 then behind,
      sym (ap length behind),
      (omega arith, one.2),
      omega (arith, one.3, gone.2, writes_more (one.0 ∷ []) (gone.0 ∷ [])),
      gone.3 ∙ (λ i. noted_by (c.answer_ask-said.ensures.options i).hashing c.args.partitions gone.0 (one.4 i)),
    )
