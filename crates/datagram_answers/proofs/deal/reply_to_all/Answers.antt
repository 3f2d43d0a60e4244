use Rattle.std.proofs.Common.{rules, ℕ, inl, inr, sym, ◌∙◌, subst, arith}
use Rattle.partition_model.specs.declared.options.Options.{Options}
use Rattle.batch_packets.specs.BatchGrammar.{IsRequest}
use Rattle.datagram_answers.specs.Answering.{RepliesTo, AddsReply, AnswersFirst}
use Rattle.datagram_answers.proofs.RequestsInOrder.{here_begins, here_first, here_ends, here_next, here_replied, here_lawful, one_left, few_of_one}
use Rattle.datagram_answers.proofs.Replying.{err_anyway}
use Rattle.datagram_answers.proofs.deal.reply_to_all.Goals as goal

pub loop-number-init : goal.loop-number-init
loop-number-init g c =
    let F = g.F.Front in record {
      each = λ all are. here_begins (F.options c.args.front.now) F.is_alone (F.sessions c.args.front.now) (F.left c.args.front.now) c.args.replies.now all c.args.requests.now c.args.version c.args.count are;
      text = c.requires.version;
      unread = c.requires.some.1.version_is;
      few = omega arith;
      options = search rules;
      number = search rules;
      stands = search rules;
    }

pub next_request-request-requires : goal.next_request-request-requires
next_request-request-requires g c =
    let F = g.F.Front in
    record { some = one_left (F.options c.args.front.now) F.is_alone (c.loop-number.invariant.each c.requires.some.0 c.requires.some.1) c.loop-number-test.true }

pub reply_to-requires-clause-request : goal.reply_to-requires-clause-request
reply_to-requires-clause-request g c =
    let F = g.F.Front in
    let options = F.options c.args.front.now in
    let inv = c.loop-number.invariant in
    let some = one_left options F.is_alone (inv.each c.requires.some.0 c.requires.some.1) c.loop-number-test.true in
    subst (λ (v : ℕ). IsRequest v c.next_request-request.result) inv.unread (here_lawful options F.is_alone some c.next_request-request.ensures.taken)

pub loop-number-preserved : goal.loop-number-preserved
loop-number-preserved g c =
    let F = g.F.Front in
    let options = F.options c.args.front.now in
    let before = c.loop-number.front in
    let after = c.reply_to.new.front in
    let request = c.next_request-request.result in
    let inv = c.loop-number.invariant in
    let few = c.reply_to.ensures.left in
    let one = subst (λ (o : Options). AddsReply o F.is_alone (F.sessions before) c.loop-number.replies request (F.sessions after) c.reply_to.new.replies) inv.options c.in_ok-reply_to.ensures.replied in
    let small = few_of_one request in record {
      each = λ all are. here_next options F.is_alone (inv.each all are) c.loop-number-test.true c.next_request-request.ensures.taken one few;
      text = one.added.version ∙ inv.text;
      unread = c.next_request-request.ensures.version ∙ inv.unread;
      few = omega (arith, small, inv.few, few);
      options = c.reply_to.ensures.options ∙ inv.options;
      number = c.reply_to.ensures.number ∙ inv.number;
      stands = c.reply_to.ensures.stands ∙ inv.stands;
    }

pub returns-in_err-reply_to-clause-first : goal.returns-in_err-reply_to-clause-first
returns-in_err-reply_to-clause-first g c =
    let F = g.F.Front in
    let options = F.options c.args.front.now in
    let old = F.sessions c.args.front.now in
    let left = F.left c.args.front.now in
    let before = c.loop-number.front in
    let after = c.reply_to.new.front in
    let request = c.next_request-request.result in
    let inv = c.loop-number.invariant in
    err_anyway c.from_residual.result (λ all are. elim c.in_err-reply_to.ensures.err as (λ _. AnswersFirst options F.is_alone old left all (F.sessions after) (F.left after)) [
      | inl same ↦ subst (λ f. AnswersFirst options F.is_alone old left all (F.sessions f) (F.left f)) (sym same) (here_first options F.is_alone (inv.each all are))
      | inr one ↦ here_replied options F.is_alone (inv.each all are) c.loop-number-test.true c.next_request-request.ensures.taken
          (subst (λ (o : Options). RepliesTo o F.is_alone c.loop-number.replies.version (F.sessions before) request (F.sessions after) one.0) inv.options one.1) c.reply_to.ensures.left
    ])

pub returns-clause-all : goal.returns-clause-all
returns-clause-all g c =
    let F = g.F.Front in λ all are.
    here_ends (F.options c.args.front.now) F.is_alone (c.loop-number.invariant.each all are) (omega (arith, c.loop-number-test.false))
