use Rattle.std.proofs.Common.{◌≡◌, ◌∷◌, [], List, ℕ, sym, ap, ◌∙◌, subst}
use Rattle.std.proofs.lemmas.Result.{on_ok_weaker}
use Rattle.partition_model.specs.Answer.{IsAnswer}
use Rattle.batch_packets.specs.declared.replies.Reply.{Reply}
use Rattle.batch_packets.specs.ReplyGrammar.{IsReply}
use Rattle.batch_packets.specs.Filling.{Adds}
use Rattle.fronts.specs.Answered.{Answered, got}
use Rattle.datagram_answers.specs.Turn.{get_reply, reply_to}
use Rattle.datagram_answers.specs.Answering.{RepliesTo}
use Rattle.datagram_answers.proofs.Replying.{err_anyway, get_replied}
use Rattle.datagram_answers.proofs.deal.reply_to_get.Given as given
use Rattle.datagram_answers.proofs.deal.reply_to_get.Goals as goal
use Rattle.datagram_answers.proofs.deal.reply_to_get.Goals.{After-ticket}

module _ (g : given.Over) (c : After-ticket g) where
  abbrev answered : Answered
  answered = got c.key.result.now c.read-answer.result.1 c.read-answer.ensures.answer.0

  abbrev reply : Reply
  reply = record { status = c.get_reply-status.result.0; ticket = c.ticket.result; stamp = c.read-answer.result.1; value = c.get_reply-status.result.1.now }

  replied : RepliesTo (g.F.Front.options c.args.front.now) g.F.Front.is_alone c.args.replies.now.version (g.F.Front.sessions c.args.front.now) c.args.request.now
      (g.F.Front.sessions c.read-answer.new.self) answered
  replied =
      let F = g.F.Front in
      let options = F.options c.args.front.now in
      let old = F.sessions c.args.front.now in
      let new = F.sessions c.read-answer.new.self in
      let read = c.read-answer.ensures in
      subst (λ (version : ℕ). RepliesTo options F.is_alone version old c.args.request.now new answered) (sym c.requires.version)
      (get_replied options F.is_alone c.args.version old new c.args.request.now c.key.result.now c.read-answer.result.1 read.answer.0
      c.requires.get c.key.ensures read.answer.2 read.others)

  -- the reply that is added
  same : reply ≡ reply_to c.args.replies.now.version c.args.request.now.ticket answered
  same =
      let read = c.read-answer.ensures in
      let is = subst (λ (b : List ℕ). IsAnswer c.read-answer.result.0 b read.answer.0) (sym c.value.ensures.value) read.answer.1 in
      ap (λ (t : ℕ). record { status = c.get_reply-status.result.0; ticket = t; stamp = c.read-answer.result.1; value = c.get_reply-status.result.1.now }) c.ticket.ensures
      ∙ c.get_reply-status.ensures c.args.request.now.ticket c.read-answer.result.1 read.answer.0 is
      ∙ ap (λ (v : ℕ). get_reply v c.args.request.now.ticket c.read-answer.result.1 read.answer.0) (sym c.requires.version)

pub add-requires : goal.add-requires
add-requires g c = let z = (goal.at.add-requires g c).After-ticket in subst (λ (r : Reply). IsReply c.args.replies.now.version r) (sym (same g z)) (replied g z).is.lawful

pub returns-clause-replied : goal.returns-clause-replied
returns-clause-replied g c =
    let z = (goal.at.returns-clause-replied g c).After-ticket in
    on_ok_weaker c.add.result (λ added. record {
      answered = answered g z;
      replied = replied g z;
      added = subst (λ (r : Reply). Adds c.args.replies.now (r ∷ []) c.add.new.self) (same g z) added;
    }) c.add.ensures.added

pub returns-clause-err : goal.returns-clause-err
returns-clause-err g c = let z = (goal.at.returns-clause-err g c).After-ticket in err_anyway c.add.result (answered g z, replied g z)
