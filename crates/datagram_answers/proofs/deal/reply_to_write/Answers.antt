use Rattle.std.proofs.Common.{◌≡◌, ◌∷◌, [], Some, inr, sym, ◌∙◌, subst}
use Rattle.std.proofs.lemmas.Result.{on_ok_weaker}
use Rattle.partition_model.specs.declared.write.Write.{Write}
use Rattle.partition_model.specs.Write.{write_of}
use Rattle.batch_packets.specs.declared.replies.Reply.{Reply}
use Rattle.batch_packets.specs.ReplyGrammar.{IsReply}
use Rattle.batch_packets.specs.Filling.{Adds}
use Rattle.fronts.specs.Answered.{Answered, wrote}
use Rattle.datagram_answers.specs.Turn.{reply_to}
use Rattle.datagram_answers.specs.Answering.{RepliesTo}
use Rattle.datagram_answers.proofs.Replying.{err_anyway, write_replied}
use Rattle.datagram_answers.proofs.deal.reply_to_write.Given as given
use Rattle.datagram_answers.proofs.deal.reply_to_write.Goals as goal
use Rattle.datagram_answers.proofs.deal.reply_to_write.Goals.{After-ticket}

module _ (g : given.Over) (c : After-ticket g) where
  abbrev write : Write
  write = write_of c.args.op c.key.result.now c.value.result.now

  abbrev answered : Answered
  answered = wrote (record { write = write; outcome = c.in_ok-outcome.outcome; stamp = c.in_ok-outcome.stamp })

  abbrev reply : Reply
  reply = record { status = c.status_of.result; ticket = c.ticket.result; stamp = c.in_ok-outcome.stamp; value = [] }

  replied : RepliesTo (g.F.Front.options c.args.front.now) g.F.Front.is_alone c.args.replies.now.version (g.F.Front.sessions c.args.front.now) c.args.request.now
      (g.F.Front.sessions c.write.new.self) answered
  replied =
      let F = g.F.Front in
      let written = c.in_ok-outcome.ensures in
      write_replied (F.options c.args.front.now) F.is_alone c.args.replies.now.version (F.sessions c.args.front.now) (F.sessions c.write.new.self) c.args.request.now write
      c.in_ok-outcome.outcome c.in_ok-outcome.stamp c.requires.request (c.requires.write ∙ (λ i. Some (write_of c.args.op (sym c.key.ensures i) (sym c.value.ensures i))))
      written.written written.others

  -- the reply that is added
  same : reply ≡ reply_to c.args.replies.now.version c.args.request.now.ticket answered
  same = λ i. record { status = c.status_of.ensures i; ticket = c.ticket.ensures i; stamp = c.in_ok-outcome.stamp; value = [] }

pub add-requires : goal.add-requires
add-requires g c = let z = (goal.at.add-requires g c).After-ticket in subst (λ (r : Reply). IsReply c.args.replies.now.version r) (sym (same g z)) (replied g z).is.lawful

pub returns-clause-replied : goal.returns-clause-replied
returns-clause-replied g c =
    let z = (goal.at.returns-clause-replied g c).After-ticket in
    on_ok_weaker c.add.result (λ added. record {
      answered = answered g z;
      replied = replied g z;
      added = subst (λ (r : Reply). Adds c.args.replies.now (r ∷ []) c.add.new.self) (same g z) added;
    }) c.add.ensures.added

pub returns-clause-err : goal.returns-clause-err
returns-clause-err g c = let z = (goal.at.returns-clause-err g c).After-ticket in err_anyway c.add.result (inr (answered g z, replied g z))
