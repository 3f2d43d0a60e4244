use Rattle.std.proofs.Common.{[], ◌∷◌, ◌++◌, refl, sym, ap, ◌∙◌}
use Rattle.partition_words.specs.declared.reader.ReaderState.{ReaderState}
use Rattle.owner_queue.specs.AckEnds.{AckBox, ack_box}
use Rattle.mica_serve.proofs.worker.OwnerTask.lend.Goals as goal

pub returns : goal.returns
returns g c =
    let old = c.args.self.now in
    let seat = c.in_ok-seat.ensures in
    let ends = c.in_ok-answers.ensures in
    let acks = c.in_ok-push.ensures.items ∙ ap (λ (b : AckBox). old.acks.items ++ b ∷ []) (ends.sender ∙ sym ends.receiver) in
    record {
      same = λ i. record { state = seat.same i; table = seat.home i; jobs = old.jobs; acks = acks i };
      seat = seat.lent.0;
      table = seat.lent.1;
      unanswered = refl;
      jobs = refl;
      acks = ends.receiver ∙ (λ i. ack_box c.in_ok-answers.answered.queue (seat.lent.1 i) (ap (λ (r : ReaderState). r.shape) seat.lent.0 i) []);
    }
