use Rattle.std.proofs.Common.{Some, sym, ap, ◌∙◌}
use Rattle.queue_front.specs.QueueFront.{sessions_of}
use Rattle.served.specs.Ends.{EndFacts, end_facts}
use Rattle.served.proofs.FrontEnds.{runs_front, tells_still}
use Rattle.mica_serve.proofs.worker.FrontTask.run.Goals as goal

pub returns : goal.returns
returns g c =
    let facts : g.row.D.Denot → EndFacts = end_facts g.D.Datagrams in
    let old = c.new-front.result.front in
    let new = c.serve_end-self.new.front.front in
    let b = facts c.args.self.now.end in
    let a = facts c.serve_end-self.new.end in
    let served = c.serve_end-self.ensures in
    record {
      front = old;
      front_is = sym c.take.ensures.value ∙ c.in-Some.is ∙ ap Some (sym c.new-front.ensures);
      ran = record {
        new = new;
        is = c.end.ensures.front;
        options_are = served.options;
        stands = served.stands;
        ended = c.end.ensures.ended;
        run = runs_front old.options c.args.batches (record { answer = c.serve_end-self.result; old = sessions_of old.parts; new = sessions_of new.parts; left = old.left; left_after = new.left }) b a
            (record { port = served.port; never_fall = served.never_fall; tells = tells_still b.traffic a.traffic served.tells; scripted = served.script })
            served.served served.stopped served.wants served.cause served.small served.steady;
      };
    }
