use Rattle.std.proofs.Common.{◌∙◌, [], ℕ, length, sym, ap, arith}
use Rattle.exclusive_replay.specs.LineEnds.{LineBox, line_box}
use Rattle.exclusive_replay.specs.Run.{IsMade}
use Rattle.exclusive_replay.proofs.RunParts.{zip_pushed}
use Rattle.exclusive_replay.proofs.run.make_owners.Goals as goal

pub loop-p-preserved : goal.loop-p-preserved
loop-p-preserved c =
    let queue = c.in_ok-sender.queue in
    let receiver = c.in_ok-sender.ensures.receiver in
    record {
      many = omega (arith, c.in_ok-push.ensures.len, c.loop-p.invariant.many);
      each = zip_pushed (IsMade c.args.options.now c.args.trace.now) c.loop-p.owners.items c.push.new.self.items c.loop-p.senders.items c.push-in-loop-p.new.self.items _ _
          c.in_ok-push.ensures.items c.in_ok-push-2.ensures.items c.loop-p.invariant.each (record {
            ready = record {
              lines = ap (λ (b : LineBox). b.lines) (c.queue.view_is ∙ receiver) ∙ c.len-in-loop-p.ensures;
              fresh = ap (λ (b : LineBox). b.list) (c.queue.view_is ∙ receiver);
              none = c.in_ok-with_capacity.ensures.items;
            };
            empty = c.in_ok-new.ensures;
            fresh = c.in_ok-sender.ensures.sender ∙ ap (λ (n : ℕ). line_box queue.queue n []) c.len-in-loop-p.ensures ∙ sym (ap (λ (b : LineBox). line_box b.queue (length c.args.trace.now) []) c.queue.view_is);
          });
    }
