use Rattle.std.proofs.Common.{◌≡◌, ◌∙◌, true, arith, rules, length, ap, sym, ℕ, List}
use Rattle.mica_client.specs.Exchange.{lacks_answer}
use Rattle.mica_client.proofs.Running.{asks_more, asks_stop}
use Rattle.mica_client.proofs.Taking.{keeps_both, same_tickets}
use Rattle.mica_client.proofs.Fitting.{batch_some}
use Rattle.mica_client.proofs.exchange.ask_one.Goals as goal

pub receiving-preserved : goal.receiving-preserved
receiving-preserved g c =
    let i = c.receiving.invariant in
    let e = c.in-Ok.ensures in
    record {
      asks = asks_more (record { port = c.args.port; batch = c.args.batch.now }) c.args.answers.now c.receiving.answers c.receive_one.new.answers _ _ _ i.asks e.taken;
      keeps = keeps_both c.args.batch.now.requests c.args.answers.now c.receiving.answers c.receive_one.new.answers i.keeps e.keeps;
      tickets = same_tickets (sym e.keeps.len) i.tickets;
      room = omega (arith, i.room, c.receive_one.auto.room);
      ended = e.ended ∙ i.ended;
      silence = e.silence ∙ i.silence;
      faults = omega (arith, i.faults, e.never_fall);
    }

pub returns-in-Err-clause-stops : goal.returns-in-Err-clause-stops
returns-in-Err-clause-stops g c =
    let waited : lacks_answer c.receiving.answers c.args.batch.now.requests ≡ true = search rules in
    asks_stop (record { port = c.args.port; batch = c.args.batch.now }) c.args.answers.now c.receiving.answers waited _ _ _ _ c.receiving.invariant.asks c.in-Err.ensures.stops

pub send-requires : goal.send-requires
send-requires g c =
    let text = c.as_slice.ensures.value ∙ c.in_ok-write.ensures in
    let some = batch_some c.args.batch.now in
    omega (arith, ap (λ (b : List ℕ). length b) text, some)
