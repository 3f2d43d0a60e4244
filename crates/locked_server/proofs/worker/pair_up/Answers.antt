use Rattle.std.proofs.Common.{arith}
use Rattle.std.proofs.lemmas.Iterator.Adapters.{YieldsList-from_vec}
use Rattle.std.proofs.lemmas.Iterator.Consumers.{YieldsList-turn}
use Rattle.locked_server.proofs.worker.pair_up.Goals as goal

pub push_reserved-requires : goal.push_reserved-requires
push_reserved-requires g c =
    let began = c.into_iter-end-iterator.ensures.into_iter_gives in
    let all = YieldsList-from_vec c.args.ends.items began.0 (omega (arith, began.1, c.args.ends.ok)) in
    let turn = YieldsList-turn all c.loop-end.yielded c.loop-end.end-iterator c.loop-end.yielded_by c.next.result c.next.new.self c.in-Some.end c.in-Some.is c.next.ensures.steps in
    omega (arith, turn.0, c.args.ends.ok, c.loop-end.invariant.len, c.loop-end.invariant.room)
