use Rattle.std.proofs.Common.{arith}
use Rattle.std.proofs.lemmas.Iterator.Adapters.{YieldsList-from_vec}
use Rattle.std.proofs.lemmas.Iterator.Consumers.{YieldsList-turn}
use Rattle.locked_server.proofs.streams.pair_streams.Goals as goal

pub push_reserved-requires : goal.push_reserved-requires
push_reserved-requires g c =
    let began = c.into_iter-share-iterator.ensures.into_iter_gives in
    let all = YieldsList-from_vec c.args.shares.items began.0 (omega (arith, began.1, c.args.shares.ok)) in
    let turn = YieldsList-turn all c.loop-share.yielded c.loop-share.share-iterator c.loop-share.yielded_by c.next.result c.next.new.self c.in-Some.share c.in-Some.is c.next.ensures.steps in
    omega (arith, turn.0, c.args.shares.ok, c.loop-share.invariant.len, c.loop-share.invariant.room)
