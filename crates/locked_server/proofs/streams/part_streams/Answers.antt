use Rattle.std.proofs.Common.{arith}
use Rattle.std.proofs.lemmas.Iterator.Adapters.{YieldsList-from_vec}
use Rattle.std.proofs.lemmas.Iterator.Consumers.{YieldsList-turn}
use Rattle.locked_server.proofs.streams.part_streams.Goals as goal

pub push_reserved-requires : goal.push_reserved-requires
push_reserved-requires g c =
    let began = c.into_iter-stream-iterator.ensures.into_iter_gives in
    let all = YieldsList-from_vec c.args.streams.items began.0 (omega (arith, began.1, c.args.streams.ok)) in
    let turn = YieldsList-turn all c.loop-stream.yielded c.loop-stream.stream-iterator c.loop-stream.yielded_by c.next.result c.next.new.self c.in-Some.stream c.in-Some.is c.next.ensures.steps in
    omega (arith, turn.0, c.args.streams.ok, c.loop-stream.invariant.shares_len, c.loop-stream.invariant.shares_room)

pub push_reserved-requires-in-loop-stream : goal.push_reserved-requires-in-loop-stream
push_reserved-requires-in-loop-stream g c =
    let began = c.into_iter-stream-iterator.ensures.into_iter_gives in
    let all = YieldsList-from_vec c.args.streams.items began.0 (omega (arith, began.1, c.args.streams.ok)) in
    let turn = YieldsList-turn all c.loop-stream.yielded c.loop-stream.stream-iterator c.loop-stream.yielded_by c.next.result c.next.new.self c.in-Some.stream c.in-Some.is c.next.ensures.steps in
    omega (arith, turn.0, c.args.streams.ok, c.loop-stream.invariant.hands_len, c.loop-stream.invariant.hands_room)

pub push_reserved-requires-in-loop-stream-2 : goal.push_reserved-requires-in-loop-stream-2
push_reserved-requires-in-loop-stream-2 g c =
    let began = c.into_iter-stream-iterator.ensures.into_iter_gives in
    let all = YieldsList-from_vec c.args.streams.items began.0 (omega (arith, began.1, c.args.streams.ok)) in
    let turn = YieldsList-turn all c.loop-stream.yielded c.loop-stream.stream-iterator c.loop-stream.yielded_by c.next.result c.next.new.self c.in-Some.stream c.in-Some.is c.next.ensures.steps in
    omega (arith, turn.0, c.args.streams.ok, c.loop-stream.invariant.answers_len, c.loop-stream.invariant.answers_room)
