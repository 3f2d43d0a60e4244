use Rattle.std.proofs.Common.{arith}
use Rattle.std.proofs.lemmas.Iterator.Adapters.{YieldsList-from_vec}
use Rattle.std.proofs.lemmas.Iterator.Consumers.{YieldsList-turn}
use Rattle.locked_server.proofs.worker.part_fronts.Goals as goal

pub push_reserved-requires : goal.push_reserved-requires
push_reserved-requires g c =
    let began = c.into_iter-front-iterator.ensures.into_iter_gives in
    let all = YieldsList-from_vec c.args.fronts.items began.0 (omega (arith, began.1, c.args.fronts.ok)) in
    let turn = YieldsList-turn all c.loop-front.yielded c.loop-front.front-iterator c.loop-front.yielded_by c.next.result c.next.new.self c.in-Some.front c.in-Some.is c.next.ensures.steps in
    omega (arith, turn.0, c.args.fronts.ok, c.loop-front.invariant.ends_len, c.loop-front.invariant.ends_room)

pub push_reserved-requires-in-loop-front : goal.push_reserved-requires-in-loop-front
push_reserved-requires-in-loop-front g c =
    let began = c.into_iter-front-iterator.ensures.into_iter_gives in
    let all = YieldsList-from_vec c.args.fronts.items began.0 (omega (arith, began.1, c.args.fronts.ok)) in
    let turn = YieldsList-turn all c.loop-front.yielded c.loop-front.front-iterator c.loop-front.yielded_by c.next.result c.next.new.self c.in-Some.front c.in-Some.is c.next.ensures.steps in
    omega (arith, turn.0, c.args.fronts.ok, c.loop-front.invariant.hands_len, c.loop-front.invariant.hands_room)

pub push_reserved-requires-in-loop-front-2 : goal.push_reserved-requires-in-loop-front-2
push_reserved-requires-in-loop-front-2 g c =
    let began = c.into_iter-front-iterator.ensures.into_iter_gives in
    let all = YieldsList-from_vec c.args.fronts.items began.0 (omega (arith, began.1, c.args.fronts.ok)) in
    let turn = YieldsList-turn all c.loop-front.yielded c.loop-front.front-iterator c.loop-front.yielded_by c.next.result c.next.new.self c.in-Some.front c.in-Some.is c.next.ensures.steps in
    omega (arith, turn.0, c.args.fronts.ok, c.loop-front.invariant.answers_len, c.loop-front.invariant.answers_room)
