use Rattle.std.proofs.Common.{arith}
use Rattle.saved_items.proofs.Streams.{rest_splits}
use Rattle.saved_items.proofs.stream.give.Goals as goal

pub returns-clause-rest : goal.returns-clause-rest
returns-clause-rest c =
    let to = c.place_behind-to.ensures in
    rest_splits c.args.reader.now.at c.place_behind-to.result 65528 c.args.reader.now.block.items (omega (arith, to.some)) to.within
