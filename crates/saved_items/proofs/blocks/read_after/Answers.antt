use Rattle.std.proofs.Common.{arith}
use borrow.Rule.Slice.PartMut.{take_put}
use Rattle.saved_items.proofs.blocks.read_after.Goals as goal

pub returns-clause-front : goal.returns-clause-front
returns-clause-front g c = take_put _ _ c.args.block.now _ (omega (arith, c.requires.room))
