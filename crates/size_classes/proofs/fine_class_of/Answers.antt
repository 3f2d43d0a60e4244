use Rattle.std.proofs.Common.{arith}
use Rattle.size_classes.proofs.Rising.{fine_rises, ten_bits}
use Rattle.size_classes.proofs.fine_class_of.Goals as goal

pub overflow_sub-class : goal.overflow_sub-class
overflow_sub-class c = ten_bits c.args.words (omega arith) (omega arith)

pub overflow_sub-class-2 : goal.overflow_sub-class-2
overflow_sub-class-2 c = (let ten = ten_bits c.args.words (omega arith) (omega arith) in omega arith)

pub returns-clause-never_falls : goal.returns-clause-never_falls
returns-clause-never_falls c = λ fewer least few. omega (arith, fine_rises fewer c.args.words least few (omega arith))
