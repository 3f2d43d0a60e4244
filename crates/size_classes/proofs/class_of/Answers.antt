use Rattle.std.proofs.Common.{arith}
use Rattle.size_classes.proofs.Rising.{rises, class_large, five_bits}
use Rattle.size_classes.proofs.class_of.Goals as goal

pub overflow_sub-class : goal.overflow_sub-class
overflow_sub-class c = five_bits c.args.words (omega arith) (omega arith)

pub overflow_sub-class-2 : goal.overflow_sub-class-2
overflow_sub-class-2 c = (let five = five_bits c.args.words (omega arith) (omega arith) in omega arith)

pub returns-clause-never_falls : goal.returns-clause-never_falls
returns-clause-never_falls c = λ fewer some few. omega (arith, rises fewer c.args.words some few (omega arith), class_large c.args.words (omega arith))
