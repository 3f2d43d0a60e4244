use Rattle.std.proofs.Common.{subst}
use Rattle.partition_words.specs.declared.shape.Shape.{Shape}
use Rattle.partition_words.specs.Shape.{IsMain}
use Rattle.partition_table.proofs.owner.OwnerSeatOwnerWords.begin_write.Goals as goal

pub add_as-requires-clause-main : goal.add_as-requires-clause-main
add_as-requires-clause-main c = subst (λ (z : Shape). IsMain z c.args.bucket) c.args.self.now.shaped c.requires.main
