use Rattle.partition_table.specs.Rule.{owner_in}
use Rattle.partition_table.proofs.Bounds.{marked_there}
use Rattle.partition_table.proofs.owner.OwnerSeatOwnerWords.end_write.Goals as goal

pub add_as-requires-clause-main : goal.add_as-requires-clause-main
add_as-requires-clause-main c =
    let self = c.args.self.now in
    marked_there (owner_in self.seat.me.0) self.places.shape c.args.bucket self.kept self.shaped c.requires.marked
