use Rattle.std.proofs.Common.{rules, inl}
use Rattle.partition_table.proofs.Steps.{splits}
use Rattle.partition_table.proofs.owner.OwnerSeatLendWords.lend.Goals as goal

pub split_seat-seat-requires : goal.split_seat-seat-requires
split_seat-seat-requires c = (search rules, search rules, splits _ c.args.self.now.seat.me.0 (inl c.args.self.now.owns))
