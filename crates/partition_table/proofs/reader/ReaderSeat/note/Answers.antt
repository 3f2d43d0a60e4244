use Rattle.std.proofs.Common.{rules, inr}
use Rattle.partition_table.proofs.Steps.{splits}
use Rattle.partition_table.proofs.reader.ReaderSeat.note.Goals as goal

pub split_seat-seat-requires : goal.split_seat-seat-requires
split_seat-seat-requires c = (search rules, search rules, splits _ c.args.self.now.seat.me.0 (inr c.args.self.now.reads))
