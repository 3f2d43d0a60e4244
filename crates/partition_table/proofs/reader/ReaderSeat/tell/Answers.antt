use Rattle.std.proofs.Common.{rules, ap, ◌∙◌}
use Rattle.partition_table.specs.Rule.{Seated, is_reader}
use Rattle.partition_table.proofs.Steps.{reader_joins, stamps_at, met_reads, told_seen, told_done}
use Rattle.partition_table.proofs.reader.ReaderSeat.tell.Goals as goal

pub join_seat-requires : goal.join_seat-requires
join_seat-requires c = (search rules, search rules, search rules, search rules, reader_joins _ c.args.self.now.seat.me.0 _ c.args.note.seat.me.0 c.args.self.now.reads c.args.note.reads)

pub load-requires : goal.load-requires
load-requires c = (
  search rules,
  search rules,
  stamps_at _ _ c.join_seat.new.seat.me
      (ap (λ (z : Seated). is_reader z.0) c.join_seat.ensures.2 ∙ (met_reads c.args.self.now.seat.me.0 c.args.note.seat.me.0 c.args.self.now.reads).0),
)

pub returns-clause-seen : goal.returns-clause-seen
returns-clause-seen c = told_seen c.args.self.now.seat.me c.join_seat.new.seat.me c.load.new.seat.me c.args.note.seat.me.0 c.load.result c.deref-2.result.now.shared.table_id.slots 0
    c.args.self.now.reads c.join_seat.ensures.2 c.load.ensures.2

pub returns-clause-done : goal.returns-clause-done
returns-clause-done c = told_done c.args.self.now.seat.me c.join_seat.new.seat.me c.load.new.seat.me c.args.note.seat.me.0 c.load.result c.deref-2.result.now.shared.table_id.slots 0
    c.args.self.now.reads c.join_seat.ensures.2 c.load.ensures.2
