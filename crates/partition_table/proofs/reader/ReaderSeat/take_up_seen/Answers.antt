use Rattle.std.proofs.Common.{ap, ◌∙◌, rules}
use Rattle.partition_words.specs.Joins.{told}
use Rattle.partition_table.specs.Rule.{Seated, reader_in}
use Rattle.partition_table.proofs.Steps.{reader_joins, met_reads}
use Rattle.partition_table.proofs.reader.ReaderSeat.take_up_seen.Goals as goal

pub join_seat-requires : goal.join_seat-requires
join_seat-requires c = (search rules, search rules, search rules, search rules, reader_joins _ c.take_up.new.self.seat.me.0 _ c.note-seen.result.seat.me.0 c.take_up.new.self.reads c.note-seen.result.reads)

pub returns-clause-state : goal.returns-clause-state
returns-clause-state c =
    ap (λ (z : Seated). reader_in z.0) c.join_seat.ensures.2 ∙ (met_reads c.take_up.new.self.seat.me.0 c.note-seen.result.seat.me.0 c.take_up.new.self.reads).1
    ∙ (λ i. told (c.take_up.ensures.state i) (c.note-seen.ensures.note i))
