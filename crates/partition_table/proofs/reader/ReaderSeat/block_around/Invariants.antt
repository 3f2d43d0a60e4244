use Rattle.std.proofs.Common.{◌≡◌, length, take}
use Rattle.partition_words.specs.ReaderState.{loaded_items}
use Rattle.partition_table.specs.Seats.{reader_state, reader_home}
use Rattle.partition_table.proofs.reader.ReaderSeat.block_around.Given as goal

-- the words so far
abbrev pub invariant-loop-i : goal.invariant-loop-i
invariant-loop-i l = record {
  event : reader_state l.self ≡ loaded_items l.offset (take l.i l.block) (reader_state l.fn.self);
  wide : length l.block ≡ 8;
  home : reader_home l.self ≡ reader_home l.fn.self;
}
