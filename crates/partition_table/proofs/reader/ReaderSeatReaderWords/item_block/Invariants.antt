use Rattle.std.proofs.Common.{◌≡◌, length, take, Some}
use Rattle.partition_words.specs.ReaderState.{loaded_items}
use Rattle.partition_table.specs.Laps.{BeginsBlock}
use Rattle.partition_table.specs.Seats.{reader_state, reader_home}
use Rattle.partition_table.proofs.reader.ReaderSeatReaderWords.item_block.Given as goal

-- the words so far, and where the others lie
abbrev pub invariant-loop-i : goal.invariant-loop-i
invariant-loop-i l = record {
  event : reader_state l.self ≡ loaded_items l.offset (take l.i l.block) (reader_state l.fn.self);
  wide : length l.block ≡ 8;
  first : BeginsBlock l.self.places.shape l.offset (Some l.first);
  home : reader_home l.self ≡ reader_home l.fn.self;
}
