use Rattle.std.proofs.Common.{◌≡◌, length, take}
use Rattle.partition_words.specs.ReaderState.{loaded_items}
use Rattle.partition_words.proofs.reading.ReaderWords.item_block.Given as goal

-- the words so far
abbrev pub invariant-loop-i : goal.invariant-loop-i
invariant-loop-i g l = record {
  event : g.Self.ReaderWords.reader l.self ≡ loaded_items l.offset (take l.i l.block) (g.Self.ReaderWords.reader l.initial.self);
  wide : length l.block ≡ 8;
  home : g.Self.ReaderWords.home l.self ≡ g.Self.ReaderWords.home l.initial.self;
  plan : g.Self.ReaderWords.plan l.self ≡ g.Self.ReaderWords.plan l.initial.self;
}
