use Rattle.std.proofs.Common.{rules}
use Rattle.partition_words.proofs.Blocks.{block_more}
use Rattle.partition_words.proofs.reading.ReaderWords.item_block.Goals as goal

pub loop-i-preserved : goal.loop-i-preserved
loop-i-preserved g c =
    let reader = g.Self.ReaderWords.reader in record {
      event = block_more c.args.offset c.loop-i.i c.item_word.result c.loop-i.block (reader c.args.self.now) (reader c.loop-i.self) (reader c.item_word.new.self)
          c.loop-i.invariant.event c.item_word.ensures.event (search rules);
      wide = search rules;
      home = search rules;
      plan = search rules;
    }
