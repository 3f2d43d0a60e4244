use Rattle.std.proofs.Common.{refl}
use Rattle.saved_items.proofs.Spilled.{closing_saved}
use Rattle.saved_items.proofs.writing.close_partition.Goals as goal

pub returns-clause-saves : goal.returns-clause-saves
returns-clause-saves g c =
    closing_saved (g.K.Sink.taken c.args.sink.now) (g.K.Sink.taken c.put_words.new.sink) c.args.spiller.now _ c.args.closing refl c.in_ok-put_words.ensures.puts
