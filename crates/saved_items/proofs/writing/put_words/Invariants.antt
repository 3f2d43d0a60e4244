use Rattle.std.proofs.Common.{◌≡◌, ◌≤◌, take}
use Rattle.saved_items.specs.Spiller.{PutsBytes}
use Rattle.saved_items.specs.Spelling.{words_text}
use Rattle.saved_items.proofs.writing.put_words.Given as goal

abbrev pub invariant-loop-word : goal.invariant-loop-word
invariant-loop-word g l = record {
  close : l.spiller.close ≡ l.fn.spiller.close;
  rises : g.K.Sink.faults l.fn.sink ≤ g.K.Sink.faults l.sink;
  put : PutsBytes (g.K.Sink.taken l.fn.sink) (g.K.Sink.taken l.sink) l.fn.spiller l.spiller (words_text (take l.word-index l.words));
}
