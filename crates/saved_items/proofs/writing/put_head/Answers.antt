use Rattle.std.proofs.Common.{ℕ, List, subst}
use Rattle.std.proofs.lemmas.Result.{on_ok_weaker}
use Rattle.saved_items.specs.Spelling.{words_text}
use Rattle.saved_items.specs.Spiller.{PutsBytes}
use Rattle.saved_items.proofs.Spilled.{head_saved}
use Rattle.saved_items.proofs.writing.put_head.Goals as goal

pub returns-clause-saved : goal.returns-clause-saved
returns-clause-saved g c =
    let old = g.K.Sink.taken c.args.sink.now in
    let new = g.K.Sink.taken c.put_words.new.sink in
    let before = c.args.spiller.now in
    let after = c.put_words.new.spiller in
    on_ok_weaker c.put_words.result
    (λ puts. head_saved old new before after c.args.head.now c.requires c.put_words.ensures.close (subst (λ (ws : List ℕ). PutsBytes old new before after (words_text ws)) c.head_words-words.ensures puts))
    c.put_words.ensures.puts
