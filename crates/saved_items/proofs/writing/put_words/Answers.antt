use Rattle.std.proofs.Common.{take, sym, subst, ◌∙◌, arith}
use Rattle.saved_items.specs.Spelling.{words_text}
use Rattle.saved_items.specs.Spiller.{PutsBytes}
use Rattle.saved_items.proofs.Puts.{Puts_then}
use Rattle.saved_items.proofs.Spilled.{words_more}
use Rattle.saved_items.proofs.writing.put_words.Goals as goal

pub loop-word-preserved : goal.loop-word-preserved
loop-word-preserved g c =
    let so_far = c.loop-word.invariant in
    let i = c.loop-word.word-index in
    let words = c.args.words.now in
    let t₀ = g.K.Sink.taken c.args.sink.now in
    let t₁ = g.K.Sink.taken c.loop-word.sink in
    let t₂ = g.K.Sink.taken c.put_bytes.new.sink in
    let s₀ = c.args.spiller.now in
    let s₁ = c.loop-word.spiller in
    let s₂ = c.put_bytes.new.spiller in
    record {
      rises = omega (arith, c.put_bytes.ensures.never_fall, so_far.rises);
      close = c.put_bytes.ensures.close ∙ so_far.close;
      put = subst (PutsBytes t₀ t₂ s₀ s₂) (sym (words_more words i c.to_le_bytes.result (omega arith) c.to_le_bytes.ensures))
          (Puts_then t₀ t₁ t₂ s₀.sum s₁.sum s₂.sum s₀.held.items s₁.held.items s₂.held.items (words_text (take i words)) c.to_le_bytes.result so_far.put c.in_ok-put_bytes.ensures.puts);
    }
