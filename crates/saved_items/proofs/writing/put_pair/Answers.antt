use Rattle.std.proofs.Common.{ℕ, ◌+◌, ◌%◌, ◌^◌, subst, ap, ◌∙◌}
use Rattle.saved_items.specs.Items.{pair_of}
use Rattle.saved_items.specs.Spelling.{word_text}
use Rattle.saved_items.specs.Spiller.{PutsBytes}
use Rattle.saved_items.proofs.Spilled.{pair_puts, pair_saved}
use Rattle.saved_items.proofs.writing.put_pair.Goals as goal

pub returns-clause-saves : goal.returns-clause-saves
returns-clause-saves g c =
    let pair = pair_of c.args.pair.now in
    let t₀ = g.K.Sink.taken c.args.sink.now in
    let t₁ = g.K.Sink.taken c.put_bytes.new.sink in
    let t₂ = g.K.Sink.taken c.put_bytes-2.new.sink in
    let t₃ = g.K.Sink.taken c.put_bytes-3.new.sink in
    let s₀ = c.args.spiller.now in
    let s₁ = c.put_bytes.new.spiller in
    let s₂ = c.put_bytes-2.new.spiller in
    let s₃ = c.put_bytes-3.new.spiller in
    let word : PutsBytes t₀ t₁ s₀ s₁ c.to_le_bytes.result = c.in_ok-put_bytes.ensures.puts in
    let key : PutsBytes t₁ t₂ s₁ s₂ pair.key = subst (PutsBytes t₁ t₂ s₁ s₂) c.as_slice.ensures.value c.in_ok-put_bytes-2.ensures.puts in
    let value : PutsBytes t₂ t₃ s₂ s₃ pair.value = subst (PutsBytes t₂ t₃ s₂ s₃) c.as_slice-2.ensures.value c.in_ok-put_bytes-3.ensures.puts in
    pair_saved t₀ t₃ s₀ _ pair
    (ap (λ (n : ℕ). (n + 256) % 2 ^ 64) (c.put_bytes-3.ensures.close ∙ c.put_bytes-2.ensures.close ∙ c.put_bytes.ensures.close))
    (pair_puts t₀ t₁ t₂ t₃ s₀ s₁ s₂ s₃ pair c.to_le_bytes.result (c.to_le_bytes.ensures ∙ ap word_text c.pair_word-word.ensures) word key value)
