use Rattle.std.proofs.Common.{◌≡◌, ℕ, ◌+◌, ◌*◌, ◌/◌, ◌<◌, ◌≤◌, ◌⊎◌, inl, inr, length, get_or, refl, sym, ap, ◌∙◌, arith}
use Rattle.std.proofs.lemmas.Bool.{cases_lt}
use Rattle.block_heap.specs.Marks.{mark_at}
use Rattle.block_heap.proofs.Marking.{own_next, own_none, word_first, word_none}
use Rattle.block_heap.proofs.marks.Marks.next_above.Goals as goal

pub returns-then-later-ne0-clause-some : goal.returns-then-later-ne0-clause-some
returns-then-later-ne0-clause-some c =
    own_next c.args.self.now (ap length (sym c.self.view_is) ∙ c.self.invariant) (c.args.at / 64) c.index.result.now (omega arith) (c.index.ensures ∙ ap (λ xs. get_or xs (c.args.at / 64) c.index.result.now) c.self.view_is)
    c.args.at refl (omega arith) c.if-later-ne0.true

pub loop-word-init : goal.loop-word-init
loop-word-init c = λ next lt few.
    own_none c.args.self.now (ap length (sym c.self.view_is) ∙ c.self.invariant) (c.args.at / 64) c.index.result.now (omega arith) (c.index.ensures ∙ ap (λ xs. get_or xs (c.args.at / 64) c.index.result.now) c.self.view_is)
    c.args.at next refl c.if-later-ne0.false lt few

pub returns-then-bits-ne0-clause-some : goal.returns-then-bits-ne0-clause-some
returns-then-bits-ne0-clause-some c =
    let first = word_first c.args.self.now (ap length (sym c.self.view_is) ∙ c.self.invariant) c.loop-word.word c.index-bits.result.now c.loop-word-test.true
    (c.index-bits.ensures ∙ ap (λ xs. get_or xs c.loop-word.word c.index-bits.result.now) c.self.view_is) (omega arith) c.if-bits-ne0.true in
    ((let behind = c.loop-word.auto.word in omega arith), first.0, first.1)

pub loop-word-preserved : goal.loop-word-preserved
loop-word-preserved c = λ next lt few. by next lt few (cases_lt next (64 * c.loop-word.word))
  where
    by : (next : ℕ) → c.args.at < next → next < 64 * (c.loop-word.word + 1) → (next < 64 * c.loop-word.word) ⊎ (64 * c.loop-word.word ≤ next) → mark_at c.args.self.now next ≡ 0
    by next lt few (inl before) = c.loop-word.invariant next lt before
    by next lt few (inr own) =
        word_none c.args.self.now (ap length (sym c.self.view_is) ∙ c.self.invariant) c.loop-word.word c.index-bits.result.now c.loop-word-test.true
        (c.index-bits.ensures ∙ ap (λ xs. get_or xs c.loop-word.word c.index-bits.result.now) c.self.view_is) c.if-bits-ne0.false next own few

pub returns-clause-none : goal.returns-clause-none
returns-clause-none c = λ next lt few. c.loop-word.invariant next lt (omega arith)
