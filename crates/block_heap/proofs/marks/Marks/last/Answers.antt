use Rattle.std.proofs.Common.{◌≡◌, ℕ, ◌-◌, ◌*◌, ◌<◌, ◌≤◌, ◌⊎◌, inl, inr, length, get_or, sym, ap, ◌∙◌, arith}
use Rattle.std.proofs.lemmas.Bool.{cases_lt}
use Rattle.block_heap.specs.Marks.{mark_at}
use Rattle.block_heap.proofs.Marking.{word_none, word_last}
use Rattle.block_heap.proofs.marks.Marks.last.Goals as goal

pub loop-word-init : goal.loop-word-init
loop-word-init c = (omega arith, λ at least few. absurd (omega arith))

pub index-bits-requires : goal.index-bits-requires
index-bits-requires c = (let few = c.loop-word.invariant.0 in omega (arith, c.self.invariant))

pub overflow_mul-result : goal.overflow_mul-result
overflow_mul-result c = (let few = c.loop-word.invariant.0 in omega arith)

pub overflow_add-result : goal.overflow_add-result
overflow_add-result c = (let few = c.loop-word.invariant.0 in omega arith)

pub returns-then-bits-ne0-clause-some : goal.returns-then-bits-ne0-clause-some
returns-then-bits-ne0-clause-some c =
    let few = c.loop-word.invariant.0 in
    word_last c.args.self.now (ap length (sym c.self.view_is) ∙ c.self.invariant) (c.loop-word.word - 1) c.index-bits.result.now (omega arith)
    (c.index-bits.ensures ∙ ap (λ xs. get_or xs (c.loop-word.word - 1) c.index-bits.result.now) c.self.view_is) (omega arith) c.if-bits-ne0.true (λ at least most. c.loop-word.invariant.1 at (omega arith) most)

pub loop-word-preserved : goal.loop-word-preserved
loop-word-preserved c = ((let few = c.loop-word.invariant.0 in omega arith), λ at least few. by at least few (cases_lt at (64 * c.loop-word.word)))
  where
    by : (at : ℕ) → 64 * (c.loop-word.word - 1) ≤ at → at < 1152 → (at < 64 * c.loop-word.word) ⊎ (64 * c.loop-word.word ≤ at) → mark_at c.args.self.now at ≡ 0
    by at least most (inl own) =
        let few = c.loop-word.invariant.0 in
        word_none c.args.self.now (ap length (sym c.self.view_is) ∙ c.self.invariant) (c.loop-word.word - 1) c.index-bits.result.now (omega arith)
        (c.index-bits.ensures ∙ ap (λ xs. get_or xs (c.loop-word.word - 1) c.index-bits.result.now) c.self.view_is) c.if-bits-ne0.false at least (omega arith)
    by at least most (inr later) = c.loop-word.invariant.1 at later most

pub returns-clause-none : goal.returns-clause-none
returns-clause-none c = λ at few. c.loop-word.invariant.1 at (omega arith) few
