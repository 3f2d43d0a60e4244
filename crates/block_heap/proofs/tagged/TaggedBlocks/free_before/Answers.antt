use Rattle.std.proofs.Common.{List, ◌-◌, ◌≡◌, ◌∷◌, ◌++◌, [], refl, ap, ◌∙◌, arith, subst, sym}
use Rattle.block_heap.specs.declared.block.Block.{Block}
use Rattle.block_heap.specs.Blocks.{free_block, Fills, words_of}
use Rattle.block_heap.specs.Tags.{EndsFree}
use Rattle.block_heap.proofs.Places.{free_is}
use Rattle.block_heap.proofs.TagLaws.{LastTold, last_told, words_told, read_size, read_used, read_free, ends_last, used_not_free, no_words}
use Rattle.block_heap.proofs.tagged.TaggedBlocks.free_before.Goals as goal
use Rattle.block_heap.proofs.tagged.TaggedBlocks.free_before.Goals.{After-tag-last}

pub returns-then-place-eq0 : goal.returns-then-place-eq0
returns-then-place-eq0 c = λ before after whole here. no_words 0 before (subst (λ n. Fills 0 before n) c.if-place-eq0.true here)

abbrev last : (c : After-tag-last) (before after : List Block) → c.args.self.now.0 ≡ before ++ after → Fills 0 before c.args.place → LastTold c.self.inside.row.1 before c.args.place
last c before after whole here =
    let all = words_told c.self.inside.row.0 c.self.inside.row.1 _ c.self.invariant in
    let same = ap (λ v. words_of v.0) c.self.view_is in
    let within = c.requires.within in
    last_told c.self.inside.row.0 c.self.inside.row.1 _ before after c.args.place c.self.invariant (ap (λ v. v.0) c.self.view_is ∙ whole) here (omega arith) (omega arith)

pub returns-then-last-lt2 : goal.returns-then-last-lt2
returns-then-last-lt2 c = λ before after whole here ends.
    let l = last (goal.at.returns-then-last-lt2 c).After-tag-last before after whole here in
    used_not_free l.last.used (read_used c.self.inside.row.1 (c.args.place - 1) c.tag-last.result l.last.size l.last.used l.tag c.tag-last.ensures c.if-last-lt2.true) (ends_last l.front l.last (subst EndsFree l.split ends))

pub overflow_sub-place-2 : goal.overflow_sub-place-2
overflow_sub-place-2 c =
    let l = last (goal.at.overflow_sub-place-2 c).After-tag-last c.requires.seam.before c.requires.seam.after c.requires.seam.whole c.requires.seam.here in
    let ends = l.ends in
    let size = c.size_in-size.ensures ∙ read_size c.self.inside.row.1 (c.args.place - 1) c.tag-last.result l.last.size l.last.used l.tag c.tag-last.ensures in
    omega arith

pub returns : goal.returns
returns c = λ before after whole here.
    let l = last (goal.at.returns c).After-tag-last before after whole here in
    let ends = l.ends in
    let size = c.size_in-size.ensures ∙ read_size c.self.inside.row.1 (c.args.place - 1) c.tag-last.result l.last.size l.last.used l.tag c.tag-last.ensures in
    let free = read_free c.self.inside.row.1 (c.args.place - 1) c.tag-last.result l.last.size l.last.used l.tag c.tag-last.ensures c.if-last-lt2.false in
    let place : l.last.place ≡ c.args.place - c.size_in-size.result = omega arith in
    let block : l.last ≡ c.free.result = free_is l.last free ∙ ap (λ p. free_block p l.last.size) place ∙ ap (λ n. free_block (c.args.place - c.size_in-size.result) n) (sym size) ∙ sym c.free.ensures in
    (l.front, l.split ∙ ap (λ b. l.front ++ b ∷ []) block, rw c.free.ensures refl)
