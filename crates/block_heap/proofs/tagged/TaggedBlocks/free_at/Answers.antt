use Rattle.std.proofs.Common.{List, ◌≡◌, ◌∷◌, ◌++◌, refl, ap, ◌∙◌, arith, subst, sym}
use Rattle.block_heap.specs.declared.block.Block.{Block}
use Rattle.block_heap.specs.Blocks.{free_block, BeginsFree, Fills}
use Rattle.block_heap.proofs.Order.{from-le-end}
use Rattle.block_heap.proofs.Places.{free_is}
use Rattle.block_heap.proofs.TagLaws.{FirstTold, first_told, read_size, read_used, read_free, used_not_free, after_fills, none_behind}
use Rattle.block_heap.proofs.tagged.TaggedBlocks.free_at.Goals as goal
use Rattle.block_heap.proofs.tagged.TaggedBlocks.free_at.Goals.{After-tag-first}

pub returns-then-place-words : goal.returns-then-place-words
returns-then-place-words c = λ before after whole here.
    let end : c.self.inside.row.0 ≡ c.args.place = sym c.words.ensures.words ∙ sym c.if-place-words.true in
    none_behind c.args.place after (subst (λ n. Fills c.args.place after n) end (after_fills c.self.inside.row.0 c.self.inside.row.1 _ before after c.args.place c.self.invariant (ap (λ v. v.0) c.self.view_is ∙ whole) here))

abbrev first : (c : After-tag-first) (before after : List Block) → c.args.self.now.0 ≡ before ++ after → Fills 0 before c.args.place → FirstTold c.self.inside.row.1 after c.args.place
first c before after whole here =
    let le = from-le-end c.args.place c.self.inside.row.0 after (after_fills c.self.inside.row.0 c.self.inside.row.1 _ before after c.args.place c.self.invariant (ap (λ v. v.0) c.self.view_is ∙ whole) here) in
    let words = c.words.ensures.words in
    first_told c.self.inside.row.0 c.self.inside.row.1 _ before after c.args.place c.self.invariant (ap (λ v. v.0) c.self.view_is ∙ whole) here (omega (arith, c.if-place-words.false))

pub returns-then-first-lt2 : goal.returns-then-first-lt2
returns-then-first-lt2 c = λ before after whole here begins.
    let f = first (goal.at.returns-then-first-lt2 c).After-tag-first before after whole here in
    used_not_free f.first.used (read_used c.self.inside.row.1 c.args.place c.tag-first.result f.first.size f.first.used f.tag c.tag-first.ensures c.if-first-lt2.true) (subst BeginsFree f.split begins)

pub returns : goal.returns
returns c = λ before after whole here.
    let f = first (goal.at.returns c).After-tag-first before after whole here in
    let size = c.size_in.ensures ∙ read_size c.self.inside.row.1 c.args.place c.tag-first.result f.first.size f.first.used f.tag c.tag-first.ensures in
    let free = read_free c.self.inside.row.1 c.args.place c.tag-first.result f.first.size f.first.used f.tag c.tag-first.ensures c.if-first-lt2.false in
    let block : f.first ≡ c.free.result = free_is f.first free ∙ ap (λ p. free_block p f.first.size) f.here ∙ ap (λ n. free_block c.args.place n) (sym size) ∙ sym c.free.ensures in
    (f.back, f.split ∙ ap (λ b. b ∷ f.back) block, rw c.free.ensures refl)
