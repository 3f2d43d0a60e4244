use Rattle.std.proofs.Common.{ℕ, ◌%◌, ap, ◌∙◌, subst, sym}
use Rattle.std.specs.Prelude.{nat_lt}
use Rattle.block_heap.specs.Tags.{IsTagged}
use Rattle.block_heap.proofs.TagLaws.{ends_written}
use Rattle.block_heap.proofs.tagged.tag_ends.Goals as goal

pub returns-clause-here : goal.returns-clause-here
returns-clause-here c =
    subst (λ (n : ℕ). IsTagged n c.set.new.self.1 c.args.block) (sym c.set.ensures.words)
    (ends_written c.tag_last.new.row.0 c.args.tag c.tag_last.new.row.1 c.set.new.self.1 c.args.block (ap (λ n. (n, nat_lt (c.args.tag % 4) 2)) c.requires.size ∙ ap (λ u. (c.args.block.size, u)) c.requires.used) c.tag_last.ensures.last
    c.set.ensures.here c.set.ensures.others)
