use Rattle.std.proofs.Common.{ap, ◌∙◌}
use Rattle.partition_words.specs.declared.state.OwnerState.{OwnerState}
use Rattle.core_tests.proofs.MarkedPut.{can_put_item}
use Rattle.core_tests.proofs.Storing.{may_put_entry, stored}
use Rattle.core_tests.proofs.Ending.{may_end}
use Rattle.core_tests.proofs.cache_put.finish_put.Goals as goal

pub write_item-requires-clause-allowed : goal.write_item-requires-clause-allowed
write_item-requires-clause-allowed g c = can_put_item (g.W.OwnerWords.owner c.args.words.now) c.requires

pub put_entry-requires : goal.put_entry-requires
put_entry-requires g c = may_put_entry (g.W.OwnerWords.owner c.args.words.now) c.requires
    (g.W.OwnerWords.owner c.write_item.new.words) c.write_item.ensures.events

pub end_write-requires : goal.end_write-requires
end_write-requires g c =
    may_end (g.W.OwnerWords.owner c.put_entry.new.self)
    (stored (g.W.OwnerWords.owner c.args.words.now) c.requires (g.W.OwnerWords.owner c.write_item.new.words) c.write_item.ensures.events
    c.write_item.ensures.kept (g.W.OwnerWords.owner c.put_entry.new.self) c.put_entry.ensures.event c.put_entry.ensures.kept)

pub returns : goal.returns
returns g c =
    ap (λ (z : OwnerState). z.shape) c.end_write.ensures.event
    ∙ (stored (g.W.OwnerWords.owner c.args.words.now) c.requires (g.W.OwnerWords.owner c.write_item.new.words) c.write_item.ensures.events
    c.write_item.ensures.kept (g.W.OwnerWords.owner c.put_entry.new.self) c.put_entry.ensures.event c.put_entry.ensures.kept).shape
