use Rattle.std.proofs.Common.{rules}
use Rattle.std.proofs.Common.{subst, sym}
use Rattle.partition_words.specs.declared.state.OwnerState.{OwnerState}
use Rattle.circular_log.specs.LogWrite.{MayRewrite}
use Rattle.circular_log.proofs.InPlace.{key_there}
use Rattle.circular_log.proofs.MarkedItem.{can_store}
use Rattle.circular_log.proofs.items.rewrite.Given.{Over}
use Rattle.circular_log.proofs.items.rewrite.Goals as goal
use Rattle.circular_log.proofs.items.rewrite.Goals.{After-read}

may : (g : Over) (c : After-read g) → MayRewrite (g.W.OwnerWords.owner c.read.new.self) c.args.offset c.args.key.now c.args.value.now
may g c = subst (λ (o : OwnerState). MayRewrite o c.args.offset c.args.key.now c.args.value.now) (sym c.read.ensures.same) c.requires.marked

pub rewrite_item-requires-clause-there : goal.rewrite_item-requires-clause-there
rewrite_item-requires-clause-there g c = key_there _ c.args.offset c.args.key.now c.args.value.now (may g (goal.at.rewrite_item-requires-clause-there g c).After-read)

pub rewrite_item-requires-clause-allowed : goal.rewrite_item-requires-clause-allowed
rewrite_item-requires-clause-allowed g c = search (rules, may, can_store)
