use Rattle.std.proofs.Common.{refl}
use Rattle.partition_model.specs.declared.write.Outcome.TheVariants.{Worn}
use Rattle.partition_model.specs.Write.{write_of}
use Rattle.mica_model.proofs.StoreReplies.{worn_in}
use Rattle.mica_model.proofs.store_machine.StoreMachine.outcome_of.Goals as goal

pub returns-then-is_worn-clause-allowed : goal.returns-then-is_worn-clause-allowed
returns-then-is_worn-clause-allowed c =
    let m = c.args.self.now in
    (worn_in m.options m.state (write_of c.args.op c.args.key.now c.args.value.now) (c.if-is_worn.ensures.0 refl) Worn).0 refl

pub returns-in-Del-clause-choice : goal.returns-in-Del-clause-choice
returns-in-Del-clause-choice c = c.outcome_without_value.ensures.choice c.args.value.now
