use Rattle.std.proofs.Common.{refl}
use Rattle.partition_model.specs.Write.{write_of}
use Rattle.mica_model.proofs.StoreReplies.{worn_in}
use Rattle.mica_model.proofs.store_machine.StoreMachine.allows.Goals as goal

pub returns-then-is_worn : goal.returns-then-is_worn
returns-then-is_worn c =
    let m = c.args.self.now in
    let law = worn_in m.options m.state (write_of c.args.op c.args.key.now c.args.value.now) (c.if-is_worn.ensures.0 refl) c.args.outcome in
    (λ yes. law.0 (c.are_same.ensures.0 yes), λ allowed. c.are_same.ensures.1 (law.1 allowed))
