-- The outcomes that a machine may give are those that a report may have.
use Rattle.std.proofs.Common.{sym, subst, cond, true, false, Bool, arith}
use Rattle.std.proofs.lemmas.Grind.{common_steps}
use Rattle.partition_model.specs.declared.options.Options.{Options}
use Rattle.partition_model.specs.declared.write.Op.{Op}
use Rattle.partition_model.specs.declared.write.Op.TheVariants.{Put as PutOp, Add as AddOp, Touch as TouchOp, Del as DelOp}
use Rattle.partition_model.specs.declared.write.Write.{Write}
use Rattle.partition_model.specs.declared.write.Outcome.{Outcome}
use Rattle.partition_model.specs.declared.write.Outcome.TheVariants.{Stored, Deleted, Absent, Touched, FullSpare, FullBlock, Worn, Exists}
use Rattle.partition_model.specs.Write.{GivesValue}
use Rattle.partition_model.specs.CacheStep as cs
use Rattle.partition_model.specs.History.{State, cache_state, store_state, Allows}
use Rattle.mica_trace.specs.ReportGrammar.{HasOutcome}

-- each operation may find the partition worn
worn : (op : Op) → HasOutcome op Worn
worn PutOp = tt
worn AddOp = tt
worn TouchOp = tt
worn DelOp = tt

-- one that gives a value may have each reply to a write that is to store its item
item_outcome : (op : Op) → GivesValue op → (fits : Bool) → HasOutcome op (cond fits Stored FullBlock)
item_outcome PutOp gives true = tt
item_outcome PutOp gives false = tt
item_outcome AddOp gives true = tt
item_outcome AddOp gives false = tt
item_outcome TouchOp gives fits = absurd gives
item_outcome DelOp gives fits = absurd gives

-- one that gives a value may find no spare for its key
lacks_spare : (op : Op) → GivesValue op → HasOutcome op FullSpare
lacks_spare PutOp gives = tt
lacks_spare AddOp gives = tt
lacks_spare TouchOp gives = absurd gives
lacks_spare DelOp gives = absurd gives

-- one that gives none may find its key absent
absent : (op : Op) → ¬ (GivesValue op) → HasOutcome op Absent
absent PutOp none = absurd (none tt)
absent AddOp none = absurd (none tt)
absent TouchOp none = tt
absent DelOp none = tt

-- the outcomes that a machine may give are those that the operation may have
pub has_outcome : (options : Options) (now : State) (write : Write) (outcome : Outcome) → Allows options now write outcome → HasOutcome write.op outcome
unfolding cs.reply
has_outcome options (cache_state s) write outcome allowed = grind (arith, common_steps)
has_outcome options (store_state s) write Stored allowed = item_outcome write.op allowed.1.0.0 true
has_outcome options (store_state s) write FullSpare allowed = lacks_spare write.op allowed.1.0
has_outcome options (store_state s) write FullBlock allowed = item_outcome write.op allowed.1.0.stores.0 false
has_outcome options (store_state s) write Deleted allowed = subst (λ op. HasOutcome op Deleted) (sym allowed.1.0) tt
has_outcome options (store_state s) write Touched allowed = subst (λ op. HasOutcome op Touched) (sym allowed.1.0) tt
has_outcome options (store_state s) write Exists allowed = subst (λ op. HasOutcome op Exists) (sym allowed.1.0) tt
has_outcome options (store_state s) write Absent allowed = absent write.op allowed.1.0
has_outcome options (store_state s) write Worn allowed = worn write.op
