-- A machine reads mode, buckets, words and wear of its options, and in store mode spares. It reads no partitions, readers and tries.
use Rattle.std.proofs.Common.{◌≡◌, ℕ, List, [], ◌∷◌, ◌++◌, Bool, is_some, cond, refl, ap, ◌∙◌, subst, arith}
use Rattle.std.specs.List.{fold}
use Rattle.std.proofs.lemmas.Grind.{common_steps}
use Rattle.partition_model.specs.declared.options.Options.{Options}
use Rattle.partition_model.specs.declared.options.Mode.{Mode}
use Rattle.partition_model.specs.declared.options.Mode.TheVariants.{Cache as CacheMode, Store as StoreMode}
use Rattle.partition_model.specs.declared.write.Op.{Op}
use Rattle.partition_model.specs.declared.write.Write.{Write}
use Rattle.partition_model.specs.declared.write.Outcome.{Outcome}
use Rattle.partition_model.specs.declared.write.Outcome.TheVariants.{Worn}
use Rattle.partition_model.specs.Cache as cache
use Rattle.partition_model.specs.CacheStep as cs
use Rattle.partition_model.specs.Store as store
use Rattle.partition_model.specs.StoreStep as ss
use Rattle.partition_model.specs.History.{State, cache_state, store_state, after, start, Allows, MayGive, History, state_of}
use Rattle.partition_model.specs.Run.{RunStep, IsRunFrom, history_of}
use Rattle.partition_model.proofs.Histories.{cached_in, stored_in}

module _ (options : Options) (partitions readers tries spares : ℕ) where
  -- options with others of these
  abbrev pub with_others : Options
  with_others = record options { partitions = partitions; readers = readers; tries = tries; spares = spares }

  same_after : (now : State) (write : Write) → after with_others now write ≡ after options now write
  unfolding cs.after
  same_after (cache_state s) write = grind (arith, common_steps)
  same_after (store_state s) write = refl

  pub same_state : (history : History) → state_of with_others history ≡ state_of options history
  same_state history = ap (λ (step : State → Write → State). fold step (start options.mode) history) (λ i now write. same_after now write i)

  same_reply : (op : Op) (write : Write) (found : Bool) → cs.reply_of op with_others write found ≡ cs.reply_of op options write found
  same_reply op write found = grind (arith, common_steps)

  module _ (same : spares ≡ options.spares) (s : store.Store) (write : Write) where
    allows : (outcome : Outcome) → ss.Allows with_others s write outcome → ss.Allows options s write outcome
    allows outcome h = grind (arith, common_steps)

  module _ (same : options.mode ≡ StoreMode → spares ≡ options.spares) where
    pub same_may_give : (history : History) (write : Write) (outcome : Outcome) → MayGive with_others history write outcome → MayGive options history write outcome
    unfolding cs.reply
    same_may_give history write outcome h = by_mode options.mode refl
      where
        by_mode : (mode : Mode) → options.mode ≡ mode → MayGive options history write outcome
        by_mode CacheMode mode =
            let at = cached_in options mode history in
            let reply = subst (λ (z : State). Allows with_others z write outcome) (same_state history ∙ at.1) h in
            rw at.1 (reply ∙ ap (cond (cs.is_worn options at.0) Worn) (same_reply write.op write (is_some (cache.record_of at.0 write.key))))
        by_mode StoreMode mode =
            let at = stored_in options mode history in
            rw at.1 (allows (same mode) at.0 write outcome (subst (λ (z : State). Allows with_others z write outcome) (same_state history ∙ at.1) h))

    pub same_run : (history : History) (steps : List RunStep) → IsRunFrom with_others history steps → IsRunFrom options history steps
    same_run history [] run = tt
    same_run history (step ∷ steps) run =
        grind (arith, common_steps, same_may_give history step.write step.outcome run.0, same_state (history ++ history_of (step ∷ [])), same_run (history ++ history_of (step ∷ [])) steps run.2)
