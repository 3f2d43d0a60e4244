-- Which outcomes a write to the store may have, case by case.
use Rattle.std.proofs.Common.{◌≡◌, ◌≢◌, ◌↔◌, ◌≤◌, List, ℕ, ⊎_elim, Option, None, refl, sym, ap, ◌∙◌, subst, cond, is_some, le-leb}
use Rattle.std.specs.Prelude.{IsSome, IsSomeAnd, ◌||◌}
use Rattle.std.specs.FinMap.{get}
use Rattle.std.proofs.lemmas.Bool.{false≢true}
use Rattle.partition_model.specs.declared.options.Options.{Options}
use Rattle.partition_model.specs.declared.write.Op.{Op}
use Rattle.partition_model.specs.declared.write.Op.TheVariants.{Put, Add, Del, Touch}
use Rattle.partition_model.specs.declared.write.Outcome.{Outcome}
use Rattle.partition_model.specs.declared.write.Outcome.TheVariants.{Stored, Deleted, Absent, Touched, FullSpare, FullBlock, Worn, Exists}
use Rattle.partition_model.specs.declared.write.Write.{Write}
use Rattle.partition_model.specs.Write.{GivesValue, Replaces, write_of}
use Rattle.partition_model.specs.Cache as cache
use Rattle.partition_model.specs.CacheStep as cs
use Rattle.partition_model.specs.Limits.{is_at_end}
use Rattle.partition_model.specs.Store.{Cell, Store}
use Rattle.partition_model.specs.History.{State, cache_state, store_state, accepted_in, Allows as AllowsIn}
use Rattle.partition_model.specs.StoreStep.{Allows, IsWorn, NeedsSpare, NeedsBlock, Stores}

no_cell : (P : Cell → Type 0) (o : Option Cell) → o ≡ None → IsSomeAnd o P → ⊥
no_cell P o none some = subst (λ p. IsSomeAnd p P) none some

pub when_worn : (options : Options) (s : Store) (write : Write) → IsWorn options s → (outcome : Outcome) → (outcome ≡ Worn) ↔ Allows options s write outcome
when_worn options s write worn Stored = (λ e. cc, λ a. absurd (a.0 worn))
when_worn options s write worn Deleted = (λ e. cc, λ a. absurd (a.0 worn))
when_worn options s write worn Absent = (λ e. cc, λ a. absurd (a.0 worn))
when_worn options s write worn Touched = (λ e. cc, λ a. absurd (a.0 worn))
when_worn options s write worn Exists = (λ e. cc, λ a. absurd (a.0 worn))
when_worn options s write worn FullSpare = (λ e. cc, λ a. absurd (a.0 worn))
when_worn options s write worn FullBlock = (λ e. cc, λ a. absurd (a.0 worn))
when_worn options s write worn Worn = (λ e. worn, λ a. refl)

worn_reply : (options : Options) (s : cache.Cache) (write : Write) → options.wear ≤ s.accepted → cs.reply options s write ≡ Worn
unfolding cs.reply
worn_reply options s write worn = ap (λ b. cond (b || is_at_end s.stamp) Worn (cs.reply_of write.op options write (is_some (cache.record_of s write.key)))) (le-leb options.wear s.accepted worn)

-- in both modes a worn partition replies that it is
pub worn_in : (options : Options) (now : State) (write : Write) → options.wear ≤ accepted_in now → (outcome : Outcome) → (outcome ≡ Worn) ↔ AllowsIn options now write outcome
worn_in options (cache_state s) write worn outcome = let is = worn_reply options s write worn in (λ e. e ∙ sym is, λ a. a ∙ is)
worn_in options (store_state s) write worn outcome = when_worn options s write worn outcome

no_none : (o : Option Cell) → o ≡ None → IsSome o → ⊥
no_none o none some = false≢true (subst IsSome none some)

-- an operation that gives a value is no delete and no touch, and an add is none that replaces one

no_delete : (op : Op) → GivesValue op → op ≡ Del → ⊥
no_delete op gives is = subst GivesValue is gives

no_touch : (op : Op) → GivesValue op → op ≡ Touch → ⊥
no_touch op gives is = subst GivesValue is gives

pub replaces : (op : Op) → GivesValue op → op ≢ Add → Replaces op
replaces Put gives other = tt
replaces Add gives other = absurd (other refl)
replaces Del gives other = gives
replaces Touch gives other = gives

no_add : (s : Store) (op : Op) (key value : List ℕ) → Stores s (write_of op key value) → op ≡ Add → IsSome (get s.cells key) → ⊥
no_add s op key value stores is some = ⊎_elim (λ can. subst Replaces is can) (λ none. no_none (get s.cells key) none some) stores.1

module _ (options : Options) (s : Store) (key value : List ℕ) (alive : ¬ (IsWorn options s)) where
  module _ (op : Op) (gives : GivesValue op) where
    pub of_lack : NeedsSpare options s key → (outcome : Outcome) → (outcome ≡ FullSpare) ↔ Allows options s (write_of op key value) outcome
    of_lack lacks Stored = (λ e. cc, λ a. ⊎_elim (λ fits. absurd (no_cell _ (get s.cells key) lacks.is_new fits)) (λ has. absurd (has.0.has_spare lacks)) a.1.1)
    of_lack lacks Deleted = (λ e. cc, λ a. absurd (no_delete op gives a.1.0))
    of_lack lacks Absent = (λ e. cc, λ a. absurd (a.1.0 gives))
    of_lack lacks Touched = (λ e. cc, λ a. absurd (no_touch op gives a.1.0))
    of_lack lacks FullSpare = (λ e. (alive, (gives, lacks)), λ a. refl)
    of_lack lacks FullBlock = (λ e. cc, λ a. absurd (a.1.0.has_spare lacks))
    of_lack lacks Worn = (λ e. cc, λ a. absurd (alive a))
    of_lack lacks Exists = (λ e. cc, λ a. absurd (no_none _ lacks.is_new a.1.1))

    module _ (needs : NeedsBlock options s (write_of op key value)) where
      pub of_others : (outcome : Outcome) → outcome ≢ Stored → outcome ≢ FullBlock → ¬ (Allows options s (write_of op key value) outcome)
      of_others Stored no_stored no_full a = no_stored refl
      of_others Deleted no_stored no_full a = no_delete op gives a.1.0
      of_others Absent no_stored no_full a = a.1.0 gives
      of_others Touched no_stored no_full a = no_touch op gives a.1.0
      of_others FullSpare no_stored no_full a = needs.has_spare a.1.1
      of_others FullBlock no_stored no_full a = no_full refl
      of_others Worn no_stored no_full a = alive a
      of_others Exists no_stored no_full a = no_add s op key value needs.stores a.1.0 a.1.1
