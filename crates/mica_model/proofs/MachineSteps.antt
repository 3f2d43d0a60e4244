-- Accepted writes, by the fields of the machine.
use Rattle.std.proofs.Common.{◌≡◌, ℕ, List, ◌+◌, ◌<◌, ◌≤◌, ◌⊎◌, ⊎_elim, None, refl, sym, ap, ◌∙◌, subst, arith}
use Rattle.std.proofs.Math.Nat.{mod-lt, one-le-pow}
use Rattle.std.specs.FinMap.{get, insert, remove}
use Rattle.std.proofs.lemmas.Grind.{common_steps}
use Rattle.mica_words.specs.declared.hashing.Hashing.{Hashing}
use Rattle.mica_words.specs.Hash.{hash_of, bucket_of}
use Rattle.mica_words.specs.Item.{item_size}
use Rattle.partition_model.specs.declared.options.Options.{Options}
use Rattle.partition_model.specs.declared.write.Op.{Op}
use Rattle.partition_model.specs.declared.write.Op.TheVariants.{Put, Add, Del, Touch}
use Rattle.partition_model.specs.declared.write.Outcome.{Outcome}
use Rattle.partition_model.specs.declared.write.Outcome.TheVariants.{Stored, Deleted, Absent, Touched}
use Rattle.partition_model.specs.declared.write.Write.{Write}
use Rattle.mica_model.specs.declared.store_machine.StoreMachine.TheInside.{Inside}
use Rattle.partition_model.specs.Write.{GivesValue, write_of}
use Rattle.partition_model.specs.Store.{Store, rooms, spares_in_use}
use Rattle.partition_model.specs.StoreStep.{Allows, after, room_after}
use Rattle.mica_model.specs.CellTable.{Table, with_cells}
use Rattle.mica_model.specs.StoreMachineFields.{IsMachine}
use Rattle.partition_model.specs.History.{IsStep, store_state}
use Rattle.partition_model.proofs.CellSums.{remove_none}
use Rattle.mica_model.proofs.StoreSteps.{put_state, put_rooms, put_spares, delete_rooms, delete_spares}

-- the machine with another table, after an accepted write
abbrev pub accepting : Inside → Table → Inside
accepting a table = record { options = a.options; table = table; stamp = a.stamp + 1; accepted = a.accepted + 1 }

abbrev pub store_of : Inside → Store
store_of a = record { cells = a.table.cells; stamp = a.stamp; accepted = a.accepted }

-- a partition that replies so is not worn
pub is_alive : (options : Options) (s : Store) (write : Write) (outcome : Outcome) → (outcome ≡ Absent) ⊎ (outcome ≡ Touched) → Allows options s write outcome
    → ¬ (options.wear ≤ s.accepted)
is_alive options s write outcome which allowed = grind (arith, common_steps)

bucket_within : (hashing : Hashing) (key : List ℕ) (buckets : ℕ) → 0 < buckets → bucket_of hashing key buckets < buckets
unfolding bucket_of
bucket_within hashing key buckets some = mod-lt (hash_of hashing key) some

module _ (a : Inside) (m : IsMachine a) (op : Op) (key value : List ℕ) where
  within : bucket_of a.options.hashing key a.options.buckets < a.options.buckets
  within = bucket_within a.options.hashing key a.options.buckets (subst (λ n. 0 < n) (sym m.valid.buckets.2) (let one = one-le-pow m.valid.buckets.0 2 (omega arith) in omega arith))

  module _ (allowed : Allows a.options (store_of a) (write_of op key value) Stored) (room : ℕ) (takes : room ≡ room_after (get a.table.cells key) (item_size key value))
      (table : Table) (new : table ≡ with_cells a.table (insert a.table.cells key (record { value = value; room = room }))) where
    pub put_keeps : IsMachine (accepting a table)
    put_keeps =
        let words = put_rooms a.options (store_of a) op key value room takes allowed.1.1 m.words in
        let spares = put_spares a.options (store_of a) op key value room takes within allowed.1.1 m.spares in
        let alive = allowed.0 in
        record {
          valid = m.valid;
          hashing = ap (λ (t : Table). t.hashing) new ∙ m.hashing;
          buckets = ap (λ (t : Table). t.buckets) new ∙ m.buckets;
          words = subst (λ (t : Table). rooms t.cells ≤ a.options.words) (sym new) words;
          spares = subst (λ (t : Table). spares_in_use a.options.hashing a.options.buckets t.cells ≤ a.options.spares) (sym new) spares;
          stamp = ap (λ n. n + 1) m.stamp;
          accepted = omega arith;
        }

    pub put_steps : IsStep a.options (store_state (store_of a)) (write_of op key value) Stored (store_state (store_of (accepting a table)))
    put_steps = grind (arith, common_steps, put_state a.options (store_of a) op key value room takes op allowed.1.0.0)

  module _ (allowed : Allows a.options (store_of a) (write_of op key value) Deleted) (table : Table) (new : table ≡ with_cells a.table (remove a.table.cells key)) where
    pub delete_keeps : IsMachine (accepting a table)
    delete_keeps =
        let words = delete_rooms (store_of a) key in
        let alive = allowed.0 in
        let bound = m.words in
        let less : rooms (remove a.table.cells key) ≤ a.options.words = omega arith in
        record {
          valid = m.valid;
          hashing = ap (λ (t : Table). t.hashing) new ∙ m.hashing;
          buckets = ap (λ (t : Table). t.buckets) new ∙ m.buckets;
          words = subst (λ (t : Table). rooms t.cells ≤ a.options.words) (sym new) less;
          spares = subst (λ (t : Table). spares_in_use a.options.hashing a.options.buckets t.cells ≤ a.options.spares) (sym new) (delete_spares a.options (store_of a) key within m.spares);
          stamp = ap (λ n. n + 1) m.stamp;
          accepted = omega arith;
        }

    delete_state : after (store_of a) (write_of Del key value) ≡ record { cells = remove a.table.cells key; stamp = a.stamp + 1; accepted = a.accepted + 1 }
    unfolding after
    delete_state = refl

    pub delete_steps : IsStep a.options (store_state (store_of a)) (write_of op key value) Deleted (store_state (store_of (accepting a table)))
    delete_steps = grind (arith, common_steps, delete_state)

  -- a write that changes no key: a touch, or a delete of a key that is not there
  pub stay_keeps : ¬ (a.options.wear ≤ a.accepted) → IsMachine (accepting a a.table)
  stay_keeps alive = grind (arith, common_steps)

  stay_state : (op_ : Op) → (op_ ≡ Touch) ⊎ (¬ (GivesValue op_) × (get a.table.cells key ≡ None)) → after (store_of a) (write_of op_ key value) ≡ store_of (accepting a a.table)
  unfolding after
  stay_state Put which = ⊎_elim (λ is. cc) (λ none. absurd (none.0 tt)) which
  stay_state Add which = ⊎_elim (λ is. cc) (λ none. absurd (none.0 tt)) which
  stay_state Del which = grind (arith, common_steps, ⊎_elim, remove_none)
  stay_state Touch which = refl

  pub stay_steps : (outcome : Outcome) → (outcome ≡ Absent) ⊎ (outcome ≡ Touched) → Allows a.options (store_of a) (write_of op key value) outcome
      → IsStep a.options (store_state (store_of a)) (write_of op key value) outcome (store_state (store_of (accepting a a.table)))
  stay_steps outcome which allowed = grind (arith, common_steps, ⊎_elim, stay_state op)
