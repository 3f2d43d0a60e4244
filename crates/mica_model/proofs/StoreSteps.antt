-- Steps of the store, by the fields of the machine.
use Rattle.std.proofs.Common.{◌≡◌, ℕ, List, ◌+◌, ◌%◌, ◌<◌, ◌≤◌, ◌⊎◌, ⊎_elim, Option, Some, None, refl, sym, ap, subst, arith}
use Rattle.std.specs.Prelude.{max, IsSomeAnd}
use Rattle.std.specs.FinMap.{get, insert, remove}
use Rattle.std.proofs.lemmas.Bool.Decides.{eqb_tells}
use Rattle.std.proofs.lemmas.Grind.{common_steps}
use Rattle.mica_words.specs.declared.entry.TheConstants.{SLOTS}
use Rattle.mica_words.specs.Hash.{bucket_of}
use Rattle.mica_words.specs.Item.{item_size}
use Rattle.partition_model.specs.declared.options.Options.{Options}
use Rattle.partition_model.specs.declared.write.Op.{Op}
use Rattle.partition_model.specs.declared.write.Op.TheVariants.{Put, Add, Del, Touch}
use Rattle.partition_model.specs.Write.{GivesValue, write_of}
use Rattle.partition_model.specs.Store.{Cell, Store, room_of, rooms, keys_in, spares_in_use}
use Rattle.partition_model.specs.StoreStep.{FitsRoom, NeedsBlock, HasWords, room_after, after_put, after}
use Rattle.partition_model.proofs.CellSums.{rooms_insert, rooms_remove, remove_none}
use Rattle.partition_model.proofs.BucketSums.{less_here}
use Rattle.mica_model.proofs.SparesInUse.{new_spares, over_spares, less_spares}

-- a put makes no room larger than both its item and the room that the key had, nor than this where the item fits
room_most : (o : Option Cell) (size : ℕ) → room_after o size ≤ max (room_of o) size
room_most None size = omega arith
room_most (Some cell) size = grind (arith, common_steps)

room_within : (o : Option Cell) (size : ℕ) → IsSomeAnd o (λ cell. size ≤ cell.room) → room_after o size ≤ room_of o
room_within None size fits = absurd fits
room_within (Some cell) size fits = grind (arith, common_steps)

module _ (options : Options) (s : Store) (op : Op) (key value : List ℕ) (room : ℕ) (takes : room ≡ room_after (get s.cells key) (item_size key value)) where
  abbrev pub new_cell : Cell
  new_cell = record { value = value; room = room }

  put_given : after_put s (write_of op key value) ≡ record { cells = insert s.cells key new_cell; stamp = s.stamp + 1; accepted = s.accepted + 1 }
  put_given = ap (λ r. record { cells = insert s.cells key (record { value = value; room = r }); stamp = s.stamp + 1; accepted = s.accepted + 1 }) (sym takes)

  pub put_state : (op_ : Op) → GivesValue op_ → after s (write_of op_ key value) ≡ record { cells = insert s.cells key new_cell; stamp = s.stamp + 1; accepted = s.accepted + 1 }
  unfolding after
  put_state Put gives = put_given
  put_state Add gives = put_given
  put_state Del gives = absurd gives
  put_state Touch gives = absurd gives

  pub put_rooms : FitsRoom s (write_of op key value) ⊎ (NeedsBlock options s (write_of op key value) × HasWords options s (write_of op key value))
      → rooms s.cells ≤ options.words → rooms (insert s.cells key new_cell) ≤ options.words
  put_rooms may within = grind (arith, common_steps, rooms_insert s.cells key new_cell, ⊎_elim, room_within (get s.cells key) (item_size key value), room_most (get s.cells key) (item_size key value))

  module _ (within : bucket_of options.hashing key options.buckets < options.buckets) where
    new_key : get s.cells key ≡ None → NeedsBlock options s (write_of op key value) → spares_in_use options.hashing options.buckets s.cells ≤ options.spares
        → spares_in_use options.hashing options.buckets (insert s.cells key new_cell) ≤ options.spares
    new_key none needs most =
        grind (
          arith,
          common_steps,
          new_spares options.hashing options.buckets (bucket_of options.hashing key options.buckets) s.cells key refl within new_cell none,
          ⊎_elim,
          eqb_tells (spares_in_use options.hashing options.buckets s.cells) options.spares,
          eqb_tells (keys_in options.hashing options.buckets (bucket_of options.hashing key options.buckets) s.cells) 0,
          eqb_tells ((keys_in options.hashing options.buckets (bucket_of options.hashing key options.buckets) s.cells) % SLOTS) 0,
        )

    pub put_spares : FitsRoom s (write_of op key value) ⊎ (NeedsBlock options s (write_of op key value) × HasWords options s (write_of op key value))
        → spares_in_use options.hashing options.buckets s.cells ≤ options.spares → spares_in_use options.hashing options.buckets (insert s.cells key new_cell) ≤ options.spares
    put_spares may most =
        elim (get s.cells key) as (λ o. get s.cells key ≡ o → spares_in_use options.hashing options.buckets (insert s.cells key new_cell) ≤ options.spares) [
          | None ↦ λ none. ⊎_elim (λ fits. absurd (subst (λ o. IsSomeAnd o (λ cell. item_size key value ≤ cell.room)) none fits)) (λ has. new_key none has.0 most) may
          | Some old ↦ λ had. let same = over_spares options.hashing options.buckets s.cells key old new_cell had in omega arith
        ] refl

pub delete_rooms : (s : Store) (key : List ℕ) → rooms (remove s.cells key) ≤ rooms s.cells
delete_rooms s key = let all = rooms_remove s.cells key in omega arith

pub delete_spares : (options : Options) (s : Store) (key : List ℕ) → bucket_of options.hashing key options.buckets < options.buckets → spares_in_use options.hashing options.buckets s.cells ≤ options.spares
    → spares_in_use options.hashing options.buckets (remove s.cells key) ≤ options.spares
delete_spares options s key within most =
    elim (get s.cells key) as (λ o. get s.cells key ≡ o → spares_in_use options.hashing options.buckets (remove s.cells key) ≤ options.spares) [
      | None ↦ λ none. let same = ap (spares_in_use options.hashing options.buckets) (remove_none s.cells key none) in omega arith
      | Some old ↦ λ had.
          let change = less_spares options.hashing options.buckets (bucket_of options.hashing key options.buckets) s.cells key refl within old had in
          let fewer = less_here options.hashing options.buckets (bucket_of options.hashing key options.buckets) s.cells key refl within old had in
          omega arith
    ] refl
