-- Where all values are short, stamps rise by no more than a short item's words for each write.
use Rattle.std.proofs.Common.{◌≡◌, ℕ, ◌+◌, ◌*◌, ◌≤◌, List, [], ◌∷◌, length, Option, Some, None, true, false, cond, not, refl, subst, arith, eqb}
use Rattle.std.specs.List.{AllByRecursion as AllOf, count_by}
use Rattle.std.specs.Prelude.{map, fold}
use Rattle.std.proofs.lemmas.Grind.{common_steps}
use Rattle.mica_words.specs.declared.entry.TheConstants.{SLOTS}
use Rattle.mica_words.specs.Item.{KeyFits, ValueFits, item_size, largest_item}
use Rattle.partition_model.specs.declared.options.Options.{Options}
use Rattle.partition_model.specs.declared.options.Mode.{Mode}
use Rattle.partition_model.specs.declared.write.Write.{Write}
use Rattle.partition_model.specs.declared.write.Op.{Op}
use Rattle.partition_model.specs.declared.write.Op.TheVariants.{Put, Add, Touch, Del}
use Rattle.partition_model.specs.Limits.{most_short_added}
use Rattle.partition_model.specs.Write.{IsWrite, IsShort}
use Rattle.partition_model.specs.Cache as cache
use Rattle.partition_model.specs.Cache.{Record, Cache, has_key, record_of, is_live}
use Rattle.partition_model.specs.CacheStep as cs
use Rattle.partition_model.specs.CacheStep.{others, new_record, kept_record, without_first}
use Rattle.partition_model.specs.History.{History, State, cache_state, store_state, start, after, state_of}
use Rattle.partition_model.proofs.Found as found
use Rattle.partition_model.proofs.CacheKept.{here_of, live_of, left_of}
use Rattle.partition_model.proofs.Histories.{accepted_is_length}

abbrev IsShortRecord : Record → Type 0
IsShortRecord held = ValueFits held.value

-- what every state of the machine has then
record AreShort (s : Cache) : Type 0 where
  are : AllOf IsShortRecord s.records
  stamp : s.stamp ≤ s.accepted * most_short_added

-- what a write leaves, before the log passes and the index displaces
record LeavesShort (s t : Cache) : Type 0 where
  are : AllOf IsShortRecord t.records
  stamp : t.stamp ≤ s.stamp + most_short_added

-- a short item has few words
short_size : (key value : List ℕ) → KeyFits key → ValueFits value → item_size key value ≤ largest_item
short_size key value fits short = let few = fits.1 in omega arith

module _ (options : Options) (s : Cache) (all : AreShort s) (write : Write) (is : IsWrite write) (short : IsShort write) where
  appended : (value : List ℕ) → ValueFits value → LeavesShort s (cs.after_append s (new_record s write.key value))
  appended value few =
      let size : item_size write.key value ≤ largest_item = short_size write.key value is.key few in
      record {
        are = found.all_push IsShortRecord (others write.key s.records) (new_record s write.key value) (found.all_filter IsShortRecord (λ r. not (has_key write.key r)) s.records all.are) few;
        stamp = omega arith;
      }

  rewritten : (records : List Record) → AllOf IsShortRecord records → AllOf IsShortRecord (map (λ held. cond (has_key write.key held) (record held { value = write.value }) held) records)
  rewritten [] few = tt
  rewritten (held ∷ records) few = (
    elim (has_key write.key held) as (λ b. IsShortRecord (cond b (record held { value = write.value }) held)) [ true ↦ short | false ↦ few.0 ],
    rewritten records few.1,
  )

  put : (o : Option Record) → LeavesShort s (cs.after_put o s write)
  put None = appended write.value short
  put (Some held) = record { are = rewritten s.records all.are; stamp = omega arith }

  touched : (o : Option Record) → record_of s write.key ≡ o → LeavesShort s (cs.after_touch o s write)
  touched None at = record { are = all.are; stamp = omega arith }
  touched (Some held) at = appended held.value (found.found_has IsShortRecord (has_key write.key) s.records held all.are at)

  by_op : (op : Op) → LeavesShort s (cs.after_op op options s write)
  by_op Put = put (kept_record options s write)
  by_op Add = appended write.value short
  by_op Touch = touched (record_of s write.key) refl
  by_op Del = record { are = found.all_filter IsShortRecord (λ r. not (has_key write.key r)) s.records all.are; stamp = omega arith }

  left_short : (t : Cache) → LeavesShort s t → AllOf IsShortRecord (left_of options write (live_of options t))
  left_short t leaves =
      let live = live_of options t in
      let all_live = found.all_filter IsShortRecord (λ held. is_live options.words t.stamp held.offset) t.records leaves.are in
      elim (eqb (count_by (here_of options write) live) (SLOTS + 1)) as (λ b. AllOf IsShortRecord (cond b (without_first (here_of options write) live) live)) [
        | true ↦ found.all_without_first IsShortRecord (here_of options write) live all_live
        | false ↦ all_live
      ]

  after_short : AreShort (cs.after options s write)
  unfolding cs.after
  after_short =
      let leaves = by_op write.op in
      let most = leaves.stamp in
      let before = all.stamp in
      record { are = left_short (cs.after_write options s write) leaves; stamp = omega arith }

abbrev AreShortState : State → Type 0
AreShortState (cache_state s) = AreShort s
AreShortState (store_state s) = Unit {0}

start_short : (options : Options) (mode : Mode) → AreShortState (start mode)
unfolding cache.start
start_short options mode = grind (arith, common_steps)

step_short : (options : Options) (now : State) (write : Write) → IsWrite write → IsShort write → AreShortState now → AreShortState (after options now write)
step_short options (cache_state s) write is short all = after_short options s all write is short
step_short options (store_state s) write is short all = tt

short_from : (options : Options) (now : State) (history : History) → AllOf IsWrite history → AllOf IsShort history → AreShortState now → AreShortState (fold (after options) now history)
short_from options now [] writes short all = all
short_from options now (write ∷ history) writes short all =
    short_from options (after options now write) history writes.1 short.1 (step_short options now write writes.0 short.0 all)

pub short_bound : (options : Options) (history : History) → AllOf IsWrite history → AllOf IsShort history → (s : Cache) → state_of options history ≡ cache_state s
    → s.stamp ≤ length history * most_short_added
short_bound options history writes short s at =
    let all : AreShort s = subst AreShortState at (short_from options (start options.mode) history writes short (start_short options options.mode)) in
    grind (arith, common_steps, all.stamp, accepted_is_length options history)
