-- The words of a marked write's item may be put.
use Rattle.std.proofs.lemmas.Grind.{common_steps}
use Rattle.std.proofs.Common.{◌≡◌, ℕ, ◌+◌, ◌^◌, ◌<◌, ◌≤◌, List, Some, refl, sym, subst, arith}
use Rattle.std.specs.List.{AllByRecursion}
use Rattle.std.proofs.lemmas.Option.{none-some}
use Rattle.mica_words.specs.Item.{item_size}
use Rattle.mica_words.specs.Spelling.{item_words}
use Rattle.mica_words.specs.Stamp.{tail_of}
use Rattle.mica_words.proofs.ItemWords.{length-item_words}
use Rattle.partition_model.specs.declared.write.Write.{Write}
use Rattle.partition_model.specs.Write.{IsWrite}
use Rattle.partition_model.specs.Cache.{Record, has_key}
use Rattle.partition_model.specs.CacheStep.{after_write}
use Rattle.partition_model.specs.History.{Allows, History, IsAcceptedAfter, IsHistory, State, cache_state, store_state, state_of}
use Rattle.partition_model.proofs.CacheKept.{IsRecord, after_write_is}
use Rattle.partition_model.proofs.CacheLaws.{kept_in}
use Rattle.partition_model.proofs.Found.{found_has}
use Rattle.partition_model.proofs.Histories.{cache_has_room, last_accepted}
use Rattle.partition_model.proofs.Laid.{laid_found}
use Rattle.partition_words.specs.declared.state.OwnerState.{OwnerState}
use Rattle.partition_words.specs.declared.state.Phase.{Phase}
use Rattle.partition_words.specs.declared.state.Phase.TheVariants.{Idle, Begun, Marked}
use Rattle.partition_words.specs.OwnerState.{options_in}
use Rattle.partition_words.specs.Events.{WhenMarked, BelongsTo, CanPlay, puts_from}
use Rattle.partition_words.specs.Kept.{PhaseFits, Kept}
use Rattle.partition_words.proofs.Machine.{all_parts}
use Rattle.partition_words.proofs.Puts.{MayPutWords, can_put}
use Rattle.circular_log.specs.LogWrite.{LeavesItem, written_record}

module _ (o : OwnerState) (s : Kept o) (p room : ℕ) (key value : List ℕ) where
  abbrev item : Record
  item = record { key = key; value = value; offset = p; room = room }

  belongs : (b : ℕ) (write : Write) (now : State) → written_record (options_in o) now write ≡ Some item → (i : ℕ) → i < item_size key value → BelongsTo o b write now (p + i)
  belongs b write now is i l = grind (arith, common_steps)

  -- the item of an accepted write ends before the tail after it, for which the log had room
  low : (before : History) → AllByRecursion IsWrite before → (write : Write) → IsWrite write → IsAcceptedAfter (options_in o) before write → (now : State) → state_of (options_in o) before ≡ now
      → written_record (options_in o) now write ≡ Some item → p + item_size key value ≤ 2 ^ 48
  low before writes write is accepted (cache_state now) at stored =
      let room = cache_has_room (options_in o) now write accepted.0 accepted.1 (subst (λ (z : State). Allows (options_in o) z write accepted.0) at accepted.2) in
      let written = after_write_is (options_in o) now (kept_in (options_in o) before writes now at) write is in
      let end = (laid_found (has_key write.key) 0 (tail_of (after_write (options_in o) now write).stamp) (after_write (options_in o) now write).records item written.laid stored).1 in
      let fits = (found_has IsRecord (has_key write.key) (after_write (options_in o) now write).records item written.are stored).size in
      omega (arith, end, fits, room, written.most)
  low before writes write is accepted (store_state now) at stored = absurd (none-some item stored)

  may_put : (phase : Phase) → o.phase ≡ phase → WhenMarked phase (λ b write before. written_record (options_in o) (state_of (options_in o) before) write ≡ Some item) → MayPutWords o p (item_size key value)
  may_put Idle is stored = absurd stored
  may_put (Begun b) is stored = absurd stored
  may_put (Marked b write before) is stored =
      let fits = subst (PhaseFits o) is s.phase in
      let all = all_parts IsWrite before write (subst (AllByRecursion IsWrite) fits.1 s.history.writes) in
      let accepted = last_accepted (options_in o) before write (subst (IsHistory (options_in o)) fits.1 s.history.accepted) in
      let end = low before all.0 write all.1 accepted (state_of (options_in o) before) refl stored in
      λ i l. record {
        its_word = subst (λ (z : Phase). WhenMarked z (λ b write before. BelongsTo o b write (state_of (options_in o) before) (p + i))) (sym is) (belongs b write (state_of (options_in o) before) stored i l);
        low = omega arith;
      }

  pub can_store : LeavesItem o p room key value → (header_room : ℕ) → CanPlay (puts_from p (item_words o.shape.hashing header_room key value)) o
  can_store stored header_room = can_put o s p (item_words o.shape.hashing header_room key value) (λ i l. may_put o.phase refl stored i (omega (arith, length-item_words o.shape.hashing header_room key value)))
