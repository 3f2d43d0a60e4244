-- The words that the proofs of this crate speak in, passed on once.
pub use Rattle.std.proofs.Common.{eqb}
pub use Rattle.std.proofs.lemmas.Bool.{cases_Bool, le-leb, leb-false, leb-true, lt-leb, true≢false}
pub use Rattle.std.proofs.lemmas.Bool.Decides.{nat_tests}
pub use Rattle.std.proofs.lemmas.List.Sums.{length-filter}
pub use Rattle.std.proofs.lemmas.Map.Keys.{IsDistinct-cons}
pub use Rattle.std.proofs.lemmas.Map.Steps.{le-length_from_below, length-le_from_distinct_below}
pub use Rattle.std.proofs.lemmas.Option.{same_Some}
pub use Rattle.std.specs.Bool.{then_some}
pub use Rattle.std.specs.List.{AllByRecursion as AllOf, filter, find, list_any}
unfoldable pub use Rattle.std.specs.List.{IsDistinct}
pub use Rattle.std.specs.Prelude.{MatchOption, nat_le, ◌&&◌, ◌||◌}
pub use Rattle.partition_model.specs.Rooms.{keeps}
pub use Rattle.mica_words.proofs.Fields.{entry_not_empty, entry_offset-entry_of, entry_tag-entry_of}
pub use Rattle.mica_words.proofs.Hashes.{bucket_of_hash, tag_of-range, tag_of_hash}
pub use Rattle.mica_words.proofs.ItemWords.{length-item_words}
pub use Rattle.mica_words.proofs.Sizes.{item_size-most}
pub use Rattle.mica_words.specs.Item.{StoredFits}
pub use Rattle.mica_words.specs.Entry.{entry_of, entry_offset, entry_tag}
pub use Rattle.mica_words.specs.Hash.{hash_bucket, hash_tag, tag_of}
pub use Rattle.mica_words.specs.declared.entry.TheConstants.{SLOTS}
pub use Rattle.mica_words.specs.Spelling.{item_words}
pub use Rattle.mica_words.specs.Stamp.{tail_of}
pub use Rattle.partition_model.proofs.CacheKept.{IsKept, IsWritten, after_write_is, here_of, keeps_put, left_of, live_of, others_lack, tail_past}
pub use Rattle.partition_model.proofs.CacheKept.{rewritten, rewritten_key}
pub use Rattle.partition_model.proofs.CacheLaws.{appended_own, fits_kept, kept_in, reply_fits, touched_is, window_kept, written_same}
pub use Rattle.partition_model.proofs.FateLaws.{miss_is_not_held}
pub use Rattle.partition_model.proofs.Found.{all_filter, all_passes, all_weaker, count_cons, found_has, missed_all}
pub use Rattle.partition_model.proofs.Histories.{accepted_is_length}
pub use Rattle.partition_model.proofs.Laid.{IsLaid, found_key, has_its_key as is_its_key, has_other_key, laid_found}
pub use Rattle.partition_model.proofs.Rises.{stamp_rises}
pub use Rattle.partition_model.specs.Answer.{IsAnswer}
pub use Rattle.partition_model.specs.Cache.{Cache, Record, has_key, is_live, record_of}
pub use Rattle.partition_model.specs.Records.{IsUnique}
pub use Rattle.partition_model.specs.CacheStep.{kept_record, new_record, others, reply_of, without_first}
pub use Rattle.partition_model.specs.History.{Allows, accepted_in, after as state_after, stamp_in as stamp_of_state}
pub use Rattle.partition_model.specs.Limits.{is_at_end, last_tail, most_added}
pub use Rattle.partition_model.specs.Write.{IsWrite, is_accepted, size_of, write_of}
pub use Rattle.partition_model.specs.declared.options.Options.{Options}
pub use Rattle.partition_model.specs.declared.write.Answer.{Answer}
pub use Rattle.partition_model.specs.declared.write.Op.{Op}
pub use Rattle.partition_model.specs.declared.write.Op.TheVariants.{Add, Del, Put, Touch}
pub use Rattle.partition_model.specs.declared.write.Outcome.{Outcome}
pub use Rattle.partition_model.specs.declared.write.Outcome.TheVariants.{Absent, Deleted, Exists, FullBlock, Stored, Touched, Worn}
pub use Rattle.partition_words.proofs.Vocabulary.{AreBytes, Bool, Cache as CacheMode, Cell, Has, HasLiveEntry, IfSome, IsLiveItem, IsMain, Kept, KeyFits}
pub use Rattle.partition_words.proofs.Vocabulary.{List, MayGive, Mode, None, Option, Some, Spells, StandsFor, State, Write, [], after, answer_of, ap}
pub use Rattle.partition_words.proofs.Vocabulary.{arith, bucket_in, cache_state, cached_in, cases_lt, cell_at, cond, count_by, dite, entry_in, eq-eqb}
pub use Rattle.partition_words.proofs.Vocabulary.{eqb-true, false, hash_of, get_or, header_room, inl, inr, is_some, item_at, item_in, item_size, length}
pub use Rattle.partition_words.proofs.Vocabulary.{marked_in, ne_eqb, option_map, options_in, refl, room_in, stamp_in, stamp_of, state_in, state_snoc}
pub use Rattle.partition_words.proofs.Vocabulary.{subst, suc, sym, true, value_in, ℕ, ℕ_discrete, ⊎_elim, ◌*◌, ◌++◌, ◌+◌, ◌<◌, ◌^◌, ◌∙◌, ◌∷◌, ◌≡◌, ◌≢◌}
pub use Rattle.partition_words.proofs.Vocabulary.{◌≤◌, ◌⊎◌}
pub use Rattle.partition_words.proofs.CacheBuckets.{alone, stands_cached}
pub use Rattle.partition_words.proofs.EventWords.{entry_puts, entry_puts_other, item_puts_entry}
pub use Rattle.partition_words.proofs.Keys.{has_its_key}
pub use Rattle.partition_words.proofs.Log.{other_rooms, room_is}
pub use Rattle.partition_words.proofs.Machine.{found_record}
pub use Rattle.partition_words.proofs.PartitionLaws.{AcceptedWrite, Keeps, accepted_step, ended_gains, item_room, main, main_of, marked, marked_item}
pub use Rattle.partition_words.proofs.PartitionLaws.{may_begin, may_end, may_mark, new_stamp, only_key, put_entry, put_item as item_put, put_long, refused_step}
pub use Rattle.partition_words.proofs.PartitionLaws.{put_others, put_same, put_stamp, put_words, same_cell, same_or_other, spells_item, spells_on}
pub use Rattle.partition_words.proofs.PartitionLaws.{spelt_key, stands_idle, stood, written, written_marked, written_state}
pub use Rattle.partition_words.specs.Events.{MayBegin, MayEnd, MayMark}
pub use Rattle.partition_words.specs.OwnerStep.{IsOwnerStep}
pub use Rattle.partition_words.specs.StandsFor.{IsOffset, SpellsItem}
pub use Rattle.partition_words.specs.declared.event.Event.TheVariants.{Begins, Ends, PutsEntry}
pub use Rattle.partition_words.specs.declared.shape.Shape.{Shape}
pub use Rattle.partition_words.specs.declared.state.OwnerState.{OwnerState}
pub use Rattle.partition_words.specs.declared.state.Phase.TheVariants.{Idle}
pub use Rattle.circular_log.proofs.SpeltItem.{spelt_item}
pub use Rattle.circular_log.specs.LogItem.{HasItem, IsItem, room_at}
pub use Rattle.circular_log.specs.LogCarry.{Carries, IsTouchOf, MayCarry}
pub use Rattle.circular_log.specs.LogWrite.{LeavesItem, MayAppend, MayRewrite, with_item, written_record}
pub use Rattle.lossy_index.specs.Place.{GivesWay, HoldsOfNone, TakesSlot, empty, oldest, passed}
pub use Rattle.lossy_index.specs.Slot.{HasNoSlot, IsFoundAt, IsPassed, IsSlotOf, offset_in}
pub use Rattle.cache_partition.specs.Gained.{Gains, MayWrite, is_worn, marked_with}
pub use Rattle.cache_partition.specs.Sought.{AppendsBy, AppendsValue, IsAcceptable, had_record, had_record_by, kept_offset, kept_offset_by}
