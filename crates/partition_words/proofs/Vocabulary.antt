-- The words that the proofs of this crate speak in, passed on once.
pub use mathlib.Core.Logic.{dite}
pub use native.Mathlib.Decide.{ℕ_discrete}
pub use Rattle.std.proofs.Common.{Bool, List, None, Option, Some, [], add-zero, ap, append_assoc, arith, cond, count_by, drop, drop-cons, eq-eqb}
pub use Rattle.std.proofs.Common.{false, get_or, get_or-set_other, get_or-set_same, if◌then◌else◌, inl, inr, is_some, le_refl, length, length-append}
pub use Rattle.std.proofs.Common.{length-set, map, min, nat_eq, nat_lt, ne_eqb, not, refl, replicate, set, slice_index, subst, suc, sym, take, true}
pub use Rattle.std.proofs.Common.{zero, ℕ, ⊎_elim, ◌%◌, ◌*◌, ◌++◌, ◌+◌, ◌-◌, ◌/◌, ◌<◌, ◌^◌, ◌∙◌, ◌∷◌, ◌≡◌, ◌≢◌, ◌≤◌, ◌⊎◌}
pub use Rattle.std.proofs.lemmas.Bool.{cases_Bool, cases_lt, eqb-true, le-leb, ltb-false, ltb-true, true≢false}
pub use Rattle.std.proofs.lemmas.List.{append-nil, drop_all, get_or_default, get_or_past, length-replicate, set-get_or}
pub use Rattle.std.proofs.lemmas.List.Elements.{All-contains, All-from_recursion, Contains-append_cases, Contains-append_left, Contains-push_cases}
pub use Rattle.std.specs.Prelude.{AllPairs, Contains, IfSome, IsTrue, option_map}
pub use Rattle.mica_words.specs.Hash.{bucket_of, hash_of, tag_of}
pub use Rattle.mica_words.specs.Header.{header_key_len, header_of, header_room, header_value_len}
pub use Rattle.mica_words.specs.Item.{KeyFits, StoredFits, item_size, words_for}
pub use Rattle.mica_words.specs.Packing.{AreBytes, packed, unpacked}
pub use Rattle.partition_model.proofs.Histories.{accepted_is_length, cached_in, history_snoc, state_snoc, stored_in}
pub use Rattle.partition_model.specs.History.{History, IsPrefix, MayGive, State, answer_of, cache_state, stamp_of, start, state_of, store_state, value_in}
pub use Rattle.partition_model.specs.History.{writes_to_bucket}
pub use Rattle.partition_model.specs.Store.{Cell}
pub use Rattle.partition_model.specs.declared.options.Mode.{Mode}
pub use Rattle.partition_model.specs.declared.options.Mode.TheVariants.{Cache, Store}
pub use Rattle.partition_model.specs.declared.write.Write.{Write}
pub use Rattle.partition_words.specs.Chain.{HasChains, InChain, IsAmong, IsDense, IsFreeSpare}
pub use Rattle.partition_words.specs.Events.{BelongsTo, CanPlay, IsAllowed, IsItsBucket, MayBegin, MayEnd, MayMark, MayPutLink, MayPutWord, SparesOthers}
pub use Rattle.partition_words.specs.Events.{WhenMarked, after, history_after, item_events, phase_after, place_of, plays, puts_from, word_after}
pub use Rattle.partition_words.specs.Events.{words_after}
pub use Rattle.partition_words.specs.Failures.{FailsFit, IsFailure, failure}
pub use Rattle.partition_words.specs.Grows.{Grows}
pub use Rattle.partition_words.specs.Kept.{IsLawfulHistory, Kept, PhaseFits}
pub use Rattle.partition_words.specs.Layout.{bucket_words, entries_at, entry_at, epoch_at, item_at, link_at, stamp_at, word_count}
pub use Rattle.partition_words.specs.LiveEntry.{HasLiveEntry, IsLive, IsLiveItem}
pub use Rattle.partition_words.specs.OwnerState.{as_made, begun_in, bucket_in, entry_in, epoch_in, item_in, link_in, marked_in, options_in, stamp_in}
pub use Rattle.partition_words.specs.OwnerState.{state_in, writes_in}
pub use Rattle.partition_words.specs.Reach.{IsInReach, by_entry, by_item, by_link}
pub use Rattle.partition_words.specs.ReaderKept.{IsSpelt, ReaderKept, Tells, TellsTry, TryKept}
pub use Rattle.partition_words.specs.ReaderState.{fails_after, loaded, new_try, newcomer, opened, shut, stamped, with_cut, with_load}
pub use Rattle.partition_words.specs.Shape.{IsBucket, IsMain, IsSpare, IsPossibleShape, is_in_range, options_of, shape_of, spares_in}
pub use Rattle.partition_words.specs.StandsFor.{Has, HasChain, IsInRoom, IsOffset, RoomsApart, Spells, SpellsItem, StandsFor, cell_at, room_in}
pub use Rattle.partition_words.specs.declared.event.Event.{Event}
pub use Rattle.partition_words.specs.declared.event.Event.TheVariants.{Begins, Ends, Marks, PutsEntry, PutsLink, PutsWord}
pub use Rattle.partition_words.specs.declared.reader.ReaderState.{ReaderState}
pub use Rattle.partition_words.specs.declared.shape.Shape.{Shape}
pub use Rattle.partition_words.specs.declared.state.OwnerState.{OwnerState}
pub use Rattle.partition_words.specs.declared.state.Phase.{Phase}
pub use Rattle.partition_words.specs.declared.state.Phase.TheVariants.{Begun, Idle, Marked}
pub use Rattle.partition_words.specs.Diary.{DiaryFits, blank_diary, diary_after, event_of, happened, knows, owner_event}
pub use Rattle.partition_words.specs.ItemAt.{HasKey, HasKeyWords}
pub use Rattle.partition_words.specs.Joins.{ended_in, known, lent, longer, met_by, note_of, told}
pub use Rattle.partition_words.specs.declared.reader.Try.{Try}
pub use Rattle.partition_words.specs.declared.reading.Plan.{Plan}
pub use Rattle.partition_model.specs.Options.{InRange, IsPossible, IsValid}
pub use Rattle.partition_model.specs.Write.{IsWrite, is_accepted, write_of}
pub use Rattle.partition_model.specs.declared.options.Options.{Options}
pub use Rattle.partition_model.specs.declared.write.Outcome.{Outcome}
pub use Rattle.partition_model.specs.declared.write.Outcome.TheVariants.{FullBlock, FullSpare, Stored, Worn}
pub use Rattle.mica_words.proofs.Hashes.{bucket_of-below}
pub use Rattle.mica_words.proofs.ItemWords.{hash_word, header_word, packed_key_word, same_value, value_word}
pub use Rattle.mica_words.proofs.PackedBytes.{length-packed, same_from_words}
pub use Rattle.mica_words.specs.Entry.{entry_offset, entry_tag}
pub use Rattle.mica_words.specs.Stamp.{tail_of}
pub use Rattle.mica_words.specs.declared.entry.TheConstants.{SLOTS}
pub use Rattle.std.proofs.Math.Nat.{div-add-mod, mod-lt, mul-le-mul_left, mul-suc}
pub use Rattle.std.proofs.lemmas.List.Sums.{count_by-le-length, sum_by_push}
pub use Rattle.std.proofs.lemmas.Nat.{pow_pos}
pub use Rattle.std.specs.FinMap.{get, get-empty}
pub use Rattle.std.specs.List.{AllByRecursion, fold, range_with_len}
pub use Rattle.partition_words.specs.declared.state.Failure.{Failure}
pub use Rattle.std.proofs.lemmas.Option.{IfSome_then, same_Some}
