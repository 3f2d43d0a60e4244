-- The words that the proofs of this crate speak in, passed on once.
pub use Rattle.partition_words.proofs.Vocabulary.{All-contains, AreBytes, Bool, CanPlay, Cell, Contains, Contains-append_cases, Has, IsBucket, IsMain}
pub use Rattle.partition_words.proofs.Vocabulary.{IsPossibleShape, Kept, KeyFits, List, MayGive, None, Option, RoomsApart, Some, Spells, StandsFor}
pub use Rattle.partition_words.proofs.Vocabulary.{WhenMarked, [], after as after_event, answer_of, ap, arith, as_made, bucket_in, bucket_of, cond, dite}
pub use Rattle.partition_words.proofs.Vocabulary.{drop, false, hash_of, get_or_default, header_room, if◌then◌else◌, inl, inr, is_some, item_at, item_events}
pub use Rattle.partition_words.proofs.Vocabulary.{item_in, item_size, length, length-append, length-set, link_in, marked_in, not, option_map, options_in}
pub use Rattle.partition_words.proofs.Vocabulary.{StoredFits, plays, puts_from, refl, room_in, slice_index, stamp_of, start, state_in, state_snoc, store_state}
pub use Rattle.partition_words.proofs.Vocabulary.{stored_in, subst, suc, sym, take, true, value_in, zero, ℕ, ℕ_discrete, ◌%◌, ◌*◌, ◌++◌, ◌+◌, ◌-◌, ◌<◌}
pub use Rattle.partition_words.proofs.Vocabulary.{◌^◌, ◌∙◌, ◌∷◌, ◌≡◌, ◌≢◌, ◌≤◌, ◌⊎◌}
pub use Rattle.chained_index.proofs.Words.{Cells, ChangesChain, Contains-append_left, Contains-append_right, Contains-get_or, Contains-permutation}
pub use Rattle.chained_index.proofs.Words.{Decides-eqb, HasKey, HasNoSpot, Index, IsIndexOf, IsPermutation, IsPermutation-refl, IsPermutation-sym}
pub use Rattle.chained_index.proofs.Words.{IsSpotOf, IsUsed, LacksPlace, bit_same, bucket_at, entry_of, entry_offset, entry_tag, flat_map, keys_in}
pub use Rattle.chained_index.proofs.Words.{length_push, nil_from_length, other as other_word, rules, spares_in_use, spot_entry, subst₂, true≢false}
pub use Rattle.chained_index.proofs.Words.{◌/◌, ◌↔◌}
pub use Rattle.std.proofs.Common.{leb, ◌==◌}
pub use Rattle.std.proofs.Math.Logic.{∥∥₁_elim}
pub use Rattle.std.proofs.Math.Nat.{mod-eq_of_lt}
pub use Rattle.std.proofs.Props.{props}
pub use Rattle.std.proofs.lemmas.Bool.Decides.{Decides-and}
pub use Rattle.std.proofs.lemmas.Map.Made.{is_member-Decides}
pub use Rattle.std.specs.Bool.{Decides}
pub use Rattle.std.specs.Prelude.{IsSome, IsSomeAnd, MatchOption, remove as list_remove, slice_set, swap_remove, ◌&&◌}
pub use Rattle.std.proofs.lemmas.Bool.{cond-false, cond-true, le-leb, leb-false, leb-true, lt-leb}
pub use Rattle.std.proofs.lemmas.List.{set_split}
pub use Rattle.std.proofs.lemmas.List.Sorted.{IsPermutation-append_right, IsPermutation-cons, IsPermutation-middle, IsPermutation-remove}
pub use Rattle.std.proofs.lemmas.List.Sorted.{IsPermutation-swap_remove, IsPermutation-to_front, IsPermutation-trans}
pub use Rattle.std.proofs.lemmas.List.Sorted.{length_permutation, sum_by-IsPermutation, sum_by_popped}
pub use Rattle.std.proofs.lemmas.Option.{same_Some}
pub use Rattle.std.specs.Cmp.{eq_by_cmp_equiv}
pub use Rattle.std.specs.Cmp.Lexicographic.{nat_list_cmp_total, slice_cmp}
pub use Rattle.std.specs.FinMap.{empty, get, get-empty, get-insert, get-remove, insert, len, len-empty, len-insert, len-remove, remove}
pub use Rattle.std.specs.Ordering.{nat_cmp}
pub use Rattle.mica_words.proofs.Fields.{entry_offset-entry_of, entry_tag-entry_of}
pub use Rattle.mica_words.proofs.Hashes.{bucket_of_hash, tag_of_hash}
pub use Rattle.mica_words.proofs.ItemWords.{length-item_words}
pub use Rattle.mica_words.specs.declared.entry.TheConstants.{SLOTS}
pub use Rattle.mica_words.specs.Hash.{hash_bucket, hash_tag, tag_of}
pub use Rattle.mica_words.specs.Spelling.{item_words}
pub use Rattle.partition_model.proofs.CacheKept.{size_at_most}
pub use Rattle.partition_model.proofs.CellSums.{keys_over, no_keys, no_rooms, remove_none, rooms_insert, rooms_remove}
pub use Rattle.partition_model.proofs.Histories.{accepted_is_length}
pub use Rattle.partition_model.proofs.StoreLaws.{others_same, stamp_is_length}
pub use Rattle.partition_model.proofs.BucketSums.{less_here, less_others, new_here, new_others}
pub use Rattle.partition_model.specs.History.{Allows, accepted_in, after, stamp_in}
pub use Rattle.partition_model.specs.Store.{Store, room_of, rooms}
pub use Rattle.partition_model.specs.Write.{GivesValue, HasValueOf, IsWrite, Replaces, is_accepted, size_of, write_of}
pub use Rattle.partition_model.specs.declared.options.Mode.{Mode}
pub use Rattle.partition_model.specs.declared.options.Mode.TheVariants.{Cache as CacheMode, Store as StoreMode}
pub use Rattle.partition_model.specs.declared.write.Op.{Op}
pub use Rattle.partition_model.specs.declared.write.Op.TheVariants.{Add, Del, Put, Touch}
pub use Rattle.partition_model.specs.declared.write.Outcome.{Outcome}
pub use Rattle.partition_model.specs.declared.write.Outcome.TheVariants.{Absent, Deleted, Exists, FullBlock, FullSpare, Stored, Touched}
pub use Rattle.partition_model.specs.declared.write.Write.{Write}
pub use Rattle.partition_words.proofs.Keeps.{kept_after}
pub use Rattle.partition_words.proofs.Keys.{has_its_key}
pub use Rattle.partition_words.proofs.Machine.{all_more}
pub use Rattle.partition_words.proofs.Made.{kept_as_made}
pub use Rattle.partition_words.proofs.Meeting.{dense_on}
pub use Rattle.partition_words.proofs.Log.{room_is}
pub use Rattle.partition_words.proofs.PartitionLaws.{AcceptedWrite, Keeps, ended_step, item_room, kept_marked, main_of, marked, marked_entry, marked_item}
pub use Rattle.partition_words.proofs.PartitionLaws.{marked_link, may_begin, may_mark, new_stamp, only_key, put_entry, put_item, put_link, put_others}
pub use Rattle.partition_words.proofs.PartitionLaws.{put_same, put_words, refused_step, room_same, same_cell, same_or_other, spells_item, spells_on}
pub use Rattle.partition_words.proofs.PartitionLaws.{spelt_key, stands_idle, worn_step, written, written_state}
pub use Rattle.partition_words.proofs.Places.{item_no_epoch}
pub use Rattle.partition_words.proofs.Puts.{can_put}
pub use Rattle.partition_words.specs.Events.{BelongsTo, MayBegin, MayEnd, MayMark, SparesOthers}
pub use Rattle.partition_words.specs.ItemAt.{HasKeyWords}
pub use Rattle.partition_words.specs.Joins.{met_by}
pub use Rattle.partition_words.specs.OwnerStep.{IsOwnerStep}
pub use Rattle.partition_words.specs.StandsFor.{IsOffset, SpellsItem}
pub use Rattle.partition_words.specs.declared.event.Event.TheVariants.{Begins, Ends, PutsWord}
pub use Rattle.partition_words.specs.declared.shape.Shape.{Shape}
pub use Rattle.partition_words.specs.declared.state.Met.{Met}
pub use Rattle.partition_words.specs.declared.state.OwnerState.{OwnerState}
pub use Rattle.partition_words.specs.declared.state.Phase.TheVariants.{Marked}
pub use Rattle.block_heap.proofs.Counting.{words_parted}
pub use Rattle.block_heap.proofs.Order.{back_fills, coalesced_once, fills_once, words_of-append, words_of-fills}
pub use Rattle.block_heap.proofs.Parting.{has_rest}
pub use Rattle.block_heap.proofs.UsedBlocks.{AddsBlock, block_within, same_or_apart, same_size, taken_apart, taken_within, used_blocks-given, used_blocks-parted}
pub use Rattle.block_heap.proofs.UsedBlocks.{used_blocks-taken}
pub use Rattle.block_heap.specs.Blocks.{Fills, HasLonger, HasUsed, IsBlockList, IsCoalesced, MayLack, free_block, used_block, used_blocks, words_of}
pub use Rattle.block_heap.specs.Changes.{IsGiven, IsParted, IsTaken}
pub use Rattle.block_heap.specs.declared.block.Block.{Block}
pub use Rattle.circular_log.specs.LogItem.{HasItem, IsItem, IsValueAt}
pub use Rattle.chained_index.proofs.Chained.{all_on, chain_inside, chained}
pub use Rattle.store_partition.proofs.Listed.{ListStands, at, listed, place as place_at, spot as spot_at, stands as stands_by}
pub use Rattle.chained_index.proofs.Filled.{entry_there, is_within, view}
pub use Rattle.store_partition.proofs.FreeSpares.{free_spares}
pub use Rattle.chained_index.proofs.Stays.{entries_ends, entries_stay, index_ends, index_stays}
pub use Rattle.chained_index.specs.ChainEntries.{entries_of, place_in_chain}
pub use Rattle.chained_index.specs.declared.index.Spot.{Spot}
pub use Rattle.store_partition.specs.Parts.{AreParts, cells_of, marked_in_bucket}
pub use Rattle.store_partition.specs.Sought.{IsSought}
