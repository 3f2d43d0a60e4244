-- The words that the proofs of this crate speak in, passed on once.
pub use Rattle.partition_words.proofs.Vocabulary.{Bool, Cell, Contains, Contains-append_cases, Contains-push_cases, Has, HasChains, HasLiveEntry, History}
pub use Rattle.partition_words.proofs.Vocabulary.{InChain, IsBucket, IsDense, IsFreeSpare, IsLiveItem, IsMain, IsTrue, Kept, List, Option, RoomsApart}
pub use Rattle.partition_words.proofs.Vocabulary.{Spells, StandsFor, WhenMarked, [], after, ap, append-nil, append_assoc, arith, as_made, bucket_in, dite}
pub use Rattle.partition_words.proofs.Vocabulary.{drop, entry_at, entry_in, epoch_at, eq-eqb, get_or, get_or-set_other, get_or-set_same, get_or_default}
pub use Rattle.partition_words.proofs.Vocabulary.{get_or_past, history_after, inl, inr, item_at, length, length-append, length-set, link_at, link_in}
pub use Rattle.partition_words.proofs.Vocabulary.{ltb-false, marked_in, nat_eq, nat_lt, ne_eqb, phase_after, place_of, refl, replicate, set, slice_index}
pub use Rattle.partition_words.proofs.Vocabulary.{stamp_at, stamp_in, state_in, subst, suc, sym, take, true, word_count, zero, ℕ, ℕ_discrete, ◌%◌, ◌*◌}
pub use Rattle.partition_words.proofs.Vocabulary.{◌++◌, ◌+◌, ◌-◌, ◌<◌, ◌∙◌, ◌∷◌, ◌≡◌, ◌≢◌, ◌≤◌, ◌⊎◌}
pub use Rattle.chained_index.specs.ChainChange.{ChangesChain, ChangesOnlyIndex, KeepsChain}
unfoldable pub use Rattle.chained_index.specs.ChainEntries.{entries_of, buckets_of, place_in_chain, entries_in, buckets_from}
pub use Rattle.chained_index.specs.ChainEntries.{spot_entry, IsUsed, entries_with, entries_without, IsSpotOf, HasNoSpot}
pub use Rattle.chained_index.specs.ChainShape.{bucket_at, EndsIn, EndsAt}
pub use Rattle.chained_index.specs.Index.{Index, IsIndexOf, IsBlank, LacksPlace}
pub use Rattle.chained_index.specs.declared.index.ChainEnd.{ChainEnd}
pub use Rattle.chained_index.specs.declared.index.Spot.{Spot}
pub use Rattle.partition_words.proofs.Behind.{AreBehind, last_of, last_in, listed_or_not, all_differ, behind_differ, same_behind, relinked}
pub use Rattle.partition_words.proofs.Chains.{chains_stay}
pub use Rattle.partition_words.proofs.Counted.{at_most, all_there}
pub use Rattle.partition_words.proofs.EventWords.{other, entry_puts, entry_puts_other, link_puts_entry, entry_puts_link, link_puts, link_puts_other}
pub use Rattle.partition_words.proofs.Failing.{in_cons, in_head, in_tail}
pub use Rattle.partition_words.proofs.Marked.{ends_main, bit_is, bit_same}
pub use Rattle.partition_words.proofs.Places.{no_epoch, no_stamp, no_item}
pub use Rattle.partition_words.proofs.StoreBuckets.{has_chain}
pub use Rattle.partition_words.proofs.Walks.{IsChain, not_main, has_bucket, in_chain, inside, chain_of, chain_there}
pub use Rattle.partition_words.specs.Events.{words_after, IsItsBucket, MayPutEntry, MayPutLink}
pub use Rattle.partition_words.specs.ItemAt.{HasKey}
pub use Rattle.partition_words.specs.Layout.{bucket_words, entries_at}
pub use Rattle.partition_words.specs.Shape.{IsSpare}
pub use Rattle.partition_words.specs.declared.event.Event.{Event}
pub use Rattle.partition_words.specs.declared.event.Event.TheVariants.{Ends, PutsEntry, PutsLink}
pub use Rattle.partition_words.specs.declared.shape.Shape.{Shape}
pub use Rattle.partition_words.specs.declared.state.OwnerState.{OwnerState}
pub use Rattle.partition_words.specs.declared.state.Phase.{Phase}
pub use Rattle.partition_words.specs.declared.state.Phase.TheVariants.{Idle, Begun, Marked}
unfoldable pub use Rattle.partition_model.specs.Store.{spares_below}
pub use Rattle.partition_model.specs.Store.{spares_behind, Cells, keys_in, spares_in_use}
pub use Rattle.partition_model.specs.declared.options.Mode.{Mode}
pub use Rattle.partition_model.specs.declared.options.Mode.TheVariants.{Store}
pub use Rattle.mica_words.specs.declared.entry.TheConstants.{SLOTS}
pub use Rattle.mica_words.specs.Entry.{entry_offset, entry_tag, entry_of}
unfoldable pub use Rattle.mica_words.specs.Hash.{tag_of}
pub use Rattle.std.proofs.Common.{length-take, ◌/◌, filter, flat_map, slice_range, length-drop, eqb, true≢false, option_to_list, rules, subst₂}
pub use Rattle.std.proofs.Common.{vec_capacity, vec_len}
pub use Rattle.std.proofs.lemmas.Bool.{lt-ltb, le-ltb}
pub use Rattle.std.proofs.lemmas.Bool.Decides.{Decides-eqb}
pub use Rattle.std.proofs.lemmas.Grind.{common_steps}
pub use Rattle.std.proofs.lemmas.List.{get_or-take, get_or_append_left, get_or_push, length_push, ext_get_or, nil_from_length}
pub use Rattle.std.proofs.lemmas.List.Kept.{AllPairs-cons}
pub use Rattle.std.proofs.lemmas.List.Concat.{get_or-flat_map}
pub use Rattle.std.proofs.lemmas.List.Elements.{All-nil, All-cons, All-head, All-tail, All-take, All-push, All-set, Contains-get_or, Contains-push}
pub use Rattle.std.proofs.lemmas.List.Elements.{Contains-append_left, filter-append, Contains-append_right}
pub use Rattle.std.proofs.lemmas.List.Quantifiers.{all_pairs_push}
pub use Rattle.std.proofs.lemmas.List.Sorted.{Contains-permutation, IsPermutation-refl, IsPermutation-sym, IsPermutation-append_comm}
pub use Rattle.std.proofs.lemmas.List.Sorted.{IsPermutation-append_right}
pub use Rattle.std.proofs.lemmas.List.Sums.{position_or_len_is}
pub use Rattle.std.proofs.lemmas.Map.Made.{IsDistinct-from_AllPairs, AllPairs-from_IsDistinct}
pub use Rattle.std.proofs.lemmas.Map.Keys.{IsDistinct-IsPermutation}
pub use Rattle.std.proofs.Math.Seq.{take-length, take-suc}
pub use Rattle.std.specs.Cmp.{nat_eq_equiv}
pub use Rattle.std.specs.List.{position_or_len}
pub use Rattle.std.specs.List.Sorted.{IsPermutation}
pub use Rattle.std.specs.Prelude.{All, AllPairs, ◌↔◌}
