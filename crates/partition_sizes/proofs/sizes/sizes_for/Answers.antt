use Rattle.std.proofs.Common.{rules, ◌≡◌, ◌≤◌, ◌-◌, ◌/◌, ◌*◌, ◌+◌, ◌∙◌, ap, sym, subst}
use Rattle.partition_sizes.specs.Bytes.{partition_bytes}
use Rattle.partition_sizes.specs.Sizes.{partitions_for, share_of, items_for, buckets_for, spares_for, without_words}
use Rattle.partition_sizes.proofs.Fitting.{is_share, has_room}
use Rattle.partition_sizes.proofs.sizes.sizes_for.Goals as goal

pub overflow_sub-bytes-2 : goal.overflow_sub-bytes-2
overflow_sub-bytes-2 c =
    let mode = c.args.mode in
    let memory = c.args.memory in
    let shared : c.from.result ≡ partitions_for memory = search rules in
    let worded = c.word_bytes-word.ensures in
    let buckets : c.buckets_for-buckets.result ≡ buckets_for (items_for mode (share_of memory)) =
    c.buckets_for-buckets.ensures ∙ (λ i. buckets_for ((memory - 16777216) / shared i / (14 * worded i + 32))) in
    let spares : c.spares_for-spares.result ≡ spares_for mode (buckets_for (items_for mode (share_of memory))) = c.spares_for-spares.ensures ∙ ap (spares_for mode) buckets in
    let empty = c.partition_bytes-empty.ensures.bytes ∙ (λ i. partition_bytes (without_words mode (buckets i) (spares i))) in
    subst (λ n. n ≤ (memory - 16777216) / c.from.result) (sym empty)
    (subst (λ p. partition_bytes (without_words mode (buckets_for (items_for mode (share_of memory))) (spares_for mode (buckets_for (items_for mode (share_of memory))))) ≤ (memory - 16777216) / p) (sym shared)
    (has_room mode (share_of memory) (is_share memory c.requires).range).empty)
