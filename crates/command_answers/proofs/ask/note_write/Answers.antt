use Rattle.std.proofs.Common.{◌≡◌, ◌+◌, ℕ, sym, ap, ◌∙◌}
use Rattle.std.specs.Prelude.{min, max, Option}
use Rattle.outside.specs.Faults.{LAST_COUNT}
use Rattle.mica_words.specs.Hash.{hash_partition, partition_of}
use Rattle.mica_words.proofs.Hashes.{partition_of_hash}
use Rattle.partition_model.specs.declared.write.Outcome.{Outcome}
use Rattle.memcached_stats.specs.Tallies.{noted}
use Rattle.command_answers.specs.Counting.{count_of_accepted, noted_if}
use Rattle.command_answers.proofs.ask.note_write.Goals as goal

pub returns-in-Some : goal.returns-in-Some
returns-in-Some c =
    let key = c.args.key.now in
    let when = c.args.changed.now.when in
    let stamp = c.args.changed.now.stamp in
    let tally = c.args.tally.now in
    let outcome = c.in-Some.outcome in
    let partition : c.partition_of-partition.result ≡ partition_of c.args.hashing key (max c.args.partitions 1) =
    c.partition_of-partition.ensures ∙ (λ i. hash_partition (c.key_hash-hash.ensures i) (c.max.ensures i)) ∙ sym (partition_of_hash c.args.hashing key (max c.args.partitions 1)) in
    let writes : c.saturating_add-writes.result ≡ min (when.written + count_of_accepted outcome) LAST_COUNT =
    c.saturating_add-writes.ensures ∙ ap (λ (n : ℕ). min (when.written + n) LAST_COUNT) c.count_of_accepted.ensures in
    c.note.ensures ∙ (λ i. noted (partition i) (writes i) stamp tally) ∙ ap (λ (o : Option Outcome). noted_if c.args.hashing c.args.partitions key when o stamp tally) (sym c.in-Some.is)
