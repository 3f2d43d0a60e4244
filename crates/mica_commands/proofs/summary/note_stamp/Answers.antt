use Rattle.std.proofs.Common.{◌∙◌, ap}
use Rattle.mica_words.specs.Hash.{hash_of, hash_partition}
use Rattle.mica_words.specs.Hash as Hash
use Rattle.mica_commands.proofs.Summing.{noted}
use Rattle.mica_commands.proofs.summary.note_stamp.Goals as goal

pub returns-in-Wrote : goal.returns-in-Wrote
unfolding Hash.partition_of
returns-in-Wrote c =
    noted c.args.options.now c.args.stamps.now.items c.args.line.now c.args.printed.now c.in-Wrote.op c.in-Wrote.outcome c.in-Wrote.stamp c.partition_of-partition.result c.in-Wrote.is
    (c.partition_of-partition.ensures ∙ ap (λ h. hash_partition h c.args.options.now.partitions) (c.key_hash.ensures ∙ ap (hash_of c.args.options.now.hashing) c.bytes.ensures))
