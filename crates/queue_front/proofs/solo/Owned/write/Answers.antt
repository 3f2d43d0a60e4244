use Rattle.std.proofs.Common.{◌≡◌, ◌<◌, ℕ, length, map, slice_set, sym, ap, ◌∙◌, subst, arith}
use Rattle.mica_words.specs.Hash.{partition_of, hash_partition}
use Rattle.mica_words.proofs.Hashes.{partition_of_hash, partition_of-below}
use Rattle.partition_model.specs.Write.{write_of}
use Rattle.partition_model.specs.Run.{RunStep}
use Rattle.any_partition.specs.PlainPartition.{owner_of}
use Rattle.queue_front.specs.Solo.{Solo, StepsPartition}
use Rattle.queue_front.proofs.SoloSteps.{put_back, history_in}
use Rattle.queue_front.proofs.solo.Owned.write.Goals as goal

pub returns : goal.returns
returns c =
    let options = c.self.inside.options in
    let parts = c.self.inside.parts.items in
    let key = c.args.key.now in
    let at = c.partition_of-at.result in
    let part = c.index_mut-part.result.now in
    let number : at ≡ partition_of options.hashing key options.partitions =
    c.partition_of-at.ensures ∙ ap (λ h. hash_partition h options.partitions) c.key_hash.ensures ∙ sym (partition_of_hash options.hashing key options.partitions) in
    let low = partition_of-below options.hashing key options.partitions c.self.invariant.0.partitions.0 in
    let below : at < length parts = omega (arith, number, low, c.self.invariant.1) in
    let step : RunStep = record { write = write_of c.args.op key c.args.value.now; outcome = c.write_to-outcome.result; stamp = c.stamp.result } in
    let taken = put_back owner_of options parts at part c.write_to-outcome.new.part step.write step.outcome step.stamp
    below c.index_mut-part.ensures.value (c.self.invariant.2 at part below) c.write_to-outcome.ensures.step c.stamp.ensures in
    let old : Solo = record { options = options; histories = map (history_in owner_of) parts } in
    let new : Solo = record { options = options; histories = map (history_in owner_of) (slice_set parts at c.write_to-outcome.new.part) } in
    subst (λ (s : Solo). StepsPartition s (partition_of s.options.hashing key s.options.partitions) step new) c.self.view_is (subst (λ (p : ℕ). StepsPartition old p step new) number taken)
