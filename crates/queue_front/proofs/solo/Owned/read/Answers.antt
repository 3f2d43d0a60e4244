use Rattle.std.proofs.Common.{◌≡◌, ◌<◌, List, length, sym, ap, ◌∙◌, subst, arith}
use Rattle.mica_words.specs.Hash.{partition_of, hash_partition}
use Rattle.mica_words.proofs.Hashes.{partition_of_hash, partition_of-below}
use Rattle.partition_model.specs.Answer.{IsAnswer}
use Rattle.partition_model.specs.History.{History, answer_of, stamp_of}
use Rattle.any_partition.specs.PlainPartition.{owner_of}
use Rattle.queue_front.specs.Solo.{Solo, history_at}
use Rattle.queue_front.proofs.SoloSteps.{read_there, read_back}
use Rattle.queue_front.proofs.solo.Owned.read.Goals as goal

pub returns-clause-answer : goal.returns-clause-answer
returns-clause-answer c =
    let options = c.self.inside.options in
    let parts = c.self.inside.parts.items in
    let key = c.args.key.now in
    let at = c.partition_of-at.result in
    let part = c.index_mut-part.result.now in
    let number : at ≡ partition_of options.hashing key options.partitions =
    c.partition_of-at.ensures ∙ ap (λ h. hash_partition h options.partitions) c.key_hash.ensures ∙ sym (partition_of_hash options.hashing key options.partitions) in
    let low = partition_of-below options.hashing key options.partitions c.self.invariant.0.partitions.0 in
    let below : at < length parts = omega (arith, number, low, c.self.invariant.1) in
    subst (λ (s : Solo). IsAnswer c.get-answer.result c.get-answer.new.out (answer_of s.options (history_at s.histories (partition_of s.options.hashing key s.options.partitions)) key)
    × (c.stamp.result ≡ stamp_of s.options (history_at s.histories (partition_of s.options.hashing key s.options.partitions)))) c.self.view_is
    (read_there owner_of options parts at _ part c.get-answer.new.self key c.get-answer.result c.get-answer.new.out c.stamp.result
    number below c.index_mut-part.ensures.value (c.self.invariant.2 at part below) c.get-answer.ensures.same c.get-answer.ensures.answer c.stamp.ensures)

pub returns-clause-same : goal.returns-clause-same
returns-clause-same c =
    ap (λ (hs : List History). record { options = c.self.inside.options; histories = hs })
    (read_back owner_of c.self.inside.parts.items c.partition_of-at.result c.index_mut-part.result.now c.get-answer.new.self
    c.index_mut-part.ensures.value c.get-answer.ensures.same) ∙ c.self.view_is
