use Rattle.std.proofs.Common.{◌∙◌, ◌&&◌, ap}
use Rattle.mica_words.specs.Hash.{partition_of, bucket_of}
use Rattle.mica_words.specs.Mark.{is_mark}
use Rattle.fronts.specs.Flushes.{flush_in}
use Rattle.command_answers.proofs.Flushing.{one_flush}
use Rattle.command_answers.proofs.flush.flush_one.Goals as goal

pub returns-clause-flushed : goal.returns-clause-flushed
returns-clause-flushed g c =
    let F = g.F.Front in
    let options = F.options c.args.front.now in
    let key = c.value.result.now in
    let made = c.flush_key.ensures in
    let same = c.value.ensures.value in
    let one = one_flush options c.args.flush F.is_alone (F.sessions c.args.front.now) (F.sessions c.delete-outcome.new.self) c.args.partition key c.delete-outcome.result.0
    c.delete-outcome.result.1 (λ i. (ap is_mark same ∙ made.mark) i && c.requires.marks i) (ap flush_in same ∙ made.flush)
    (ap (λ k. partition_of options.hashing k options.partitions) same ∙ made.partition) (ap (λ k. bucket_of options.hashing k options.buckets) same ∙ made.bucket) c.delete-outcome.ensures.written
    c.delete-outcome.ensures.others in
    (one.0, one.1, one.2, c.is_accepted.ensures ∙ one.3)
