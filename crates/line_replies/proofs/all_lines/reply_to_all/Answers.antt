use Rattle.std.proofs.Common.{◌≡◌, ◌+◌, ◌<◌, ◌++◌, ◌∷◌, [], List, length, map, take, get_or, set, sym, ap, ◌∙◌, subst, arith}
use Rattle.std.proofs.Math.Seq.{map-set_same}
use Rattle.std.proofs.lemmas.List.{take_more, length-take-le, length-map}
use Rattle.mica_words.specs.Hash.{hash_of, hash_partition}
use Rattle.mica_words.proofs.Hashes.{partition_of_hash, partition_of-below}
use Rattle.mica_trace.specs.declared.line.TraceLine.{TraceLine}
use Rattle.mica_trace.specs.LawfulReport.{IsLineFor}
use Rattle.mica_trace.specs.Rounds.{partition_in}
use Rattle.mica_trace.proofs.ListParts.{length_zip}
use Rattle.line_replies.specs.Answered.{AreAnswered}
use Rattle.line_replies.proofs.Parts.{part_replied, all_taken}
use Rattle.line_replies.proofs.all_lines.reply_to_all.Goals as goal

pub push-requires : goal.push-requires
push-requires g c =
    let lines = c.args.trace.now in
    let i = c.loop-line.line-index in
    let less = c.loop-line-test.true in
    let same = c.lines-line-items.ensures.same in
    let within : i < length lines = subst (λ (ls : List TraceLine). i < length ls) same less in
    let long = length_zip IsLineFor (take i lines) c.loop-line.report c.loop-line.invariant.0.exact.lines in
    let few = c.lines-line-items.ensures.within.few_lines in
    omega (arith, length-take-le i lines (omega arith))

pub loop-line-preserved : goal.loop-line-preserved
loop-line-preserved g c =
    let options = c.args.options.now in
    let lines = c.args.trace.now in
    let i = c.loop-line.line-index in
    let line = c.line-item.result in
    let same = c.lines-line-items.ensures.same in
    let within : i < length lines = subst (λ (ls : List TraceLine). i < length ls) same c.loop-line-test.true in
    let line_is : line ≡ get_or lines i line = subst (λ (ls : List TraceLine). line ≡ get_or ls i line) same c.line-item.is in
    let at = c.partition_of-partition.result in
    let number : at ≡ partition_in options line =
    c.partition_of-partition.ensures ∙ ap (λ h. hash_partition h options.partitions) (c.key_hash.ensures ∙ ap (hash_of options.hashing) c.bytes.ensures) ∙ sym (partition_of_hash options.hashing line.key options.partitions) in
    let low = partition_of-below options.hashing line.key options.partitions c.requires.valid.partitions.0 in
    let many = c.loop-line.invariant.0.many in
    let below : at < length c.loop-line.parts.items = omega (arith, length-map c.loop-line.parts.items g.P.Partition.owner) in
    let more : take i lines ++ line ∷ [] ≡ take (i + 1) lines = ap (λ (x : TraceLine). take i lines ++ x ∷ []) line_is ∙ sym (take_more lines i line within) in
    let next = part_replied g.P.Partition.owner options (take i lines) c.loop-line.report line c.in_ok-reply_to.field-0 c.loop-line.parts.items at c.index_mut-part.result.now c.reply_to.new.part
    (all_taken lines i c.lines-line-items.ensures.lines) c.loop-line.invariant.0 number below c.index_mut-part.ensures.value c.in_ok-reply_to.ensures.ok in
    let homes = map-set_same g.P.Partition.home c.loop-line.parts.items at c.reply_to.new.part c.index_mut-part.result.now
    (c.reply_to.ensures.home ∙ ap g.P.Partition.home c.index_mut-part.ensures.value) in
    (rw (c.in_ok-push.ensures.ok) (subst (λ (ls : List TraceLine). AreAnswered options ls (c.loop-line.report ++ c.in_ok-reply_to.field-0 ∷ []) (map g.P.Partition.owner (set c.loop-line.parts.items at c.reply_to.new.part))) more next), homes ∙ c.loop-line.invariant.1)

pub returns-in_err-reply_to-clause-homes : goal.returns-in_err-reply_to-clause-homes
returns-in_err-reply_to-clause-homes g c =
    map-set_same g.P.Partition.home c.loop-line.parts.items c.partition_of-partition.result c.reply_to.new.part c.index_mut-part.result.now
    (c.reply_to.ensures.home ∙ ap g.P.Partition.home c.index_mut-part.ensures.value) ∙ c.loop-line.invariant.1

pub returns-in_err-push-clause-homes : goal.returns-in_err-push-clause-homes
returns-in_err-push-clause-homes g c =
    map-set_same g.P.Partition.home c.loop-line.parts.items c.partition_of-partition.result c.reply_to.new.part c.index_mut-part.result.now
    (c.reply_to.ensures.home ∙ ap g.P.Partition.home c.index_mut-part.ensures.value) ∙ c.loop-line.invariant.1
