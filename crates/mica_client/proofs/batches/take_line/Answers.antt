use Rattle.std.proofs.Common.{◌++◌, [], sym, ap, ◌∙◌, arith}
use Rattle.std.specs.Prelude.{flat_map}
use Rattle.std.proofs.lemmas.Result.{on_ok_weaker}
use Rattle.mica_words.specs.declared.hashing.Hashing.TheVariants.{Fnv1a}
use Rattle.mica_words.proofs.Hashes.{partition_of-below}
use Rattle.mica_client.specs.declared.share.Share.{Share}
use Rattle.mica_client.specs.Cutting.{share_with}
use Rattle.mica_client.proofs.Requests.{lawful_request}
use Rattle.mica_client.proofs.Cutting.{takes_request, ends_round}
use Rattle.mica_client.proofs.batches.take_line.Goals as goal

pub index_mut-share-requires : goal.index_mut-share-requires
index_mut-share-requires c =
    let below = partition_of-below Fnv1a c.args.line.now.key c.args.options.now.partitions c.requires.valid.partitions.0 in
    omega (arith, below, c.part_of.ensures, c.requires.many, c.args.shares.now.ok)

pub put-requires-clause-lawful : goal.put-requires-clause-lawful
put-requires-clause-lawful c = lawful_request c.args.number c.args.line.now c.in-Some.request c.requires.lawful (sym c.request_of.ensures ∙ c.in-Some.is)

pub returns-in-Some-clause-taken : goal.returns-in-Some-clause-taken
returns-in-Some-clause-taken c =
    let shares = c.args.shares.now.items in
    let below = partition_of-below Fnv1a c.args.line.now.key c.args.options.now.partitions c.requires.valid.partitions.0 in
    on_ok_weaker c.put.result
    (λ put later all cutting. takes_request c.args.options.now c.args.number c.args.line.now later c.args.groups.now.items all shares cutting c.in-Some.request c.part_of.result c.index_mut-share.result.now c.put.new.self
    (sym c.request_of.ensures ∙ c.in-Some.is) c.part_of.ensures (omega (arith, below, c.part_of.ensures, c.requires.many)) c.index_mut-share.ensures.value put)
    c.put.ensures

pub returns-in_ok-shares_of-in-None-clause-taken : goal.returns-in_ok-shares_of-in-None-clause-taken
returns-in_ok-shares_of-in-None-clause-taken c =
    let groups = c.args.groups.now.items in
    let shares = c.args.shares.now.items in
    on_ok_weaker c.push_round.result
    (λ more later all cutting. rw (c.replace-round.ensures.after) (ends_round c.args.options.now c.args.number c.args.line.now later groups all shares cutting c.push_round.new.groups.items c.in_ok-shares_of-in-None.field-0.items
    (sym c.request_of.ensures ∙ c.in-None.is) c.requires.many
    (more ∙ ap (λ s. groups ++ flat_map (λ (share : Share). share_with c.args.options.now.per share []) s.items) c.replace-round.ensures.value) c.in_ok-shares_of-in-None.ensures.none))
    c.push_round.ensures
