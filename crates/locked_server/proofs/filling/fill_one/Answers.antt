use Rattle.std.proofs.Common.{◌≡◌, sym, ap, ◌∙◌, subst}
use Rattle.mica_words.specs.declared.hashing.Hashing.{Hashing}
use Rattle.mica_words.specs.Hash.{hash_of, hash_partition, partition_of}
use Rattle.mica_words.proofs.Hashes.{partition_of_hash}
use Rattle.partition_model.specs.declared.write.Write.{Write}
use Rattle.partition_model.specs.Write.{write_of}
use Rattle.partition_words.specs.OwnerStep.{IsOwnerStep}
use Rattle.locked_server.proofs.filling.fill_one.Given as given
use Rattle.locked_server.proofs.filling.fill_one.Goals.{After-partition_of}
use Rattle.locked_server.proofs.filling.fill_one.Goals as goal

-- the partition that the code finds is that of the key
here : (g : given.Over) (c : After-partition_of g) → partition_of c.args.options.now.hashing c.args.write.now.key c.args.options.now.partitions ≡ c.partition_of.result
here g c =
    partition_of_hash c.args.options.now.hashing c.args.write.now.key c.args.options.now.partitions
    ∙ ap (λ h. hash_partition h c.args.options.now.partitions) (sym (c.key_hash-hash.ensures ∙ ap (hash_of c.args.options.now.hashing) c.bytes-key.ensures)) ∙ sym c.partition_of.ensures

pub write_counted-requires-clause-hashed : goal.write_counted-requires-clause-hashed
write_counted-requires-clause-hashed g c = c.key_hash-hash.ensures ∙ ap (λ (h : Hashing). hash_of h c.bytes-key.result.now) (sym c.requires.hashing)

pub returns-then-partition_of-number-clause-own : goal.returns-then-partition_of-number-clause-own
returns-then-partition_of-number-clause-own g c is =
    absurd (c.if-partition_of-number.true (sym (here g (goal.at.returns-then-partition_of-number-clause-own g c).After-partition_of) ∙ is))

pub returns-clause-own : goal.returns-clause-own
returns-clause-own g c _ =
    let given = c.args.write.now in
    let same : write_of given.op c.bytes-key.result.now c.bytes.result.now ≡ given
    = λ i. record { op = given.op; key = c.bytes-key.ensures i; value = c.bytes.ensures i } in (
      c.write_counted.result,
      sym c.is_accepted.ensures,
      subst (λ (w : Write). IsOwnerStep (g.P.Partition.owner c.args.part.now) (g.P.Partition.owner c.write_counted.new.part) w c.write_counted.result) same c.write_counted.ensures.step,
    )

pub returns-clause-other : goal.returns-clause-other
returns-clause-other g c differs = absurd (differs (here g (goal.at.returns-clause-other g c).After-partition_of ∙ c.if-partition_of-number.false))
