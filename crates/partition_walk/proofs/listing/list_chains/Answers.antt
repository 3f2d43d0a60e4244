use Rattle.std.proofs.Common.{◌≡◌, ℕ, [], ap, subst, ◌∙◌, arith}
use Rattle.partition_words.specs.declared.shape.Shape.{Shape}
use Rattle.partition_words.specs.declared.state.OwnerState.{OwnerState}
use Rattle.partition_walk.specs.Listed.{Adds, HasItemInChain}
use Rattle.partition_walk.proofs.Added.{HasItemUpTo, one_bucket, all_buckets}
use Rattle.partition_walk.proofs.listing.list_chains.Goals as goal

pub loop-bucket-preserved : goal.loop-bucket-preserved
loop-bucket-preserved g c =
    let o = g.W.OwnerWords.owner c.args.words.now in
    record {
      owner = c.list_chain.ensures.same ∙ c.loop-bucket.invariant.owner;
      home = c.list_chain.ensures.home ∙ c.loop-bucket.invariant.home;
      listed = one_bucket o c.loop-bucket.bucket c.loop-bucket.offsets.items c.list_chain.new.offsets.items c.loop-bucket.invariant.listed
          (subst (λ (p : OwnerState). Adds (HasItemInChain p c.loop-bucket.bucket) c.loop-bucket.offsets.items c.list_chain.new.offsets.items) c.loop-bucket.invariant.owner c.in_ok-list_chain.ensures.listed);
    }

pub returns-clause-listed : goal.returns-clause-listed
returns-clause-listed g c =
    let o = g.W.OwnerWords.owner c.args.words.now in
    let end : c.loop-bucket.bucket ≡ o.shape.buckets = omega (arith, c.loop-bucket-test.false, c.loop-bucket.auto.bucket-end, ap (λ (z : Shape). z.buckets) c.shape-shape.ensures.same) in
    all_buckets o c.loop-bucket.offsets.items (subst (λ (n : ℕ). Adds (HasItemUpTo o n) [] c.loop-bucket.offsets.items) end c.loop-bucket.invariant.listed)
