use Rattle.std.proofs.Common.{◌≡◌, ◌+◌, ◌<◌, suc, refl, ap, subst, ◌∙◌, arith}
use Rattle.partition_words.specs.declared.shape.Shape.{Shape}
use Rattle.partition_words.specs.declared.state.OwnerState.{OwnerState}
use Rattle.partition_words.specs.Kept.{Kept}
use Rattle.partition_words.specs.OwnerState.{link_in}
use Rattle.partition_walk.specs.Listed.{Adds, HasItem}
use Rattle.partition_walk.proofs.Added.{HasCome, come_first, come_end, come_then, come_out, spare_behind}
use Rattle.partition_walk.proofs.listing.list_chain.Given.{Over}
use Rattle.partition_walk.proofs.listing.list_chain.Goals.{After-read-next}
use Rattle.partition_walk.proofs.listing.list_chain.Goals as goal

pub loop-link-init : goal.loop-link-init
loop-link-init g c = record { owner = refl; home = refl; come = come_first (g.W.OwnerWords.owner c.args.words.now) c.args.bucket c.args.offsets.now.items c.requires.bucket }

-- behind the read of a link

module _ (g : Over) (c : After-read-next g) where
  abbrev o : OwnerState
  o = g.W.OwnerWords.owner c.args.words.now

  same : g.W.OwnerWords.owner c.list_bucket.new.words ≡ o
  same = c.list_bucket.ensures.same ∙ c.loop-link.invariant.owner

  link : c.read-next.result ≡ link_in o c.loop-link.at
  link = c.read-next.ensures.value ∙ ap (λ (p : OwnerState). link_in p c.loop-link.at) same

  adds : Adds (HasItem o c.loop-link.at) c.loop-link.offsets.items c.list_bucket.new.offsets.items
  adds = subst (λ (p : OwnerState). Adds (HasItem p c.loop-link.at) c.loop-link.offsets.items c.list_bucket.new.offsets.items) c.loop-link.invariant.owner c.in_ok-list_bucket.ensures.listed

  kept : Kept o
  kept = subst Kept (c.read-next.ensures.same ∙ same) c.read-next.ensures.kept

  less : c.loop-link._link < suc o.shape.spares
  less = omega (arith, c.loop-link-test.true, ap (λ (z : Shape). z.spares) c.requires.shape)

  further : (c.read-next.result ≡ 0 → ⊥) → HasCome o c.args.bucket c.args.offsets.now.items (c.loop-link._link + 1) c.read-next.result c.list_bucket.new.offsets.items
  further some =
      come_then o c.args.bucket c.args.offsets.now.items c.loop-link._link c.loop-link.at c.loop-link.offsets.items c.loop-link.invariant.come less c.list_bucket.new.offsets.items adds
      c.read-next.result link some (spare_behind o kept c.loop-link.at c.read-next.result c.loop-link.invariant.come.bucket link some)

pub returns-then-next-eq0-clause-listed : goal.returns-then-next-eq0-clause-listed
returns-then-next-eq0-clause-listed g c =
    let a = (goal.at.returns-then-next-eq0-clause-listed g c).After-read-next in
    come_end (o g a) c.args.bucket c.args.offsets.now.items c.loop-link._link c.loop-link.at c.loop-link.offsets.items c.loop-link.invariant.come (less g a) c.list_bucket.new.offsets.items (adds g a)
    c.read-next.result (link g a) (omega (arith, c.if-next-eq0.true))

pub loop-link-preserved : goal.loop-link-preserved
loop-link-preserved g c =
    let a = (goal.at.loop-link-preserved g c).After-read-next in
    record {
      owner = c.read-next.ensures.same ∙ same g a;
      home = c.read-next.ensures.home ∙ (c.list_bucket.ensures.home ∙ c.loop-link.invariant.home);
      come = further g a (λ none. omega (arith, none, c.if-next-eq0.false));
    }

pub returns-else-next-eq0-clause-listed : goal.returns-else-next-eq0-clause-listed
returns-else-next-eq0-clause-listed g c =
    let a = (goal.at.returns-else-next-eq0-clause-listed g c).After-read-next in
    come_out (o g a) c.args.bucket c.args.offsets.now.items (c.loop-link._link + 1) c.read-next.result c.list_bucket.new.offsets.items (further g a (λ none. omega (arith, none, c.if-next-eq0.false)))
    (omega (arith, c.loop-link-test.true, ap (λ (z : Shape). z.spares) c.requires.shape))
