use Rattle.std.proofs.Common.{◌≡◌, refl, subst, sym, List, arith}
use Rattle.std.specs.List.{All}
use Rattle.std.proofs.lemmas.List.Elements.{recursion_from_All, All-push}
use Rattle.partition_words.specs.Shape.{shape_of}
use Rattle.partition_words.specs.OwnerState.{as_made}
use Rattle.any_partition.specs.declared.plain.PlainPartition.{PlainPartition}
use Rattle.any_partition.specs.PlainPartition.{owner_of}
use Rattle.queue_front.proofs.SoloSteps.{none_made}
use Rattle.queue_front.proofs.solo.Owned.new.Goals as goal

pub loop-preserved : goal.loop-preserved
loop-preserved c =
    let P : PlainPartition → Type 0 = λ p. owner_of p ≡ as_made (shape_of c.args.options.now) in (
      omega (arith, c.in_ok-push.ensures.len, c.loop.invariant.0),
      subst (λ (parts : List PlainPartition). All P parts) (sym c.in_ok-push.ensures.items) (All-push P c.loop.parts.items c.in_ok-new.field-0 c.loop.invariant.1 c.in_ok-new.ensures),
    )

pub returns : goal.returns
returns c = record {
  options_are = refl;
  none = λ p. none_made owner_of (shape_of c.args.options.now) c.loop.parts.items p (recursion_from_All _ c.loop.parts.items c.loop.invariant.1);
}
