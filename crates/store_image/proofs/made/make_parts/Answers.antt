use Rattle.std.proofs.Common.{◌≡◌, ◌∙◌, ap, arith}
use Rattle.std.proofs.lemmas.List.Elements.{All-push}
use Rattle.partition_words.specs.OwnerState.{as_made}
use Rattle.partition_words.specs.Shape.{shape_of}
use Rattle.partition_words.specs.Seats.{diary_of}
use Rattle.line_replies.proofs.Parts.{none_answered}
use Rattle.store_image.proofs.made.make_parts.Goals as goal

pub loop-preserved : goal.loop-preserved
loop-preserved c =
    let made = c.in_ok-new.ensures.owner ∙ c.in_ok-words.ensures.made ∙ ap as_made c.of.ensures.same in (
      omega (arith, c.in_ok-push.ensures.len, c.loop.invariant.0),
      rw c.in_ok-push.ensures.items (All-push (λ p. (diary_of p.words).owner ≡ as_made (shape_of c.args.options.now)) c.loop.parts.items c.in_ok-new.field-0 c.loop.invariant.1 made),
    )

pub returns : goal.returns
returns c = none_answered (λ p. (diary_of p.words).owner) c.args.options.now c.loop.parts.items (omega (arith, c.loop.invariant.0)) c.loop.invariant.1
