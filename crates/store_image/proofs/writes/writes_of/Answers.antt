use Rattle.std.proofs.Common.{◌<◌, ◌++◌, ◌∷◌, [], List, length, sym, ap, ◌∙◌, subst, arith, take}
use Rattle.std.specs.List.{All}
use Rattle.std.proofs.lemmas.List.{take_all}
use Rattle.partition_model.specs.declared.write.Write.{Write}
use Rattle.partition_model.specs.Write.{IsWrite}
use Rattle.store_image.specs.ImageWrites.{put_write, put_writes}
use Rattle.store_image.proofs.PutLines.{none_wrong, pair_next, left_next}
use Rattle.store_image.proofs.PutWrites.{write_more, are_writes}
use Rattle.store_image.proofs.writes.writes_of.Goals as goal

pub first_pair-requires : goal.first_pair-requires
first_pair-requires c = none_wrong c.args.image.now c.loop.counter (omega arith) c.texts-rest.ensures.image.each c.loop.rest.now c.loop.invariant.left

pub loop-preserved : goal.loop-preserved
loop-preserved c =
    let image = c.args.image.now in
    let i = c.loop.counter in
    let less : i < length image = omega arith in
    let all = c.texts-rest.ensures.image.each in
    let next = sym c.first_pair.ensures.parts.0 ∙ pair_next image i less all c.loop.rest.now c.loop.invariant.left in
    record {
      made = c.in_ok-push.ensures.items ∙ ap (λ (ws : List Write). ws ++ c.in_ok-put_of.field-0 ∷ []) c.loop.invariant.made
          ∙ ap (λ (w : Write). put_writes (take i image) ++ w ∷ []) (c.in_ok-put_of.ensures ∙ ap put_write next) ∙ write_more image i less;
      left = sym c.first_pair.ensures.parts.1 ∙ left_next image i less all c.loop.rest.now c.loop.invariant.left;
    }

pub returns-clause-are_writes : goal.returns-clause-are_writes
returns-clause-are_writes c = subst (λ (ws : List Write). All IsWrite ws) (sym (c.loop.invariant.made ∙ ap put_writes (take_all c.loop.counter c.args.image.now (omega arith)))) (are_writes c.args.image.now c.texts-rest.ensures.image.each)
