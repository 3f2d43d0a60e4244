use Rattle.std.proofs.Common.{rules, sym, ap, ◌∙◌, subst}
use Rattle.partition_words.specs.declared.shape.Shape.{Shape}
use Rattle.partition_words.specs.declared.shape.WordAt.TheVariants.{Epoch}
use Rattle.partition_words.specs.Shape.{IsMain}
use Rattle.partition_words.specs.Events.{place_of}
use Rattle.partition_table.proofs.Steps.{adds_at}
use Rattle.partition_table.proofs.Bounds.{word_inside}
use Rattle.partition_table.proofs.owner.OwnerSeat.add_as.Goals as goal

pub fetch_add-requires : goal.fetch_add-requires
fetch_add-requires g c =
    let self = c.args.self.now in
    let there = word_inside self.places.shape (Epoch c.args.bucket) c.of-place.result _ self.valid c.requires.main c.of-place.ensures.place self.wide in (
      search rules,
      search rules,
      adds_at _ _ self.seat.me self.owns _ c.args.bucket _ (ap (λ (z : Shape). place_of z _) self.shaped ∙ c.requires.place) c.of-place.ensures.place
          (subst (λ (z : Shape). IsMain z c.args.bucket) (sym self.shaped) c.requires.main) c.requires.allowed c.requires.value,
    )
