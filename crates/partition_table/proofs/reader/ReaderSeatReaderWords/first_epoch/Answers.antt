use Rattle.std.proofs.Common.{rules, ◌≡◌, true, sym, ap, ◌∙◌, subst}
use Rattle.partition_words.specs.declared.shape.Shape.{Shape}
use Rattle.partition_words.specs.declared.shape.WordAt.TheVariants.{Epoch}
use Rattle.partition_words.specs.Shape.{IsMain, is_in_range}
use Rattle.partition_words.specs.Layout.{word_count}
use Rattle.partition_table.specs.Rule.{Seated, is_reader, reader_in}
use Rattle.partition_table.proofs.Steps.{opens_here, opened_tries}
use Rattle.partition_table.proofs.Bounds.{word_inside}
use Rattle.partition_table.proofs.reader.ReaderSeatReaderWords.first_epoch.Goals as goal

pub load-epoch-requires : goal.load-epoch-requires
load-epoch-requires c =
    let self = c.args.self.now in
    let there = word_inside self.places.shape (Epoch c.args.bucket) c.of-place.result _ self.valid (subst (λ (z : Shape). IsMain z c.args.bucket) self.shaped c.requires) c.of-place.ensures.place self.wide in
    (search rules, search rules, opens_here _ _ self.seat.me self.reads c.args.bucket _ c.of-place.ensures.place c.requires)

pub invariant_of-self : goal.invariant_of-self
invariant_of-self c =
    let self = c.args.self.now in
    let main = subst (λ (z : Shape). IsMain z c.args.bucket) self.shaped c.requires in
    let same = c.of-place.ensures.shape in
    let opened = (c.load-epoch.ensures.2 c.args.bucket c.of-place.ensures.place).0 in record {
      seated = search rules;
      wide = self.wide ∙ ap word_count (sym same);
      valid = subst (λ (z : Shape). is_in_range z ≡ true) (sym same) self.valid;
      reads = ap (λ (z : Seated). is_reader z.0) opened;
      light = ap (λ (z : Seated). z.1) opened ∙ self.light;
      shaped = ap (λ (z : Seated). (reader_in z.0).shape) opened ∙ (self.shaped ∙ sym same);
      tries = λ t e. (opened_tries (reader_in self.seat.me.0) (reader_in c.load-epoch.new.seat.me.0) c.args.bucket c.load-epoch.result (ap (λ (z : Seated). reader_in z.0) opened) t e, subst (λ (z : Shape). IsMain z c.args.bucket) (sym same) main);
    }

pub returns-clause-least : goal.returns-clause-least
returns-clause-least c = (c.load-epoch.ensures.2 c.args.bucket c.of-place.ensures.place).1
