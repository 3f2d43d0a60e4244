use Rattle.std.proofs.Common.{◌≡◌, ◌-◌, ℕ, List, true, false, eqb, take, drop, ap, sym, ◌∙◌, arith}
use Rattle.std.specs.List.{list_all}
use Rattle.std.proofs.lemmas.List.{length-drop, length-take}
use Rattle.saved_items.specs.Reader.{rest_of}
use Rattle.saved_items.proofs.Ends.{ends_whole, ends_behind, ends_other, ends_full, rest_is}
use Rattle.saved_items.proofs.reading.read_end.Goals as goal

pub returns-then-reader-eq0-clause-ends : goal.returns-then-reader-eq0-clause-ends
returns-then-reader-eq0-clause-ends g c =
    let reader = c.args.reader.now in
    ends_full (g.S.Source.left c.args.source.now) reader.sum (rest_of reader)
    (omega (arith, reader.whole, reader.block.ok.0, c.if-reader-eq0.true, length-drop reader.at (take 65528 reader.block.items), length-take 65528 reader.block.items))

pub returns-then-not-has_zeros_alone-clause-ends : goal.returns-then-not-has_zeros_alone-clause-ends
returns-then-not-has_zeros_alone-clause-ends g c =
    let reader = c.args.reader.now in
    let other : c.has_zeros_alone.result ≡ false = cc in
    ends_other (g.S.Source.left c.args.source.now) reader.sum (rest_of reader)
    (ap (list_all (λ (byte : ℕ). eqb byte 0)) (rest_is reader.at reader.block.items reader.in_range ∙ ap (λ (b : List ℕ). take (65528 - reader.at) (drop reader.at b)) (sym c.as_slice.ensures.value))
    ∙ sym c.has_zeros_alone.ensures ∙ other)

pub returns-then-branch-gt0-clause-ends : goal.returns-then-branch-gt0-clause-ends
returns-then-branch-gt0-clause-ends g c =
    let reader = c.args.reader.now in
    let n = c.in_ok-read.field-0 in
    ends_behind (g.S.Source.left c.args.source.now) (g.S.Source.left c.read.new.self) reader.sum (rest_of reader) (take n c.read.new.out) c.in_ok-read.ensures.given
    (omega (arith, c.in_ok-read.ensures.fits, c.read.auto.out, c.if-branch-gt0.true, length-take n c.read.new.out))

pub returns-clause-ends : goal.returns-clause-ends
returns-clause-ends g c =
    let reader = c.args.reader.now in
    let n = c.in_ok-read.field-0 in
    let zeros : c.has_zeros_alone.result ≡ true = cc in
    ends_whole (g.S.Source.left c.args.source.now) (g.S.Source.left c.read.new.self) reader.sum (rest_of reader) (take n c.read.new.out) c.in_ok-read.ensures.given
    (omega (arith, c.if-branch-gt0.false, length-take n c.read.new.out)) (c.in_ok-read.ensures.end (omega (arith, c.if-branch-gt0.false)))
    (omega (arith, c.if-reader-eq0.false, reader.whole, reader.block.ok.0, length-drop reader.at (take 65528 reader.block.items), length-take 65528 reader.block.items))
    (ap (list_all (λ (byte : ℕ). eqb byte 0)) (rest_is reader.at reader.block.items reader.in_range ∙ ap (λ (b : List ℕ). take (65528 - reader.at) (drop reader.at b)) (sym c.as_slice.ensures.value))
    ∙ sym c.has_zeros_alone.ensures ∙ zeros)
