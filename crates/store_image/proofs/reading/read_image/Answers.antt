use Rattle.std.proofs.Common.{sym, ◌∙◌, arith}
use Rattle.store_image.proofs.Complete.{faultless_texts, faultless_spells}
use Rattle.store_image.proofs.Faultless.{image_has_no_fault}
use Rattle.store_image.proofs.reading.read_image.Goals as goal

pub returns-in_err-count-clause-only : goal.returns-in_err-count-clause-only
returns-in_err-count-clause-only c = λ pairs is. let no = sym (image_has_no_fault c.args.from.now pairs is) ∙ c.in_err-count.ensures.fault in absurd (cc)

pub of-requires : goal.of-requires
of-requires c =
    let is = c.in_ok-count.ensures in
    rw (c.in_ok-from_slice.ensures.items, ← is.parts.0, ← is.parts.1) (faultless_texts c.args.from.now (λ k. omega (arith, c.type_inv.from k)) is.fault)

pub returns-clause-image : goal.returns-clause-image
returns-clause-image c =
    let is = c.in_ok-count.ensures in
    rw (c.of.ensures, c.in_ok-from_slice.ensures.items, ← is.parts.0, ← is.parts.1) (faultless_spells c.args.from.now (λ k. omega (arith, c.type_inv.from k)) is.fault)
