use Rattle.std.specs.Prelude.{bit_xor}
use Rattle.std.proofs.Common.{ℕ, ap, ◌∙◌}
use Rattle.std.specs.declared.hash.DefaultHasher.{DefaultHasher}
use Rattle.std.specs.Hash.DefaultHasher.{round, write_word, finish}
use Rattle.keyed_hash.specs.SipHash.{hasher_of}
use Rattle.keyed_hash.proofs.mixed.Mixed.finished.Goals as goal

abbrev turned : DefaultHasher → DefaultHasher
turned s = record s { v2 = bit_xor s.v2 255 }

abbrev together : DefaultHasher → ℕ
together s = bit_xor (bit_xor (bit_xor s.v0 s.v1) s.v2) s.v3

pub returns : goal.returns
unfolding finish
returns c = λ tail count is.
    let word = c.with_word-mixed.ensures tail count ∙ ap (write_word (hasher_of c.args.self tail count)) is in
    let one = c.round-one.ensures tail count ∙ ap (λ (s : DefaultHasher). round (turned s)) word in
    let two = c.round-two.ensures tail count ∙ ap round one in
    let three = c.round-three.ensures tail count ∙ ap round two in
    ap together three
