use Rattle.std.specs.Prelude.{bit_xor}
use Rattle.std.proofs.Common.{ℕ, ap}
use Rattle.std.specs.declared.hash.DefaultHasher.{DefaultHasher}
use Rattle.std.specs.Hash.DefaultHasher.{write_word}
use Rattle.keyed_hash.proofs.mixed.Mixed.with_word.Goals as goal

abbrev mixed_in : ℕ → DefaultHasher → DefaultHasher
mixed_in word s = record s { v0 = bit_xor s.v0 word }

pub returns : goal.returns
unfolding write_word
returns c = λ tail count. ap (mixed_in c.args.word) (c.round-mixed.ensures tail count)
