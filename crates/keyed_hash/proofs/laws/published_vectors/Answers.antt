use Rattle.std.proofs.Common.{refl}
use Rattle.std.specs.Hash.DefaultHasher.{with_keys, write, write_byte, write_word, round, finish}
use Rattle.keyed_hash.specs.SipHash.{siphash}
use Rattle.keyed_hash.proofs.laws.published_vectors.Goals as goal

pub returns-clause-of_0 : goal.returns-clause-of_0
unfolding siphash with_keys write write_byte write_word round finish
returns-clause-of_0 c = refl

pub returns-clause-of_1 : goal.returns-clause-of_1
unfolding siphash with_keys write write_byte write_word round finish
returns-clause-of_1 c = refl

pub returns-clause-of_2 : goal.returns-clause-of_2
unfolding siphash with_keys write write_byte write_word round finish
returns-clause-of_2 c = refl

pub returns-clause-of_7 : goal.returns-clause-of_7
unfolding siphash with_keys write write_byte write_word round finish
returns-clause-of_7 c = refl

pub returns-clause-of_8 : goal.returns-clause-of_8
unfolding siphash with_keys write write_byte write_word round finish
returns-clause-of_8 c = refl

pub returns-clause-of_9 : goal.returns-clause-of_9
unfolding siphash with_keys write write_byte write_word round finish
returns-clause-of_9 c = refl

pub returns-clause-of_15 : goal.returns-clause-of_15
unfolding siphash with_keys write write_byte write_word round finish
returns-clause-of_15 c = refl

pub returns-clause-of_16 : goal.returns-clause-of_16
unfolding siphash with_keys write write_byte write_word round finish
returns-clause-of_16 c = refl

pub returns-clause-of_63 : goal.returns-clause-of_63
unfolding siphash with_keys write write_byte write_word round finish
returns-clause-of_63 c = refl
