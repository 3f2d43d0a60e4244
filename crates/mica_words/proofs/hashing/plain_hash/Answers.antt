use Rattle.std.proofs.Common.{refl}
use Rattle.mica_words.specs.Hash.{hash_of}
use Rattle.mica_words.proofs.hashing.plain_hash.Goals as goal

pub returns : goal.returns
unfolding hash_of
returns c key = refl
