use Rattle.std.proofs.Common.{◌≡◌, take}
use Rattle.mica_words.specs.Hash.{fnv1a}
use Rattle.mica_words.proofs.hash.key_hash.Given as goal

abbrev pub invariant-loop-byte : goal.invariant-loop-byte
invariant-loop-byte l = l.hash ≡ fnv1a (take l.byte-index l.key)
