use Rattle.std.proofs.Common.{drop}
use Rattle.memcached_text.proofs.NumberLaws.{IsPartRead}
use Rattle.memcached_text.proofs.number.number_of.Given as goal

abbrev pub invariant-loop-byte : goal.invariant-loop-byte
invariant-loop-byte l = IsPartRead l.word l.number (drop l.byte-index l.word)
