use Rattle.std.proofs.Common.{◌≡◌, length}
use Rattle.memcached_text.proofs.KeyLaws.{keys_in}
use Rattle.memcached_text.proofs.words.are_short.Given as goal

abbrev pub invariant-loop-rest : goal.invariant-loop-rest
invariant-loop-rest l = keys_in l.text ≡ keys_in l.rest

abbrev pub decreases-loop-rest : goal.decreases-loop-rest
decreases-loop-rest l = length l.rest
