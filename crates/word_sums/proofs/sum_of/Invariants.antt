use Rattle.std.proofs.Common.{◌≡◌, drop}
use Rattle.word_sums.specs.Sum.{sum_of}
use Rattle.word_sums.proofs.sum_of.Given as goal

-- what is left brings the sum so far to the whole
abbrev pub invariant-loop-word : goal.invariant-loop-word
invariant-loop-word l = sum_of l.behind (drop l.word-index l.words) ≡ sum_of l.sum l.words
