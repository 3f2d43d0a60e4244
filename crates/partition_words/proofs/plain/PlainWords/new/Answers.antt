use Rattle.std.proofs.Common.{[], ◌∷◌, arith}
use Rattle.partition_words.proofs.DiaryKeeps.{starts}
use Rattle.partition_words.proofs.Shapes.{in_range_possible}
use Rattle.partition_words.proofs.plain.PlainWords.new.Goals as goal

pub of_words-requires : goal.of_words-requires
of_words-requires c = starts _ (0 ∷ []) c.requires

pub invariant_of-result-clause-valid : goal.invariant_of-result-clause-valid
invariant_of-result-clause-valid c = in_range_possible c.args.shape.now c.requires

pub invariant_of-result-clause-some_words : goal.invariant_of-result-clause-some_words
invariant_of-result-clause-some_words c = let words = c.requires.ranges.words.0 in omega arith
