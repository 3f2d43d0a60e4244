use Rattle.partition_sizes.proofs.Fitting.{possible, within, words_enough, longest_enough, buckets_enough}
use Rattle.partition_sizes.proofs.laws.sizes_fit.Goals as goal

pub returns-clause-possible : goal.returns-clause-possible
returns-clause-possible c = possible

pub returns-clause-within : goal.returns-clause-within
returns-clause-within c = within

pub returns-clause-words : goal.returns-clause-words
returns-clause-words c = words_enough

pub returns-clause-longest : goal.returns-clause-longest
returns-clause-longest c = longest_enough

pub returns-clause-buckets : goal.returns-clause-buckets
returns-clause-buckets c = buckets_enough
