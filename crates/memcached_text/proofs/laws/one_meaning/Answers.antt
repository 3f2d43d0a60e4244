use Rattle.memcached_text.proofs.MeaningLaws as meanings
use Rattle.memcached_text.proofs.laws.one_meaning.Goals as goal

pub returns-clause-words : goal.returns-clause-words
returns-clause-words c = meanings.splits_at_spaces

pub returns-clause-same : goal.returns-clause-same
returns-clause-same c = meanings.one_meaning
