use Rattle.memcached_text.proofs.MeaningLaws as meanings
use Rattle.memcached_text.proofs.NextLaws as laws
use Rattle.memcached_text.proofs.SpellingLaws as spelling
use Rattle.memcached_text.proofs.StreamLaws as stream
use Rattle.memcached_text.proofs.laws.one_command.Goals as goal

pub returns-clause-read : goal.returns-clause-read
returns-clause-read c = spelling.reads_back

pub returns-clause-one : goal.returns-clause-one
returns-clause-one c = spelling.one_command

pub returns-clause-stays : goal.returns-clause-stays
returns-clause-stays c = laws.stays

pub returns-clause-waits : goal.returns-clause-waits
returns-clause-waits c = laws.waits

pub returns-clause-goes_on : goal.returns-clause-goes_on
returns-clause-goes_on c = stream.goes_on

pub returns-clause-binary : goal.returns-clause-binary
returns-clause-binary c = meanings.ends_binary
