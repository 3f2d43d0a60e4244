use Rattle.memcached_text.proofs.QuietLaws as quiet
use Rattle.memcached_text.proofs.laws.quiet_as_asked.Goals as goal

pub returns : goal.returns
returns c = quiet.quiet_as_asked
