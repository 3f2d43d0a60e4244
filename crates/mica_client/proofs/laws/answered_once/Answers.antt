use Rattle.mica_client.proofs.Replied.{replied_once}
use Rattle.mica_client.proofs.laws.answered_once.Goals as goal

pub returns : goal.returns
returns c options trace report passed left means = replied_once options trace report passed means
