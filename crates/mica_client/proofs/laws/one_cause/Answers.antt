use Rattle.mica_client.proofs.Deciding.{one_answer}
use Rattle.mica_client.proofs.laws.one_cause.Goals as goal

pub returns : goal.returns
returns c = one_answer c.one_reading.ensures.replies
