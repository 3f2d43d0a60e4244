use Rattle.mica_client.proofs.Sending.{sent_so_far, sent_whole, begins_sending}
use Rattle.mica_client.proofs.laws.sent_in_order.Goals as goal

pub returns-clause-so_far : goal.returns-clause-so_far
returns-clause-so_far c = sent_so_far

pub returns-clause-whole : goal.returns-clause-whole
returns-clause-whole c = sent_whole

pub returns-clause-begins : goal.returns-clause-begins
returns-clause-begins c = begins_sending
