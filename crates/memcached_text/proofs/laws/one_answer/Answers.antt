use Rattle.memcached_text.proofs.AnswerLaws as answers
use Rattle.memcached_text.proofs.ReplyLaws as replies
use Rattle.memcached_text.proofs.laws.one_answer.Goals as goal

pub returns-clause-answer : goal.returns-clause-answer
returns-clause-answer c = answers.one_answer

pub returns-clause-values : goal.returns-clause-values
returns-clause-values c = replies.one_reply
