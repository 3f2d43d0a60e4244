use Rattle.partition_words.proofs.Vocabulary.{ap, eqb-true, not}
use Rattle.scripted_reader.proofs.Settling.{settled, at_end, calm, quiet_is}
use Rattle.scripted_reader.proofs.scripted.Scripted.is_settled.Goals as goal

pub returns-then-self-last_cut : goal.returns-then-self-last_cut
returns-then-self-last_cut c = (
  λ quiet. settled c.args.self.now _ c.last_cut.ensures c.if-self-last_cut.true (quiet_is _ quiet),
  λ now. ap not (calm c.args.self.now _ c.last_cut.ensures now),
)

pub returns-else-self-last_cut : goal.returns-else-self-last_cut
returns-else-self-last_cut c = (
  λ same. absurd (c.if-self-last_cut.false (eqb-true _ _ same)),
  λ now. absurd (c.if-self-last_cut.false (at_end c.args.self.now _ c.last_cut.ensures now)),
)
