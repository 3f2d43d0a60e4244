use Rattle.std.proofs.Common.{inl, inr}
use Rattle.mica_trace.proofs.OneExact.{one_exact}
use Rattle.mica_trace.proofs.laws.one_exact_report.Goals as goal

pub returns-clause-cache : goal.returns-clause-cache
returns-clause-cache c options trace a b valid mode one two = one_exact options valid trace a b one two (inl mode)

pub returns-clause-writes : goal.returns-clause-writes
returns-clause-writes c options trace a b valid agree one two = one_exact options valid trace a b one two (inr agree)
