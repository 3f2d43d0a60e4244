use Rattle.std.proofs.Common.{List}
use Rattle.batch_packets.specs.declared.batch.Request.{Request}
use Rattle.batch_packets.specs.Remaining.{HasLeft}
use Rattle.batch_packets.proofs.Taking.{IsReading}
use Rattle.datagram_answers.proofs.batch_ahead.load_ahead.Given as goal

abbrev pub invariant-loop-i : goal.invariant-loop-i
invariant-loop-i g l = (read : List Request) × IsReading (HasLeft l.ahead) (λ _. Unit {0}) l.count l.i read
