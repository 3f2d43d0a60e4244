use Rattle.std.specs.Io.KnownBytes.{Keeps}
use Rattle.host_outside.proofs.std_sink.write_on.Given as goal

abbrev pub invariant-loop : goal.invariant-loop
invariant-loop g l = Keeps (g.W.Write.contents l.initial.into) (g.W.Write.contents l.into)
