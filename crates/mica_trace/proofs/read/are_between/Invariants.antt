use Rattle.std.proofs.Common.{◌≤◌, ◌↔◌, IsTrue, take}
use Rattle.std.specs.List.{AllByRecursion}
use Rattle.mica_trace.proofs.read.are_between.Given as goal

abbrev pub invariant-loop-byte : goal.invariant-loop-byte
invariant-loop-byte l = IsTrue l.all ↔ AllByRecursion (λ b. (l.least ≤ b) × (b ≤ l.most)) (take l.byte-index l.text)
