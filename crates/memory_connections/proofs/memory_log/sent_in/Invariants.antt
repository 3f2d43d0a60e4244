use Rattle.std.proofs.Common.{◌≡◌, take}
use Rattle.connections.specs.Log.{sent_of}
use Rattle.memory_connections.specs.MemoryLog.{entries_in}
use Rattle.memory_connections.proofs.memory_log.sent_in.Given as goal

abbrev pub invariant-loop-mark : goal.invariant-loop-mark
invariant-loop-mark l = l.all.items ≡ sent_of l.place (entries_in l.bytes (take l.mark-index l.marks))
