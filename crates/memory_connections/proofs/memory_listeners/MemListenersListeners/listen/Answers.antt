use Rattle.std.proofs.Common.{Some, ap}
use Rattle.memory_connections.proofs.memory_listeners.MemListenersListeners.listen.Goals as goal

pub returns-clause-taken : goal.returns-clause-taken
returns-clause-taken c = ap Some c.give_all.ensures.taken
