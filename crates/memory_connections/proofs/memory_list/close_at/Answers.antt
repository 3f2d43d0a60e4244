use Rattle.connections.specs.Connection.{after_close}
use Rattle.connections.proofs.Places.{changed_set}
use Rattle.memory_connections.proofs.memory_list.close_at.Goals as goal

pub returns-clause-after : goal.returns-clause-after
returns-clause-after c = changed_set c.args.place (after_close) c.args.all.now.items c.index_mut.result.now c.close.new.self c.requires.there c.index_mut.ensures.value c.close.ensures
