use Rattle.connections.specs.Connection.{after_write}
use Rattle.connections.proofs.Places.{changed_set}
use Rattle.memory_connections.proofs.memory_list.narrow_at.Goals as goal

pub returns-clause-after : goal.returns-clause-after
returns-clause-after c = changed_set c.args.place (after_write c.args.count) c.args.all.now.items c.index_mut.result.now c.narrow.new.self c.requires.there c.index_mut.ensures.value c.narrow.ensures
