use Rattle.connections.specs.Connection.{after_ask}
use Rattle.connections.proofs.Places.{changed_set}
use Rattle.memory_connections.proofs.memory_list.ask_at.Goals as goal

pub returns-clause-after : goal.returns-clause-after
returns-clause-after c = changed_set c.args.place (after_ask) c.args.all.now.items c.index_mut.result.now c.ask.new.self c.requires.there c.index_mut.ensures.value c.ask.ensures
