use Rattle.std.proofs.Common.{length, ap, sym, ◌∙◌}
use Rattle.connections.specs.Connection.{after_read}
use Rattle.connections.proofs.Places.{changed_set}
use Rattle.memory_connections.proofs.memory_list.take_at.Goals as goal

pub returns-clause-after : goal.returns-clause-after
returns-clause-after c =
    changed_set c.args.place (after_read (length c.take.result.now)) c.args.all.now.items c.index_mut.result.now c.take.new.self c.requires.there c.index_mut.ensures.value
    (c.take.ensures.after ∙ ap (λ n. after_read n c.index_mut.result.now) (sym c.take.ensures.count))
