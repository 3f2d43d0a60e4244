use Rattle.std.proofs.Common.{rules, ◌≡◌, length, refl, ap, ◌∙◌}
use Rattle.std.specs.Prelude.{drop, min}
use Rattle.connections.specs.Connection.{Connection, after_read}
use Rattle.memory_connections.proofs.Views.{taken}
use Rattle.memory_connections.proofs.memory_connection.MemConnection.take.Goals as goal

pub returns-clause-after : goal.returns-clause-after
returns-clause-after c =
    let s = c.self.inside in
    let n : c.min-count.result ≡ min s.came c.args.most = search rules in
    let rest : c.split_at.result.1.now ≡ drop c.min-count.result s.unread.now = search rules in
    taken _ s.came c.min-count.result c.args.most s.unread.now c.split_at.result.1.now c.self.invariant refl refl n rest
    ∙ ap (λ (x : Connection). after_read (min (length x.waiting) c.args.most) x) c.self.view_is
