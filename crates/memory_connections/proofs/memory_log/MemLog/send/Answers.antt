use Rattle.std.proofs.Common.{rules, ◌≡◌, ◌++◌, ◌∷◌, List, ℕ, length, ap, ◌∙◌}
use Rattle.memory_connections.specs.declared.memory_log.Mark.{Mark}
use Rattle.connections.specs.State.{sent}
use Rattle.memory_connections.specs.MemoryLog.{entries_in}
use Rattle.memory_connections.proofs.Marks.{sent_more}
use Rattle.memory_connections.proofs.memory_log.MemLog.send.Goals as goal

pub returns-clause-entries : goal.returns-clause-entries
returns-clause-entries c =
    let bytes = c.self.inside.bytes.items in
    let marks = c.self.inside.marks.items in
    let all : c.extend_from_slice.new.self.items ≡ bytes ++ c.args.bytes.now = search rules in
    let from : c.len-from.result ≡ length bytes = search rules in
    let to : c.len-to.result ≡ length (bytes ++ c.args.bytes.now) = search rules in
    ap (λ (b : List ℕ). entries_in b c.push_reserved.new.self.items) all
    ∙ ap (λ (m : List Mark). entries_in (bytes ++ c.args.bytes.now) m) c.push_reserved.ensures.items
    ∙ sent_more bytes c.args.bytes.now marks c.args.place c.len-from.result c.len-to.result c.self.invariant.2 from to
    ∙ ap (λ l. sent c.args.place c.args.bytes.now ∷ l.entries) c.self.view_is
