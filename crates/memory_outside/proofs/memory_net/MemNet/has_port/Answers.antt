use Rattle.std.proofs.Common.{◌≡◌, sym, ap, ◌∙◌}
use Rattle.std.specs.Prelude.{◌==◌, position}
use Rattle.memory_outside.proofs.MemoryPortLaws.{added}
use Rattle.memory_outside.proofs.memory_net.MemNet.has_port.Goals as goal

pub returns : goal.returns
returns c =
    let ports = c.args.self.now.ports.items in
    let at : position (λ p. p.number == c.args.port) ports ≡ c.find.result = sym (c.find.ensures ∙ ap (position (λ p. p.number == c.args.port)) c.as_slice.ensures.value) in
    c.is_some.ensures ∙ added c.args.port ports c.find.result at
