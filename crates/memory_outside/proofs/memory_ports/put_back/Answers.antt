use Rattle.std.proofs.Common.{◌≡◌, None, Some, sym, ap, ◌∙◌}
use Rattle.std.specs.Prelude.{◌==◌, position}
use Rattle.outside.specs.PortStates.{absent}
use Rattle.memory_outside.specs.MemoryPorts.{ports_in}
use Rattle.memory_outside.specs.declared.memory_ports.Place.TheVariants.{Back}
use Rattle.memory_outside.proofs.MemoryPortLaws.{found_at, not_found}
use Rattle.memory_outside.proofs.memory_ports.put_back.Goals as goal

pub unreachable-requires : goal.unreachable-requires
unreachable-requires c =
    let ports = c.args.ports.now.items in
    let at : position (λ p. p.number == c.args.end.port) ports ≡ None = sym (c.find.ensures ∙ ap (position (λ p. p.number == c.args.end.port)) c.as_slice.ensures.value) ∙ c.in_default.is in
    let none : ports_in ports c.args.end.port ≡ absent = not_found c.args.end.port ports at in
    let is_out = c.requires in
    cc

pub returns : goal.returns
returns c =
    let ports = c.args.ports.now.items in
    let at : position (λ p. p.number == c.args.end.port) ports ≡ Some c.in-Some.at = sym (c.find.ensures ∙ ap (position (λ p. p.number == c.args.end.port)) c.as_slice.ensures.value) ∙ c.in-Some.is in
    (found_at c.args.end.port ports c.in-Some.at c.index_mut.result.now at c.index_mut.ensures.value).put (Back c.args.end)
