use Rattle.std.proofs.Common.{◌≡◌, None, Some, sym, ap, ◌∙◌}
use Rattle.std.specs.Prelude.{◌==◌, position}
use Rattle.std.proofs.lemmas.Result.{on_ok_weaker, on_err_weaker}
use Rattle.outside.specs.PortStates.{Port, absent, with_port, with_datagram, takes_datagram}
use Rattle.memory_outside.specs.MemoryPorts.{ports_in}
use Rattle.memory_outside.proofs.MemoryPortLaws.{found_at, not_found, kept}
use Rattle.memory_outside.proofs.memory_ports.add_datagram.Goals as goal

pub unreachable-requires : goal.unreachable-requires
unreachable-requires c =
    let ports = c.args.ports.now.items in
    let at : position (λ p. p.number == c.args.number) ports ≡ None = sym (c.find.ensures ∙ ap (position (λ p. p.number == c.args.number)) c.as_slice.ensures.value) ∙ c.in_default.is in
    let none : takes_datagram (ports_in ports c.args.number) ≡ takes_datagram absent = ap takes_datagram (not_found c.args.number ports at) in
    let some = c.requires in
    cc

pub add-requires : goal.add-requires
add-requires c =
    let ports = c.args.ports.now.items in
    let at : position (λ p. p.number == c.args.number) ports ≡ Some c.in-Some.at = sym (c.find.ensures ∙ ap (position (λ p. p.number == c.args.number)) c.as_slice.ensures.value) ∙ c.in-Some.is in
    sym (ap takes_datagram (found_at c.args.number ports c.in-Some.at c.index_mut.result.now at c.index_mut.ensures.value).told) ∙ c.requires

pub returns-clause-ok : goal.returns-clause-ok
returns-clause-ok c =
    let ports = c.args.ports.now.items in
    let at : position (λ p. p.number == c.args.number) ports ≡ Some c.in-Some.at = sym (c.find.ensures ∙ ap (position (λ p. p.number == c.args.number)) c.as_slice.ensures.value) ∙ c.in-Some.is in
    let f = found_at c.args.number ports c.in-Some.at c.index_mut.result.now at c.index_mut.ensures.value in
    on_ok_weaker c.add.result
    (λ one. f.put c.add.new.self
    ∙ ap (λ (p : Port). with_port c.args.number p (ports_in ports)) (one ∙ ap (with_datagram c.args.datagram) (sym f.told)))
    c.add.ensures.ok

pub returns-clause-err : goal.returns-clause-err
returns-clause-err c =
    let ports = c.args.ports.now.items in
    let at : position (λ p. p.number == c.args.number) ports ≡ Some c.in-Some.at = sym (c.find.ensures ∙ ap (position (λ p. p.number == c.args.number)) c.as_slice.ensures.value) ∙ c.in-Some.is in
    let f = found_at c.args.number ports c.in-Some.at c.index_mut.result.now at c.index_mut.ensures.value in
    on_err_weaker c.add.result
    (λ same. f.put c.add.new.self
    ∙ ap (λ (p : Port). with_port c.args.number p (ports_in ports)) (same ∙ sym f.told) ∙ kept c.args.number (ports_in ports))
    c.add.ensures.err
