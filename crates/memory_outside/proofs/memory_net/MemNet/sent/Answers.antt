use Rattle.std.proofs.Common.{◌≡◌, inl, inr, None, Some, sym, ap, ◌∙◌}
use Rattle.std.specs.Prelude.{◌==◌, position}
use Rattle.std.specs.Option.{option_map}
use Rattle.outside.specs.PortStates.{Port, reply_sent}
use Rattle.memory_outside.specs.MemoryPorts.{told_port}
use Rattle.memory_outside.specs.declared.memory_ports.Place.{Place}
use Rattle.memory_outside.proofs.MemoryPortLaws.{found_at, not_found}
use Rattle.memory_outside.proofs.memory_net.MemNet.sent.Goals as goal

pub returns-in_err-at : goal.returns-in_err-at
returns-in_err-at c =
    let ports = c.args.self.now.ports.items in
    let at : position (λ p. p.number == c.args.port) ports ≡ None = sym (c.find.ensures ∙ ap (position (λ p. p.number == c.args.port)) c.as_slice.ensures.value) ∙ c.in_err-at.was in
    ap (option_map (λ r. r.now)) c.from_residual.ensures ∙ sym (ap (λ (p : Port). reply_sent p c.args.number) (not_found c.args.port ports at))

pub returns-in-Back : goal.returns-in-Back
returns-in-Back c =
    let ports = c.args.self.now.ports.items in
    let at : position (λ p. p.number == c.args.port) ports ≡ Some c.in_ok-at.at = sym (c.find.ensures ∙ ap (position (λ p. p.number == c.args.port)) c.as_slice.ensures.value) ∙ c.in_ok-at.was in
    let told = (found_at c.args.port ports c.in_ok-at.at c.index.result.now at c.index.ensures).told in
    c.get.ensures ∙ sym (ap (λ (p : Port). reply_sent p c.args.number) (told ∙ ap told_port c.in-Back.is))

pub returns-in-Waiting : goal.returns-in-Waiting
returns-in-Waiting c =
    let ports = c.args.self.now.ports.items in
    let at : position (λ p. p.number == c.args.port) ports ≡ Some c.in_ok-at.at = sym (c.find.ensures ∙ ap (position (λ p. p.number == c.args.port)) c.as_slice.ensures.value) ∙ c.in_ok-at.was in
    let told = (found_at c.args.port ports c.in_ok-at.at c.index.result.now at c.index.ensures).told in
    let none : reply_sent (told_port c.index.result.now.place) c.args.number ≡ None =
    elim c.in-Waiting.is as (λ _. reply_sent (told_port c.index.result.now.place) c.args.number ≡ None) [
      | inl w ↦ ap (λ (p : Place). reply_sent (told_port p) c.args.number) w.1
      | inr e ↦ ap (λ (p : Place). reply_sent (told_port p) c.args.number) e
    ] in
    sym (ap (λ (p : Port). reply_sent p c.args.number) told ∙ none)
