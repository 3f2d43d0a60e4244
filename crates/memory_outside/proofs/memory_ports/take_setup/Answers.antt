use Rattle.std.proofs.Common.{◌≡◌, ◌<◌, ℕ, length, false, None, Some, sym, ap, ◌∙◌, subst, arith}
use Rattle.std.specs.Prelude.{◌==◌, position, slice_set}
use Rattle.std.specs.Option.{IfNone}
use Rattle.std.proofs.lemmas.List.{get_or-set_same, set-get_or}
use Rattle.outside.specs.PortStates.{is_waiting}
use Rattle.memory_outside.specs.MemoryPorts.{ports_in, told_port}
use Rattle.memory_outside.specs.declared.memory_ports.Place.{Place}
use Rattle.memory_outside.specs.declared.memory_ports.Place.TheVariants.{Out}
use Rattle.memory_outside.specs.declared.memory_ports.MemPort.{MemPort}
use Rattle.memory_outside.proofs.MemoryPortLaws.{found_at, found, not_found, not_waiting, set_twice}
use Rattle.memory_outside.proofs.memory_ports.take_setup.Goals as goal

pub returns-in_err-at-clause-no_setup : goal.returns-in_err-at-clause-no_setup
returns-in_err-at-clause-no_setup c =
    let ports = c.args.ports.now.items in
    let at : position (λ p. p.number == c.args.number) ports ≡ None = sym (c.find.ensures ∙ ap (position (λ p. p.number == c.args.number)) c.as_slice.ensures.value) ∙ c.in_err-at.was in
    subst (λ r. IfNone r (is_waiting (ports_in ports c.args.number) ≡ false)) (sym c.from_residual.ensures) (ap is_waiting (not_found c.args.number ports at))

pub returns-in-Waiting-clause-waited : goal.returns-in-Waiting-clause-waited
returns-in-Waiting-clause-waited c =
    let ports = c.args.ports.now.items in
    let at : position (λ p. p.number == c.args.number) ports ≡ Some c.in_ok-at.at = sym (c.find.ensures ∙ ap (position (λ p. p.number == c.args.number)) c.as_slice.ensures.value) ∙ c.in_ok-at.was in
    (found_at c.args.number ports c.in_ok-at.at c.index_mut.result.now at c.index_mut.ensures.value).told ∙ ap told_port (sym c.replace.ensures.value ∙ c.in-Waiting.is)

pub returns-in-Waiting-clause-taken : goal.returns-in-Waiting-clause-taken
returns-in-Waiting-clause-taken c =
    let ports = c.args.ports.now.items in
    let at : position (λ p. p.number == c.args.number) ports ≡ Some c.in_ok-at.at = sym (c.find.ensures ∙ ap (position (λ p. p.number == c.args.number)) c.as_slice.ensures.value) ∙ c.in_ok-at.was in
    ap (λ (place : Place). ports_in (slice_set ports c.in_ok-at.at (record { number = c.index_mut.result.now.number; place = place }))) c.replace.ensures.after
    ∙ (found_at c.args.number ports c.in_ok-at.at c.index_mut.result.now at c.index_mut.ensures.value).put Out

pub returns-in_default : goal.returns-in_default
returns-in_default c =
    let ports = c.args.ports.now.items in
    let i = c.in_ok-at.at in
    let x = c.index_mut.result.now in
    let y = c.index_mut-in_default.result.now in
    let taken : MemPort = record { number = x.number; place = c.replace.new.dest } in
    let at : position (λ p. p.number == c.args.number) ports ≡ Some i = sym (c.find.ensures ∙ ap (position (λ p. p.number == c.args.number)) c.as_slice.ensures.value) ∙ c.in_ok-at.was in
    let told = (found_at c.args.number ports i x at c.index_mut.ensures.value).told in
    let place : c.replace.result ≡ x.place = c.replace.ensures.value in
    let below : i < length ports = let f = found c.args.number ports i at in omega (arith, f.0, f.1) in
    let number : y.number ≡ x.number = ap (λ (p : MemPort). p.number) (c.index_mut-in_default.ensures.value ∙ get_or-set_same ports i taken y below) in
    record {
      waited = tt;
      taken = tt;
      no_setup = ap is_waiting told ∙ ap (λ (p : Place). is_waiting (told_port p)) (sym place) ∙ not_waiting c.replace.result c.in_default.not-Waiting;
      same = set_twice ports i taken (record { number = y.number; place = c.replace.result })
          ∙ ap (λ (n : ℕ). slice_set ports i (record { number = n; place = c.replace.result })) number
          ∙ ap (λ (p : Place). slice_set ports i (record { number = x.number; place = p })) place
          ∙ ap (slice_set ports i) c.index_mut.ensures.value ∙ set-get_or ports i x;
    }
