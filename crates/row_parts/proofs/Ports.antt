-- What a port takes once it was added, and once it took a datagram.
use Rattle.std.proofs.Common.{◌≡◌, ℕ, true, false, cond, List, [], Some, refl, ap, ◌∙◌}
use Rattle.std.proofs.lemmas.Bool.{eq-eqb}
use Rattle.std.proofs.lemmas.Option.{same_Some}
use Rattle.outside.specs.Traffic.{EndScript}
use Rattle.outside.specs.PortStates.{Port, PortStates, absent, waiting, out, back, with_port, with_datagram, takes_datagram, is_added}

at_port : (number : ℕ) (port : Port) (ports : PortStates) → with_port number port ports number ≡ port
at_port number port ports = ap (λ b. cond b port (ports number)) (eq-eqb number number refl)

with_one : (datagram : List ℕ) (port : Port) → takes_datagram port ≡ true → takes_datagram (with_datagram datagram port) ≡ true
with_one datagram absent takes = takes
with_one datagram (waiting left script) takes = refl
with_one datagram out takes = takes
with_one datagram (back traffic ended) takes = refl

pub takes_more : (number : ℕ) (datagram : List ℕ) (old new : PortStates)
    → Some new ≡ Some (with_port number (with_datagram datagram (old number)) old)
    → takes_datagram (old number) ≡ true → takes_datagram (new number) ≡ true
takes_more number datagram old new is takes =
    ap (λ (all : PortStates). takes_datagram (all number)) (same_Some new (with_port number (with_datagram datagram (old number)) old) is)
    ∙ ap takes_datagram (at_port number (with_datagram datagram (old number)) old)
    ∙ with_one datagram (old number) takes

pub takes_first : (number : ℕ) (script : EndScript) (old new : PortStates)
    → Some new ≡ Some (with_port number (waiting [] script) old) → takes_datagram (new number) ≡ true
takes_first number script old new is =
    ap (λ (all : PortStates). takes_datagram (all number)) (same_Some new (with_port number (waiting [] script) old) is)
    ∙ ap takes_datagram (at_port number (waiting [] script) old)

pub not_added : (port : Port) → is_added port ≡ false → port ≡ absent
not_added absent is = refl
not_added (waiting left script) is = absurd (cc)
not_added out is = absurd (cc)
not_added (back traffic ended) is = absurd (cc)
