-- Ports that take datagrams.
use Rattle.std.specs.Prelude.{◌≡◌, ℕ, true, Option, IfSome}
use Rattle.outside.specs.PortStates.{PortStates, takes_datagram}

-- where a net tells of its ports, this one takes datagrams
abbrev pub TakesDatagrams : ℕ → Option PortStates → Type 0
TakesDatagrams port ports = IfSome ports (λ all. takes_datagram (all port) ≡ true)
