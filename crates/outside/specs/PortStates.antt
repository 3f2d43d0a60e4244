-- What a net tells of its ports.
use Rattle.std.specs.Prelude.{◌≡◌, ℕ, ◌==◌, Bool, true, false, List, [], ◌∷◌, ◌++◌, slice_get, if◌then◌else◌, Option, Some, None, option_map}
use Rattle.outside.specs.Traffic.{Datagram, Traffic, EndScript, new_traffic}

-- Where the end of a port is: there is no such port; no end was bound to it yet, which will have these datagrams left; it is out; or it was
-- released, with what it told and whether a `recv` on it answered `None`.
pub data Port : Type 0 where
  absent : Port
  waiting : List Datagram → EndScript → Port
  out : Port
  back : Traffic → Bool → Port

-- each port by its number
abbrev pub PortStates : Type 0
PortStates = ℕ → Port

-- the ports with this one changed
abbrev pub with_port : ℕ → Port → PortStates → PortStates
with_port number port ports = λ n. if n == number then port else ports n

-- whether the port was added and no end was bound to it yet
abbrev pub is_waiting : Port → Bool
is_waiting (waiting datagrams script) = true
is_waiting _ = false

-- whether there is such a port
abbrev pub is_added : Port → Bool
is_added absent = false
is_added _ = true

-- an end with this traffic and this script was bound to a port that waited, which has it out from then on
pub record BindsEnd (old : PortStates) (number : ℕ) (traffic : Option Traffic) (script : Option EndScript) (new : Option PortStates) : Type 0 where
  pub datagrams : List Datagram
  pub foretold : EndScript
  pub waited : old number ≡ waiting datagrams foretold
  pub traffic_is : traffic ≡ Some (new_traffic datagrams)
  pub script_is : script ≡ Some foretold
  pub result : new ≡ Some (with_port number out old)

-- the reply datagram of this number that a released port sent
abbrev pub reply_sent : Port → ℕ → Option Datagram
reply_sent (back traffic ended) number = option_map (λ s. s.bytes) (slice_get traffic.sent number)
reply_sent _ number = None

-- whether a datagram may be added: the port was added, and no end of it is out
abbrev pub takes_datagram : Port → Bool
takes_datagram (waiting datagrams script) = true
takes_datagram (back traffic ended) = true
takes_datagram _ = false

-- with one more datagram at the end of those that are left
abbrev pub with_datagram : Datagram → Port → Port
with_datagram datagram (waiting datagrams script) = waiting (datagrams ++ datagram ∷ []) script
with_datagram datagram (back traffic ended) = back (record traffic { left = traffic.left ++ datagram ∷ [] }) ended
with_datagram datagram port = port
