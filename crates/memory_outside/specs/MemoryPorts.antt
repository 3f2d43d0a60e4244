-- The ports of a net over memory.
use Rattle.std.specs.Prelude.{List, [], ◌∷◌, take, drop}
use Rattle.memory_outside.specs.declared.memory_ports.Place.{Place}
use Rattle.memory_outside.specs.declared.memory_ports.Place.TheVariants.{Waiting, Out, Back}
use Rattle.memory_outside.specs.declared.memory_ports.MemPort.{MemPort}
use Rattle.outside.specs.PortStates.{Port, PortStates, absent, waiting, out, back, with_port}

-- what is told of a port whose end is there
abbrev pub told_port : Place → Port
told_port (Waiting setup) = waiting setup.datagrams.items (record {
  recv_fails = setup.recv_fails.items;
  recvs = 0;
  reply_fails = setup.reply_fails.items;
  replies = 0;
  room = setup.sent.room;
})
told_port Out = out
told_port (Back end) = back (record {
  left = drop end.at end.datagrams.items;
  received = take end.at end.datagrams.items;
  sent = end.sent.sent;
}) end.ended

-- what a list of ports tells, of which the first of a number counts
abbrev pub ports_in : List MemPort → PortStates
ports_in [] = λ number. absent
ports_in (port ∷ ports) = with_port port.number (told_port port.place) (ports_in ports)
