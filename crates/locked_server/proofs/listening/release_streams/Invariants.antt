use Rattle.std.proofs.Common.{map}
use Rattle.locked_server.specs.Streams.{ReleasesStreams, listen_facts, stream_facts}
use Rattle.locked_server.proofs.listening.release_streams.Given as goal

abbrev pub invariant-loop-share : goal.invariant-loop-share
invariant-loop-share g l =
    ReleasesStreams (map (stream_facts g.L.Port.Connections) l.yielded)
    (listen_facts g.L.Listeners l.initial.listeners)
    (listen_facts g.L.Listeners l.listeners)
