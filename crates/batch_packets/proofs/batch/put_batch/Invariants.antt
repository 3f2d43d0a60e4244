use Rattle.std.proofs.Common.{◌≡◌, ◌++◌, take}
use Rattle.std.specs.List.{flat_map}
use Rattle.batch_packets.specs.Datagram.{header_text}
use Rattle.batch_packets.specs.BatchGrammar.{batch_magic, request_text}
use Rattle.batch_packets.proofs.batch.put_batch.Given as goal

abbrev pub invariant-loop-request : goal.invariant-loop-request
invariant-loop-request l =
    l.out.items ≡ header_text batch_magic l.fn.header.version l.fn.header.count l.fn.header.number ++ flat_map request_text (take l.request-index l.requests)
