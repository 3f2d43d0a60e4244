use Rattle.std.proofs.Common.{◌≡◌, ◌-◌, ◌*◌, ◌≤◌, length, take}
use Rattle.std.specs.List.{flat_map}
use Rattle.batch_packets.specs.declared.header.TheConstants.{HEADER_LEN, MAX_DATAGRAM_LEN_V2}
use Rattle.batch_packets.specs.BatchGrammar.{request_text}
use Rattle.batch_packets.proofs.batch.len_of.Given as goal

abbrev pub invariant-loop-request : goal.invariant-loop-request
invariant-loop-request l = record {
  so_far : l.len ≡ length (flat_map request_text (take l.request-index l.requests));
  short : l.len ≤ l.request-index * (MAX_DATAGRAM_LEN_V2 - HEADER_LEN);
}
