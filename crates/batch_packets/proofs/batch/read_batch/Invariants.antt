use Rattle.std.proofs.Common.{◌≡◌, ◌≤◌}
use Rattle.std.specs.Prelude.{vec_len, vec_capacity}
use Rattle.batch_packets.specs.BatchGrammar.{SpellsBatch}
use Rattle.batch_packets.specs.Remaining.{HasLeft}
use Rattle.batch_packets.proofs.Taking.{IsReading}
use Rattle.batch_packets.proofs.batch.read_batch.Given as goal

abbrev pub invariant-loop : goal.invariant-loop
invariant-loop l = record {
  len : vec_len l.list ≡ l.counter;
  room : l.header.count ≤ vec_capacity l.list;
  reading : IsReading (HasLeft l.requests) (λ requests. SpellsBatch l.from (record { version = l.header.version; number = l.header.number; requests = requests })) l.header.count l.counter l.list.items;
}
