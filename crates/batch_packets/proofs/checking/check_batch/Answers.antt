use Rattle.std.proofs.Common.{refl}
use Rattle.batch_packets.proofs.ItemLaws.{no_fault_is}
use Rattle.batch_packets.proofs.RequestLaws.{batch_has_no_fault, is_batch_of}
use Rattle.batch_packets.proofs.checking.check_batch.Goals as goal

pub returns-in_err-header-clause-only : goal.returns-in_err-header-clause-only
returns-in_err-header-clause-only c = λ batch spells. absurd (no_fault_is _ c.in_err-header.field-0.0 (batch_has_no_fault c.args.from.now batch spells) c.in_err-header.ensures.fault)

pub returns-clause-batch : goal.returns-clause-batch
returns-clause-batch c =
    let e = c.in_ok-header.ensures in
    let h = c.in_ok-header.header in
    (e.items.0, is_batch_of c.args.from.now c.in_ok-header.rest.now h.version h.count h.number e.items.0 e.text e.items.1 e.items.2 e.version e.some e.few e.short e.number, e.items.1, refl, e.items.2)
