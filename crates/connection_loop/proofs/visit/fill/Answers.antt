use Rattle.std.proofs.Common.{rules, ◌≤◌, ◌∙◌, length, drop, sym, subst, arith}
use Rattle.std.specs.Prelude.{Ok, Some}
use Rattle.connection_loop.specs.Traffic.{Reads, ReadsTo, EndsBy, why, bytes_read}
use Rattle.connection_loop.proofs.Traffic.{on_one}
use Rattle.connection_loop.proofs.Filling.{filled_kept, filled_read, some_read}
use Rattle.connection_loop.proofs.visit.fill.Goals as goal

pub returns-in-Bytes-clause-kept : goal.returns-in-Bytes-clause-kept
returns-in-Bytes-clause-kept g c =
    filled_kept c.args.client.now.kept c.copy_from_slice.new.self (drop _ c.args.room.now) c.receive.new.out _ _ c.in-Bytes.count (search rules) (search rules)

pub returns-in-Bytes-clause-reads : goal.returns-in-Bytes-clause-reads
returns-in-Bytes-clause-reads g c =
    let log = g.C.Connections.log in
    let out = c.receive.new.out in
    let input = c.in_ok-input.input in
    let some = some_read out _ input c.in-Bytes.count c.in-Bytes.is c.in_ok-input.ensures.fits in
    let same = c.receive.auto.out in
    let few : c.in-Bytes.count ≤ length out = let within = some.0 in omega (arith, within, same) in
    on_one c.args.number (ReadsTo why (bytes_read out (Ok input)) (Ok input)) _ (log c.args.connections.now) (log c.receive.new.connections)
    (λ d a b x. (
      subst (λ bytes. Reads d bytes a b)
          (some.1 ∙ filled_read c.args.client.now.kept c.copy_from_slice.new.self (drop _ c.args.room.now) out _ _ c.in-Bytes.count (search rules) (search rules) few) x.0,
      subst (λ i. EndsBy (Some i) d b) (sym c.in-Bytes.input-is) x.1,
    )) c.in_ok-input.ensures.reads
