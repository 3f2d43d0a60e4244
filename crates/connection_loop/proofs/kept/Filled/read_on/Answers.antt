use Rattle.std.proofs.Common.{◌+◌, ◌-◌, ◌≤◌, ◌∙◌, length, length-take, take, drop, sym, subst, arith}
use Rattle.std.specs.Prelude.{Ok, Some}
use Rattle.connection_loop.specs.Traffic.{Reads, ReadsTo, EndsBy, why, bytes_read}
use Rattle.connection_loop.proofs.Traffic.{on_one}
use Rattle.connection_loop.proofs.Filling.{read_behind, read_gave, read_none, some_read}
use Rattle.connection_loop.proofs.kept.Filled.read_on.Goals as goal

pub returns-then-end-self-clause-reads : goal.returns-then-end-self-clause-reads
returns-then-end-self-clause-reads g c =
    let filled = c.args.self.now in
    read_none c.args.number (take filled.len filled.room.items) (g.C.Connections.log c.args.connections.now)

pub returns-in-Bytes-clause-kept : goal.returns-in-Bytes-clause-kept
returns-in-Bytes-clause-kept g c =
    let filled = c.args.self.now in
    let input = c.in_ok-input.input in
    let count = c.in-Bytes.count in
    let some = some_read c.receive.new.out _ input count c.in-Bytes.is c.in_ok-input.ensures.fits in
    let fits : filled.len ≤ length c.deref_mut.result.now = omega (arith, c.requires.filled.fits, c.deref_mut.ensures.len) in
    let within : filled.len + count ≤ filled.room.len =
    let most = some.0 in let cut = length-take (c.min-end.result - filled.len) (drop filled.len c.deref_mut.result.now) in omega (arith, most, cut, c.if-end-self.false) in
    read_behind filled.room.items c.deref_mut.result.now c.receive.new.out _ _ filled.room.len filled.len count c.deref_mut.ensures.value fits within

pub returns-in-Bytes-clause-reads : goal.returns-in-Bytes-clause-reads
returns-in-Bytes-clause-reads g c =
    let log = g.C.Connections.log in
    let filled = c.args.self.now in
    let out = c.receive.new.out in
    let input = c.in_ok-input.input in
    let count = c.in-Bytes.count in
    let some = some_read out _ input count c.in-Bytes.is c.in_ok-input.ensures.fits in
    let fits : filled.len ≤ length c.deref_mut.result.now = omega (arith, c.requires.filled.fits, c.deref_mut.ensures.len) in
    let within : filled.len + count ≤ filled.room.len =
    let most = some.0 in let cut = length-take (c.min-end.result - filled.len) (drop filled.len c.deref_mut.result.now) in omega (arith, most, cut, c.if-end-self.false) in
    let few : count ≤ length out = let most = some.0 in let same = c.receive.auto.out in omega (arith, most, same) in
    on_one c.args.number (ReadsTo why (bytes_read out (Ok input)) (Ok input)) _ (log c.args.connections.now) (log c.receive.new.connections)
    (λ d a b x. (
      subst (λ bytes. Reads d bytes a b)
          (some.1 ∙ read_gave filled.room.items c.deref_mut.result.now out _ _ filled.room.len filled.len count c.deref_mut.ensures.value fits within few) x.0,
      subst (λ i. EndsBy (Some i) d b) (sym c.in-Bytes.input-is) x.1,
    )) c.in_ok-input.ensures.reads
