use Rattle.std.proofs.Common.{◌≡◌, ◌+◌, ◌∷◌, ◌++◌, [], None, Some, map, sym, ap, ◌∙◌, subst, arith}
use Rattle.std.specs.Global.{Box}
use Rattle.std.specs.Prelude.{Option, option_map, is_some}
use Rattle.std.proofs.lemmas.Bool.{true≢false}
use Rattle.std.proofs.lemmas.List.{map-append}
use Rattle.connections.specs.Shares.{GivesShares, with_share}
use Rattle.connections.proofs.Shares.{gives_on, gives_one, without_more}
use Rattle.memory_connections.specs.declared.memory_connections.MemConnections.{MemConnections}
use Rattle.memory_connections.specs.declared.boxed_connections.BoxedConnections.{BoxedConnections}
use Rattle.memory_connections.specs.MemoryConnections.{log_of}
use Rattle.memory_connections.specs.MemoryPorts.{facts_of, logs_at, seating_in}
use Rattle.memory_connections.proofs.Seats.{logs_taken, new_share, new_without, waits_still}
use Rattle.memory_connections.proofs.memory_listeners.give_all.Goals as goal

pub unreachable-requires : goal.unreachable-requires
unreachable-requires c =
    let inv = c.loop-k.invariant in
    let now = seating_in c.loop-k.waiting.seats.items in
    let waits = waits_still c.args.first c.loop-k.k c.args.shares (logs_at (seating_in c.args.waiting.now.seats.items)) (logs_at now) c.loop-k-test.true inv.awaited inv.taken in
    let none : now (c.args.first + c.loop-k.k) ≡ None =
    sym c.take.ensures.taken ∙ ap (λ (o : Option (Box MemConnections)). option_map (λ (b : Box MemConnections). b.value) o) c.in_default.is in
    true≢false (sym waits.0 ∙ ap (λ (o : Option MemConnections). is_some (option_map log_of o)) none)

pub loop-k-preserved : goal.loop-k-preserved
loop-k-preserved c =
    let inv = c.loop-k.invariant in
    let first = c.args.first in
    let k = c.loop-k.k in
    let all = logs_at (seating_in c.args.waiting.now.seats.items) in
    let now = seating_in c.loop-k.waiting.seats.items in
    let new = seating_in c.take.new.self.seats.items in
    let taken = c.in-Some.connections.value in
    let boxed : BoxedConnections = record { connections = c.in-Some.connections } in
    let mid = map facts_of c.loop-k.out.items in
    let one = gives_one (Some (logs_at now)) (first + k) mid (facts_of boxed) (new_share now (first + k) taken inv.unused c.in-Some.ensures.taken) in
    let given = gives_on (Some all) (Some (logs_at now)) first k 1 (map facts_of c.args.out.now.items) mid (mid ++ facts_of boxed ∷ []) inv.gives (ap Some inv.taken) one in
    let out : map facts_of c.push_reserved.new.self.items ≡ mid ++ facts_of boxed ∷ [] =
    ap (map facts_of) c.push_reserved.ensures.items ∙ map-append facts_of c.loop-k.out.items (boxed ∷ []) in
    record {
      gives = subst (GivesShares (Some all) first (k + 1) (map facts_of c.args.out.now.items)) (sym out) given;
      taken = logs_taken (first + k) now new c.take.ensures.at ∙ ap (with_share (first + k) None) inv.taken ∙ without_more first k all;
      unused = new_without now new (first + k) c.take.ensures.at inv.unused;
      fewer = omega (arith, c.in-Some.ensures.fewer, inv.fewer);
      len = omega (arith, c.push_reserved.ensures.len, inv.len);
      capacity = c.push_reserved.ensures.capacity ∙ inv.capacity;
      awaited = (waits_still first k c.args.shares all (logs_at now) c.loop-k-test.true inv.awaited inv.taken).1;
    }
