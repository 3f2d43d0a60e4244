use Rattle.std.proofs.Common.{◌≡◌, drop}
use Rattle.mica_model.proofs.cache_state.drop_front.Given as goal

abbrev pub invariant-loop : goal.invariant-loop
invariant-loop l = l.records.items ≡ drop l.counter l.initial.records.items
