use Rattle.std.proofs.Common.{◌≡◌, vec_len}
use Rattle.std.specs.List.{AllZip}
use Rattle.exclusive_replay.specs.Run.{IsMade}
use Rattle.exclusive_replay.proofs.run.make_owners.Given as goal

abbrev pub invariant-loop-p : goal.invariant-loop-p
invariant-loop-p l = record {
  many : vec_len l.owners ≡ l.p;
  each : AllZip (IsMade l.options l.trace) l.owners.items l.senders.items;
}
