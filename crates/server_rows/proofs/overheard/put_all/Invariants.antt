use Rattle.std.proofs.Common.{◌≡◌, ◌+◌, ◌++◌, length, vec_len, vec_capacity}
use Rattle.server_rows.proofs.overheard.put_all.Given as goal

abbrev pub invariant-loop-connections : goal.invariant-loop-connections
invariant-loop-connections l = record {
  items : l.out.items ≡ l.initial.out.items ++ l.yielded;
  len : vec_len l.out ≡ vec_len l.initial.out + length l.yielded;
  capacity : vec_capacity l.out ≡ vec_capacity l.initial.out;
}
