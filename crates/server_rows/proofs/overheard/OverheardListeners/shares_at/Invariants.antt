use Rattle.std.proofs.Common.{◌≡◌, ◌≤◌, [], map, vec_len, vec_capacity}
use Rattle.std.specs.Prelude.{None}
use Rattle.connections.specs.Shares.{GivesShares}
use Rattle.server_rows.specs.Heard.{facts_of}
use Rattle.server_rows.proofs.overheard.OverheardListeners.shares_at.Given as goal

abbrev pub invariant-loop-behind : goal.invariant-loop-behind
invariant-loop-behind l = record {
  gives : GivesShares None l.self.given l.behind [] (map facts_of l.all.items);
  len : vec_len l.all ≡ l.behind;
  room : l.shares ≤ vec_capacity l.all;
}
