use Rattle.std.proofs.Common.{◌≡◌, ◌≤◌, ◌+◌, ◌*◌, drop, length, map, sum}
use Rattle.partition_sizes.specs.Bytes.{row_bytes, partition_bytes}
use Rattle.partition_sizes.proofs.bytes.partition_bytes.Given as goal

-- the rows so far, with those that are left, are the partition; they are four at most, each below 2 TiB
abbrev pub invariant-loop-row : goal.invariant-loop-row
invariant-loop-row l =
    (l.bytes + sum (map (row_bytes l.shape) (drop l.row-index l.rows)) ≡ partition_bytes l.shape) × (length l.rows ≤ 4) × (l.bytes ≤ l.row-index * 2199023255552)
