use Rattle.std.proofs.Common.{◌≡◌, vec_len}
use Rattle.std.specs.List.{All}
use Rattle.partition_words.specs.Shape.{shape_of}
use Rattle.partition_words.specs.OwnerState.{as_made}
use Rattle.any_partition.specs.PlainPartition.{owner_of}
use Rattle.queue_front.proofs.solo.Owned.new.Given as goal

abbrev pub invariant-loop : goal.invariant-loop
invariant-loop l = (vec_len l.parts ≡ l.counter) × All (λ p. owner_of p ≡ as_made (shape_of l.options)) l.parts.items
