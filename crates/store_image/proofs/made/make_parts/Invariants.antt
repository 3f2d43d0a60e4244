use Rattle.std.proofs.Common.{◌≡◌, vec_len}
use Rattle.std.specs.List.{All}
use Rattle.partition_words.specs.Shape.{shape_of}
use Rattle.partition_words.specs.OwnerState.{as_made}
use Rattle.partition_words.specs.Seats.{diary_of}
use Rattle.store_image.proofs.made.make_parts.Given as goal

abbrev pub invariant-loop : goal.invariant-loop
invariant-loop l = (vec_len l.parts ≡ l.counter) × All (λ p. (diary_of p.words).owner ≡ as_made (shape_of l.options)) l.parts.items
