use Rattle.std.proofs.Common.{◌≡◌, take, drop}
use Rattle.std.specs.List.{flat_map}
use Rattle.store_image.specs.ImageGrammar.{pair_text}
use Rattle.store_image.specs.ImageWrites.{put_writes}
use Rattle.store_image.proofs.writes.writes_of.Given as goal

abbrev pub invariant-loop : goal.invariant-loop
invariant-loop l = record {
  made : l.writes.items ≡ put_writes (take l.counter l.image);
  left : l.rest ≡ flat_map pair_text (drop l.counter l.image);
}
