use Rattle.std.proofs.Common.{◌≡◌, ◌+◌, ◌++◌, ℕ, Bor, List, length, map, drop}
use Rattle.std.specs.List.{flat_map}
use Rattle.store_image.specs.ImageGrammar.{Pair, pair_text}
use Rattle.store_image.specs.PutKeys.{pairs_by}
use Rattle.store_image.specs.Answers.{value_at}
use Rattle.store_image.proofs.made.image_of_keys.Given as goal

abbrev pub invariant-loop-key : goal.invariant-loop-key
invariant-loop-key g l =
    let pairs = λ (keys : List (Bor (List ℕ))). pairs_by (value_at (map g.P.Partition.owner l.initial.parts.items) l.options.hashing l.options.partitions) (map (λ k. k.now) keys) in
    let left : List Pair = pairs (drop l.key-index l.keys) in
    record {
      count : l.count + length left ≡ length (pairs l.keys);
      texts : l.texts.items ++ flat_map pair_text left ≡ flat_map pair_text (pairs l.keys);
      same : map g.P.Partition.owner l.parts.items ≡ map g.P.Partition.owner l.initial.parts.items;
    }
