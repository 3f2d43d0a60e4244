use Rattle.std.proofs.Common.{◌≡◌, ◌<◌, ℕ, List, Some, length, map, get_or, set, inr, sym, ap, ◌∙◌, arith, slice_get}
use Rattle.std.specs.Prelude.{option_map}
use Rattle.std.specs.Global.{Global}
use Rattle.std.specs.declared.vec.IntoIter.{IntoIter}
use Rattle.std.specs.Vec.Iter.{into_iter_items}
use Rattle.std.proofs.lemmas.List.{map-set}
use Rattle.std.proofs.lemmas.Option.{slice_get-map, slice_get-get_or}
use Rattle.mica_words.specs.Hash.{hash_of, hash_partition}
use Rattle.mica_words.proofs.Hashes.{partition_of_hash, partition_of-below}
use Rattle.mica_trace.specs.declared.report.Line.{Line}
use Rattle.mica_trace.specs.Rounds.{partition_in}
use Rattle.exclusive_replay.proofs.merging.next_for.Goals as goal

abbrev left : IntoIter Line Global → List Line
left it = into_iter_items it

-- the lines of one of them
part_of : (printed : List (IntoIter Line Global)) (at own partitions : ℕ) (d : IntoIter Line Global) → at ≡ own → own < partitions → length printed ≡ partitions
    → slice_get (map left printed) own ≡ Some (left (get_or printed at d))
part_of printed at own partitions d number low many =
    let less : at < length printed = omega arith in
    ap (λ (n : ℕ). slice_get (map left printed) n) (sym number) ∙ slice_get-map left printed at ∙ ap (option_map left) (slice_get-get_or printed at d less)

pub next_line-requires : goal.next_line-requires
next_line-requires c =
    let options = c.args.options.now in
    let line = c.args.line.now in
    let printed = c.args.printed.now in
    let at = c.partition_of-partition.result in
    let number : at ≡ partition_in options line =
    c.partition_of-partition.ensures ∙ ap (λ h. hash_partition h options.partitions) (c.key_hash.ensures ∙ ap (hash_of options.hashing) c.bytes.ensures) ∙ sym (partition_of_hash options.hashing line.key options.partitions) in
    let low = partition_of-below options.hashing line.key options.partitions c.requires.valid.partitions.0 in
    c.requires.some (sym c.if-is_sync.ensures) _ (part_of printed at (partition_in options line) options.partitions c.index-printed-partition.result number low c.requires.many)

pub returns : goal.returns
returns c =
    let options = c.args.options.now in
    let line = c.args.line.now in
    let printed = c.args.printed.now in
    let at = c.partition_of-partition.result in
    let number : at ≡ partition_in options line =
    c.partition_of-partition.ensures ∙ ap (λ h. hash_partition h options.partitions) (c.key_hash.ensures ∙ ap (hash_of options.hashing) c.bytes.ensures) ∙ sym (partition_of_hash options.hashing line.key options.partitions) in
    let low = partition_of-below options.hashing line.key options.partitions c.requires.valid.partitions.0 in
    let here = part_of printed at (partition_in options line) options.partitions c.index-printed-partition.result number low c.requires.many in
    let rest = left c.next_line.new.lines in
    inr (
      sym c.if-is_sync.ensures,
      (
        rest,
        here ∙ ap (λ (l : List Line). Some l) c.next_line.ensures,
        map-set left printed at c.next_line.new.lines ∙ ap (λ (n : ℕ). set (map left printed) n rest) number,
      ),
    )
