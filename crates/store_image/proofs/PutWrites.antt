-- The writes of an image's pairs.
use Rattle.std.proofs.Common.{◌≡◌, ◌+◌, ◌<◌, ◌++◌, ◌∷◌, [], ℕ, List, length, take, refl, sym, ap, ◌∙◌}
use Rattle.std.specs.List.{All, AllByRecursion}
use Rattle.std.proofs.lemmas.List.{take_more, map-append}
use Rattle.std.proofs.lemmas.List.Elements.{All-from_recursion}
use Rattle.partition_model.specs.Write.{IsWrite}
use Rattle.mica_trace.specs.declared.line.TraceOp.TheVariants.{Put}
use Rattle.mica_trace.proofs.ReportStamps.{line_write}
use Rattle.store_image.specs.ImageGrammar.{Pair, IsPair}
use Rattle.store_image.specs.ImageWrites.{put_write, put_writes}
use Rattle.store_image.proofs.PutLines.{pair_number}

pub write_more : (pairs : List Pair) (i : ℕ) → i < length pairs → put_writes (take i pairs) ++ put_write (pair_number pairs i) ∷ [] ≡ put_writes (take (i + 1) pairs)
write_more pairs i less = sym (ap put_writes (take_more pairs i _ less) ∙ map-append put_write (take i pairs) (pair_number pairs i ∷ []))

each_write : (pairs : List Pair) → AllByRecursion IsPair pairs → AllByRecursion IsWrite (put_writes pairs)
each_write [] all = tt
each_write (pair ∷ pairs) all = (line_write Put pair.key pair.value (put_write pair) all.0 refl, each_write pairs all.1)

pub are_writes : (pairs : List Pair) → AllByRecursion IsPair pairs → All IsWrite (put_writes pairs)
are_writes pairs all = All-from_recursion IsWrite (put_writes pairs) (each_write pairs all)
