-- The pairs of an image as writes.
use Rattle.std.specs.Prelude.{List, map}
use Rattle.partition_model.specs.declared.write.Op.TheVariants.{Put}
use Rattle.partition_model.specs.declared.write.Write.{Write}
use Rattle.partition_model.specs.Write.{write_of}
use Rattle.store_image.specs.ImageGrammar.{Pair}

-- the write that puts a pair
abbrev pub put_write : Pair → Write
put_write pair = write_of Put pair.key pair.value

-- a put of each pair
abbrev pub put_writes : List Pair → List Write
put_writes pairs = map put_write pairs
