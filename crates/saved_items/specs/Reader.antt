-- What a reader holds.
use Rattle.std.specs.Prelude.{◌≡◌, ℕ, List, [], drop, take, Option}
use Rattle.saved_items.specs.declared.reader.SavedReader.{SavedReader}
use Rattle.saved_items.specs.declared.blocks.TheConstants.{CONTENT_LEN, FIRST_SUM}
use Rattle.saved_items.specs.Reading.{Stream}
use Rattle.saved_items.specs.Moves.{stream_in}

-- what it has read and not given yet
abbrev pub rest_of : SavedReader → List ℕ
rest_of reader = drop reader.at (take CONTENT_LEN reader.block.items)

-- nothing was read yet
pub record IsAtFirst (reader : SavedReader) : Type 0 where
  pub rest : rest_of reader ≡ []
  pub sum : reader.sum ≡ FIRST_SUM

-- What is to be read, where the source tells what it has left.
abbrev pub stream_of : Option (List ℕ) → SavedReader → Option Stream
stream_of left reader = stream_in left reader.sum (rest_of reader)
