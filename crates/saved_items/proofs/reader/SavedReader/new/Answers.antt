use Rattle.std.proofs.Common.{refl}
use Rattle.saved_items.proofs.Streams.{nothing_left}
use Rattle.saved_items.proofs.reader.SavedReader.new.Goals as goal

pub returns : goal.returns
returns c = record { rest = nothing_left 65528 c.resize.new.self.items; sum = refl }
