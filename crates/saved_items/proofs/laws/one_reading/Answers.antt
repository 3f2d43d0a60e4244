use Rattle.saved_items.proofs.Readings.{one_reading}
use Rattle.saved_items.proofs.laws.one_reading.Goals as goal

pub returns : goal.returns
returns c = one_reading
