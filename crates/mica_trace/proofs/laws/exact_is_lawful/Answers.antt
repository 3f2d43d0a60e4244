use Rattle.mica_trace.proofs.Exact.{exact_is_lawful}
use Rattle.mica_trace.proofs.SameReaders.{exact_with}
use Rattle.mica_trace.proofs.laws.exact_is_lawful.Goals as goal

pub returns : goal.returns
returns c options readers tries trace report exact =
    exact_is_lawful (record options { readers = readers; tries = tries }) trace report (exact_with options readers tries trace report exact)
