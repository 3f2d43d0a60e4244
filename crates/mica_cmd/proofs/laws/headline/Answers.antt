use Rattle.std.specs.Io.KnownBytes.{Appends}
use Rattle.std.proofs.Common.{subst}
use Rattle.mica_cmd.specs.Promise.{KeepsPromise}
use Rattle.mica_cmd.specs.Promises.{promise_of}
use Rattle.mica_cmd.specs.declared.status.Status.TheVariants.{Done}
use Rattle.mica_cmd.proofs.laws.headline.Goals as goal

pub returns : goal.returns
returns c words options old new is kept =
    let (text, (bytes, read, (trace, spelled, (report, lawful, is_text))), printed) =
    (subst (λ given. KeepsPromise (promise_of given) old new Done) is kept).ended in
    record {
      bytes = bytes;
      read = read;
      trace = trace;
      spelled = spelled;
      report = report;
      lawful = lawful;
      printed = subst (λ t. Appends old.sink.taken new.sink.taken t) is_text printed;
    }
