use Rattle.std.proofs.Common.{Err, inl, inr, codes, refl, ap, arith}
use Rattle.std.proofs.KnownBytes.{Keeps-refl}
use Rattle.mica_cmd.specs.declared.status.Status.TheVariants.{TraceLong, ReadFault}
use Rattle.mica_cmd.specs.Outside.{SourceFacts, source_facts}
use Rattle.server_words.specs.Output.{with_line_feed}
use Rattle.mica_cmd.proofs.Ending.{long_source}
use Rattle.mica_cmd.proofs.input.read_source.Given as given
use Rattle.mica_cmd.proofs.input.read_source.Goals as goal

abbrev facts : (g : given.Over) → g.row.S.Denot → SourceFacts
facts g = source_facts g.S.Source

pub returns-in-Ok : goal.returns-in-Ok
returns-in-Ok g c =
    let read = c.in-Ok.ensures in
    let within = read.within in
    record {
      all = record { given = read.all; few = λ long. omega (arith, within, long, c.in-Ok.bytes.ok.0); ended = record { told = read.end.1; nothing = read.end.0 } };
      unwritten = refl;
      stopped = tt;
      reads = read.took;
    }

pub returns-in-Err-Failed : goal.returns-in-Err-Failed
returns-in-Err-Failed g c =
    let read = c.in-Err-Failed.ensures in
    record {
      all = tt;
      unwritten = tt;
      stopped = inr (ReadFault, with_line_feed (codes "read fault"), (read.cause (ap Err c.in-Err-Failed.field-0-is), refl), c.write_due.ensures);
      reads = read.took;
    }

pub returns-in-Err-Long : goal.returns-in-Err-Long
returns-in-Err-Long g c =
    let read = c.in-Err-Long.ensures in
    record {
      all = tt;
      unwritten = tt;
      stopped = inr (TraceLong, with_line_feed (codes "trace too long"), (long_source (facts g c.args.source.now) (facts g c.read_up_to.new.source) (read.long (ap Err c.in-Err-Long.field-0-is)), refl), c.write_due-in-Err-Long.ensures);
      reads = read.took;
    }

pub returns-in-Err-NoMemory : goal.returns-in-Err-NoMemory
returns-in-Err-NoMemory g c = record { all = tt; unwritten = tt; stopped = inl (refl, Keeps-refl _); reads = c.in-Err-NoMemory.ensures.took }
