use Rattle.std.proofs.Common.{refl}
use Rattle.saved_items.specs.Items.{Keeps, Closes, pair_of}
use Rattle.saved_items.specs.Reader.{stream_of}
use Rattle.saved_items.proofs.Causes.{refused_cause}
use Rattle.saved_items.proofs.Takes.{pair_read, closing_read}
use Rattle.saved_items.proofs.taking.take_entry.Goals as goal

pub returns-in_ok-pair-in-None-clause-takes : goal.returns-in_ok-pair-in-None-clause-takes
returns-in_ok-pair-in-None-clause-takes g c = (
  Keeps (pair_of c.read_entry.new.pair),
  c.in_ok-pair-in-None.ensures.takes,
  refl,
  pair_read c.args.close (pair_of c.read_entry.new.pair) (stream_of (g.S.Source.left c.args.source.now) c.args.reader.now) (stream_of (g.S.Source.left c.read_entry.new.source) c.read_entry.new.reader)
      c.in_ok-read_entry.field-0 c.in_ok-read_entry.ensures.read c.in-None.is,
)

pub returns-in_err-pair-in-None-clause-cause : goal.returns-in_err-pair-in-None-clause-cause
returns-in_err-pair-in-None-clause-cause g c =
    refused_cause _ _ _ c.from_residual-in_err-pair-in-None.result c.from_residual-in_err-pair-in-None.ensures.1 (
      Keeps (pair_of c.read_entry.new.pair),
      c.in_err-pair-in-None.ensures.refuses,
      pair_read c.args.close (pair_of c.read_entry.new.pair) (stream_of (g.S.Source.left c.args.source.now) c.args.reader.now) (stream_of (g.S.Source.left c.read_entry.new.source) c.read_entry.new.reader)
          c.in_ok-read_entry.field-0 c.in_ok-read_entry.ensures.read c.in-None.is,
    )

pub returns-in_ok-close-in-Some-clause-takes : goal.returns-in_ok-close-in-Some-clause-takes
returns-in_ok-close-in-Some-clause-takes g c = (
  Closes c.in-Some.closing,
  c.in_ok-close-in-Some.ensures.takes,
  refl,
  closing_read c.args.close (pair_of c.read_entry.new.pair) (stream_of (g.S.Source.left c.args.source.now) c.args.reader.now) (stream_of (g.S.Source.left c.read_entry.new.source) c.read_entry.new.reader)
      c.in_ok-read_entry.field-0 c.in_ok-read_entry.ensures.read c.in-Some.closing c.in-Some.is,
)
