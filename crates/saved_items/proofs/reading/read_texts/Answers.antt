use Rattle.saved_items.specs.Items.{pair_of}
use Rattle.saved_items.specs.Reader.{stream_of}
use Rattle.saved_items.proofs.Texts.{no_texts, no_key, no_value, both_texts}
use Rattle.saved_items.proofs.reading.read_texts.Goals as goal

pub returns-in_default-clause-read : goal.returns-in_default-clause-read
returns-in_default-clause-read g c =
    let old = stream_of (g.S.Source.left c.args.source.now) c.args.reader.now in
    no_texts (pair_of c.args.pair.now) c.args.lengths old old c.in_default.is

pub returns-in_err-read_bytes-clause-read : goal.returns-in_err-read_bytes-clause-read
returns-in_err-read_bytes-clause-read g c =
    no_key c.in-Some.lengths c.args.lengths c.in-Some.is _ c.read_bytes.new.out.items c.in_err-read_bytes.field-0.0 c.from_residual.result (stream_of (g.S.Source.left c.args.source.now) c.args.reader.now)
    (stream_of (g.S.Source.left c.read_bytes.new.source) c.read_bytes.new.reader) _ c.in_err-read_bytes.ensures.read c.from_residual.ensures.1

pub returns-in_err-read_bytes-2-clause-read : goal.returns-in_err-read_bytes-2-clause-read
returns-in_err-read_bytes-2-clause-read g c =
    no_value c.in-Some.lengths c.args.lengths c.in-Some.is _ c.read_bytes.new.out.items c.read_bytes-2.new.out.items c.in_err-read_bytes-2.field-0.0 c.from_residual-in_err-read_bytes-2.result
    (stream_of (g.S.Source.left c.args.source.now) c.args.reader.now) (stream_of (g.S.Source.left c.read_bytes.new.source) c.read_bytes.new.reader)
    (stream_of (g.S.Source.left c.read_bytes-2.new.source) c.read_bytes-2.new.reader) _ c.in_ok-read_bytes.ensures.read c.in_err-read_bytes-2.ensures.read c.from_residual-in_err-read_bytes-2.ensures.1

pub returns-clause-read : goal.returns-clause-read
returns-clause-read g c =
    both_texts c.in-Some.lengths c.args.lengths c.in-Some.is c.read_bytes.new.out.items c.read_bytes-2.new.out.items (stream_of (g.S.Source.left c.args.source.now) c.args.reader.now)
    (stream_of (g.S.Source.left c.read_bytes.new.source) c.read_bytes.new.reader) (stream_of (g.S.Source.left c.read_bytes-2.new.source) c.read_bytes-2.new.reader)
    c.in_ok-read_bytes.ensures.read c.in_ok-read_bytes-2.ensures.read
