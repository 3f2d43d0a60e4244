use Rattle.std.proofs.Common.{ap, ◌∙◌}
use Rattle.mica_words.specs.Packing.{packed}
use Rattle.saved_items.specs.declared.items.Head.{Head}
use Rattle.saved_items.specs.Reading.{head_in, head_at}
use Rattle.saved_items.specs.Reader.{stream_of}
use Rattle.saved_items.proofs.Readers.{reads_head, head_lost}
use Rattle.saved_items.proofs.Texts.{handed_on}
use Rattle.saved_items.proofs.reading.read_head.Goals as goal

pub returns-clause-read : goal.returns-clause-read
returns-clause-read g c =
    reads_head (stream_of (g.S.Source.left c.args.source.now) c.args.reader.now) (stream_of (g.S.Source.left c.read_bytes.new.source) c.read_bytes.new.reader) c.read_bytes.new.out.items c.head_in.result
    c.in_ok-read_bytes.ensures.read (c.head_in.ensures.head ∙ ap head_in (c.pack.ensures ∙ ap packed c.as_slice.ensures.value))

pub returns-in_err-read_bytes-clause-read : goal.returns-in_err-read_bytes-clause-read
returns-in_err-read_bytes-clause-read g c =
    let fault = c.in_err-read_bytes.field-0.0 in
    let old = stream_of (g.S.Source.left c.args.source.now) c.args.reader.now in
    let mid = stream_of (g.S.Source.left c.read_bytes.new.source) c.read_bytes.new.reader in
    handed_on (λ (x : Head). x) fault c.from_residual.result old mid head_at c.from_residual.ensures.1 (head_lost c.read_bytes.new.out.items fault old mid mid c.in_err-read_bytes.ensures.read)
