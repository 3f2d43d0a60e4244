use Rattle.std.proofs.Common.{arith}
use Rattle.saved_items.specs.Items.{pair_of}
use Rattle.saved_items.specs.Reading.{entry_at}
use Rattle.saved_items.specs.Reader.{stream_of}
use Rattle.saved_items.proofs.Readers.{entry_lost, pair_read, pair_lost, other_count, entry_closes, entry_open}
use Rattle.saved_items.proofs.Texts.{handed_on}
use Rattle.saved_items.proofs.reading.read_entry.Goals as goal

pub returns-in_err-word-clause-read : goal.returns-in_err-word-clause-read
returns-in_err-word-clause-read g c =
    let fault = c.in_err-word.field-0.0 in
    let old = stream_of (g.S.Source.left c.args.source.now) c.args.reader.now in
    let mid = stream_of (g.S.Source.left c.read_word.new.source) c.read_word.new.reader in
    handed_on _ fault c.from_residual.result old mid (entry_at c.args.close) c.from_residual.ensures.1 (entry_lost c.args.close _ fault old mid mid c.in_err-word.ensures.read)

pub returns-in_err-read_texts-clause-read : goal.returns-in_err-read_texts-clause-read
returns-in_err-read_texts-clause-read g c =
    let fault = c.in_err-read_texts.field-0.0 in
    let old = stream_of (g.S.Source.left c.args.source.now) c.args.reader.now in
    let mid = stream_of (g.S.Source.left c.read_word.new.source) c.read_word.new.reader in
    let last = stream_of (g.S.Source.left c.read_texts.new.source) c.read_texts.new.reader in
    let pair = pair_of c.read_texts.new.pair in
    handed_on _ fault c.from_residual-in_err-read_texts.result old last (entry_at c.args.close) c.from_residual-in_err-read_texts.ensures.1
    (pair_lost c.args.close pair c.in_ok-word.word old mid c.in_ok-word.ensures.read c.lengths_in.result fault last last (λ e. omega arith) c.lengths_in.ensures.lengths c.in_err-read_texts.ensures.read)

pub returns-then-word-ne0-clause-read : goal.returns-then-word-ne0-clause-read
returns-then-word-ne0-clause-read g c =
    pair_read c.args.close (pair_of c.read_texts.new.pair) c.in_ok-word.word (stream_of (g.S.Source.left c.args.source.now) c.args.reader.now) (stream_of (g.S.Source.left c.read_word.new.source) c.read_word.new.reader)
    c.in_ok-word.ensures.read c.lengths_in.result (stream_of (g.S.Source.left c.read_texts.new.source) c.read_texts.new.reader) (λ e. omega arith) c.lengths_in.ensures.lengths c.in_ok-read_texts.ensures.read

pub returns-then-word-close-clause-read : goal.returns-then-word-close-clause-read
returns-then-word-close-clause-read g c =
    let mid = stream_of (g.S.Source.left c.read_word.new.source) c.read_word.new.reader in
    other_count c.args.close _ c.in_ok-word.word (stream_of (g.S.Source.left c.args.source.now) c.args.reader.now) mid c.in_ok-word.ensures.read mid (omega arith) (λ e. omega arith)

pub returns-in_err-read_closing-clause-read : goal.returns-in_err-read_closing-clause-read
returns-in_err-read_closing-clause-read g c =
    let fault = c.in_err-read_closing.field-0.0 in
    let old = stream_of (g.S.Source.left c.args.source.now) c.args.reader.now in
    let mid = stream_of (g.S.Source.left c.read_word.new.source) c.read_word.new.reader in
    let last = stream_of (g.S.Source.left c.read_closing.new.source) c.read_closing.new.reader in
    handed_on _ fault c.from_residual-in_err-read_closing.result old last (entry_at c.args.close) c.from_residual-in_err-read_closing.ensures.1
    (entry_open c.args.close _ c.in_ok-word.word old mid c.in_ok-word.ensures.read (omega arith) (omega arith) fault last last c.in_err-read_closing.ensures.read)

pub returns-clause-read : goal.returns-clause-read
returns-clause-read g c =
    entry_closes c.args.close _ c.in_ok-word.word (stream_of (g.S.Source.left c.args.source.now) c.args.reader.now) (stream_of (g.S.Source.left c.read_word.new.source) c.read_word.new.reader) c.in_ok-word.ensures.read
    (omega arith) (omega arith) c.in_ok-read_closing.field-0 (stream_of (g.S.Source.left c.read_closing.new.source) c.read_closing.new.reader) c.in_ok-read_closing.ensures.read
