use Rattle.std.proofs.Common.{◌+◌, length, arith}
use Rattle.mica_words.specs.Item.{words_for, largest_stored_item}
use Rattle.optimistic_get.proofs.Loads.{on_then, on_at_most}
use Rattle.optimistic_get.proofs.Items.{tells_item}
use Rattle.optimistic_get.proofs.looking.look.Goals as goal

pub returns-clause-on : goal.returns-clause-on
returns-clause-on g c =
    let reader = g.R.ReaderWords.reader in
    let key = c.args.wanted.now.fits.1 in
    let len = c.in-Some.ensures.shows.fits in
    on_at_most (reader c.args.seat.now) (reader c.load_value.new.seat) (2 + words_for (length c.args.wanted.now.key.now) + words_for c.in-Some.len) largest_stored_item (omega arith)
    (on_then (reader c.args.seat.now) (reader c.value_len_at.new.seat) (reader c.load_value.new.seat) (2 + words_for (length c.args.wanted.now.key.now)) (words_for c.in-Some.len)
    c.in-Some.ensures.on c.load_value.ensures.on)

pub returns-clause-shows : goal.returns-clause-shows
returns-clause-shows g c =
    let reader = g.R.ReaderWords.reader in
    tells_item (reader c.value_len_at.new.seat) (reader c.load_value.new.seat) (words_for c.in-Some.len) c.args.offset _ c.in-Some.len c.args.wanted.now.key.now c.load_value.new.out
    c.in-Some.ensures.shows c.load_value.ensures.on (omega (arith, c.from-2.ensures, c.item_size.ensures)) c.load_value.ensures.value
