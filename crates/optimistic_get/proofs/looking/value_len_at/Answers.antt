use Rattle.std.proofs.Common.{sym, ap, ◌∙◌, subst, arith}
use Rattle.mica_words.specs.Hash.{hash_of}
use Rattle.partition_words.specs.declared.shape.Shape.{Shape}
use Rattle.optimistic_get.specs.Loading.{HasKeyOf}
use Rattle.optimistic_get.proofs.Loads.{on_shape}
use Rattle.optimistic_get.proofs.Items.{other_key_len, long_value, on_two, other_hash, on_three, other_word, has_key, when_true, when_false}
use Rattle.optimistic_get.proofs.looking.value_len_at.Goals as goal

pub returns-then-header_key_len-wanted-clause-shows : goal.returns-then-header_key_len-wanted-clause-shows
returns-then-header_key_len-wanted-clause-shows g c =
    let reader = g.R.ReaderWords.reader in
    other_key_len (reader c.args.seat.now) (reader c.item_word-header.new.self) c.args.offset c.item_word-header.result c.args.wanted.now.key.now c.requires.open c.item_word-header.ensures.event
    (λ same. c.if-header_key_len-wanted.true (c.header_key_len.ensures ∙ same))

pub returns-then-len-gt-MAX_STORED_LEN-clause-shows : goal.returns-then-len-gt-MAX_STORED_LEN-clause-shows
returns-then-len-gt-MAX_STORED_LEN-clause-shows g c =
    let reader = g.R.ReaderWords.reader in
    let more = c.if-len-gt-MAX_STORED_LEN.true in
    long_value (reader c.args.seat.now) (reader c.item_word-header.new.self) c.args.offset c.item_word-header.result c.args.wanted.now.key.now c.requires.open c.item_word-header.ensures.event
    (omega (arith, c.header_value_len-len.ensures))

pub returns-then-item_word-wanted-clause-on : goal.returns-then-item_word-wanted-clause-on
returns-then-item_word-wanted-clause-on g c =
    let reader = g.R.ReaderWords.reader in
    let two = on_two (reader c.args.seat.now) (reader c.item_word-header.new.self) c.args.offset c.item_word-header.result c.args.wanted.now.key.now c.requires.open c.item_word-header.ensures.event
    (reader c.item_word.new.self) c.item_word.result c.item_word.ensures.event in
    record { same = two.same; most = let few = two.most in omega arith; least = two.least; current = two.current }

pub returns-then-item_word-wanted-clause-shows : goal.returns-then-item_word-wanted-clause-shows
returns-then-item_word-wanted-clause-shows g c =
    let reader = g.R.ReaderWords.reader in
    let two = on_two (reader c.args.seat.now) (reader c.item_word-header.new.self) c.args.offset c.item_word-header.result c.args.wanted.now.key.now c.requires.open c.item_word-header.ensures.event
    (reader c.item_word.new.self) c.item_word.result c.item_word.ensures.event in
    other_hash (reader c.args.seat.now) (reader c.item_word-header.new.self) c.args.offset c.item_word-header.result c.args.wanted.now.key.now c.requires.open c.item_word-header.ensures.event
    (reader c.item_word.new.self) c.item_word.result c.item_word.ensures.event
    (λ same. c.if-item_word-wanted.true (same ∙ (ap (λ (z : Shape). hash_of z.hashing c.args.wanted.now.key.now) (on_shape _ _ _ two) ∙ sym c.requires.hashed)))

pub returns-then-holds_packed-clause-on : goal.returns-then-holds_packed-clause-on
returns-then-holds_packed-clause-on g c =
    let reader = g.R.ReaderWords.reader in
    on_three (reader c.args.seat.now) (reader c.item_word-header.new.self) c.args.offset c.item_word-header.result c.args.wanted.now.key.now c.requires.open c.item_word-header.ensures.event
    (reader c.item_word.new.self) c.item_word.result c.item_word.ensures.event (reader c.holds_packed.new.seat) c.holds_packed.ensures.on

pub returns-then-holds_packed-clause-shows : goal.returns-then-holds_packed-clause-shows
returns-then-holds_packed-clause-shows g c =
    let reader = g.R.ReaderWords.reader in
    let fits = c.if-len-gt-MAX_STORED_LEN.false in
    let three = on_three (reader c.args.seat.now) (reader c.item_word-header.new.self) c.args.offset c.item_word-header.result c.args.wanted.now.key.now c.requires.open c.item_word-header.ensures.event
    (reader c.item_word.new.self) c.item_word.result c.item_word.ensures.event (reader c.holds_packed.new.seat) c.holds_packed.ensures.on in
    subst (HasKeyOf (reader c.holds_packed.new.seat) c.args.offset c.args.wanted.now.key.now) (sym c.header_value_len-len.ensures)
    (has_key (reader c.args.seat.now) (reader c.item_word-header.new.self) c.args.offset c.item_word-header.result c.args.wanted.now.key.now c.requires.open c.item_word-header.ensures.event
    (reader c.item_word.new.self) c.item_word.result c.item_word.ensures.event (reader c.holds_packed.new.seat) c.holds_packed.ensures.on
    (sym c.header_key_len.ensures ∙ c.if-header_key_len-wanted.false) (omega (arith, c.header_value_len-len.ensures)) (c.if-item_word-wanted.false ∙ (c.requires.hashed ∙ ap (λ (z : Shape). hash_of z.hashing c.args.wanted.now.key.now) (sym (on_shape _ _ _ three))))
    (when_true _ _ c.holds_packed.result c.if-holds_packed.true c.holds_packed.ensures.shows))

pub returns-else-holds_packed-clause-on : goal.returns-else-holds_packed-clause-on
returns-else-holds_packed-clause-on g c =
    let reader = g.R.ReaderWords.reader in
    on_three (reader c.args.seat.now) (reader c.item_word-header.new.self) c.args.offset c.item_word-header.result c.args.wanted.now.key.now c.requires.open c.item_word-header.ensures.event
    (reader c.item_word.new.self) c.item_word.result c.item_word.ensures.event (reader c.holds_packed.new.seat) c.holds_packed.ensures.on

pub returns-else-holds_packed-clause-shows : goal.returns-else-holds_packed-clause-shows
returns-else-holds_packed-clause-shows g c =
    let reader = g.R.ReaderWords.reader in
    other_word (reader c.args.seat.now) (reader c.item_word-header.new.self) c.args.offset c.item_word-header.result c.args.wanted.now.key.now c.requires.open c.item_word-header.ensures.event
    (reader c.item_word.new.self) c.item_word.result c.item_word.ensures.event (reader c.holds_packed.new.seat) c.holds_packed.ensures.on
    (when_false _ _ c.holds_packed.result c.if-holds_packed.false c.holds_packed.ensures.shows)
