use Rattle.std.proofs.Common.{◌≡◌, ℕ, ◌+◌, ◌*◌, [], ◌∷◌, ◌++◌, ◌∙◌, length, subst, sym, arith, rules, length-append}
use Rattle.mica_words.specs.Item.{words_for}
use Rattle.optimistic_get.specs.Loading.{HasLoadedWords}
use Rattle.optimistic_get.proofs.Loads.{on_load, on_open, on_then, on_at_most, first_snoc, words_then, on_items, items_here}
use Rattle.optimistic_get.proofs.Bytes.{bytes_more, bytes_then, longer, eight_more, value_of}
use Rattle.optimistic_get.proofs.looking.load_value.Goals as goal

pub loop-at-preserved : goal.loop-at-preserved
loop-at-preserved g c =
    let reader = g.R.ReaderWords.reader in
    let loop = c.loop-at.invariant in
    let block = c.item_block-block.result in
    let now = reader c.item_block-block.new.self in
    let tried = on_open (reader c.args.seat.now) (reader c.loop-at.seat) (8 * c.loop-at.at) loop.on in
    let on = on_items (c.args.offset + 8 * c.loop-at.at) block (reader c.loop-at.seat) now tried c.item_block-block.ensures.event in
    let eight : length block ≡ 8 = search rules in record {
      on = on_at_most (reader c.args.seat.now) now (8 * c.loop-at.at + length block) _ (omega (arith, eight))
          (on_then (reader c.args.seat.now) (reader c.loop-at.seat) now (8 * c.loop-at.at) (length block) loop.on on);
      words = loop.words ++ block;
      long = omega (arith, loop.long, eight, length-append loop.words block);
      first = words_then (reader c.loop-at.seat) now (length block) c.args.offset loop.words block on loop.first
          (subst (λ (z : ℕ). HasLoadedWords now (c.args.offset + z) block) (sym loop.long)
          (items_here (c.args.offset + 8 * c.loop-at.at) block (reader c.loop-at.seat) now tried c.item_block-block.ensures.event));
      bytes = c.push_words.ensures ∙ bytes_then loop.words block c.loop-at.out loop.bytes;
      wide = omega (arith, loop.wide, eight, longer block c.loop-at.out c.push_words.new.self c.push_words.ensures);
      home = search rules;
      plan = search rules;
    }

pub loop-i-preserved : goal.loop-i-preserved
loop-i-preserved g c =
    let reader = g.R.ReaderWords.reader in
    let loop = c.loop-i.invariant in
    let x = c.item_word-word.result in record {
      on = on_load (reader c.args.seat.now) (reader c.loop-i.seat) (reader c.item_word-word.new.self) c.loop-i.i _ x loop.on c.item_word-word.ensures.event;
      words = loop.words ++ x ∷ [];
      long = omega (arith, loop.long, length-append loop.words (x ∷ []));
      first = first_snoc (reader c.loop-i.seat) (reader c.item_word-word.new.self) x c.args.offset c.loop-i.i loop.words
          (on_open (reader c.args.seat.now) (reader c.loop-i.seat) c.loop-i.i loop.on) c.item_word-word.ensures.event loop.long loop.first;
      bytes = c.push_word.ensures ∙ bytes_more x loop.words c.loop-i.out loop.bytes;
      wide = eight_more c.loop-i.i x c.loop-i.out c.push_word.new.self c.push_word.ensures loop.wide;
      home = search rules;
      plan = search rules;
    }

pub returns-clause-value : goal.returns-clause-value
returns-clause-value g c =
    let loop = c.loop-i.invariant in
    let few = c.requires.len in
    let words : c.loop-i.i ≡ words_for c.args.len = omega (arith, c.loop-i-test.false, c.div_ceil-words.ensures) in
    let held = c.truncate.ensures ∙ value_of c.args.len c.loop-i.out loop.words loop.bytes in record {
      words = loop.words;
      enough = loop.long ∙ words;
      load = λ i l. loop.first i (omega (arith, loop.long));
      held = held;
      long = search rules;
    }
