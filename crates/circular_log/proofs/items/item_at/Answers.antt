use Rattle.std.proofs.Common.{rules}
use Rattle.std.proofs.Common.{◌≡◌, ◌+◌, ◌*◌, List, ℕ, refl, ap, ◌∙◌, ◌++◌, arith, length, flat_map}
use Rattle.std.specs.Int.{w64, to_le_bytes}
use Rattle.partition_words.specs.declared.state.OwnerState.{OwnerState}
use Rattle.partition_words.specs.OwnerState.{item_in}
use Rattle.mica_words.specs.Item.{words_for}
use Rattle.circular_log.specs.LogItem.{words_from}
use Rattle.circular_log.proofs.LoadedValue.{bytes_from, bytes_more, bytes_then, length-bytes_from, key_len_is, value_len_is, value_is}
use Rattle.circular_log.proofs.items.item_at.Goals as goal

pub loop-at-init : goal.loop-at-init
loop-at-init g c = search (rules, value_len_is)

pub push_words-requires : goal.push_words-requires
push_words-requires g c =
    let loop = c.loop-at.invariant in
    let long = ap (length {A = ℕ}) loop.bytes ∙ length-bytes_from (g.W.OwnerWords.owner c.args.words.now) (c.args.offset + 2 + c.from.result) (8 * c.loop-at.at) in
    omega (arith, long, loop.few, c.loop-at-test.true, c.div_ceil-count.ensures)

pub loop-at-preserved : goal.loop-at-preserved
loop-at-preserved g c =
    let o = g.W.OwnerWords.owner c.args.words.now in
    let loop = c.loop-at.invariant in
    let block = c.eight_words-block.ensures in
    let place = c.args.offset + 2 + c.from.result in
    let next : 8 * c.loop-at.at + 8 ≡ 8 * (c.loop-at.at + 1) = omega arith in
    let words = block.words ∙ ap (λ (o : OwnerState). words_from o (place + 8 * c.loop-at.at) 8) loop.owner in record {
      owner = block.same ∙ loop.owner;
      home = block.home ∙ loop.home;
      kept = block.kept;
      few = loop.few;
      bytes = c.push_words.ensures ∙ ap (λ (z : List ℕ). c.loop-at.out ++ flat_map (to_le_bytes w64) z) words
          ∙ bytes_then o place (8 * c.loop-at.at) 8 c.loop-at.out loop.bytes ∙ ap (bytes_from o place) next;
    }

pub push_word-requires : goal.push_word-requires
push_word-requires g c =
    let loop = c.loop-i.invariant in
    let long = ap (length {A = ℕ}) loop.bytes ∙ length-bytes_from (g.W.OwnerWords.owner c.args.words.now) (c.args.offset + 2 + c.from.result) c.loop-i.i in
    omega (arith, long, loop.few, c.loop-i-test.true, c.div_ceil-count.ensures)

pub loop-i-preserved : goal.loop-i-preserved
loop-i-preserved g c =
    let owner = g.W.OwnerWords.owner in
    let loop = c.loop-i.invariant in
    let word = c.read.ensures.value ∙ ap (λ (o : OwnerState). item_in o (c.args.offset + 2 + c.from.result + c.loop-i.i)) loop.owner in
    record {
      owner = c.read.ensures.same ∙ loop.owner;
      home = c.read.ensures.home ∙ loop.home;
      kept = c.read.ensures.kept;
      few = loop.few;
      bytes = search (rules, bytes_more, owner);
    }

pub returns-clause-value : goal.returns-clause-value
returns-clause-value g c key cell item =
    let owner = g.W.OwnerWords.owner in
    let loop = c.loop-i.invariant in
    let read = c.read-header.ensures.value in
    let place = c.args.offset + 2 + c.from.result in
    let len : c.header_value_len-len.result ≡ length cell.value = search (rules, value_len_is, owner) in
    let key_len : c.header_key_len.result ≡ length key = search (rules, key_len_is, owner) in
    let words : c.loop-i.i ≡ words_for (length cell.value) = omega (arith, c.loop-i-test.false, c.loop-i.auto, c.div_ceil-count.ensures) in
    let at : place ≡ c.args.offset + 2 + words_for (length key) = omega (arith, c.from.ensures, c.div_ceil.ensures) in
    c.truncate.ensures
    ∙ value_is (owner c.args.words.now) c.args.offset key cell item (owner c.args.words.now) place c.loop-i.i c.header_value_len-len.result c.loop-i.out refl at words len loop.bytes
