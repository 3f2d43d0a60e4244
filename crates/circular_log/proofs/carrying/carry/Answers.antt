use Rattle.std.proofs.Common.{◌≡◌, ◌+◌, ◌-◌, ap, sym, ◌∙◌, subst, arith}
use Rattle.mica_words.specs.Item.{item_size}
use Rattle.mica_words.proofs.Sizes.{item_size-most}
use Rattle.partition_model.specs.Cache.{Record}
use Rattle.partition_words.specs.declared.state.OwnerState.{OwnerState}
use Rattle.partition_words.specs.Kept.{Kept}
use Rattle.partition_words.specs.Events.{CanPlay, MayPutWord, plays, puts_from}
use Rattle.circular_log.specs.LogItem.{words_from}
use Rattle.circular_log.specs.LogCarry.{Carries, StoresBehind}
use Rattle.circular_log.proofs.CarriedItem as carried
use Rattle.circular_log.proofs.carrying.carry.Given.{Over}
use Rattle.circular_log.proofs.carrying.carry.Goals as goal
use Rattle.circular_log.proofs.carrying.carry.Goals.{After-read-header, After-put_word}

kept : (g : Over) (c : After-read-header g) → Kept (g.W.OwnerWords.owner c.args.words.now)
kept g c = subst Kept c.read-header.ensures.same c.read-header.ensures.kept

its : (g : Over) (c : After-read-header g) → carried.CarriedItem (g.W.OwnerWords.owner c.args.words.now) c.args.from c.args.to c.requires.marked.0
its g c = carried.carried_item (g.W.OwnerWords.owner c.args.words.now) (kept g c) c.args.from c.args.to c.requires.marked.0 c.requires.marked.1

module _ (g : Over) (c : After-put_word g) (k : Kept (g.W.OwnerWords.owner c.args.words.now)) (held : Record) (is : Carries (g.W.OwnerWords.owner c.args.words.now) c.args.from c.args.to held) where
  abbrev o : OwnerState
  o = g.W.OwnerWords.owner c.args.words.now

  begun : (g.W.OwnerWords.owner c.put_word.new.self ≡ carried.begun o k c.args.from c.args.to held is) × (c.item_size-size.result ≡ item_size held.key held.value)
  begun = carried.begun_is o k c.args.from c.args.to held is c.read-header.result c.header_key_len-key_len.result c.header_value_len-value_len.result c.item_size-size.result c.header_of.result
      c.read-header.ensures.value c.header_key_len-key_len.ensures c.header_value_len-value_len.ensures c.item_size-size.ensures c.header_of.ensures
      (g.W.OwnerWords.owner c.read-header.new.self) (g.W.OwnerWords.owner c.put_word.new.self) c.read-header.ensures.same c.put_word.ensures.event

  count : c.item_size-size.result - 1 + 1 ≡ item_size held.key held.value
  count = omega (arith, begun.1, c.item_size-size.ensures)

pub item_size-size-requires-clause-key : goal.item_size-size-requires-clause-key
item_size-size-requires-clause-key g c =
    let z = (goal.at.item_size-size-requires-clause-key g c).After-read-header in
    let len = carried.key_len (g.W.OwnerWords.owner c.args.words.now) (kept g z) c.args.from c.args.to c.requires.marked.0 c.requires.marked.1 c.read-header.result c.header_key_len-key_len.result
    c.read-header.ensures.value c.header_key_len-key_len.ensures in
    omega (arith, len, (its g z).item.key_fits)

pub item_size-size-requires-clause-value : goal.item_size-size-requires-clause-value
item_size-size-requires-clause-value g c =
    let z = (goal.at.item_size-size-requires-clause-value g c).After-read-header in
    let len = carried.value_len (g.W.OwnerWords.owner c.args.words.now) (kept g z) c.args.from c.args.to c.requires.marked.0 c.requires.marked.1 c.read-header.result c.header_value_len-value_len.result
    c.read-header.ensures.value c.header_value_len-value_len.ensures in
    omega (arith, len, (its g z).item.value_fits)

pub header_of-requires-clause-room : goal.header_of-requires-clause-room
header_of-requires-clause-room g c =
    let z = (goal.at.header_of-requires-clause-room g c).After-read-header in
    let o = g.W.OwnerWords.owner c.args.words.now in
    let keys = carried.key_len o (kept g z) c.args.from c.args.to c.requires.marked.0 c.requires.marked.1 c.read-header.result c.header_key_len-key_len.result
    c.read-header.ensures.value c.header_key_len-key_len.ensures in
    let values = carried.value_len o (kept g z) c.args.from c.args.to c.requires.marked.0 c.requires.marked.1 c.read-header.result c.header_value_len-value_len.result
    c.read-header.ensures.value c.header_value_len-value_len.ensures in
    omega (arith, keys, values, (its g z).item.key_fits, (its g z).item.value_fits, c.item_size-size.ensures)

pub header_of-requires-clause-key_len : goal.header_of-requires-clause-key_len
header_of-requires-clause-key_len g c = let room = header_of-requires-clause-room g c in omega (arith, room, c.header_key_len-key_len.ensures)

pub put_word-requires : goal.put_word-requires
put_word-requires g c = grind (arith, (goal.at.put_word-requires g c).After-read-header, MayPutWord, c.read-header.ensures.same, carried.may_begin)

pub overflow_add-from : goal.overflow_add-from
overflow_add-from g c =
    let z = (goal.at.overflow_add-from g c).After-read-header in
    let low = (carried.may_begin (g.W.OwnerWords.owner c.args.words.now) (kept g z) c.args.from c.args.to c.requires.marked.0 c.requires.marked.1).low in
    omega (arith, low, (its g z).behind)

pub overflow_add-to : goal.overflow_add-to
overflow_add-to g c =
    let z = (goal.at.overflow_add-to g c).After-read-header in
    let low = (carried.may_begin (g.W.OwnerWords.owner c.args.words.now) (kept g z) c.args.from c.args.to c.requires.marked.0 c.requires.marked.1).low in
    omega (arith, low)

pub copy_words-requires-clause-low : goal.copy_words-requires-clause-low
copy_words-requires-clause-low g c =
    let at = goal.at.copy_words-requires-clause-low g c in
    let z = at.After-read-header in
    let low = (carried.may_begin (g.W.OwnerWords.owner c.args.words.now) (kept g z) c.args.from c.args.to c.requires.marked.0 c.requires.marked.1).low in
    let size = (begun g at.After-put_word (kept g z) c.requires.marked.0 c.requires.marked.1).1 in
    let most = item_size-most c.requires.marked.0.key c.requires.marked.0.value (its g z).item.key_fits (its g z).item.value_fits in
    (omega (arith, low, (its g z).behind, size, most), omega (arith, low, size, most))

pub copy_words-requires-clause-behind : goal.copy_words-requires-clause-behind
copy_words-requires-clause-behind g c =
    let at = goal.at.copy_words-requires-clause-behind g c in
    let k = kept g at.After-read-header in
    let held = c.requires.marked in
    subst (λ (o : OwnerState). StoresBehind o.shape (c.args.from + 1) (c.args.to + 1) (c.item_size-size.result - 1)) (sym (begun g at.After-put_word k held.0 held.1).0)
    (carried.stores_behind (g.W.OwnerWords.owner c.args.words.now) k c.args.from c.args.to held.0 held.1 (c.item_size-size.result - 1) (count g at.After-put_word k held.0 held.1))

pub copy_words-requires-clause-allowed : goal.copy_words-requires-clause-allowed
copy_words-requires-clause-allowed g c =
    let at = goal.at.copy_words-requires-clause-allowed g c in
    let k = kept g at.After-read-header in
    let held = c.requires.marked in
    subst (λ (o : OwnerState). CanPlay (puts_from (c.args.to + 1) (words_from o (c.args.from + 1) (c.item_size-size.result - 1))) o) (sym (begun g at.After-put_word k held.0 held.1).0)
    (carried.can_copy (g.W.OwnerWords.owner c.args.words.now) k c.args.from c.args.to held.0 held.1 (c.item_size-size.result - 1) (count g at.After-put_word k held.0 held.1))

pub returns-clause-item : goal.returns-clause-item
returns-clause-item g c held is =
    let at = goal.at.returns-clause-item g c in
    let k = kept g at.After-read-header in
    c.copy_words.ensures.copied
    ∙ (ap (λ (o : OwnerState). plays (puts_from (c.args.to + 1) (words_from o (c.args.from + 1) (c.item_size-size.result - 1))) o) (begun g at.After-put_word k held is).0
    ∙ carried.copied_is (g.W.OwnerWords.owner c.args.words.now) k c.args.from c.args.to held is (c.item_size-size.result - 1) (count g at.After-put_word k held is))
