use Rattle.partition_words.proofs.Vocabulary.{arith, length, length-packed, packed, plays, puts_from, sym, ◌+◌, ◌∙◌, ◌≡◌}
use Rattle.partition_words.proofs.ItemEvents.{CanPut, keyed, can_put_parts, all_put, key_stays}
use Rattle.partition_words.proofs.item.rewrite_item.Given.{Over}
use Rattle.partition_words.proofs.item.rewrite_item.Goals.{Start, After-from}
use Rattle.partition_words.proofs.item.rewrite_item.Goals as goal

can : (g : Over) (c : Start g) → CanPut (g.W.OwnerWords.owner c.args.words.now) c.args.offset c.args.room c.args.key.now c.args.value.now
can g c = can_put_parts (g.W.OwnerWords.owner c.args.words.now) c.args.offset c.args.room c.args.key.now c.args.value.now c.requires.allowed

-- where the value goes
place : (g : Over) (c : After-from g) → c.args.offset + c.from.result ≡ c.args.offset + 2 + length (packed c.args.key.now)
place g c = omega (arith, length-packed c.args.key.now, c.from.ensures, c.item_size.ensures)

-- once the header is put, all in front of the value is there
there : (g : Over) (c : After-from g) → g.W.OwnerWords.owner c.put_word.new.self
    ≡ keyed (g.W.OwnerWords.owner c.args.words.now) c.args.offset c.args.room c.args.key.now c.args.value.now
there g c =
    let o = g.W.OwnerWords.owner c.args.words.now in
    simp (c.put_word.ensures.event, c.header_of-header.ensures)
    (sym (key_stays o c.args.offset c.args.room c.args.key.now c.args.value.now c.requires.kept c.requires.key c.requires.there))

pub put_word-requires : goal.put_word-requires
put_word-requires g c = (can g (goal.at.put_word-requires g c).Start).header

pub overflow_add-offset : goal.overflow_add-offset
overflow_add-offset g c =
    omega (arith, (can g (goal.at.overflow_add-offset g c).Start).header.low, c.requires.key, c.from.ensures, c.item_size.ensures)

pub put_packed-requires-clause-low : goal.put_packed-requires-clause-low
put_packed-requires-clause-low g c =
    let low = (can g (goal.at.put_packed-requires-clause-low g c).Start).header.low in
    omega (arith, low, c.requires.key, c.requires.value, c.from.ensures, c.item_size.ensures)

pub put_packed-requires-clause-allowed : goal.put_packed-requires-clause-allowed
put_packed-requires-clause-allowed g c =
    let at = goal.at.put_packed-requires-clause-allowed g c in
    rw (there g at.After-from) (rw (place g at.After-from) (can g at.Start).value_words)

pub returns-clause-events : goal.returns-clause-events
returns-clause-events g c =
    let at = (goal.at.returns-clause-events g c).After-from in
    c.put_packed.ensures.events
    ∙ (λ i. plays (puts_from (place g at i) (packed c.args.value.now)) (there g at i))
    ∙ all_put (g.W.OwnerWords.owner c.args.words.now) c.args.offset c.args.room c.args.key.now c.args.value.now
