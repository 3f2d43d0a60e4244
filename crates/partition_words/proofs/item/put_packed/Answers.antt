use Rattle.partition_words.proofs.Vocabulary.{Event, List, PutsWord, ap, arith, drop, drop_all, length-packed, packed, plays, puts_from, sym, ◌+◌, ◌∙◌}
use Rattle.partition_words.proofs.Vocabulary.{◌∷◌, ◌≡◌}
use Rattle.partition_words.proofs.Puts.{next_put}
use Rattle.partition_words.proofs.item.put_packed.Given.{Over}
use Rattle.partition_words.proofs.item.put_packed.Goals.{After-packed_word}
use Rattle.partition_words.proofs.item.put_packed.Goals as goal

-- what is left to store begins with this word
next : (g : Over) (c : After-packed_word g) → puts_from (c.args.offset + c.loop-i.i) (drop c.loop-i.i (packed c.args.bytes.now))
    ≡ PutsWord (c.args.offset + c.loop-i.i) c.packed_word.result
    ∷ puts_from (c.args.offset + (c.loop-i.i + 1)) (drop (c.loop-i.i + 1) (packed c.args.bytes.now))
next g c = next_put c.args.offset c.loop-i.i (packed c.args.bytes.now) c.packed_word.result
    (omega (arith, length-packed c.args.bytes.now, c.loop-i-test.true, c.div_ceil-i-end.ensures)) c.packed_word.ensures

pub put_word-requires : goal.put_word-requires
put_word-requires g c = (rw (next g (goal.at.put_word-requires g c).After-packed_word) at c.loop-i.invariant.allowed).0

pub loop-i-preserved : goal.loop-i-preserved
loop-i-preserved g c =
    let loop = c.loop-i.invariant in
    let next = next g (goal.at.loop-i-preserved g c).After-packed_word in record {
      allowed = rw c.put_word.ensures.event (rw next at loop.allowed).1;
      leads = ap (plays (puts_from (c.args.offset + (c.loop-i.i + 1)) (drop (c.loop-i.i + 1) (packed c.args.bytes.now)))) c.put_word.ensures.event
          ∙ sym (ap (λ (es : List Event). plays es (g.W.OwnerWords.owner c.loop-i.words)) next) ∙ loop.leads;
      kept = c.put_word.ensures.kept;
      home = c.put_word.ensures.home ∙ loop.home;
    }

pub returns-clause-events : goal.returns-clause-events
returns-clause-events g c =
    let xs = packed c.args.bytes.now in
    let none = drop_all c.loop-i.i xs (omega (arith, length-packed c.args.bytes.now, c.loop-i-test.false, c.div_ceil-i-end.ensures)) in
    sym (ap (λ ys. plays (puts_from (c.args.offset + c.loop-i.i) ys) (g.W.OwnerWords.owner c.loop-i.words)) none) ∙ c.loop-i.invariant.leads
