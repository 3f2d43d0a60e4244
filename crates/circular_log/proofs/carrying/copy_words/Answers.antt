use Rattle.std.proofs.Common.{rules}
use Rattle.std.proofs.Common.{◌≡◌, ℕ, ◌+◌, ◌<◌, List, ◌∷◌, ap, sym, ◌∙◌, subst, arith, drop}
use Rattle.std.proofs.lemmas.List.{drop_all}
use Rattle.partition_words.specs.declared.event.Event.TheVariants.{PutsWord}
use Rattle.partition_words.specs.declared.state.OwnerState.{OwnerState}
use Rattle.partition_words.specs.Events.{MayPutWord, plays, puts_from}
use Rattle.partition_words.proofs.Puts.{next_put}
use Rattle.circular_log.specs.LogItem.{words_from}
use Rattle.circular_log.proofs.LoadedValue.{length-words_from, word_from}
use Rattle.circular_log.proofs.carrying.copy_words.Given.{Over}
use Rattle.circular_log.proofs.carrying.copy_words.Goals.{After-read-word}
use Rattle.circular_log.proofs.carrying.copy_words.Goals as goal

module _ (g : Over) (c : After-read-word g) where
  abbrev xs : List ℕ
  xs = words_from (g.W.OwnerWords.owner c.args.words.now) c.args.from c.args.count

  low : c.loop-i.i < c.args.count
  low = omega (arith, c.loop-i-test.true)

  -- what is left to store begins with the word
  next : puts_from (c.args.to + c.loop-i.i) (drop c.loop-i.i xs)
      ≡ PutsWord (c.args.to + c.loop-i.i) c.read-word.result ∷ puts_from (c.args.to + (c.loop-i.i + 1)) (drop (c.loop-i.i + 1) xs)
  next = next_put c.args.to c.loop-i.i xs c.read-word.result (omega (arith, length-words_from (g.W.OwnerWords.owner c.args.words.now) c.args.from c.args.count, low))
      (c.read-word.ensures.value ∙ (c.loop-i.invariant.rest c.loop-i.i (omega arith) low ∙ sym (word_from (g.W.OwnerWords.owner c.args.words.now) c.args.from c.args.count c.loop-i.i low)))

pub put_word-requires : goal.put_word-requires
put_word-requires g c = subst (λ (o : OwnerState). MayPutWord o (c.args.to + c.loop-i.i)) (sym c.read-word.ensures.same)
    (rw (next g (goal.at.put_word-requires g c).After-read-word) at c.loop-i.invariant.allowed).0

pub loop-i-preserved : goal.loop-i-preserved
loop-i-preserved g c = search (rules, next)

pub returns-clause-copied : goal.returns-clause-copied
returns-clause-copied g c =
    let o = g.W.OwnerWords.owner c.args.words.now in
    let xs = words_from o c.args.from c.args.count in
    let none = drop_all c.loop-i.i xs (omega (arith, length-words_from o c.args.from c.args.count, c.loop-i-test.false)) in
    sym (ap (λ ys. plays (puts_from (c.args.to + c.loop-i.i) ys) (g.W.OwnerWords.owner c.loop-i.words)) none) ∙ c.loop-i.invariant.leads
