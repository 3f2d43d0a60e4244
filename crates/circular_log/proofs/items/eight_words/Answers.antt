use Rattle.std.proofs.Common.{rules}
use Rattle.std.proofs.Common.{◌≡◌, ◌+◌, ap, ◌∙◌, sym, arith}
use Rattle.std.proofs.lemmas.List.{take_all}
use Rattle.partition_words.specs.declared.state.OwnerState.{OwnerState}
use Rattle.partition_words.specs.OwnerState.{item_in}
use Rattle.circular_log.specs.LogItem.{words_from}
use Rattle.circular_log.proofs.LoadedValue.{block_more}
use Rattle.circular_log.proofs.items.eight_words.Goals as goal

pub loop-i-preserved : goal.loop-i-preserved
loop-i-preserved g c =
    let owner = g.W.OwnerWords.owner in
    let loop = c.loop-i.invariant in
    let word = c.read.ensures.value ∙ ap (λ (o : OwnerState). item_in o (c.args.offset + c.loop-i.i)) loop.owner in record {
      owner = c.read.ensures.same ∙ loop.owner;
      home = c.read.ensures.home ∙ loop.home;
      kept = c.read.ensures.kept;
      eight = search rules;
      words = block_more (owner c.args.words.now) c.args.offset c.loop-i.i c.read.result c.loop-i.block (omega (arith, loop.eight, c.loop-i-test.true)) loop.words word;
    }

pub returns-clause-words : goal.returns-clause-words
returns-clause-words g c =
    let loop = c.loop-i.invariant in
    let end : c.loop-i.i ≡ 8 = omega (arith, c.loop-i-test.false, c.loop-i.auto.i-end) in
    sym (take_all c.loop-i.i c.loop-i.block (omega (arith, loop.eight))) ∙ loop.words ∙ ap (words_from (g.W.OwnerWords.owner c.args.words.now) c.args.offset) end
