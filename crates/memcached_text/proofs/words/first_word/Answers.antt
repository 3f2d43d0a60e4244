use Rattle.std.proofs.Common.{◌∙◌, ap, eqb-true, sym}
use Rattle.std.proofs.lemmas.List.{nil_from_length}
use Rattle.memcached_text.specs.Lines.{words_of}
use Rattle.memcached_text.proofs.WordLaws.{is_word, no_word, words_of_none}
use Rattle.memcached_text.proofs.words.first_word.Goals as goal

pub returns-then-not-is_empty : goal.returns-then-not-is_empty
returns-then-not-is_empty c = c.loop-rest.invariant ∙ is_word c.loop-rest.rest.now c.first_part.result.0.now _ _ c.first_part.ensures.words c.is_empty-in-loop-rest.ensures c.if-not-is_empty.true

pub loop-rest-preserved : goal.loop-rest-preserved
loop-rest-preserved c = c.loop-rest.invariant ∙ no_word c.loop-rest.rest.now c.first_part.result.0.now _ _ c.first_part.ensures.words c.is_empty-in-loop-rest.ensures c.if-not-is_empty.false

pub returns : goal.returns
returns c = c.loop-rest.invariant ∙ ap words_of (nil_from_length c.loop-rest.rest.now (eqb-true _ 0 (sym c.is_empty.ensures ∙ c.loop-rest-test.false))) ∙ words_of_none
