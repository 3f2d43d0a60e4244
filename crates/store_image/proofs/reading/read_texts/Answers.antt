use Rattle.std.proofs.lemmas.Grind.{common_steps}
use Rattle.std.proofs.Common.{◌∙◌, arith, rules}
use Rattle.store_image.specs.ImageGrammar.{first_fault}
use Rattle.store_image.proofs.Walk.{next_fault, trails, is_done}
use Rattle.store_image.proofs.reading.read_texts.Goals as goal

pub loop-init : goal.loop-init
unfolding first_fault
loop-init c = grind (arith, common_steps)

pub returns-in_err-key-clause-fault : goal.returns-in_err-key-clause-fault
returns-in_err-key-clause-fault c = c.loop.invariant ∙ next_fault _ _ _ _ c.loop-test.true ∙ rw c.in_err-key.ensures.fault (search rules)

pub loop-preserved : goal.loop-preserved
loop-preserved c = search (rules, next_fault)

pub returns-then-not-is_empty-clause-fault : goal.returns-then-not-is_empty-clause-fault
returns-then-not-is_empty-clause-fault c = c.loop.invariant ∙ trails _ _ _ _ c.loop-test.false (search rules)

pub returns-clause-fault : goal.returns-clause-fault
returns-clause-fault c = c.loop.invariant ∙ is_done _ _ _ _ c.loop-test.false (search rules)
