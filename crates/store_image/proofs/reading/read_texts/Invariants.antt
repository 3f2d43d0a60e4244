use Rattle.std.proofs.Common.{◌≡◌, ◌-◌}
use Rattle.store_image.specs.ImageGrammar.{pairs_fault, first_fault}
use Rattle.store_image.proofs.reading.read_texts.Given as goal

abbrev pub invariant-loop : goal.invariant-loop
invariant-loop l = first_fault l.from ≡ pairs_fault l.last (l.count - l.counter) l.rest
