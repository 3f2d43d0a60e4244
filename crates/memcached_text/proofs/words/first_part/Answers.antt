use Rattle.std.proofs.Common.{length, ap, ◌∙◌, arith}
use Rattle.std.proofs.lemmas.List.{take_rest, drop_all}
use Rattle.memcached_text.specs.Lines.{words_of}
use Rattle.memcached_text.proofs.WordLaws.{words_of_part, words_of_end}
use Rattle.memcached_text.proofs.words.first_part.Goals as goal

pub returns-in-Some-clause-words : goal.returns-in-Some-clause-words
returns-in-Some-clause-words c =
    ap words_of c.in-Some.ensures.0 ∙ words_of_part c.in-Some.parts.0.now c.in-Some.parts.1.now c.in-Some.ensures.1

pub returns-in-None-clause-words : goal.returns-in-None-clause-words
returns-in-None-clause-words c =
    let text = c.args.text.now in
    let nothing = take_rest text (length text) ∙ drop_all (length text) text (omega arith) in
    words_of_end text _ c.in-None.ensures nothing
