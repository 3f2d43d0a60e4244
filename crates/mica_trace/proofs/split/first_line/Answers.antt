use Rattle.std.proofs.Common.{◌∷◌, length, sym, ap, ◌∙◌, arith}
use Rattle.std.proofs.lemmas.List.{take_rest, drop_all}
use Rattle.mica_trace.specs.Lines.{lines_of}
use Rattle.mica_trace.proofs.LineLemmas.{lines_of_fed, lines_of_last}
use Rattle.mica_trace.proofs.split.first_line.Goals as goal

pub returns-in-Some-clause-lines : goal.returns-in-Some-clause-lines
returns-in-Some-clause-lines c =
    ap lines_of c.in-Some.ensures.0 ∙ lines_of_fed c.in-Some.parts.0.now c.in-Some.parts.1.now c.in-Some.ensures.1

pub returns-in-None-clause-lines : goal.returns-in-None-clause-lines
returns-in-None-clause-lines c =
    let text = c.args.text.now in
    let nothing = take_rest text (length text) ∙ drop_all (length text) text (omega arith) in
    lines_of_last text c.requires c.in-None.ensures ∙ ap (λ rest. text ∷ lines_of rest) (sym nothing)
