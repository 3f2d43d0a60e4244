use Rattle.std.proofs.Common.{◌≤◌, ◌∙◌, take, sym, subst, arith}
use Rattle.std.proofs.lemmas.List.{length-take-le}
use Rattle.memcached_text.specs.Lines.{Lacks}
use Rattle.memcached_text.proofs.SpelledLaws.{lacks_before, take_within}
use Rattle.memcached_text.proofs.spelled.part_within.Goals as goal

pub returns : goal.returns
returns c =
    let text = c.args.text.now in
    let near = take c.min.result text in
    let found = c.in_ok-end.ensures.0 in
    let lacks = lacks_before near c.in_ok-end.end found.before in
    let short : c.in_ok-end.end ≤ c.min.result = omega (arith, found.high, length-take-le c.min.result text (omega arith)) in
    let front = take_within text c.in_ok-end.end c.min.result short ∙ sym c.split_at.ensures.front in
    (c.split_at.ensures.by_index.0, subst (Lacks 32) front lacks.0, subst (Lacks 10) front lacks.1, subst (Lacks 0) front lacks.2)
