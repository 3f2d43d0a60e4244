use Rattle.std.proofs.Common.{◌+◌, ◌∙◌, length, ap, sym, arith}
use Rattle.std.proofs.lemmas.List.{take_rest}
use Rattle.memcached_text.proofs.KeyLaws.{keys_in, all_fit, one_too_long, front_passed}
use Rattle.memcached_text.proofs.words.are_short.Goals as goal

pub returns-in-None : goal.returns-in-None
returns-in-None c = sym (c.loop-rest.invariant ∙ one_too_long c.loop-rest.rest.now c.split_at.result.0.now c.split_at.result.1.now c.split_at.ensures.by_index.0 c.split_at.ensures.front_len c.in-None.ensures)

pub loop-rest-preserved : goal.loop-rest-preserved
loop-rest-preserved c =
    let rest = c.loop-rest.rest.now in
    let front = c.in-Some.front.now in
    c.loop-rest.invariant ∙ front_passed rest c.split_at.result.0.now c.split_at.result.1.now front _ c.split_at.ensures.by_index.0 c.split_at.ensures.front_len c.in-Some.ensures
    ∙ ap keys_in (sym (take_rest rest (length front + 1)))

pub returns : goal.returns
returns c = sym (c.loop-rest.invariant ∙ all_fit c.loop-rest.rest.now (omega (arith, c.loop-rest-test.false)))
