use Rattle.std.proofs.Common.{◌≡◌, ◌+◌, ◌∙◌, length, take, min, sym, ap, subst, arith}
use Rattle.std.proofs.lemmas.List.{take_all}
use Rattle.memcached_text.specs.Lines.{Lacks, words_of}
use Rattle.memcached_text.specs.Forms.{line_of}
use Rattle.memcached_text.specs.Next.{says_at, most_line}
use Rattle.memcached_text.proofs.NextLaws.{binary_is, no_line_long, no_line_short, a_line}
use Rattle.memcached_text.proofs.next.front_line.Goals as goal

pub returns-in-Some : goal.returns-in-Some
returns-in-Some c =
    let line = c.in-Some.line.now in
    let rest = c.in-Some.rest.now in
    c.says_at.ensures ∙ ap (λ says. says_at says (length line + 1) rest) (c.line_of-says.ensures ∙ ap line_of (c.of.ensures ∙ ap words_of c.without_return.ensures))
    ∙ sym (a_line c.args.from.now line rest (sym c.is_binary.ensures ∙ c.if-is_binary.false) c.in-Some.ensures.0 c.in-Some.ensures.1)

pub returns-in-None : goal.returns-in-None
returns-in-None c =
    let from = c.args.from.now in
    sym (no_line_long from (min (length from) (most_line from + 1)) (sym c.is_binary.ensures ∙ c.if-is_binary.false) (omega arith) (omega arith) c.in-None.ensures)

pub returns-in-None-2 : goal.returns-in-None-2
returns-in-None-2 c =
    let from = c.args.from.now in
    let all : min (length from) (most_line from + 1) ≡ length from = omega arith in
    sym (no_line_short from (sym c.is_binary.ensures ∙ c.if-is_binary.false) (omega arith) (subst (Lacks 10) (ap (λ k. take k from) all ∙ take_all (length from) from (omega arith)) c.in-None.ensures))

pub returns-then-is_binary : goal.returns-then-is_binary
returns-then-is_binary c = sym (binary_is c.args.from.now (sym c.is_binary.ensures ∙ c.if-is_binary.true))
