use Rattle.std.proofs.Common.{◌≤◌, [], length, sym, ◌∙◌, arith}
use Rattle.std.proofs.lemmas.Result.{err_from_is_err_and}
use Rattle.connection_loop.specs.Turns.{most_to_one}
use Rattle.connection_loop.proofs.Going.{these_none, these_of}
use Rattle.connection_loop.proofs.Reaching.{on_none, on_as, spoke_of, part_of, whole_of, last_of}
use Rattle.connection_loop.proofs.Answering.{match_err}
use Rattle.connection_loop.proofs.Advancing.{few_given, part_on, speaks_more, speaks_whole, whole_on}
use Rattle.connection_loop.proofs.answer.answer_one.Goals as goal

pub returns-in_err-progress-clause-talk : goal.returns-in_err-progress-clause-talk
returns-in_err-progress-clause-talk g c =
    let options = g.F.Front.options c.args.hand.now.front in
    let r = c.in_err-progress.ensures.answered in
    let few : length r.0 ≤ most_to_one options = omega (arith, r.5, c.requires.partitions) in
    let is = err_from_is_err_and c.from_residual.result c.from_residual.ensures.1 in (
      r.0,
      these_of options g.F.Front.is_alone r.1 r.3,
      (
        few,
        match_err _ _ c.from_residual.result is.0 is.1 (spoke_of options c.args.hand.now.numbering.base c.args.bytes.now c.args.done c.said_next-next.result c.said_next-next.ensures.next r.1 c.in_default.not-More
            c.requires.«open»),
      ),
    )

pub returns-in-More-clause-talk : goal.returns-in-More-clause-talk
returns-in-More-clause-talk g c =
    let options = g.F.Front.options c.args.hand.now.front in
    let more = sym c.said_next-next.ensures.next ∙ c.in-More.is in (
      [],
      these_none options g.F.Front.is_alone (g.F.Front.sessions c.args.hand.now.front) (g.F.Front.left c.args.hand.now.front) c.args.hand.now.second c.args.hand.now.second (omega arith),
      (omega arith, (on_as options c.args.hand.now.numbering.base (λ received given due r. (r, more)) (on_none options c.args.hand.now.numbering.base _ c.args.out.now.items), tt)),
    )

pub returns-then-not-progress-clause-talk : goal.returns-then-not-progress-clause-talk
returns-then-not-progress-clause-talk g c =
    let options = g.F.Front.options c.args.hand.now.front in
    let r = c.in_ok-progress.ensures.answered in
    let few : length r.0 ≤ most_to_one options = omega (arith, r.5, c.requires.partitions) in
    let on = part_on c.args.bytes.now c.args.done c.said_next-next.result c.said_next-next.ensures.next c.in_default.not-More c.requires.«open» options c.args.hand.now.numbering.base r.2 (omega arith)
    c.requires.room c.if-not-progress.true in (
      r.0,
      these_of options g.F.Front.is_alone r.1 r.3,
      (
        few,
        (part_of options c.args.hand.now.numbering.base c.args.bytes.now c.said_next-next.result c.said_next-next.ensures.next r.1 r.2 c.if-not-progress.true, speaks_more r.2 on.1),
      ),
    )

pub returns-then-last-clause-talk : goal.returns-then-last-clause-talk
returns-then-last-clause-talk g c =
    let options = g.F.Front.options c.args.hand.now.front in
    let r = c.in_ok-progress.ensures.answered in
    let few : length r.0 ≤ most_to_one options = omega (arith, r.5, c.requires.partitions) in (
      r.0,
      these_of options g.F.Front.is_alone r.1 r.3,
      (
        few,
        (
          last_of options c.args.hand.now.numbering.base c.args.bytes.now c.said_next-next.result c.said_next-next.ensures.next r.1 r.2 c.in_default.not-More
              (sym c.is_last-last.ensures ∙ c.if-last.true),
          tt,
        ),
      ),
    )

pub returns-else-last-clause-talk : goal.returns-else-last-clause-talk
returns-else-last-clause-talk g c =
    let options = g.F.Front.options c.args.hand.now.front in
    let r = c.in_ok-progress.ensures.answered in
    let few : length r.0 ≤ most_to_one options = omega (arith, r.5, c.requires.partitions) in (
      r.0,
      these_of options g.F.Front.is_alone r.1 r.3,
      (
        few,
        (
          whole_of options c.args.hand.now.numbering.base c.args.bytes.now c.said_next-next.result c.said_next-next.ensures.next r.1 r.2 c.in_default.not-More c.if-not-progress.false
              (sym c.is_last-last.ensures ∙ c.if-last.false) c.taken-len.result c.speaks-spoke.result c.taken-len.ensures,
          speaks_whole r.2 c.taken-len.result c.len-before.result c.len.result c.speaks-spoke.result (omega (arith, c.len-before.ensures)) (omega (arith, c.len.ensures))
              c.speaks-spoke.ensures.spoke c.speaks-spoke.ensures.silent,
        ),
      ),
    )

pub returns-then-not-progress-clause-on : goal.returns-then-not-progress-clause-on
returns-then-not-progress-clause-on g c =
    part_on c.args.bytes.now c.args.done c.said_next-next.result c.said_next-next.ensures.next c.in_default.not-More c.requires.«open» (g.F.Front.options c.args.hand.now.front) c.args.hand.now.numbering.base
    c.in_ok-progress.ensures.answered.2 (omega arith) c.requires.room c.if-not-progress.true

pub returns-else-last-clause-on : goal.returns-else-last-clause-on
returns-else-last-clause-on g c =
    whole_on c.args.bytes.now c.args.done c.said_next-next.result c.said_next-next.ensures.next c.in_default.not-More c.requires.«open» (sym c.is_last-last.ensures ∙ c.if-last.false)
    c.taken-len.result c.speaks-spoke.result c.taken-len.ensures

pub returns-then-last-clause-on : goal.returns-then-last-clause-on
returns-then-last-clause-on g c = few_given c.args.bytes.now c.args.done c.said_next-next.result c.said_next-next.ensures.next c.in_default.not-More c.requires.«open»
