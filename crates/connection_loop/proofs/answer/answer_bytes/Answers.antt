use mir.Val.{bool_byte}
use Rattle.std.proofs.Common.{rules, ◌≡◌, ◌<◌, ◌≤◌, ◌+◌, ◌-◌, ◌*◌, ◌==◌, ℕ, true, List, length, take, drop, [], refl, inl, inr, sym, ap, subst, ◌∙◌, arith}
use Rattle.std.proofs.lemmas.List.{take_rest, length-drop, drop_all, nil_from_length}
use Rattle.std.proofs.lemmas.Bool.{eqb-true}
use Rattle.std.proofs.lemmas.Result.{err_from_is_err_and}
use Rattle.connection_loop.specs.declared.answer.TheConstants.{LIMITS}
use Rattle.connection_loop.specs.declared.answer.Said.TheVariants.{Nothing, Part, Whole, Last}
use Rattle.connection_loop.specs.declared.answer.Halt.TheVariants.{Needs, Enough, Leaves}
use Rattle.memcached_requests.specs.declared.request.Next.TheVariants.{More}
use Rattle.memcached_requests.specs.Next.{next_of}
use Rattle.command_answers.specs.declared.answer.Numbering.{Numbering}
use Rattle.connection_loop.specs.Reached.{Reaches, ReachesAfter, HaltsAs, position_at, position_in}
use Rattle.connection_loop.specs.Paid.{AnswersOn, MayAnswer, SpeaksWhere}
use Rattle.connection_loop.specs.Turns.{most_to_one}
use Rattle.connection_loop.proofs.Going.{none_fewer, these_none, hand_same, hand_then}
use Rattle.connection_loop.proofs.Reaching.{nothing_next, on_none}
use Rattle.connection_loop.proofs.Advancing.{gains, stays, arrives}
use Rattle.connection_loop.proofs.Answering.{HasSpoken, SpokenOn, spoken_none, few_said, few_spoken, on_said, spoke_on, match_err, some_as, some_on, halts_by, halts_in, left_in, dropped_in, whole_in, byte_small, needs_on, leaves_on, speaks_end}
use Rattle.connection_loop.proofs.answer.answer_bytes.Goals as goal
use Rattle.connection_loop.proofs.answer.answer_bytes.Goals.{else-loop-spoken-test, then-loop-spoken-test+then-writes_left-cost, then-writes_left-cost-via-then-writes_left-cost, then-writes_left-cost-via-else-writes_left-cost+then-len}

pub loop-spoken-init : goal.loop-spoken-init
loop-spoken-init g c =
    let options = g.F.Front.options c.args.hand.now.front in (
      search rules,
      c.requires.«open»,
      (
        [],
        these_none options g.F.Front.is_alone (g.F.Front.sessions c.args.hand.now.front) (g.F.Front.left c.args.hand.now.front) c.args.hand.now.second c.args.hand.now.second (omega arith),
        (on_none options c.args.hand.now.numbering.base (position_at c.args.bytes.now c.args.done) c.args.out.now.items, spoken_none options g.F.Front.is_alone c.args.hand.now.numbering.base c.args.out.now.items),
      ),
      hand_same g.F.Front.options g.F.Front.number g.F.Front.stands c.args.hand.now,
      inl ((refl, refl, refl), refl, refl),
      omega arith,
      omega arith,
      refl,
    )

pub returns-in_err-said-clause-talk : goal.returns-in_err-said-clause-talk
returns-in_err-said-clause-talk g c =
    let inv = c.loop-spoken.invariant in
    let options = g.F.Front.options c.args.hand.now.front in
    let bytes = c.args.bytes.now in
    let len = length-drop c.loop-spoken.taken bytes in
    let spoke = spoke_on options g.F.Front.is_alone c.args.hand.now.numbering.base c.loop-spoken.spoken (omega (arith, c.loop-spoken-test.true)) (length bytes) (position_at bytes c.args.done) (drop c.loop-spoken.taken bytes)
    (take (length bytes - c.loop-spoken.taken) (drop c.loop-spoken.taken bytes)) c.loop-spoken.done c.args.out.now.items c.loop-spoken.out.items (g.F.Front.options c.loop-spoken.hand.front) c.loop-spoken.hand.numbering.base (take_rest bytes c.loop-spoken.taken) inv.3.same_options
    (ap (λ (n : Numbering). n.base) inv.3.same_numbering)
    (omega (arith, len)) inv.2 c.in_err-said.ensures.talk in
    let is = err_from_is_err_and c.from_residual.result c.from_residual.ensures.1 in
    (spoke.0, spoke.1, (spoke.2.0, match_err _ _ c.from_residual.result is.0 is.1 spoke.2.1))

-- where nothing is left, no command is
none_left : (bytes rest : List ℕ) (taken : ℕ) → rest ≡ drop taken bytes → (length rest == 0) ≡ true → next_of (drop taken bytes) ≡ More
none_left bytes rest taken rest_is none = ap next_of (sym rest_is ∙ nil_from_length rest (eqb-true (length rest) 0 none)) ∙ nothing_next

pub returns-then-is_empty-clause-talk : goal.returns-then-is_empty-clause-talk
returns-then-is_empty-clause-talk g c =
    let inv = c.loop-spoken.invariant in
    let options = g.F.Front.options c.args.hand.now.front in
    let base = c.args.hand.now.numbering.base in
    let bytes = c.args.bytes.now in
    let at = c.at.ensures in
    let all = none_left bytes _ c.loop-spoken.taken (take_rest bytes c.loop-spoken.taken) (sym c.is_empty.ensures ∙ c.if-is_empty.true) in
    halts_by options g.F.Front.is_alone base (MayAnswer c.args.hand.now.numbering.partitions (g.F.Front.left c.args.hand.now.front) × (length c.args.out.now.items < LIMITS.bytes)) c.at.result.halt Needs at.3 needs_on (position_at bytes c.args.done) c.args.out.now.items c.loop-spoken.out.items
    (Reaches options base (position_at (drop c.loop-spoken.taken bytes) c.loop-spoken.done)) (HaltsAs options base (length bytes) c.at.result.halt (position_in bytes c.at.result))
    (λ received given due reached. halts_in options g.F.Front.is_alone base (length bytes) bytes c.at.result Needs c.loop-spoken.taken c.loop-spoken.done 0 at.0 at.1 at.2 at.3 received given due
    (reached, all))
    (λ answers. HasSpoken options g.F.Front.is_alone base c.loop-spoken.spoken answers c.args.out.now.items c.loop-spoken.out.items)
    (λ answers. few_spoken options g.F.Front.is_alone base c.loop-spoken.spoken inv.6) inv.2

pub returns-in-Nothing-clause-talk : goal.returns-in-Nothing-clause-talk
returns-in-Nothing-clause-talk g c =
    let inv = c.loop-spoken.invariant in
    let options = g.F.Front.options c.args.hand.now.front in
    let base = c.args.hand.now.numbering.base in
    let bytes = c.args.bytes.now in
    let at = c.at-in-Nothing.ensures in
    halts_by options g.F.Front.is_alone base (MayAnswer c.args.hand.now.numbering.partitions (g.F.Front.left c.args.hand.now.front) × (length c.args.out.now.items < LIMITS.bytes)) c.at-in-Nothing.result.halt Needs at.3 needs_on (position_at bytes c.args.done) c.args.out.now.items c.answer_one.new.out.items
    (ReachesAfter options base (drop c.loop-spoken.taken bytes) c.loop-spoken.done Nothing) (HaltsAs options base (length bytes) c.at-in-Nothing.result.halt (position_in bytes c.at-in-Nothing.result))
    (halts_in options g.F.Front.is_alone base (length bytes) bytes c.at-in-Nothing.result Needs c.loop-spoken.taken c.loop-spoken.done 0 at.0 at.1 at.2 at.3)
    (λ answers. length answers ≤ (c.loop-spoken.spoken + 1) * most_to_one options) (few_said options g.F.Front.is_alone base c.loop-spoken.spoken (omega (arith, c.loop-spoken-test.true)))
    (on_said options g.F.Front.is_alone base c.loop-spoken.spoken (position_at bytes c.args.done) (drop c.loop-spoken.taken bytes) (take (length bytes - c.loop-spoken.taken) (drop c.loop-spoken.taken bytes)) c.loop-spoken.done c.args.out.now.items
    c.loop-spoken.out.items c.answer_one.new.out.items (g.F.Front.options c.loop-spoken.hand.front) c.loop-spoken.hand.numbering.base c.in_ok-said.said Nothing (take_rest bytes c.loop-spoken.taken) inv.3.same_options (ap (λ (n : Numbering). n.base) inv.3.same_numbering) c.in-Nothing.is inv.2 c.in_ok-said.ensures.talk)

pub returns-in-Part-clause-talk : goal.returns-in-Part-clause-talk
returns-in-Part-clause-talk g c =
    let inv = c.loop-spoken.invariant in
    let options = g.F.Front.options c.args.hand.now.front in
    let base = c.args.hand.now.numbering.base in
    let bytes = c.args.bytes.now in
    let at = c.at-in-Part.ensures in
    some_as options g.F.Front.is_alone base (position_at bytes c.args.done) c.args.out.now.items c.answer_one.new.out.items
    (ReachesAfter options base (drop c.loop-spoken.taken bytes) c.loop-spoken.done (Part c.in-Part.done)) (HaltsAs options base (length bytes) c.at-in-Part.result.halt (position_in bytes c.at-in-Part.result))
    (halts_in options g.F.Front.is_alone base (length bytes) bytes c.at-in-Part.result Enough c.loop-spoken.taken c.in-Part.done 0 at.0 at.1 at.2 at.3)
    (λ answers. SpokenOn options g.F.Front.is_alone base c.loop-spoken.spoken (Part c.in-Part.done) answers c.args.out.now.items c.answer_one.new.out.items) (λ answers. SpeaksWhere (MayAnswer c.args.hand.now.numbering.partitions (g.F.Front.left c.args.hand.now.front) × (length c.args.out.now.items < LIMITS.bytes)) c.at-in-Part.result.halt answers c.args.out.now.items c.answer_one.new.out.items)
    (λ answers these spoke. (few_said options g.F.Front.is_alone base c.loop-spoken.spoken (omega (arith, c.loop-spoken-test.true)) answers spoke.0, λ may enough. spoke.1))
    (on_said options g.F.Front.is_alone base c.loop-spoken.spoken (position_at bytes c.args.done) (drop c.loop-spoken.taken bytes) (take (length bytes - c.loop-spoken.taken) (drop c.loop-spoken.taken bytes)) c.loop-spoken.done c.args.out.now.items
    c.loop-spoken.out.items c.answer_one.new.out.items (g.F.Front.options c.loop-spoken.hand.front) c.loop-spoken.hand.numbering.base c.in_ok-said.said (Part c.in-Part.done) (take_rest bytes c.loop-spoken.taken) inv.3.same_options (ap (λ (n : Numbering). n.base) inv.3.same_numbering) c.in-Part.is inv.2 c.in_ok-said.ensures.talk)

pub returns-in-Last-clause-talk : goal.returns-in-Last-clause-talk
returns-in-Last-clause-talk g c =
    let inv = c.loop-spoken.invariant in
    let options = g.F.Front.options c.args.hand.now.front in
    let base = c.args.hand.now.numbering.base in
    let bytes = c.args.bytes.now in
    let at = c.at-in-Last.ensures in
    halts_by options g.F.Front.is_alone base (MayAnswer c.args.hand.now.numbering.partitions (g.F.Front.left c.args.hand.now.front) × (length c.args.out.now.items < LIMITS.bytes)) c.at-in-Last.result.halt Leaves at.3 leaves_on (position_at bytes c.args.done) c.args.out.now.items c.answer_one.new.out.items
    (ReachesAfter options base (drop c.loop-spoken.taken bytes) c.loop-spoken.done Last) (HaltsAs options base (length bytes) c.at-in-Last.result.halt (position_in bytes c.at-in-Last.result))
    (λ received given due ends. halts_in options g.F.Front.is_alone base (length bytes) bytes c.at-in-Last.result Leaves (length bytes) 0 0 at.0 at.1 at.2 at.3 received given due
    (left_in options g.F.Front.is_alone base bytes c.loop-spoken.taken (position_at bytes 0) received given due ends))
    (λ answers. length answers ≤ (c.loop-spoken.spoken + 1) * most_to_one options) (few_said options g.F.Front.is_alone base c.loop-spoken.spoken (omega (arith, c.loop-spoken-test.true)))
    (on_said options g.F.Front.is_alone base c.loop-spoken.spoken (position_at bytes c.args.done) (drop c.loop-spoken.taken bytes) (take (length bytes - c.loop-spoken.taken) (drop c.loop-spoken.taken bytes)) c.loop-spoken.done c.args.out.now.items
    c.loop-spoken.out.items c.answer_one.new.out.items (g.F.Front.options c.loop-spoken.hand.front) c.loop-spoken.hand.numbering.base c.in_ok-said.said Last (take_rest bytes c.loop-spoken.taken) inv.3.same_options (ap (λ (n : Numbering). n.base) inv.3.same_numbering) c.in-Last.is inv.2 c.in_ok-said.ensures.talk)

pub returns-in-Whole-clause-talk : goal.returns-in-Whole-clause-talk
returns-in-Whole-clause-talk g c =
    let inv = c.loop-spoken.invariant in
    let options = g.F.Front.options c.args.hand.now.front in
    let base = c.args.hand.now.numbering.base in
    let bytes = c.args.bytes.now in
    let len = c.in-Whole.len in
    let spoke = c.in-Whole.field-1 in
    let small = byte_small spoke in
    halts_by options g.F.Front.is_alone base (MayAnswer c.args.hand.now.numbering.partitions (g.F.Front.left c.args.hand.now.front) × (length c.args.out.now.items < LIMITS.bytes)) Needs Needs refl needs_on (position_at bytes c.args.done) c.args.out.now.items c.answer_one.new.out.items
    (ReachesAfter options base (drop c.loop-spoken.taken bytes) c.loop-spoken.done (Whole len spoke)) _ (dropped_in options g.F.Front.is_alone base bytes (take (length bytes - c.loop-spoken.taken) (drop c.loop-spoken.taken bytes)) c.loop-spoken.taken len (take_rest bytes c.loop-spoken.taken) c.if-len-rest.true)
    (λ answers. HasSpoken options g.F.Front.is_alone base (c.loop-spoken.spoken + bool_byte spoke) answers c.args.out.now.items c.answer_one.new.out.items)
    (λ answers. few_spoken options g.F.Front.is_alone base (c.loop-spoken.spoken + bool_byte spoke) (omega (arith, small, c.loop-spoken-test.true)))
    (on_said options g.F.Front.is_alone base c.loop-spoken.spoken (position_at bytes c.args.done) (drop c.loop-spoken.taken bytes) (take (length bytes - c.loop-spoken.taken) (drop c.loop-spoken.taken bytes)) c.loop-spoken.done c.args.out.now.items
    c.loop-spoken.out.items c.answer_one.new.out.items (g.F.Front.options c.loop-spoken.hand.front) c.loop-spoken.hand.numbering.base c.in_ok-said.said (Whole len spoke) (take_rest bytes c.loop-spoken.taken) inv.3.same_options (ap (λ (n : Numbering). n.base) inv.3.same_numbering) c.in-Whole.is inv.2 c.in_ok-said.ensures.talk)

pub loop-spoken-preserved : goal.loop-spoken-preserved
loop-spoken-preserved g c =
    let inv = c.loop-spoken.invariant in
    let options = g.F.Front.options c.args.hand.now.front in
    let base = c.args.hand.now.numbering.base in
    let bytes = c.args.bytes.now in
    let len = c.in-Whole-2.len in
    let spoke = c.in-Whole-2.spoke in
    let small = byte_small spoke in
    let same : c.in-Whole.len ≡ c.in-Whole-2.len = cc (c.in-Whole.is, c.in-Whole-2.is) in
    let short = c.if-len-rest.false in
    let come : len ≤ length (take (length bytes - c.loop-spoken.taken) (drop c.loop-spoken.taken bytes)) = omega (arith, same, short) in
    let on = subst (AnswersOn (take (length bytes - c.loop-spoken.taken) (drop c.loop-spoken.taken bytes)) c.loop-spoken.done) c.in-Whole-2.is c.in_ok-said.ensures.on in (
      search rules,
      inl refl,
      some_on options g.F.Front.is_alone base (position_at bytes c.args.done) c.args.out.now.items c.answer_one.new.out.items
          (ReachesAfter options base (drop c.loop-spoken.taken bytes) c.loop-spoken.done (Whole len spoke)) (Reaches options base (position_at (drop (c.loop-spoken.taken + len) bytes) 0))
          (whole_in options g.F.Front.is_alone base bytes (take (length bytes - c.loop-spoken.taken) (drop c.loop-spoken.taken bytes)) c.loop-spoken.taken len (take_rest bytes c.loop-spoken.taken) come)
          (λ answers. HasSpoken options g.F.Front.is_alone base (c.loop-spoken.spoken + bool_byte spoke) answers c.args.out.now.items c.answer_one.new.out.items) _
          (λ answers has. subst (λ n. HasSpoken options g.F.Front.is_alone base (c.loop-spoken.spoken + n) answers c.args.out.now.items c.answer_one.new.out.items) (sym c.from-spoken.ensures) has)
          (on_said options g.F.Front.is_alone base c.loop-spoken.spoken (position_at bytes c.args.done) (drop c.loop-spoken.taken bytes) (take (length bytes - c.loop-spoken.taken) (drop c.loop-spoken.taken bytes)) c.loop-spoken.done c.args.out.now.items
          c.loop-spoken.out.items c.answer_one.new.out.items (g.F.Front.options c.loop-spoken.hand.front) c.loop-spoken.hand.numbering.base c.in_ok-said.said (Whole len spoke) (take_rest bytes c.loop-spoken.taken) inv.3.same_options (ap (λ (n : Numbering). n.base) inv.3.same_numbering) c.in-Whole-2.is inv.2 c.in_ok-said.ensures.talk),
      hand_then inv.3 c.answer_one.ensures.same,
      inr (let less = gains bytes c.args.done c.loop-spoken.taken c.loop-spoken.done inv.4 _ (take_rest bytes c.loop-spoken.taken) len on.0 on.1 in omega (arith, less)),
      omega (arith, c.answer_one.ensures.short, c.if-writes_left-cost.false),
      omega (arith, small, c.from-spoken.ensures, c.loop-spoken-test.true),
      c.answer_one.ensures.second ∙ inv.7,
    )

pub returns-clause-talk : goal.returns-clause-talk
returns-clause-talk g c =
    let inv = c.loop-spoken.invariant in
    let options = g.F.Front.options c.args.hand.now.front in
    let base = c.args.hand.now.numbering.base in
    let bytes = c.args.bytes.now in
    let at = c.at-2.ensures in
    some_as options g.F.Front.is_alone base (position_at bytes c.args.done) c.args.out.now.items c.loop-spoken.out.items
    (Reaches options base (position_at (drop c.loop-spoken.taken bytes) c.loop-spoken.done)) (HaltsAs options base (length bytes) c.at-2.result.halt (position_in bytes c.at-2.result))
    (halts_in options g.F.Front.is_alone base (length bytes) bytes c.at-2.result Enough c.loop-spoken.taken c.loop-spoken.done 0 at.0 at.1 at.2 at.3)
    (λ answers. HasSpoken options g.F.Front.is_alone base c.loop-spoken.spoken answers c.args.out.now.items c.loop-spoken.out.items)
    (λ answers. SpeaksWhere (MayAnswer c.args.hand.now.numbering.partitions (g.F.Front.left c.args.hand.now.front) × (length c.args.out.now.items < LIMITS.bytes)) c.at-2.result.halt answers c.args.out.now.items c.loop-spoken.out.items)
    (λ answers these has. (
      few_spoken options g.F.Front.is_alone base c.loop-spoken.spoken inv.6 has,
      λ may enough. speaks_end options g.F.Front.is_alone base c.loop-spoken.spoken has (λ none silent same. elim c.loop-spoken-test.branch [
        | else-loop-spoken-test w ↦ omega (arith, none, w.loop-spoken-test.false)
        | then-loop-spoken-test+then-writes_left-cost w ↦ elim w.then-writes_left-cost.branch [
          | then-writes_left-cost-via-then-writes_left-cost x ↦
              let kept = none_fewer options g.F.Front.is_alone these silent in omega (arith, kept, may.0, x.if-writes_left-cost.true, w.writes_left.ensures, c.most_writes-cost.ensures)
          | then-writes_left-cost-via-else-writes_left-cost+then-len x ↦ let len = ap length same in omega (arith, len, may.1, x.if-len.true, x.len.ensures)
        ]
      ]),
    )) inv.2

pub returns-then-is_empty-clause-waits : goal.returns-then-is_empty-clause-waits
returns-then-is_empty-clause-waits g c = λ is. let bytes = c.args.bytes.now in ap next_of (ap (λ n. drop n bytes) c.at.ensures.0) ∙ none_left bytes _ c.loop-spoken.taken (take_rest bytes c.loop-spoken.taken) (sym c.is_empty.ensures ∙ c.if-is_empty.true)

pub returns-in-Nothing-clause-waits : goal.returns-in-Nothing-clause-waits
returns-in-Nothing-clause-waits g c = λ is.
    let bytes = c.args.bytes.now in
    let on = subst (AnswersOn (take (length bytes - c.loop-spoken.taken) (drop c.loop-spoken.taken bytes)) c.loop-spoken.done) c.in-Nothing.is c.in_ok-said.ensures.on in
    ap next_of (ap (λ n. drop n bytes) c.at-in-Nothing.ensures.0 ∙ sym (take_rest bytes c.loop-spoken.taken)) ∙ on

pub returns-in-Whole-clause-waits : goal.returns-in-Whole-clause-waits
returns-in-Whole-clause-waits g c = λ is. let bytes = c.args.bytes.now in ap next_of (drop_all (length bytes) bytes (omega arith)) ∙ nothing_next

pub returns-then-is_empty-clause-advances : goal.returns-then-is_empty-clause-advances
returns-then-is_empty-clause-advances g c =
    let bytes = c.args.bytes.now in
    let at = c.at.ensures in
    let all = none_left bytes _ c.loop-spoken.taken (take_rest bytes c.loop-spoken.taken) (sym c.is_empty.ensures ∙ c.if-is_empty.true) in
    stays bytes c.args.done c.loop-spoken.taken c.loop-spoken.done c.loop-spoken.invariant.4 c.at.result at.0 at.1 at.2
    (λ fresh none may. (at.3, sym (ap next_of (ap (λ n. drop n bytes) none)) ∙ all))

pub returns-in-Nothing-clause-advances : goal.returns-in-Nothing-clause-advances
returns-in-Nothing-clause-advances g c =
    let bytes = c.args.bytes.now in
    let rest = take (length bytes - c.loop-spoken.taken) (drop c.loop-spoken.taken bytes) in
    let at = c.at-in-Nothing.ensures in
    let on = subst (AnswersOn rest c.loop-spoken.done) c.in-Nothing.is c.in_ok-said.ensures.on in
    stays bytes c.args.done c.loop-spoken.taken c.loop-spoken.done c.loop-spoken.invariant.4 c.at-in-Nothing.result at.0 at.1 at.2
    (λ fresh none may. (at.3, sym (ap next_of (take_rest bytes c.loop-spoken.taken ∙ ap (λ n. drop n bytes) none)) ∙ on))

pub returns-in-Part-clause-advances : goal.returns-in-Part-clause-advances
returns-in-Part-clause-advances g c =
    let bytes = c.args.bytes.now in
    let rest = take (length bytes - c.loop-spoken.taken) (drop c.loop-spoken.taken bytes) in
    let more = c.in-Part.done in
    let at = c.at-in-Part.ensures in
    let on = subst (AnswersOn rest c.loop-spoken.done) c.in-Part.is c.in_ok-said.ensures.on in
    arrives bytes c.args.done c.at-in-Part.result (c.loop-spoken.taken + more) (gains bytes c.args.done c.loop-spoken.taken c.loop-spoken.done c.loop-spoken.invariant.4 rest (take_rest bytes c.loop-spoken.taken) more on.1 on.2)
    (omega (arith, at.0, at.1)) (λ some. absurd (omega (arith, some, at.2)))

pub returns-in-Last-clause-advances : goal.returns-in-Last-clause-advances
returns-in-Last-clause-advances g c =
    let bytes = c.args.bytes.now in
    let rest = take (length bytes - c.loop-spoken.taken) (drop c.loop-spoken.taken bytes) in
    let len = ap length (take_rest bytes c.loop-spoken.taken) ∙ length-drop c.loop-spoken.taken bytes in
    let at = c.at-in-Last.ensures in
    let on = subst (AnswersOn rest c.loop-spoken.done) c.in-Last.is c.in_ok-said.ensures.on in
    arrives bytes c.args.done c.at-in-Last.result (c.loop-spoken.taken + length rest)
    (gains bytes c.args.done c.loop-spoken.taken c.loop-spoken.done c.loop-spoken.invariant.4 rest (take_rest bytes c.loop-spoken.taken) (length rest) on on)
    (omega (arith, at.0, len, c.loop-spoken.invariant.0)) (λ some. absurd (omega (arith, some, at.2)))

pub returns-in-Whole-clause-advances : goal.returns-in-Whole-clause-advances
returns-in-Whole-clause-advances g c =
    let bytes = c.args.bytes.now in
    let rest = take (length bytes - c.loop-spoken.taken) (drop c.loop-spoken.taken bytes) in
    let len = ap length (take_rest bytes c.loop-spoken.taken) ∙ length-drop c.loop-spoken.taken bytes in
    let on = subst (AnswersOn rest c.loop-spoken.done) c.in-Whole.is c.in_ok-said.ensures.on in
    arrives bytes c.args.done (record { taken = length bytes; done = 0; dropping = c.in-Whole.len - length rest; halt = Needs }) (c.loop-spoken.taken + length rest)
    (gains bytes c.args.done c.loop-spoken.taken c.loop-spoken.done c.loop-spoken.invariant.4 rest (take_rest bytes c.loop-spoken.taken) (length rest) on.1 on.1)
    (omega (arith, len, c.loop-spoken.invariant.0)) (λ some. omega arith)

pub returns-clause-advances : goal.returns-clause-advances
returns-clause-advances g c =
    let at = c.at-2.ensures in
    stays c.args.bytes.now c.args.done c.loop-spoken.taken c.loop-spoken.done c.loop-spoken.invariant.4 c.at-2.result at.0 at.1 at.2
    (λ fresh none may. absurd (elim c.loop-spoken-test.branch [
      | else-loop-spoken-test w ↦ omega (arith, fresh.0, w.loop-spoken-test.false)
      | then-loop-spoken-test+then-writes_left-cost w ↦ elim w.then-writes_left-cost.branch [
        | then-writes_left-cost-via-then-writes_left-cost x ↦ omega (arith, fresh.1, may.0, x.if-writes_left-cost.true, w.writes_left.ensures, c.most_writes-cost.ensures)
        | then-writes_left-cost-via-else-writes_left-cost+then-len x ↦ let same = ap length fresh.2 in omega (arith, same, may.1, x.if-len.true, x.len.ensures)
      ]
    ]))
