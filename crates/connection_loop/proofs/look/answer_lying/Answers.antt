use Rattle.std.proofs.Common.{◌≡◌, ◌<◌, ◌≤◌, length, drop, [], refl, inl, sym, ap, subst, ◌∙◌, arith}
use Rattle.std.specs.Prelude.{IfOk, MatchResult}
use Rattle.memcached_requests.specs.declared.request.Next.TheVariants.{More}
use Rattle.memcached_requests.specs.Next.{next_of}
use Rattle.command_answers.specs.Exchange.{IsOpenAt}
use Rattle.connection_loop.specs.declared.answer.TheConstants.{LIMITS}
use Rattle.connection_loop.specs.declared.answer.Halt.TheVariants.{Needs}
use Rattle.connection_loop.specs.Going.{GoesBySome}
use Rattle.connection_loop.specs.Lying.{bytes_at}
use Rattle.connection_loop.specs.Paid.{Advances, MayAnswer, SpeaksWhere}
use Rattle.connection_loop.specs.Reached.{Reaches, GoesOnTo, HaltsAs, SpokeFrom, position_at, position_in}
use Rattle.connection_loop.specs.Turns.{most_answers}
use Rattle.connection_loop.proofs.Advancing.{stays}
use Rattle.connection_loop.proofs.Answering.{halts_in, needs_on}
use Rattle.connection_loop.proofs.Going.{these_none}
use Rattle.connection_loop.proofs.Reaching.{on_as, on_none}
use Rattle.connection_loop.proofs.look.answer_lying.Goals as goal

pub returns-then-waits-clause-talk : goal.returns-then-waits-clause-talk
returns-then-waits-clause-talk g c =
    let options = g.F.Front.options c.args.hand.now.front in
    let base = c.args.hand.now.numbering.base in
    let bytes = bytes_at c.args.lying.now in
    let far = c.at.result in
    let at = c.at.ensures in
    let more = c.waits.ensures c.if-waits.true in (
      [],
      these_none options g.F.Front.is_alone (g.F.Front.sessions c.args.hand.now.front) (g.F.Front.left c.args.hand.now.front) c.args.hand.now.second c.args.hand.now.second (omega arith),
      (
        omega arith,
        (
          on_as options base {P = Reaches options base (position_at bytes c.args.done)} {Q = HaltsAs options base (length bytes) far.halt (position_in bytes far)}
              (λ received given due reached. halts_in options g.F.Front.is_alone base (length bytes) bytes far Needs 0 c.args.done 0 at.0 at.1 at.2 at.3 received given due (reached, more))
              (on_none options base (position_at bytes c.args.done) c.args.out.now.items),
          λ may enough. absurd (needs_on (sym at.3 ∙ enough)),
        ),
      ),
    )

pub returns-then-waits-clause-advances : goal.returns-then-waits-clause-advances
returns-then-waits-clause-advances g c =
    let at = c.at.ensures in
    let more = c.waits.ensures c.if-waits.true in
    stays {fresh = c.args.done ≡ c.args.done} (bytes_at c.args.lying.now) c.args.done 0 c.args.done (inl (refl, refl, refl)) c.at.result at.0 at.1 at.2 (λ fresh none may. (at.3, more))

pub returns-then-waits-clause-waits : goal.returns-then-waits-clause-waits
returns-then-waits-clause-waits g c = λ is. ap (λ n. next_of (drop n (bytes_at c.args.lying.now))) c.at.ensures.0 ∙ c.waits.ensures c.if-waits.true

pub returns-then-waits-clause-open : goal.returns-then-waits-clause-open
returns-then-waits-clause-open g c =
    subst (λ n. IsOpenAt (next_of (drop n (bytes_at c.args.lying.now))) c.at.result.done) (sym c.at.ensures.0)
    (subst (λ n. IsOpenAt (next_of (bytes_at c.args.lying.now)) n) (sym c.at.ensures.1) c.requires.«open»)

pub returns-clause-within : goal.returns-clause-within
returns-clause-within g c = subst (λ b. IfOk c.answer_bytes.result (λ a. a.taken ≤ length b)) c.bytes-bytes.ensures c.answer_bytes.ensures.within

pub returns-clause-open : goal.returns-clause-open
returns-clause-open g c = subst (λ b. IfOk c.answer_bytes.result (λ a. IsOpenAt (next_of (drop a.taken b)) a.done)) c.bytes-bytes.ensures c.answer_bytes.ensures.«open»

pub returns-clause-waits : goal.returns-clause-waits
returns-clause-waits g c = subst (λ b. IfOk c.answer_bytes.result (λ a. a.halt ≡ Needs → next_of (drop a.taken b) ≡ More)) c.bytes-bytes.ensures c.answer_bytes.ensures.waits

pub returns-clause-advances : goal.returns-clause-advances
returns-clause-advances g c =
    subst (λ b. IfOk c.answer_bytes.result (λ a. Advances (MayAnswer c.args.hand.now.numbering.partitions (g.F.Front.left c.args.hand.now.front) × (length c.args.out.now.items < LIMITS.bytes))
    ((a.halt ≡ Needs) × (next_of b ≡ More)) (position_at b c.args.done) (position_in b a))) c.bytes-bytes.ensures c.answer_bytes.ensures.advances

pub returns-clause-talk : goal.returns-clause-talk
returns-clause-talk g c =
    let options = g.F.Front.options c.args.hand.now.front in
    let base = c.args.hand.now.numbering.base in
    let may = MayAnswer c.args.hand.now.numbering.partitions (g.F.Front.left c.args.hand.now.front) × (length c.args.out.now.items < LIMITS.bytes) in
    let old = c.args.hand.now in
    let new = c.answer_bytes.new.hand in
    let before = c.args.out.now.items in
    let after = c.answer_bytes.new.out.items in
    subst (λ b. GoesBySome options g.F.Front.is_alone (g.F.Front.sessions old.front) (g.F.Front.left old.front) old.second (g.F.Front.sessions new.front) (g.F.Front.left new.front) new.second
    (λ answers. (length answers ≤ most_answers options) × MatchResult c.answer_bytes.result
    (λ a. GoesOnTo options base (position_at b c.args.done) answers before after (HaltsAs options base (length b) a.halt (position_in b a)) × SpeaksWhere may a.halt answers before after)
    (λ _. SpokeFrom options base (length b) (position_at b c.args.done) answers))) c.bytes-bytes.ensures c.answer_bytes.ensures.talk
