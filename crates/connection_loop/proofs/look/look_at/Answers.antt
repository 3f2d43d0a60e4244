use Rattle.std.proofs.Common.{◌≡◌, ◌∙◌, length, sym, ap, subst, arith}
use Rattle.std.proofs.lemmas.List.{length-drop}
use Rattle.std.proofs.lemmas.Result.{err_from_is_err_and}
use Rattle.memcached_requests.specs.Next.{next_of}
use Rattle.connection_loop.specs.Lying.{bytes_at}
use Rattle.connection_loop.specs.Paid.{Speaks}
use Rattle.connection_loop.specs.Reached.{Position, GoesOnTo, HaltsAs, position_at, position_in, position_of}
use Rattle.connection_loop.proofs.Advancing.{looks_short}
use Rattle.connection_loop.proofs.Answering.{match_err}
use Rattle.connection_loop.proofs.Talking.{spoke_halts}
use Rattle.connection_loop.proofs.look.look_at.Goals as goal

pub returns-in_err-answered-clause-talk : goal.returns-in_err-answered-clause-talk
returns-in_err-answered-clause-talk g c =
    let r = c.in_err-answered.ensures.talk in
    let is = err_from_is_err_and c.from_residual.result c.from_residual.ensures.1 in
    (r.0, r.1, (r.2.0, match_err _ _ c.from_residual.result is.0 is.1 r.2.1))

pub returns-in_err-keep-clause-talk : goal.returns-in_err-keep-clause-talk
returns-in_err-keep-clause-talk g c =
    let r = c.in_ok-answered.ensures.talk in
    let far = c.in_ok-answered.answered in
    let bytes = bytes_at c.args.lying in
    let len = length-drop far.taken bytes in
    let is = err_from_is_err_and c.from_residual-in_err-keep.result c.from_residual-in_err-keep.ensures.1 in (
      r.0,
      r.1,
      (
        r.2.0,
        match_err _ _ c.from_residual-in_err-keep.result is.0 is.1 (spoke_halts (g.F.Front.options c.args.hand.now.front) c.args.hand.now.numbering.base far.halt (position_at bytes c.args.done)
            (position_in bytes far) r.0 _ _ (length bytes) c.in_ok-answered.ensures.«open» (omega (arith, len)) r.2.1.0),
      ),
    )

pub returns-clause-talk : goal.returns-clause-talk
returns-clause-talk g c =
    let options = g.F.Front.options c.args.hand.now.front in
    let base = c.args.hand.now.numbering.base in
    let bytes = bytes_at c.args.lying in
    let far = c.in_ok-answered.answered in
    let kept = c.in_ok-keep.ensures.kept in
    let now = c.keep.new.self in
    let replies = c.answer_lying.new.out.items in
    let none = ap length c.clear.ensures.items in
    let position : position_of now ≡ position_in bytes far = λ i. record { bytes = kept.0 i; done = kept.1 i; dropping = c.keep.ensures.dropping i } in
    let r = c.in_ok-answered.ensures.talk in (
      r.0,
      r.1,
      (
        r.2.0,
        (
          subst (λ old. GoesOnTo options base (position_at bytes c.args.done) r.0 old replies (HaltsAs options base (length bytes) far.halt (position_of now))) c.clear.ensures.items
              (subst (λ (p : Position). GoesOnTo options base (position_at bytes c.args.done) r.0 c.clear.new.self.items replies (HaltsAs options base (length bytes) far.halt p)) (sym position) r.2.1.0),
          λ may enough. subst (λ old. Speaks r.0 old replies) c.clear.ensures.items (r.2.1.1 (may, omega (arith, none)) enough),
        ),
      ),
    )

pub returns-clause-waits : goal.returns-clause-waits
returns-clause-waits g c = λ is. ap next_of c.in_ok-keep.ensures.kept.0 ∙ c.in_ok-answered.ensures.waits is

pub returns-clause-advances : goal.returns-clause-advances
returns-clause-advances g c =
    let kept = c.in_ok-keep.ensures.kept in
    let none = ap length c.clear.ensures.items in
    looks_short c.in_ok-answered.ensures.advances (omega (arith, none))
    (λ i. record { bytes = kept.0 i; done = kept.1 i; dropping = c.keep.ensures.dropping i })
