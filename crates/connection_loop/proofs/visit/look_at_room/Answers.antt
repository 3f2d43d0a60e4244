use Rattle.std.proofs.Common.{◌-◌, ◌++◌, length, take, drop, [], ap, ◌∙◌, arith}
use Rattle.std.proofs.lemmas.List.{take_rest}
use Rattle.std.proofs.lemmas.Result.{IfOk-weaker}
use Rattle.memcached_text.specs.declared.limits.TheConstants.{MAX_WAITING_LEN}
use Rattle.memcached_requests.specs.Next.{next_of}
use Rattle.connection_loop.specs.Paid.{MayAnswer, SpeaksWhere}
use Rattle.connection_loop.specs.Reached.{GoesOnTo, SpokeBehind, HaltsAs, position_of}
use Rattle.connection_loop.proofs.Going.{these_none}
use Rattle.connection_loop.proofs.Reaching.{nothing_next}
use Rattle.connection_loop.proofs.Answering.{needs_on}
use Rattle.connection_loop.proofs.Advancing.{looks_behind}
use Rattle.connection_loop.proofs.Looking.{looks_at, looks_at_none, lacks_at, if_match}
use Rattle.connection_loop.proofs.visit.look_at_room.Goals as goal

pub returns-then-client-bytes-clause-talk : goal.returns-then-client-bytes-clause-talk
returns-then-client-bytes-clause-talk g c =
    let options = g.F.Front.options c.args.hand.now.front in
    let client = c.args.client.now in
    let bytes = c.args.bytes.now in
    let more = c.if-client-bytes.true in (
      [],
      these_none options g.F.Front.is_alone (g.F.Front.sessions c.args.hand.now.front) (g.F.Front.left c.args.hand.now.front) c.args.hand.now.second c.args.hand.now.second (omega arith),
      (
        omega arith,
        (
          looks_at_none options c.args.hand.now.numbering.base client bytes (drop (length client.kept) bytes) c.requires.first c.requires.kept c.clear.new.self.items c.clear.ensures.items more
              (c.requires.client.dropped (omega (arith, more))),
          λ may enough. absurd (needs_on enough),
        ),
      ),
    )

pub returns-clause-talk : goal.returns-clause-talk
returns-clause-talk g c =
    let options = g.F.Front.options c.args.hand.now.front in
    let base = c.args.hand.now.numbering.base in
    let client = c.args.client.now in
    let bytes = c.args.bytes.now in
    let more = drop (length client.kept) bytes in
    let r = c.look_at.ensures.talk in (
      r.0,
      r.1,
      (
        r.2.0,
        if_match _
            (λ halt. GoesOnTo options base (position_of client) r.0 [] c.look_at.new.replies.items
            (λ received given due. HaltsAs options base MAX_WAITING_LEN halt (position_of c.look_at.new.client) (received ++ more) given due)
            × SpeaksWhere (MayAnswer c.args.hand.now.numbering.partitions (g.F.Front.left c.args.hand.now.front)) halt r.0 [] c.look_at.new.replies.items) _
            (λ _. SpokeBehind options base MAX_WAITING_LEN (position_of client) more r.0) c.look_at.result
            (λ halt goes. (
              looks_at options base client bytes more c.requires.first c.requires.kept c.look_at.new.client halt r.0 c.look_at.new.replies.items
                  (take (length bytes - client.dropping) (drop client.dropping bytes)) c.if-client-bytes.false c.requires.short (take_rest bytes client.dropping) goes.0,
              goes.1,
            ))
            (λ e spoke. lacks_at options base client bytes more c.requires.first c.requires.kept r.0 (take (length bytes - client.dropping) (drop client.dropping bytes)) c.if-client-bytes.false
            c.requires.short (take_rest bytes client.dropping) spoke) r.2.1,
      ),
    )

pub returns-then-client-bytes-clause-waits : goal.returns-then-client-bytes-clause-waits
returns-then-client-bytes-clause-waits g c = λ is. let more = c.if-client-bytes.true in ap next_of (c.requires.client.dropped (omega (arith, more))) ∙ nothing_next

pub returns-clause-advances : goal.returns-clause-advances
returns-clause-advances g c =
    let client = c.args.client.now in
    let bytes = c.args.bytes.now in
    IfOk-weaker c.look_at.result _ _
    (λ halt a. looks_behind client bytes (drop (length client.kept) bytes) _ c.requires.kept (take_rest bytes client.dropping) c.requires.client.dropped a) c.look_at.ensures.advances
