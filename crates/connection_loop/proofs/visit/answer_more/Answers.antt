use Rattle.std.proofs.Common.{◌≡◌, ◌+◌, ◌≤◌, ◌++◌, length, length-append, take, drop, [], refl, sym, ap, ◌∙◌, subst, arith, inl, inr}
use Rattle.std.specs.Prelude.{Ok, Err, None}
use Rattle.std.proofs.lemmas.List.{length-take, take_at}
use Rattle.std.proofs.lemmas.Result.{err_from_is_err_and}
use Rattle.memcached_text.specs.declared.limits.TheConstants.{MAX_WAITING_LEN}
use Rattle.memcached_requests.specs.Next.{next_of}
use Rattle.command_answers.specs.Exchange.{IsOpenAt}
use Rattle.connections.specs.Log.{second_of}
use Rattle.connection_loop.specs.Reached.{Position, GoesOnTo, SpokeFrom, SpokeBehind, HaltsAs, position_at, position_of}
use Rattle.connection_loop.specs.Held.{Looks, Lacks}
use Rattle.connection_loop.proofs.Going.{these_none, these_within, these_at}
use Rattle.connection_loop.proofs.Traffic.{on_one, on_told}
use Rattle.connection_loop.proofs.Answering.{match_err}
use Rattle.connection_loop.proofs.Advancing.{earns_further, earns_reading, paid_further, paid_for}
use Rattle.connection_loop.proofs.Looking.{looks_further, lacks_further, on_same}
use Rattle.connection_loop.proofs.visit.answer_more.Goals as goal

pub returns-then-client-gt0-clause-talk : goal.returns-then-client-gt0-clause-talk
returns-then-client-gt0-clause-talk g c =
    let options = g.F.Front.options c.args.hand.now.front in
    let base = c.args.hand.now.numbering.base in
    let client = c.args.client.now in
    let now = c.look_at.new.client in
    let halt = c.in_ok-halt.halt in
    let replies = c.look_at.new.replies.items in
    let r = c.in_ok-halt.ensures.talk in
    let bytes_are : c.replace-kept.result ≡ client.kept = c.replace-kept.ensures.value in
    let goes = subst (λ b. GoesOnTo options base (position_at b client.done) r.0 [] replies (HaltsAs options base (length b) halt (position_of now))) bytes_are r.2.1.0 in (
      r.0,
      these_within options g.F.Front.is_alone (omega (arith, c.second-hand.ensures.last)) (omega (arith, c.second-hand.ensures.last, c.look_at.ensures.second)) r.1,
      on_same c.args.number (Looks options base client r.0 replies now (Ok (halt, None))) (λ l. c.second-hand.result ≡ second_of l.entries) (g.C.Connections.log c.args.connections.now) c.second-hand.ensures.second
          (λ d a told. inl (record {
            same = refl;
            goes = looks_further options base client now halt r.0 replies c.requires.client c.if-client-gt0.true goes;
            few = c.in_ok-halt.ensures.few;
            few_answers = r.2.0;
            at = these_at options g.F.Front.is_alone (second_of a.entries) told c.look_at.ensures.second r.1;
            ends = tt;
            earns = earns_further halt client now r.0 replies c.requires.client.begun c.if-client-gt0.true c.in_ok-halt.ensures.waits (r.2.1.1 c.requires.left);
          })),
    )

pub returns-clause-talk : goal.returns-clause-talk
returns-clause-talk g c =
    let options = g.F.Front.options c.args.hand.now.front in
    let base = c.args.hand.now.numbering.base in
    let client = c.args.client.now in
    let between = c.fill.new.client in
    let now = c.look_at_room.new.client in
    let halt = c.in_ok-halt-2.halt in
    let replies = c.look_at_room.new.replies.items in
    let r = c.in_ok-halt-2.ensures.talk in
    let filled = c.in-Ok.filled in
    let room = c.fill.new.room in
    let room_is : c.deref.result.now ≡ room =
    c.deref.ensures.value ∙ take_at room (drop (length room) c.args.desk.now.room.items) c.args.desk.now.room.len (c.fill.ensures.room ∙ sym c.requires.room) in
    let here = subst (λ x. GoesOnTo options base (position_of between) r.0 [] replies
    (λ received given due. HaltsAs options base MAX_WAITING_LEN halt (position_of now) (received ++ drop (length between.kept) (take filled.0 x)) given due)) room_is r.2.1.0 in
    let goes = subst (λ (p : Position). GoesOnTo options base p r.0 [] replies
    (λ received given due. HaltsAs options base MAX_WAITING_LEN halt (position_of now) (received ++ drop (length p.bytes) (take filled.0 room)) given due)) c.in-Ok.ensures.position here in
    let first : client.done ≡ 0 = let none = c.if-client-gt0.false in omega (arith, none) in
    let short : length (client.kept ++ drop (length client.kept) (take filled.0 room)) ≤ MAX_WAITING_LEN =
    let kept = ap length c.in-Ok.ensures.kept in let len = length-take filled.0 room in let fits = c.in-Ok.ensures.fits in omega (arith, kept, len, fits) in
    let same : between.kept ≡ client.kept = ap (λ (p : Position). p.bytes) c.in-Ok.ensures.position in
    let all : filled.0 ≡ length between.kept + length (drop (length client.kept) (take filled.0 room)) =
    let had = ap length same in let kept = ap length c.in-Ok.ensures.kept ∙ length-append client.kept (drop (length client.kept) (take filled.0 room)) in let len = length-take filled.0 room in
    omega (arith, had, kept, len, c.in-Ok.ensures.fits, c.fill.ensures.room) in (
      r.0,
      these_within options g.F.Front.is_alone (omega (arith, c.second-hand-2.ensures.last, c.fill.ensures.rises)) (omega (arith, c.second-hand-2.ensures.last, c.look_at_room.ensures.second)) r.1,
      on_told c.args.number _ (Looks options base client r.0 replies now (Ok (halt, filled.1))) (λ l. c.second-hand-2.result ≡ second_of l.entries) (g.C.Connections.log c.args.connections.now) (g.C.Connections.log c.fill.new.connections) c.second-hand-2.ensures.second
          (λ d a b told x. inr (record {
            first = first;
            bytes = drop (length client.kept) (take filled.0 room);
            short = short;
            reads = x.0;
            goes = goes;
            few = c.in_ok-halt-2.ensures.few;
            few_answers = r.2.0;
            at = these_at options g.F.Front.is_alone (second_of b.entries) told c.look_at_room.ensures.second r.1;
            ends = x.1;
            earns = λ whole. earns_reading halt filled.1 between now (drop (length client.kept) (take filled.0 room)) filled.0 r.0 replies c.in-Ok.ensures.pays all c.in_ok-halt-2.ensures.waits
                (r.2.1.1 c.requires.left) (λ more. ap next_of same ∙ whole more);
          })) c.in-Ok.ensures.reads,
    )

pub returns-in_err-halt-clause-talk : goal.returns-in_err-halt-clause-talk
returns-in_err-halt-clause-talk g c =
    let options = g.F.Front.options c.args.hand.now.front in
    let base = c.args.hand.now.numbering.base in
    let client = c.args.client.now in
    let r = c.in_err-halt.ensures.talk in
    let bytes_are : c.replace-kept.result ≡ client.kept = c.replace-kept.ensures.value in
    let spoke = subst (λ b. SpokeFrom options base (length b) (position_at b client.done) r.0) bytes_are r.2.1 in
    let is = err_from_is_err_and c.from_residual.result c.from_residual.ensures.1 in (
      r.0,
      these_within options g.F.Front.is_alone (omega (arith, c.second-hand.ensures.last)) (omega (arith, c.second-hand.ensures.last, c.look_at.ensures.second)) r.1,
      match_err _ _ c.from_residual.result is.0 is.1 (on_same c.args.number (Lacks options base client r.0) (λ l. c.second-hand.result ≡ second_of l.entries) (g.C.Connections.log c.args.connections.now)
          c.second-hand.ensures.second (λ d a told. inl (record { same = refl; spoke = lacks_further options base client r.0 c.requires.client c.if-client-gt0.true spoke; few_answers = r.2.0; at = these_at options g.F.Front.is_alone (second_of a.entries) told c.look_at.ensures.second r.1 }))),
    )

pub returns-in_err-halt-2-clause-talk : goal.returns-in_err-halt-2-clause-talk
returns-in_err-halt-2-clause-talk g c =
    let options = g.F.Front.options c.args.hand.now.front in
    let base = c.args.hand.now.numbering.base in
    let client = c.args.client.now in
    let between = c.fill.new.client in
    let r = c.in_err-halt-2.ensures.talk in
    let filled = c.in-Ok.filled in
    let room = c.fill.new.room in
    let room_is : c.deref.result.now ≡ room =
    c.deref.ensures.value ∙ take_at room (drop (length room) c.args.desk.now.room.items) c.args.desk.now.room.len (c.fill.ensures.room ∙ sym c.requires.room) in
    let here = subst (λ x. SpokeBehind options base MAX_WAITING_LEN (position_of between) (drop (length between.kept) (take filled.0 x)) r.0) room_is r.2.1 in
    let spoke = subst (λ (p : Position). SpokeBehind options base MAX_WAITING_LEN p (drop (length p.bytes) (take filled.0 room)) r.0) c.in-Ok.ensures.position here in
    let first : client.done ≡ 0 = let none = c.if-client-gt0.false in omega (arith, none) in
    let short : length (client.kept ++ drop (length client.kept) (take filled.0 room)) ≤ MAX_WAITING_LEN =
    let kept = ap length c.in-Ok.ensures.kept in let len = length-take filled.0 room in let fits = c.in-Ok.ensures.fits in omega (arith, kept, len, fits) in
    let is = err_from_is_err_and c.from_residual-in_err-halt-2.result c.from_residual-in_err-halt-2.ensures.1 in (
      r.0,
      these_within options g.F.Front.is_alone (omega (arith, c.second-hand-2.ensures.last, c.fill.ensures.rises)) (omega (arith, c.second-hand-2.ensures.last, c.look_at_room.ensures.second)) r.1,
      match_err _ _ c.from_residual-in_err-halt-2.result is.0 is.1
          (on_told c.args.number _ (Lacks options base client r.0) (λ l. c.second-hand-2.result ≡ second_of l.entries) (g.C.Connections.log c.args.connections.now) (g.C.Connections.log c.fill.new.connections) c.second-hand-2.ensures.second
          (λ d a b told x. inr (record { first = first; bytes = drop (length client.kept) (take filled.0 room); short = short; reads = x.0; spoke = spoke; few_answers = r.2.0; at = these_at options g.F.Front.is_alone (second_of b.entries) told c.look_at_room.ensures.second r.1 })) c.in-Ok.ensures.reads),
    )

pub returns-in-Err-clause-talk : goal.returns-in-Err-clause-talk
returns-in-Err-clause-talk g c =
    let options = g.F.Front.options c.args.hand.now.front in
    let client = c.args.client.now in
    let first : client.done ≡ 0 = let none = c.if-client-gt0.false in omega (arith, none) in (
      [],
      these_none options g.F.Front.is_alone (g.F.Front.sessions c.args.hand.now.front) (g.F.Front.left c.args.hand.now.front) (g.C.Connections.last c.args.connections.now) (g.C.Connections.last c.fill.new.connections)
          c.fill.ensures.rises,
      on_one c.args.number _ (Looks options c.args.hand.now.numbering.base client [] c.args.desk.now.replies.items c.fill.new.client (Err c.in-Err.field-0)) (g.C.Connections.log c.args.connections.now)
          (g.C.Connections.log c.fill.new.connections) (λ d a b x. (refl, first, x.0, x.1)) c.in-Err.ensures.reads,
    )

pub returns-then-client-gt0-clause-again : goal.returns-then-client-gt0-clause-again
returns-then-client-gt0-clause-again g c =
    let client = c.args.client.now in
    let bytes_are : c.replace-kept.result ≡ client.kept = c.replace-kept.ensures.value in
    inr (paid_further c.replace-kept.result client.done client.asks c.look_at.new.client (subst (λ b. IsOpenAt (next_of b) client.done) (sym bytes_are) c.requires.client.begun)
    c.if-client-gt0.true (let len = ap length bytes_are in let paid = c.requires.client.paid in omega (arith, len, paid)) c.in_ok-halt.ensures.advances c.requires.left c.look_at.ensures.asks)

pub returns-clause-again : goal.returns-clause-again
returns-clause-again g c =
    let filled = c.in-Ok.filled in
    let room = c.deref.result.now in
    let len = length-take filled.0 room in
    let same : room ≡ c.fill.new.room =
    c.deref.ensures.value ∙ take_at c.fill.new.room (drop (length c.fill.new.room) c.args.desk.now.room.items) c.args.desk.now.room.len (c.fill.ensures.room ∙ sym c.requires.room) in
    let whole = ap length same in
    paid_for c.fill.new.client c.look_at_room.new.client (take filled.0 room) filled.0 c.in_ok-halt-2.halt filled.1 (omega (arith, len, whole, c.fill.ensures.room, c.in-Ok.ensures.fits))
    c.in-Ok.ensures.pays c.in_ok-halt-2.ensures.advances c.requires.left c.look_at_room.ensures.asks
