use Rattle.std.proofs.Common.{◌≡◌, ◌+◌, ◌++◌, ◌∷◌, length, slice_set, refl, sym, ap, ◌∙◌, subst, arith}
use Rattle.std.specs.Option.{option_to_list}
use Rattle.std.specs.Vec.Iter.{into_iter_items}
use Rattle.std.proofs.lemmas.List.{nil_from_length}
use Rattle.std.proofs.lemmas.Option.{slice_get_read}
use Rattle.list_laws.proofs.UpTo.{UpTo}
use Rattle.owner_queue.specs.JobEnds.{Outbox}
use Rattle.mica_replay.proofs.Feeders.{HasEnded, in_range, feeds_one, zero_is, may_end, ends_one, has_fed}
use Rattle.mica_replay.proofs.feeder.Feeder.run.Goals as goal

pub loop-feed-preserved : goal.loop-feed-preserved
loop-feed-preserved g c =
    let h = c.loop-feed.self in
    let rest = into_iter_items c.next.new.self in
    let feed = c.in-Some.feed in
    let now = c.index_mut-sender.result.now in
    let head : into_iter_items h.feeds ≡ feed ∷ rest = c.next.ensures.items ∙ ap (λ o. option_to_list o ++ rest) c.in-Some.is in
    let less = in_range c.args.self.now h c.requires c.loop-feed.invariant feed rest head in
    let at = slice_get_read h.senders.items (length h.senders.items) feed.queue now refl less c.index_mut-sender.ensures.value in
    feeds_one c.args.self.now h c.requires c.loop-feed.invariant feed rest head now at _ refl (ap (λ (o : Outbox). slice_set h.senders.items feed.queue o) c.send.ensures)

pub send-requires-in-loop-p-clause-own : goal.send-requires-in-loop-p-clause-own
send-requires-in-loop-p-clause-own g c =
    let many = c.loop-p.invariant.many in
    zero_is c.args.self.now c.loop-feed.self c.requires c.loop-feed.invariant c.loop-p.self.senders.items c.loop-p.p c.index_mut-sender-in-loop-p.result.now c.loop-p.invariant
    (omega (arith, c.loop-p-test.true, c.len-p-end.ensures, c.loop-feed.self.senders.ok)) c.index_mut-sender-in-loop-p.ensures.value

pub send-requires-in-loop-p-clause-order : goal.send-requires-in-loop-p-clause-order
send-requires-in-loop-p-clause-order g c =
    let many = c.loop-p.invariant.many in
    may_end c.args.self.now c.loop-feed.self c.requires c.loop-feed.invariant c.loop-p.self.senders.items c.loop-p.p c.index_mut-sender-in-loop-p.result.now c.loop-p.invariant
    (omega (arith, c.loop-p-test.true, c.len-p-end.ensures, c.loop-feed.self.senders.ok)) c.index_mut-sender-in-loop-p.ensures.value

pub loop-p-preserved : goal.loop-p-preserved
loop-p-preserved g c =
    let many = c.loop-p.invariant.many in
    subst (λ (o : Outbox). UpTo HasEnded (c.loop-p.p + 1) c.loop-feed.self.senders.items (slice_set c.loop-p.self.senders.items c.loop-p.p o)) (sym c.send-in-loop-p.ensures)
    (ends_one c.args.self.now c.loop-feed.self c.requires c.loop-feed.invariant c.loop-p.self.senders.items c.loop-p.p c.index_mut-sender-in-loop-p.result.now c.loop-p.invariant
    (omega (arith, c.loop-p-test.true, c.len-p-end.ensures, c.loop-feed.self.senders.ok)) c.index_mut-sender-in-loop-p.ensures.value)

pub returns : goal.returns
returns g c =
    let many = c.loop-p.invariant.many in
    has_fed c.args.self.now c.loop-feed.self c.requires c.loop-feed.invariant c.loop-p.self c.loop-p.p (omega (arith, c.loop-p-test.false, c.loop-p.auto.p-end, c.len-p-end.ensures, c.loop-feed.self.senders.ok))
    (nil_from_length (into_iter_items c.loop-feed.self.feeds) (omega (arith, c.in_default.ensures.cases.0, c.loop-feed.self.feeds.rest.ok))) c.loop-p.invariant
