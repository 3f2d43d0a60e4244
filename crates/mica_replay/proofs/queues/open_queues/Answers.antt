use Rattle.std.proofs.Common.{◌≡◌, ℕ, ◌+◌, ◌<◌, ◌++◌, [], length, slice_get, slice_set, Some, refl, sym, ap, ◌∙◌, subst, arith}
use Rattle.std.specs.Option.{option_to_list}
use Rattle.std.proofs.lemmas.Option.{slice_get_read}
use Rattle.owner_queue.specs.JobEnds.{Inbox, Outbox, outbox, inbox}
use Rattle.mica_replay.specs.declared.worker.OwnerWork.{OwnerWork}
use Rattle.mica_replay.specs.Queues.{HasQueue}
use Rattle.mica_replay.specs.Replies.{replies_with}
use Rattle.mica_replay.proofs.QueueSteps.{QueuesTo, queues_none, queues_one, queues_all, only_one}
use Rattle.mica_replay.proofs.queues.open_queues.Goals as goal

pub loop-p-init : goal.loop-p-init
loop-p-init g c = subst (QueuesTo c.args.counts.now 0 c.args.owners.now.items c.args.owners.now.items) (sym c.in_ok-senders.ensures.items) (queues_none c.args.counts.now c.args.owners.now.items)

pub loop-p-preserved : goal.loop-p-preserved
loop-p-preserved g c =
    let p : ℕ = c.loop-p.p in
    let mid = c.index_mut-owner.result.now in
    let receiver = c.in_ok-own.receiver in
    let sender = c.in-Some.sender in
    let new : OwnerWork g.row.P.Denot = record mid { jobs = receiver; done = c.in_ok-done.done } in
    let count : ℕ = c.from.result in
    let owners_many = c.loop-p.invariant.many in
    let less : p < length c.args.owners.now.items = omega (arith, c.loop-p-test.true, c.len-p-end.ensures, c.args.owners.now.ok) in
    let rest = c.pop.new.self.items in
    let at : slice_get c.loop-p.owners.items p ≡ Some mid
    = slice_get_read c.loop-p.owners.items (length c.loop-p.owners.items) p mid refl (omega (arith, c.loop-p-test.true, c.len-p-end.ensures, c.args.owners.now.ok, c.loop-p.invariant.many)) c.index_mut-owner.ensures.value in
    let one = only_one c.in_ok-own.own.list.items rest sender (outbox receiver.queue 0 count []) (c.pop.ensures.items ∙ ap (λ o. rest ++ option_to_list o) c.in-Some.is)
    (omega (arith, c.in_ok-own.ensures.count, c.in_ok-own.own.list.ok)) (c.in_ok-own.ensures.each 0 (omega arith)) in
    let sent : sender.jobs ≡ count = ap (λ (o : Outbox). o.jobs) one in
    let has : HasQueue mid new sender = record {
      same = ap (λ d. record mid { jobs = receiver; done = d }) (c.in_ok-done.ensures ∙ ap (λ n. replies_with [] n) (sym (sent ∙ c.from.ensures)));
      sender_is = one ∙ ap (λ (n : ℕ). outbox receiver.queue 0 n []) (sym sent);
      jobs_are = c.in_ok-own.ensures.receiver ∙ ap (λ (n : ℕ). inbox receiver.queue 1 n []) (sym sent);
    } in
    let renewed = ap (λ (j : Inbox). record mid { jobs = j; done = c.in_ok-done.done }) (sym c.replace-spent.ensures.after) in
    subst (λ (w : OwnerWork g.row.P.Denot). QueuesTo c.args.counts.now (p + 1) c.args.owners.now.items (slice_set c.loop-p.owners.items p w) c.push.new.self.items) renewed
    (subst (QueuesTo c.args.counts.now (p + 1) c.args.owners.now.items (slice_set c.loop-p.owners.items p new)) (sym c.in_ok-push.ensures.items)
    (queues_one c.args.counts.now p c.args.owners.now.items c.loop-p.owners.items c.loop-p.senders.items mid new sender c.loop-p.invariant at has (omega (arith, less, c.requires)) (sent ∙ c.from.ensures)))

pub returns : goal.returns
returns g c = queues_all c.args.counts.now c.loop-p.p c.args.owners.now.items c.loop-p.owners.items c.loop-p.senders.items (omega (arith, c.loop-p-test.false, c.loop-p.auto.p-end, c.len-p-end.ensures, c.args.owners.now.ok)) (omega (arith, c.requires, c.loop-p-test.false, c.loop-p.auto.p-end, c.len-p-end.ensures, c.args.owners.now.ok)) c.loop-p.invariant
