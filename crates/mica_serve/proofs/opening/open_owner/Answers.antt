use Rattle.std.proofs.Common.{[], sym, ap, ◌∙◌, arith, length}
use Rattle.std.proofs.lemmas.List.{length-map}
use Rattle.owner_queue.specs.JobEnds.{inbox}
use Rattle.mica_serve.specs.Tasks.{owner_end}
use Rattle.mica_serve.specs.declared.worker.OwnerTask.{OwnerTask}
use Rattle.mica_serve.proofs.Opened.{rows, senders_of, lends_more}
use Rattle.mica_serve.proofs.opening.open_owner.Goals as goal

pub lend_all-requires-clause-senders : goal.lend_all-requires-clause-senders
lend_all-requires-clause-senders g c =
    let made = c.in_ok-senders in
    let hands = c.args.hands.now in
    senders_of (record { state = g.P.Partition.owner c.in_ok-part.part; table = g.P.Partition.home c.in_ok-part.part; jobs = made.jobs; acks = c.in_ok-acks.acks.items })
    (length hands.items) c.args.most made.senders.list.items (made.ensures.receiver ∙ ap (λ n. inbox made.jobs.queue n c.args.most []) (omega (arith, hands.ok, c.len.ensures)))
    (omega (arith, made.ensures.count, made.senders.list.ok, hands.ok, c.len.ensures)) (λ p low. made.ensures.each p (omega (arith, low, hands.ok, c.len.ensures)))

pub lend_all-requires-clause-many : goal.lend_all-requires-clause-many
lend_all-requires-clause-many g c =
    let made = c.in_ok-senders in
    omega (arith, made.ensures.count, made.senders.list.ok, c.args.hands.now.ok, c.len.ensures)

pub returns : goal.returns
returns g c =
    let end = λ (t : OwnerTask g.row.P.Denot). owner_end g.P.Partition.owner g.P.Partition.home t in
    let first = c.in_ok-part.part in
    let made = c.in_ok-senders in
    let hands = c.args.hands.now in
    lends_more c.args.options.now c.args.most (record { state = g.P.Partition.owner first; table = g.P.Partition.home first; jobs = made.jobs; acks = c.in_ok-acks.acks.items })
    (end c.lend_all.new.owner) (rows hands.items) (rows c.lend_all.new.hands.items) (sym (c.requires.same first) ∙ c.in_ok-part.ensures.made)
    (made.ensures.receiver ∙ ap (λ n. inbox made.jobs.queue n c.args.most []) (omega (arith, hands.ok, c.len.ensures, length-map hands.items (λ own. own.items)))) c.in_ok-lend_all.ensures
