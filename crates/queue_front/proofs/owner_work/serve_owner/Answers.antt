use Rattle.std.proofs.Common.{[], ◌∷◌, ap, arith}
use Rattle.owner_queue.specs.declared.message.Message.{Message}
use Rattle.owner_queue.specs.Worked.{jobs_in}
use Rattle.queue_front.proofs.OwnerSteps.{serves_none, serves_end, serves_job, front_below, box_there, job_fits, box_of, ticket_above}
use Rattle.queue_front.proofs.owner_work.serve_owner.Goals as goal

pub loop-init : goal.loop-init
loop-init g c = serves_none (g.P.Partition.home c.args.part.now) (g.P.Partition.owner c.args.part.now) c.args.jobs.now c.args.acks.now.items c.requires.fresh c.requires.acks

pub index_mut-requires : goal.index_mut-requires
index_mut-requires g c =
    let m = c.in-Some-Job in
    let below = front_below m.field-0 c.loop.invariant m.ensures.some m.ensures.sender m.field-0-is (omega (arith, c.requires.fronts, c.args.acks.now.ok)) in
    omega (arith, below, c.loop.acks.ok)

pub serve_job-requires-clause-write : goal.serve_job-requires-clause-write
serve_job-requires-clause-write g c = let m = c.in-Some-Job in job_fits m.field-0 c.loop.invariant m.ensures.some m.ensures.sender m.field-0-is m.ensures.order

pub serve_job-requires-clause-acks : goal.serve_job-requires-clause-acks
serve_job-requires-clause-acks g c =
    let m = c.in-Some-Job in
    let there = box_there m.field-0 c.loop.invariant m.ensures.some m.ensures.sender m.field-0-is (omega (arith, c.requires.fronts, c.args.acks.now.ok)) c.index_mut.ensures.value in
    box_of m.field-0 c.loop.invariant m.ensures.some m.ensures.sender m.field-0-is there

pub serve_job-requires-clause-ticket : goal.serve_job-requires-clause-ticket
serve_job-requires-clause-ticket g c =
    let m = c.in-Some-Job in
    let there = box_there m.field-0 c.loop.invariant m.ensures.some m.ensures.sender m.field-0-is (omega (arith, c.requires.fronts, c.args.acks.now.ok)) c.index_mut.ensures.value in
    ticket_above m.field-0 c.loop.invariant m.ensures.some m.ensures.sender m.field-0-is there m.ensures.order

pub loop-preserved-in-Some-Job : goal.loop-preserved-in-Some-Job
loop-preserved-in-Some-Job g c =
    let m = c.in-Some-Job in
    let there = box_there m.field-0 c.loop.invariant m.ensures.some m.ensures.sender m.field-0-is (omega (arith, c.requires.fronts, c.args.acks.now.ok)) c.index_mut.ensures.value in
    serves_job m.field-0 c.loop.invariant m.ensures.some m.ensures.sender m.field-0-is there c.serve_job.ensures

pub loop-preserved : goal.loop-preserved
loop-preserved g c = let m = c.in-Some-End in serves_end m.field-0 c.loop.invariant m.ensures.some m.ensures.sender (ap (λ (x : Message). jobs_in (x ∷ [])) m.field-0-is)
