use Rattle.std.proofs.Common.{[], ◌∷◌, ap, ◌∙◌, arith, refl}
use Rattle.owner_queue.specs.declared.message.Message.{Message}
use Rattle.owner_queue.specs.Worked.{jobs_in}
use Rattle.mica_replay.proofs.JobRuns.{fed_none, fed_end, fed_room, fed_calls, fed_job}
use Rattle.mica_replay.proofs.owner.run_owner.Goals as goal

pub loop-init : goal.loop-init
loop-init g c = record { fed = fed_none (g.P.Partition.owner c.args.part.now) c.args.jobs.now c.args.out.now; home = refl }

pub push-requires : goal.push-requires
push-requires g c =
    let m = c.in-Some-Job in
    fed_room (g.P.Partition.owner c.args.part.now) (g.P.Partition.owner c.loop.part) c.args.jobs.now c.loop.jobs c.recv.new.self c.args.out.now c.loop.out c.loop.call m.field-0
    c.loop.invariant.fed m.ensures.some m.ensures.sender m.ensures.order m.job m.field-0-is c.requires.room

pub overflow_add-call : goal.overflow_add-call
overflow_add-call g c =
    let m = c.in-Some-Job in
    let few = fed_calls (g.P.Partition.owner c.args.part.now) (g.P.Partition.owner c.loop.part) c.args.jobs.now c.loop.jobs c.recv.new.self c.args.out.now c.loop.out c.loop.call m.field-0
    c.loop.invariant.fed m.ensures.some m.ensures.sender m.ensures.order m.job m.field-0-is c.requires.room in
    let most = c.spare-most.ensures in
    let fits = c.spare-most.type_inv in
    omega arith

pub loop-preserved-in-Some-Job : goal.loop-preserved-in-Some-Job
loop-preserved-in-Some-Job g c =
    let m = c.in-Some-Job in
    record {
      fed = fed_job (g.P.Partition.owner c.args.part.now) (g.P.Partition.owner c.loop.part) c.args.jobs.now c.loop.jobs c.recv.new.self c.args.out.now c.loop.out c.loop.call m.field-0
          c.loop.invariant.fed m.ensures.some m.ensures.sender m.ensures.order m.job m.field-0-is c.requires.room
          (g.P.Partition.owner c.apply_write-outcome.new.part) c.push.new.self c.apply_write-outcome.result c.stamp.result c.apply_write-outcome.ensures.step c.stamp.ensures c.push.ensures;
      home = c.apply_write-outcome.ensures.home ∙ c.loop.invariant.home;
    }

pub loop-preserved-in-Some-Job-2 : goal.loop-preserved-in-Some-Job-2
loop-preserved-in-Some-Job-2 g c =
    let m = c.in-Some-Job in
    record {
      fed = fed_job (g.P.Partition.owner c.args.part.now) (g.P.Partition.owner c.loop.part) c.args.jobs.now c.loop.jobs c.recv.new.self c.args.out.now c.loop.out c.loop.call m.field-0
          c.loop.invariant.fed m.ensures.some m.ensures.sender m.ensures.order m.job m.field-0-is c.requires.room
          (g.P.Partition.owner c.apply_write-outcome.new.part) c.push.new.self c.apply_write-outcome.result c.stamp.result c.apply_write-outcome.ensures.step c.stamp.ensures c.push.ensures;
      home = c.apply_write-outcome.ensures.home ∙ c.loop.invariant.home;
    }

pub loop-preserved : goal.loop-preserved
loop-preserved g c =
    let m = c.in-Some-End in
    record {
      fed = fed_end (g.P.Partition.owner c.args.part.now) (g.P.Partition.owner c.loop.part) c.args.jobs.now c.loop.jobs c.recv.new.self c.args.out.now c.loop.out c.loop.call m.field-0
          c.loop.invariant.fed m.ensures.some m.ensures.sender m.ensures.order (ap (λ (x : Message). jobs_in (x ∷ [])) m.field-0-is);
      home = c.loop.invariant.home;
    }
