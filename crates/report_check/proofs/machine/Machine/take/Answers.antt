use Rattle.partition_model.specs.Write.{write_of}
use Rattle.report_check.proofs.Taking.{machine_takes}
use Rattle.report_check.proofs.machine.Machine.take.Goals as goal

pub returns-in_ok-may-in-Cache : goal.returns-in_ok-may-in-Cache
returns-in_ok-may-in-Cache c =
    machine_takes c.in-Cache.machine c.take.new.self c.in_ok-may-in-Cache.may (write_of c.args.op c.args.key.now c.args.value.now) c.args.outcome c.in_ok-may-in-Cache.ensures c.args.self.now c.in-Cache.is
