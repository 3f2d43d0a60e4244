use Rattle.mica_cmd.proofs.Checking.{finds_trace, finds_fault}
use Rattle.mica_cmd.proofs.check_command.find.Goals as goal

pub returns-in-Ok : goal.returns-in-Ok
returns-in-Ok c = finds_trace c.args.options.now c.args.bytes.now _ _ c.in-Ok.trace _ c.split_at_check.ensures.parts c.in-Ok.ensures.trace c.find_behind.ensures

pub returns-in-Err : goal.returns-in-Err
returns-in-Err c = finds_fault c.args.options.now c.args.bytes.now _ _ c.in-Err.fault _ c.refused.ensures c.split_at_check.ensures.parts c.in-Err.ensures.refused
