use Rattle.mica_cmd.proofs.Exiting.{ends_with_status}
use Rattle.mica.proofs.host.run_on_host.Goals as goal

pub returns : goal.returns
returns g c = ends_with_status _ _ _ _ c.run_program.ensures
