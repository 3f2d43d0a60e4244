use Rattle.connection_loop.proofs.FewAsks.{few_asks_of}
use Rattle.connection_loop.proofs.next.said_next.Goals as goal

pub returns-clause-few : goal.returns-clause-few
returns-clause-few c = few_asks_of c.next_command.result c.args.bytes.now c.next_command.ensures.next
