use Rattle.std.proofs.Common.{List, map, subst}
use Rattle.connections.specs.Shares.{GivesShares, share_facts}
use Rattle.mica_tests.proofs.Only.{only_open}
use Rattle.mica_tests.proofs.port.second_share.Goals as goal

pub returns : goal.returns
returns g c =
    let it = g.L.Port.Connections in
    let facts = share_facts it.share it.faults it.has_ended it.log in
    only_open it.share it.faults it.has_ended it.log c.pop.new.self.items c.pop.result
    (subst (λ (l : List _). GivesShares (g.L.Listeners.waits c.args.listeners.now) (g.L.Listeners.given c.args.listeners.now) 1 (map facts l) (map facts c.listen.new.out.items)) c.requires.none c.in-Ok.ensures.all) c.pop.ensures.items
