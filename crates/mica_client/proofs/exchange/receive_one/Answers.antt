use Rattle.std.proofs.Common.{arith}
use Rattle.mica_client.proofs.Taking.{keeps_lawful}
use Rattle.mica_client.proofs.exchange.receive_one.Goals as goal

pub returns-in-Ok-take_replies-clause-keeps : goal.returns-in-Ok-take_replies-clause-keeps
returns-in-Ok-take_replies-clause-keeps g c =
    (keeps_lawful c.args.batch.now c.in-Ok.replies _ _ c.in-Ok-take_replies.ensures.taken c.in-Ok.ensures.lawful c.in-Ok.ensures.version c.requires.tickets).keeps

pub returns-in-Ok-take_replies-clause-fewer : goal.returns-in-Ok-take_replies-clause-fewer
returns-in-Ok-take_replies-clause-fewer g c =
    let less = (keeps_lawful c.args.batch.now c.in-Ok.replies _ _ c.in-Ok-take_replies.ensures.taken c.in-Ok.ensures.lawful c.in-Ok.ensures.version c.requires.tickets).less in
    omega (arith, less, c.in-Ok.ensures.lawful.fits.some)
