use Rattle.std.proofs.Common.{None, replicate, ap, ◌∙◌}
use Rattle.work_desk.specs.Desk.{giver, doer}
use Rattle.mica_replay.proofs.crew.make_reader_desks.Goals as goal

pub returns-clause-givers : goal.returns-clause-givers
returns-clause-givers g c = c.in_ok-givers.ensures.givers ∙ ap (λ t. replicate c.args.options.now.readers (giver t None)) c.requires

pub returns-clause-doers : goal.returns-clause-doers
returns-clause-doers g c = c.in_ok-givers.ensures.doers ∙ ap (λ t. replicate c.args.options.now.readers (doer t None)) c.requires
