use Rattle.std.proofs.Common.{◌≡◌, None, refl, sym, subst, All}
use Rattle.std.proofs.lemmas.List.Elements.{All-replicate}
use Rattle.work_desk.specs.Desk.{doer}
use Rattle.mica_replay.specs.Crew.{read_terms}
use Rattle.mica_replay.proofs.crew.make_crew.Goals as goal

pub returns-clause-crew : goal.returns-clause-crew
returns-clause-crew g c = record { owners = c.in_ok-givers.ensures.givers; readers = c.in_ok-reader_givers.ensures.givers }

pub returns-clause-owners : goal.returns-clause-owners
returns-clause-owners g c = subst (All (λ d. d ≡ doer tt None)) (sym c.in_ok-givers.ensures.doers) (All-replicate (λ d. d ≡ doer tt None) c.args.options.now.partitions (doer tt None) refl)

pub returns-clause-readers : goal.returns-clause-readers
returns-clause-readers g c =
    subst (All (λ d. d ≡ doer (read_terms c.args.trace.now c.args.options.now) None)) (sym c.in_ok-reader_givers.ensures.doers)
    (All-replicate (λ d. d ≡ doer (read_terms c.args.trace.now c.args.options.now) None) c.args.options.now.readers (doer (read_terms c.args.trace.now c.args.options.now) None) refl)
