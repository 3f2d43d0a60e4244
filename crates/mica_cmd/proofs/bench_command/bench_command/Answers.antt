use Rattle.std.proofs.Common.{◌≡◌, ◌⊎◌, ℕ, List, sym, subst, refl}
use Rattle.mica_cmd.specs.Promises.{bench_promise, IsSeatedSummary}
use Rattle.mica_cmd.proofs.Keeping.{unwritten_promise}
use Rattle.mica_cmd.proofs.Settled.{settles_bench}
use Rattle.mica_cmd.proofs.Ending.{bench_done}
use Rattle.mica_cmd.proofs.bench_command.bench_command.Goals as goal

pub returns-in-Ok : goal.returns-in-Ok
returns-in-Ok g c =
    let is = subst (IsSeatedSummary c.args.options.now c.args.generator.now c.summary_of_run.new.tables) (sym c.as_slice.ensures.value) c.in-Ok.ensures.ok in
    λ source net link. bench_done c.args.options.now c.args.generator.now source _ _ net c.args.tables.now c.summary_of_run.new.tables link c.as_slice.result.now _ is c.write_due.ensures

pub returns-in-Err : goal.returns-in-Err
returns-in-Err g c =
    let either = subst (λ none. (c.summary_of_run.new.tables ≡ none) ⊎ ((text : List ℕ) × IsSeatedSummary c.args.options.now c.args.generator.now c.summary_of_run.new.tables text)) (sym c.requires.tables) c.in-Err.ensures.err in
    λ source net link. unwritten_promise (bench_promise c.args.options.now c.args.generator.now) (settles_bench c.args.options.now c.args.generator.now) _ _ refl refl refl either refl
