-- No machine reads the readers and their tries: a report that is exact for some is exact for all.
use Rattle.std.proofs.Common.{ℕ, List, [], refl, arith}
use Rattle.std.proofs.lemmas.Grind.{common_steps}
use Rattle.partition_model.specs.declared.options.Options.{Options}
use Rattle.partition_model.specs.History.{History}
use Rattle.partition_model.proofs.SameMachine.{same_state, same_run}
use Rattle.mica_trace.specs.declared.line.TraceLine.{TraceLine}
use Rattle.mica_trace.specs.declared.report.Line.{Line}
use Rattle.mica_trace.specs.declared.report.Line.TheVariants.{Wrote, Hit, Miss, Sync as SyncLine}
use Rattle.mica_trace.specs.Rounds.{partition_in}
use Rattle.mica_trace.specs.LawfulReport.{steps_of, history_after, Answers}
use Rattle.mica_trace.specs.ExactReport.{writes_before, ExactReport}

module _ (options : Options) (readers tries : ℕ) where
  abbrev other : Options
  other = record options { readers = readers; tries = tries }

  same_answers : (history : History) (key : List ℕ) (printed : Line) → Answers options history key printed → Answers other history key printed
  same_answers history key (Hit s v) h = rw (same_state options options.partitions readers tries options.spares history) h
  same_answers history key (Miss s) h = rw (same_state options options.partitions readers tries options.spares history) h
  same_answers history key (Wrote op outcome s) h = h
  same_answers history key SyncLine h = h

  pub exact_with : (trace : List TraceLine) (report : List Line) → ExactReport options trace report → ExactReport other trace report
  exact_with trace report exact = record {
    lines = exact.lines;
    writes = λ p below. same_run other options.partitions options.readers options.tries options.spares (λ store. refl) [] (steps_of options p trace report) (exact.writes p below);
    gets = λ n line printed get.
        grind (
          arith,
          common_steps,
          same_answers (history_after options (partition_in options line) trace report (writes_before options (partition_in options line) trace n)) line.key printed (exact.gets n line printed (record { asked = get.asked; answered = get.answered; get = get.get })),
        );
  }
