-- An exact report is lawful.
use Rattle.std.proofs.Common.{◌≡◌, ℕ, ◌≤◌, List, subst, arith}
use Rattle.partition_model.specs.declared.options.Options.{Options}
use Rattle.partition_model.specs.History.{History, stamp_of}
use Rattle.partition_model.proofs.Rises.{stamps_rise}
use Rattle.mica_trace.specs.declared.line.TraceLine.{TraceLine}
use Rattle.mica_trace.specs.declared.report.Line.{Line}
use Rattle.mica_trace.specs.declared.report.Line.TheVariants.{Wrote, Hit, Miss, Sync as SyncLine}
use Rattle.mica_trace.specs.Rounds.{partition_in}
use Rattle.mica_trace.specs.LawfulReport.{steps_of, history_after, Answers, printed_stamp, LawfulReport}
use Rattle.mica_trace.specs.ExactReport.{writes_before, ExactReport}
use Rattle.mica_trace.proofs.Rounding.{in_round_begin, in_round_end, writes_rise}

module _ (options : Options) where
  pub stamp_printed : (history : History) (key : List ℕ) (printed : Line) → Answers options history key printed → printed_stamp printed ≡ stamp_of options history
  stamp_printed history key (Wrote op outcome s) answer = absurd answer
  stamp_printed history key (Hit s value) answer = answer.0
  stamp_printed history key (Miss s) answer = answer.0
  stamp_printed history key SyncLine answer = absurd answer

le_between : (a b c d : ℕ) → a ≡ b → c ≡ d → b ≤ d → a ≤ c
le_between a b c d from to rise = omega arith

pub exact_is_lawful : (options : Options) (trace : List TraceLine) (report : List Line) → ExactReport options trace report → LawfulReport options trace report
exact_is_lawful options trace report exact = record {
  lines = exact.lines;
  writes = exact.writes;
  gets = λ n line printed get.
      let p = partition_in options line in
      (writes_before options p trace n, in_round_begin options p trace n, in_round_end options p trace n, exact.gets n line printed get);
  order = λ m n line line' printed printed' before get get' same_reader same_partition.
      let p = partition_in options line' in
      let steps = steps_of options p trace report in
      let earlier = subst (λ q. Answers options (history_after options q trace report (writes_before options q trace m)) line.key printed) same_partition (exact.gets m line printed get) in
      let from = stamp_printed options (history_after options p trace report (writes_before options p trace m)) line.key printed earlier in
      let to = stamp_printed options (history_after options p trace report (writes_before options p trace n)) line'.key printed' (exact.gets n line' printed' get') in
      let rise = stamps_rise options steps (writes_before options p trace m) (writes_before options p trace n) (writes_rise options p trace m n (omega arith)) in
      le_between _ _ _ _ from to rise;
}
