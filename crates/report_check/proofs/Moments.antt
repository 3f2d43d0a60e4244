-- A get is answered in its round exactly where it is at a moment between the round's ends.
use Rattle.std.proofs.Common.{◌≡◌, ℕ, ◌+◌, ◌-◌, ◌<◌, ◌≤◌, List, length, sym, ap, ◌∙◌, subst, arith}
use Rattle.std.specs.List.{AllZip}
use Rattle.std.proofs.lemmas.Grind.{common_steps}
use Rattle.partition_model.specs.declared.options.Options.{Options}
use Rattle.partition_model.specs.History.{History}
use Rattle.mica_trace.specs.declared.line.TraceLine.{TraceLine}
use Rattle.mica_trace.specs.declared.report.Line.{Line}
use Rattle.mica_trace.specs.Rounds.{partition_in, round_of, lines_before, writes_of, round_begin, round_end}
use Rattle.mica_trace.specs.LawfulReport.{IsLineFor, history_after, Answers, IsGetAt, IsAnsweredInRound}
use Rattle.mica_trace.proofs.ListParts.{length_zip}
use Rattle.report_check.specs.Moments.{history_at, IsRound, IsAnsweredBetween}
use Rattle.report_check.proofs.Histories.{writes_to, history_by, writes_rise, some_moment}

module _ (options : Options) (trace : List TraceLine) (report : List Line) (all : AllZip IsLineFor trace report) (from to : ℕ) (round : IsRound trace from to) where
  same : length report ≡ length trace
  same = length_zip IsLineFor trace report all

  begins : (p n : ℕ) → from ≤ n → n < to → round_begin options p trace (round_of trace n) ≡ writes_to options p trace report same from
  begins p n low high = ap (λ (ls : List TraceLine). length (writes_of options p ls)) (ap (lines_before trace) (round.inside n low high) ∙ round.starts)

  ends : (p n : ℕ) → from ≤ n → n < to → round_end options p trace (round_of trace n) ≡ writes_to options p trace report same to
  ends p n low high = grind (arith, common_steps)

  pub in_round : (p n : ℕ) (line : TraceLine) (printed : Line) → from ≤ n → n < to → IsGetAt trace report n line printed → partition_in options line ≡ p
      → IsAnsweredBetween options p trace report from to n → IsAnsweredInRound options trace report n line printed
  in_round p n line printed low high get inside answered =
      let other = answered.line in
      let answer = answered.printed in
      let asked = get.asked in
      let asked' = answered.get.asked in
      let printed_is = get.answered in
      let printed_is' = answered.get.answered in
      let same_line : other ≡ line = cc in
      let same_printed : answer ≡ printed = cc in
      let m = answered.moment in
      let i = writes_to options p trace report same m in
      let first = begins p n low high in
      let last = ends p n low high in
      let up = writes_rise options p trace report same from (m - from) in
      let up' = writes_rise options p trace report same m (to - m) in
      let here : from + (m - from) ≡ m = (let le = answered.low in omega arith) in
      let there : m + (to - m) ≡ to = (let le = answered.high in omega arith) in
      let low_i : writes_to options p trace report same from ≤ i = subst (λ k. writes_to options p trace report same from ≤ writes_to options p trace report same k) here up in
      let high_i : i ≤ writes_to options p trace report same to = subst (λ k. i ≤ writes_to options p trace report same k) there up' in
      let answers : Answers options (history_after options p trace report i) line.key printed =
      subst (λ (h : History). Answers options h line.key printed) (history_by options p trace report same m all)
      (subst (λ (l : TraceLine). Answers options (history_at options p trace report m) l.key printed) same_line
      (subst (λ (r : Line). Answers options (history_at options p trace report m) other.key r) same_printed answered.answers)) in
      subst (λ q. (i : ℕ) × (round_begin options q trace (round_of trace n) ≤ i) × (i ≤ round_end options q trace (round_of trace n)) × Answers options (history_after options q trace report i) line.key printed) (sym inside)
      (i, (let e = first in omega arith), (let e = last in omega arith), answers)

  pub at_moment : (p n : ℕ) (line : TraceLine) (printed : Line) → from ≤ n → n < to → IsGetAt trace report n line printed → partition_in options line ≡ p
      → IsAnsweredInRound options trace report n line printed → IsAnsweredBetween options p trace report from to n
  at_moment p n line printed low high get inside answered =
      let q = partition_in options line in
      let place : (i : ℕ) × (round_begin options p trace (round_of trace n) ≤ i) × (i ≤ round_end options p trace (round_of trace n)) × Answers options (history_after options p trace report i) line.key printed =
      subst (λ q. (i : ℕ) × (round_begin options q trace (round_of trace n) ≤ i) × (i ≤ round_end options q trace (round_of trace n)) × Answers options (history_after options q trace report i) line.key printed) inside answered in
      let i = place.0 in
      let first = begins p n low high in
      let last = ends p n low high in
      let below = place.1 in
      let above = place.2 in
      let long = round.low in
      let whole : from + (to - from) ≡ to = omega arith in
      let high_i : i ≤ writes_to options p trace report same (from + (to - from)) = subst (λ k. i ≤ writes_to options p trace report same k) (sym whole) (omega arith) in
      let found = some_moment options p trace report same from (to - from) i (omega arith) high_i in
      record {
        line = line;
        printed = printed;
        get = get;
        moment = found.0;
        low = found.1;
        high = (let le = found.2 in omega arith);
        answers = subst (λ (h : History). Answers options h line.key printed)
            (sym (history_by options p trace report same found.0 all ∙ ap (history_after options p trace report) found.3)) place.3;
      }
