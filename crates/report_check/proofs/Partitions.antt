-- The rounds of a partition, one behind another.
use Rattle.std.proofs.Common.{rules}
use Rattle.std.proofs.Common.{◌≡◌, ℕ, ◌<◌, ◌≤◌, List, [], ◌∷◌, length, take, drop, Option, Some, None, refl, sym, subst, arith, get_or, ◌+◌, ◌-◌, true, false, ltb, ltb-true, ltb-false, leb, is_some}
use Rattle.std.specs.List.{AllZip, position_or_len}
use Rattle.std.proofs.lemmas.List.{drop-drop, take_rest}
use Rattle.std.proofs.lemmas.Grind.{common_steps}
use Rattle.partition_model.specs.declared.options.Options.{Options}
use Rattle.partition_model.specs.Run.{IsRun}
use Rattle.mica_trace.specs.declared.line.TraceLine.{TraceLine}
use Rattle.mica_trace.specs.declared.report.Line.{Line}
use Rattle.mica_trace.specs.LawfulReport.{IsLineFor, IsAnsweredInRound, steps_of}
use Rattle.mica_trace.proofs.ListParts.{length_zip}
use Rattle.report_check.specs.declared.machine.Machine.{Machine}
use Rattle.report_check.specs.declared.partition.Judged.TheVariants.{Run}
use Rattle.report_check.specs.declared.sharing.OwnLine.{OwnLine}
use Rattle.report_check.specs.Machines.{IsAfter}
use Rattle.report_check.specs.Moments.{history_at, IsRound, IsAnsweredBetween, AreRounds}
use Rattle.report_check.specs.Judged.{IsBeforeRound, IsFirstWithout, IsFirstMissed, IsJudged, IsJudgedRound}
use Rattle.report_check.specs.Shared.{AreLinesOf}
use Rattle.report_check.proofs.Histories.{take_past}
use Rattle.report_check.proofs.Moments.{in_round, at_moment}
use Rattle.report_check.proofs.OwnLines.{left_one, lines_cut, read_same}

-- the first of two options that has something
abbrev pub first_some : Option ℕ → Option ℕ → Option ℕ
first_some None later = later
first_some (Some place) later = Some place

module _ (options : Options) (p : ℕ) (trace : List TraceLine) (report : List Line) (all : AllZip IsLineFor trace report) (from to : ℕ) (round : IsRound trace from to) where
  low : from ≤ to
  low = round.low

  pub missed_more : (missed found : Option ℕ) → IsFirstMissed options p trace report from missed
      → IsFirstWithout (λ n line printed. IsAnsweredBetween options p trace report from to n) options p trace report from to found
      → IsFirstMissed options p trace report to (first_some missed found)
  missed_more None None olds news = λ n line printed zero less get inside.
      elim (ltb n from) as (λ t. ltb n from ≡ t → IsAnsweredInRound options trace report n line printed) [
        | true ↦ λ e. olds n line printed zero (ltb-true n from e) get inside
        | false ↦ λ f. let at = ltb-false n from f in in_round options trace report all from to round p n line printed at less get inside (news n line printed at less get inside)
      ] refl
  missed_more None (Some k) olds news =
      let here = news.2 in
      let below = news.1 in
      let above = news.0 in (
        omega arith,
        below,
        (here.0, here.1, here.2, here.3, (λ answered. here.4 (at_moment options trace report all from to round p k here.0 here.1 above below here.2 here.3 answered))),
        (λ n line printed zero less get inside.
            elim (ltb n from) as (λ t. ltb n from ≡ t → IsAnsweredInRound options trace report n line printed) [
              | true ↦ λ e. olds n line printed zero (ltb-true n from e) get inside
              | false ↦ λ f. let at = ltb-false n from f in in_round options trace report all from to round p n line printed at (omega arith) get inside (news.3 n line printed at less get inside)
            ] refl),
      )
  missed_more (Some j) found olds news = (olds.0, (let less = olds.1 in let le = round.low in omega arith), olds.2, olds.3)

-- The machine stands between two rounds of a partition: its writes so far are a run, and the first get that was missed is known.
pub record StandsBetween (options : Options) (p : ℕ) (trace : List TraceLine) (report : List Line) (ends : List ℕ) (lines : List OwnLine) (machine : Machine) (missed : Option ℕ) : Type 0 where
  pub from : ℕ
  pub rounds : AreRounds trace from ends
  pub left : AreLinesOf options p trace from (length trace) lines
  pub run : IsRun options (steps_of options p (take from trace) (take from report))
  pub after : IsAfter options (history_at options p trace report from) machine
  pub first : IsFirstMissed options p trace report from missed

module _ (options : Options) (p : ℕ) (trace : List TraceLine) (report : List Line) (all : AllZip IsLineFor trace report) where
  -- the lines of the next round, and those that are left
  pub before_round : (to : ℕ) (later : List ℕ) (lines : List OwnLine) (machine : Machine) (missed : Option ℕ) → (between : StandsBetween options p trace report (to ∷ later) lines machine missed)
      → IsBeforeRound options p trace report between.from to (take (position_or_len (λ own. leb to own.place) lines) lines) machine
      × AreLinesOf options p trace to (length trace) (drop (position_or_len (λ own. leb to own.place) lines) lines)
  before_round to later lines machine missed between = grind (arith, common_steps, lines_cut options p trace between.from to (length trace) lines)

  pub stands_behind : (to : ℕ) (later : List ℕ) (lines : List OwnLine) (old machine : Machine) (missed found : Option ℕ) → (between : StandsBetween options p trace report (to ∷ later) lines old missed)
      → IsJudgedRound options p trace report between.from to machine (Run found)
      → StandsBetween options p trace report later (drop (position_or_len (λ own. leb to own.place) lines) lines) machine (first_some missed found)
  stands_behind to later lines old machine missed found between judged =
      grind (arith, common_steps, before_round to later lines old missed between, missed_more options p trace report all between.from to between.rounds.0 missed found between.first judged.2)

  pub judged_at_end : (lines : List OwnLine) (machine : Machine) (missed : Option ℕ) → StandsBetween options p trace report [] lines machine missed → IsJudged options p trace report (Run missed)
  judged_at_end lines machine missed between = search (rules, length_zip, IsRun, take_past, IsFirstMissed, steps_of, take)

-- the one that the code keeps
pub first_is : (missed found now : Option ℕ) → (is_some missed ≡ false → now ≡ found) → (is_some missed ≡ true → now ≡ missed) → now ≡ first_some missed found
first_is missed found now none some = grind (arith, common_steps)

-- One round, by the number of its end and by how many lines were gone through before it.
module _ (options : Options) (p : ℕ) (trace : List TraceLine) (report : List Line) (all : AllZip IsLineFor trace report) (ends : List ℕ) (round : ℕ) (lines : List OwnLine) (first count : ℕ)
    (less : round < length ends) (count_is : count ≡ position_or_len (λ own. leb (get_or ends round 0) own.place) (take (length lines - first) (drop first lines))) where
  abbrev to : ℕ
  to = get_or ends round 0

  abbrev rest : List OwnLine
  rest = take (length lines - first) (drop first lines)

  module _ (machine : Machine) (missed : Option ℕ) (between : StandsBetween options p trace report (drop round ends) (drop first lines) machine missed) where
    abbrev pub here : StandsBetween options p trace report (to ∷ drop (round + 1) ends) rest machine missed
    here = subst (λ es. StandsBetween options p trace report es rest machine missed) (left_one ends round to less (read_same ends round 0 less))
        (subst (λ (ls : List OwnLine). StandsBetween options p trace report (drop round ends) ls machine missed) (sym (take_rest lines first)) between)

    pub next_round : IsBeforeRound options p trace report here.from to (take count rest) machine
    next_round = grind (arith, common_steps, before_round options p trace report all to (drop (round + 1) ends) rest machine missed here)

    pub round_behind : (new : Machine) (found now : Option ℕ) → IsJudgedRound options p trace report here.from to new (Run found) → now ≡ first_some missed found
        → StandsBetween options p trace report (drop (round + 1) ends) (drop (first + count) lines) new now
    round_behind new found now judged is =
        grind (arith, common_steps, take_rest lines first, drop-drop count first lines, stands_behind options p trace report all to (drop (round + 1) ends) rest machine new missed found here judged)
