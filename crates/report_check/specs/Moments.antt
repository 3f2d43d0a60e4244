-- Moments of a partition's history: each lies before a line of the trace, or at its end.
use Rattle.std.specs.Prelude.{◌≡◌, ℕ, ◌+◌, ◌<◌, ◌≤◌, List, [], ◌∷◌, length, take}
use Rattle.partition_model.specs.declared.options.Options.{Options}
use Rattle.partition_model.specs.History.{History}
use Rattle.mica_trace.specs.declared.line.TraceLine.{TraceLine}
use Rattle.mica_trace.specs.declared.report.Line.{Line}
use Rattle.mica_trace.specs.TraceGrammar.{syncs_in}
use Rattle.mica_trace.specs.Rounds.{round_of, lines_before}
use Rattle.mica_trace.specs.LawfulReport.{Answers, IsGetAt}
use Rattle.mica_trace.specs.RoundReport.{history_in}

-- the history of a partition by the first m lines
abbrev pub history_at : Options → ℕ → List TraceLine → List Line → ℕ → History
history_at options p trace report m = history_in options p (take m trace) (take m report)

-- a round begins at the place
abbrev pub StartsRound : List TraceLine → ℕ → Type 0
StartsRound trace from = lines_before trace (syncs_in (take from trace)) ≡ take from trace

-- the lines of a round
pub record IsRound (trace : List TraceLine) (from to : ℕ) : Type 0 where
  pub starts : StartsRound trace from
  pub low : from ≤ to
  pub high : to ≤ length trace
  pub ends : lines_before trace (syncs_in (take from trace) + 1) ≡ take to trace
  pub inside : (n : ℕ) → from ≤ n → n < to → round_of trace n ≡ syncs_in (take from trace)

-- where the rounds end from a place on
abbrev pub AreRounds : List TraceLine → ℕ → List ℕ → Type 0
AreRounds trace from [] = from ≡ length trace
AreRounds trace from (to ∷ later) = IsRound trace from to × AreRounds trace to later

-- the get at the place is answered as at a moment between two
pub record IsAnsweredBetween (options : Options) (p : ℕ) (trace : List TraceLine) (report : List Line) (from to place : ℕ) : Type 0 where
  pub line : TraceLine
  pub printed : Line
  pub get : IsGetAt trace report place line printed
  pub moment : ℕ
  pub low : from ≤ moment
  pub high : moment ≤ to
  pub answers : Answers options (history_at options p trace report moment) line.key printed
