-- The report line of a get that was answered.
use Rattle.std.specs.Prelude.{ℕ, List}
use Rattle.mica_trace.specs.declared.report.Line.{Line}
use Rattle.mica_trace.specs.declared.report.Line.TheVariants.{Hit as HitLine, Miss as MissLine}
use Rattle.optimistic_get.specs.declared.getting.Got.{Got}
use Rattle.optimistic_get.specs.declared.getting.Got.TheVariants.{Hit, Miss, Again}

abbrev pub IsNotAgain : Got → Type 0
IsNotAgain (Again first last) = ⊥
IsNotAgain _ = Unit {0}

-- the report line of an answer
abbrev pub line_of : Got → List ℕ → Line
line_of (Hit stamp) buffer = HitLine stamp buffer
line_of (Miss stamp) buffer = MissLine stamp
line_of (Again first last) buffer = MissLine last
