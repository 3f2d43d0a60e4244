-- An image replayed from nothing.
use Rattle.std.specs.Prelude.{◌≡◌, true, List}
use Rattle.std.specs.List.{AllByRecursion}
use Rattle.partition_model.specs.Write.{is_accepted}
use Rattle.mica_trace.specs.declared.report.Line.{Line}
use Rattle.mica_trace.specs.declared.report.Line.TheVariants.{Wrote}

abbrev pub IsAccepted : Line → Type 0
IsAccepted (Wrote op outcome stamp) = is_accepted outcome ≡ true
IsAccepted _ = ⊥

-- the report has no line but those of writes that were done
abbrev pub RefusesNothing : List Line → Type 0
RefusesNothing report = AllByRecursion IsAccepted report
