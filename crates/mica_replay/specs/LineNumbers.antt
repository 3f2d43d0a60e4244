-- Lines of a trace by their numbers, from 0.
use Rattle.std.specs.Prelude.{◌≡◌, ◌⊎◌, ℕ, List, map, slice_get, Option, IsSomeAnd, is_some, if◌then◌else◌}
use Rattle.std.specs.List.{filter_map}
use Rattle.partition_model.specs.declared.options.Options.{Options}
use Rattle.partition_model.specs.declared.write.Write.{Write}
use Rattle.mica_trace.specs.declared.line.TraceOp.{TraceOp}
use Rattle.mica_trace.specs.declared.line.TraceOp.TheVariants.{Put, Add, Del, Touch, Get}
use Rattle.mica_trace.specs.declared.line.TraceLine.{TraceLine}
use Rattle.mica_trace.specs.Rounds.{partition_in, write_by}

abbrev pub lines_at : List TraceLine → List ℕ → List TraceLine
lines_at trace numbers = filter_map (slice_get trace) numbers

abbrev pub write_at : TraceLine → Option Write
write_at line = write_by line.op line.key line.value

-- the partition of a line's write, and 0 for a line that is no write
abbrev pub home_in : Options → TraceLine → ℕ
home_in options line = if is_some (write_at line) then partition_in options line else 0

abbrev pub homes_of : Options → List TraceLine → List ℕ
homes_of options lines = map (home_in options) lines

-- an operation that changes its key
abbrev pub IsWriteOp : TraceOp → Type 0
IsWriteOp op = (op ≡ Put) ⊎ ((op ≡ Add) ⊎ ((op ≡ Del) ⊎ (op ≡ Touch)))

abbrev pub NamesGet : List TraceLine → ℕ → Type 0
NamesGet trace number = IsSomeAnd (slice_get trace number) (λ line. line.op ≡ Get)
