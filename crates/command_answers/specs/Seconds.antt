-- The seconds at which answers were made.
use Rattle.std.specs.Prelude.{◌≡◌, ◌==◌, ◌&&◌, ℕ, List, nat_lt, Option, Some, None, IfSome, if◌then◌else◌}
use Rattle.std.specs.List.{AllByRecursion}
use Rattle.mica_words.specs.Hash.{partition_of}
use Rattle.partition_model.specs.declared.options.Options.{Options}
use Rattle.fronts.specs.declared.flushes.Flush.{Flush}
use Rattle.fronts.specs.Answered.{Answered, wrote, got, changed, kept}
use Rattle.fronts.specs.Flushes.{is_flush, flush_in}

-- the second at which a flush was asked for; one at once is asked for at none
abbrev pub second_asked : Flush → Option ℕ
second_asked flush = if nat_lt 0 flush.due then Some flush.asked else None

-- that of a flush, which its first partition tells for all; and that of a look
abbrev pub second_in : Options → Answered → Option ℕ
second_in options (wrote step) =
    if is_flush options.hashing options.buckets step.write && (partition_of options.hashing step.write.key options.partitions == 0) then second_asked (flush_in step.write.key) else None
second_in options (got key stamp value) = None
second_in options (changed step look) = Some look.when.second
second_in options (kept key stamp look) = Some look.when.second

-- It was given at this second, if it was at any.
abbrev pub IsAt : Options → ℕ → Answered → Type 0
IsAt options second answered = IfSome (second_in options answered) (λ s. s ≡ second)

abbrev pub AreAt : Options → ℕ → List Answered → Type 0
AreAt options second answers = AllByRecursion (IsAt options second) answers
