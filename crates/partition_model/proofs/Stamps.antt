-- The stamps of a history, in both modes: they have a bound.
use Rattle.std.proofs.Common.{rules}
use Rattle.std.proofs.Common.{◌≡◌, ◌*◌, ◌<◌, ◌≤◌, length, arith}
use Rattle.std.specs.List.{AllByRecursion as AllOf}
use Rattle.mica_words.specs.Stamp.{tail_of}
use Rattle.partition_model.specs.declared.options.Options.{Options}
use Rattle.partition_model.specs.Options.{IsValid}
use Rattle.partition_model.specs.Limits.{last_tail, most_short_added, most_stamp}
use Rattle.partition_model.specs.Write.{IsWrite, IsShort}
use Rattle.partition_model.specs.History.{History, State, state_of, stamp_of, stamp_in, IsHistory}
use Rattle.partition_model.proofs.Short.{short_bound}
use Rattle.partition_model.proofs.StoreLaws.{stamp_is_length}
use Rattle.partition_model.proofs.Histories.{within_wear}

stamp_at_most : (options : Options) (history : History) → AllOf IsWrite history → AllOf IsShort history → (now : State) → state_of options history ≡ now → stamp_in now ≤ length history * most_short_added
stamp_at_most options history writes short now at = grind (arith, short_bound options history writes short, stamp_is_length options history writes)

pub stamp_small : (options : Options) → IsValid options → (history : History) → IsHistory options history → AllOf IsWrite history → AllOf IsShort history
    → stamp_of options history ≤ most_stamp
stamp_small options valid history is writes short = search (rules, stamp_at_most, within_wear)

-- so the count comes before the end of a log
pub tail_small : (options : Options) (history : History) → IsValid options → IsHistory options history → AllOf IsWrite history → AllOf IsShort history
    → tail_of (stamp_of options history) < last_tail
tail_small options history valid is writes short = (let small = stamp_small options valid history is writes short in omega arith)
