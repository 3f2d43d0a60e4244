-- What is gone stays gone.
use Rattle.std.specs.Prelude.{◌≡◌, ◌≤◌, ◌⊎◌, ℕ, true, false, ◌++◌}
use Rattle.std.specs.List.{AllByRecursion}
use Rattle.mica_words.specs.declared.hashing.Hashing.{Hashing}
use Rattle.partition_model.specs.declared.options.Options.{Options}
use Rattle.partition_model.specs.declared.write.Write.{Write}
use Rattle.partition_model.specs.History.{History}
use Rattle.memcached_text.specs.declared.item.Item.{Item}
use Rattle.memcached_commands.specs.Moments.{is_there}
use Rattle.fronts.specs.Flushes.{is_flush, flush_in}
use Rattle.fronts.specs.Looks.{when_after}
use Rattle.memcached_decisions.specs.Numbered.{moment_at}

-- If it is a flush, it was asked for at this second or later, or is due by then. One at once is due by every second.
abbrev pub IsAskedSince : Hashing → ℕ → ℕ → Write → Type 0
IsAskedSince hashing buckets second write = is_flush hashing buckets write ≡ true → (second ≤ (flush_in write.key).asked) ⊎ ((flush_in write.key).due ≤ second)

-- An item that is not there at a second is at no later one, whatever its partition accepts meanwhile, where flushes were asked for since that second.
abbrev pub GoneStaysGone : Type 0
GoneStaysGone = (options : Options) (base second later : ℕ) (history more : History) (item : Item) → second ≤ later → AllByRecursion (IsAskedSince options.hashing options.buckets second) more
    → is_there (moment_at base (when_after options second history)) item ≡ false
    → is_there (moment_at base (when_after options later (history ++ more))) item ≡ false
