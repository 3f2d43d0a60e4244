-- A stop and a start of a server.
use Rattle.std.specs.Prelude.{◌≡◌, ◌≤◌, ◌<◌, ℕ, List, [], ◌∷◌, None, Some, slice_get}
use Rattle.partition_model.specs.declared.options.Options.{Options}
use Rattle.partition_model.specs.History.{History, answer_of}
use Rattle.memcached_commands.specs.Moments.{found_in}
use Rattle.saved_items.specs.declared.items.Head.{Head}
use Rattle.saved_items.specs.Items.{SavedItems, Entry}
use Rattle.saved_items.specs.Spelling.{SpellsSaved}
use Rattle.saved_items.specs.Reading.{ReadsAs}
use Rattle.kept_items.specs.Parts.{Part, parts_of}
use Rattle.kept_items.specs.Kept.{behind}
use Rattle.kept_items.specs.Left.{SavesItems}
use Rattle.kept_items.specs.Loaded.{IsFilling, IsSameOrGone, next_after}
use Rattle.kept_items.specs.GoesOn.{IsSound}

-- the greatest of the next unique numbers behind entries, and one more number
abbrev pub next_behind : ℕ → List Entry → ℕ
next_behind next [] = next
next_behind next (entry ∷ entries) = next_behind (next_after next entry) entries

-- Each partition begins with what is loaded of its part, and unique numbers begin above all that were given.
pub record FillsAll (options : Options) (base start : ℕ) (entries : List Entry) (filled : ℕ → History) : Type 0 where
  pub parts : (number : ℕ) (part : Part) → slice_get (parts_of entries) number ≡ Some part → IsFilling options start part (filled number)
  pub above : next_behind 0 entries ≤ base

-- A server left a file, and one of the same hashing read it and began with its entries, at a second that is not earlier. From then on a command finds under each key
-- of each partition what it would have found had nothing happened; in a cache that, or nothing.
abbrev pub StopAndStart : Type 0
StopAndStart = (options options' : Options) (base base' second start later : ℕ) (histories filled : ℕ → History) (file : List ℕ) (saved : SavedItems) (head : Head) (entries : List Entry)
    → second ≤ start → start ≤ later
    → SpellsSaved file saved → SavesItems options base second histories saved
    → ReadsAs file head entries None → FillsAll options' base' start entries filled
    → (number : ℕ) → number < options.partitions → IsSound options base second (histories number)
    → (key : List ℕ)
    → IsSameOrGone options'.mode (found_in (behind options' base' later (filled number)) (answer_of options' (filled number) key))
    (found_in (behind options base later (histories number)) (answer_of options (histories number) key))
