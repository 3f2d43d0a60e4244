-- What became of a key in cache mode.
use Rattle.std.specs.Prelude.{◌≢◌, ℕ, ◌+◌, Bool, not, ◌&&◌, List, [], ◌∷◌, is_some, if◌then◌else◌}
use Rattle.partition_model.specs.declared.options.Options.{Options}
use Rattle.partition_model.specs.declared.write.Write.{Write}
use Rattle.partition_model.specs.declared.fate.Fate.{Fate}
use Rattle.partition_model.specs.declared.fate.Fate.TheVariants.{Never, Deleted, Displaced, Passed, Held}
use Rattle.partition_model.specs.Write.{GivesValue}
use Rattle.partition_model.specs.Cache.{Cache, start, record_of}
use Rattle.partition_model.specs.CacheStep.{after_write, without_passed, after}

-- whether the cache has a record of the key
abbrev pub has_record : Cache → List ℕ → Bool
has_record cache key = is_some (record_of cache key)

-- whether the key has a record before a change, and none after it
abbrev pub drops : Cache → Cache → List ℕ → Bool
drops old new key = has_record old key && not (has_record new key)

-- What accepted write number n makes of a key's fate: by deleting it, by passing it, or by displacing it.
-- A record that is replaced at once gives no fate.
abbrev pub fate_after : Options → Cache → Write → ℕ → List ℕ → Fate → Fate
fate_after options cache write n key before =
    let one : Cache = after_write options cache write in
    let two : Cache = without_passed options one in
    let three : Cache = after options cache write in
    if has_record three key then Held
    else (if drops cache one key then Deleted n
    else (if drops one two key then Passed n
    else (if drops two three key then Displaced n
    else before)))

-- the fate from write number n on, where the key's fate before it is given
abbrev pub fate_from : Options → Cache → ℕ → List ℕ → Fate → List Write → Fate
fate_from options cache n key before [] = before
fate_from options cache n key before (write ∷ later) =
    fate_from options (after options cache write) (n + 1) key (fate_after options cache write n key before) later

-- the write gives the key no value
abbrev pub GivesNoValue : List ℕ → Write → Type 0
GivesNoValue key write = GivesValue write.op → write.key ≢ key

-- the fate of a key after a history
unfoldable pub fate_of : Options → List Write → List ℕ → Fate
fate_of options history key = fate_from options start 1 key Never history
