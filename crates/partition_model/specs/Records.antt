-- What holds of the records that a log has: one a key, in the order of their offsets, with values that fit.
use Rattle.std.specs.Prelude.{◌≡◌, ◌≤◌, List, [], ◌∷◌, None, find}
use Rattle.std.specs.List.{AllByRecursion}
use Rattle.mica_words.specs.Item.{StoredFits}
use Rattle.partition_model.specs.Cache.{Record, has_key}

-- no key has two records
abbrev pub IsUnique : List Record → Type 0
IsUnique [] = Unit {0}
IsUnique (r ∷ rs) = (find (has_key r.key) rs ≡ None) × IsUnique rs

-- the records' offsets rise
abbrev pub AreRising : List Record → Type 0
AreRising [] = Unit {0}
AreRising (r ∷ rs) = AllByRecursion (λ later. r.offset ≤ later.offset) rs × AreRising rs

-- their values fit
abbrev pub ValuesFit : List Record → Type 0
ValuesFit records = AllByRecursion (λ held. StoredFits held.value) records
