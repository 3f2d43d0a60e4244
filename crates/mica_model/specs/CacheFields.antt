-- The fields of the cache machine, as its methods speak of them.
use Rattle.std.specs.Prelude.{ℕ, ◌+◌, ◌==◌, Bool, List, Option, Some, None, is_some, find, remove, fold, count_by, position, option_map, unwrap_or, bytes_eq, if◌then◌else◌}
use Rattle.std.specs.List.{position_or_len}
use Rattle.std.specs.Ordering.{nat_cmp}
use Rattle.std.specs.Cmp.Lexicographic.{slice_cmp}
use Rattle.std.specs.BTreeMap.{is_at}
use Rattle.std.specs.Map.{lookup}
use Rattle.mica_words.specs.Hash.{bucket_of}
use Rattle.mica_words.specs.declared.entry.TheConstants.{SLOTS}
use Rattle.partition_model.specs.declared.options.Options.{Options}
use Rattle.mica_model.specs.declared.fates.Fates.{Fates}
use Rattle.partition_model.specs.declared.fate.Fate.{Fate}
use Rattle.partition_model.specs.declared.fate.Fate.TheVariants.{Never, Deleted as Gone, Held}
use Rattle.partition_model.specs.declared.write.Outcome.{Outcome}
use Rattle.partition_model.specs.declared.write.Outcome.TheVariants.{Stored, Deleted, Touched}
use Rattle.partition_model.specs.declared.write.Write.{Write}
use Rattle.partition_model.specs.Cache.{Record, Cache, has_key, is_live}
use Rattle.partition_model.specs.CacheStep.{kept_record, is_in_bucket}

-- how many records at the front a log of this many words has passed
abbrev pub passed_front : ℕ → ℕ → List Record → ℕ
passed_front words stamp records = position_or_len (λ held. is_live words stamp held.offset) records

-- the records without the one at a place, if there is a place
abbrev pub without_at : Option ℕ → List Record → List Record
without_at None records = records
without_at (Some at) records = remove records at

-- where the record stands in whose room a put is kept, if it is
abbrev pub kept_place : Options → Cache → Write → Option ℕ
kept_place options cache write =
    if is_some (kept_record options cache write) then position (has_key write.key) cache.records else None

-- where the record stands that is displaced, if one is
abbrev pub displaced_at : Options → List ℕ → List Record → Option ℕ
displaced_at options key records =
    let here : Record → Bool = is_in_bucket options (bucket_of options.hashing key options.buckets) in
    if count_by here records == SLOTS + 1 then position here records else None

-- the record that is displaced, if one is
abbrev pub displaced_record : Options → List ℕ → List Record → Option Record
displaced_record options key records =
    let here : Record → Bool = is_in_bucket options (bucket_of options.hashing key options.buckets) in
    if count_by here records == SLOTS + 1 then find here records else None

-- the notes of a machine: what became of each key, of which it has one
abbrev pub Notes : Type 0
Notes = List ℕ → Option Fate

abbrev pub notes_of : Fates → Notes
notes_of fates = λ key. lookup (is_at (λ k. slice_cmp nat_cmp key k.items)) fates.notes.entries

abbrev pub no_notes : Notes
no_notes = λ key. None

-- the fate that the notes have for a key, which is never without one
abbrev pub fate_in : Notes → List ℕ → Fate
fate_in notes key = unwrap_or (notes key) Never

-- the key's note, if it has one, says this fate
abbrev pub marked : List ℕ → Fate → Notes → Notes
marked key fate notes = λ k. if bytes_eq key k then option_map (λ _. fate) (notes k) else notes k

-- so does the note of each key whose record the log has passed
abbrev pub marked_passed : Fate → ℕ → ℕ → List Record → Notes → Notes
marked_passed fate words stamp records notes =
    fold (λ marks held. if is_live words stamp held.offset then marks else marked held.key fate marks) notes records

-- and that of a displaced record's key
abbrev pub marked_displaced : Fate → Option Record → Notes → Notes
marked_displaced fate None notes = notes
marked_displaced fate (Some held) notes = marked held.key fate notes

-- the fate of a key once a write to it had an outcome, where it had another before
abbrev pub fate_written : Outcome → ℕ → Fate → Fate
fate_written Stored number before = Held
fate_written Touched number before = Held
fate_written Deleted number before = Gone number
fate_written _ number before = before
