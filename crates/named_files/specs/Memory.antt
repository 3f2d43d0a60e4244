-- What a place in memory tells.
use Rattle.std.specs.Prelude.{ℕ, List, length, map, Option, Some, None, option_map}
use Rattle.named_files.specs.declared.memory.MemVersion.{MemVersion}
use Rattle.named_files.specs.declared.memory.MemPlace.{MemPlace}
use Rattle.named_files.specs.Files.{Version, FileState}

abbrev pub version_of : MemVersion → Version
version_of version = record { file = option_map (λ bytes. bytes.items) version.file; kept = version.kept }

abbrev pub state_in : MemPlace → FileState
state_in place = record { past = map version_of place.past.items; now = version_of place.newest; first = place.first; beside = place.beside.items; kept = place.kept }

-- all of a file on the disk
abbrev pub settled : Option (List ℕ) → Version
settled None = record { file = None; kept = 0 }
settled (Some bytes) = record { file = Some bytes; kept = length bytes }
