-- What fills the partitions of a server that stays up, and what is written where that can't be had.
use Rattle.std.specs.Prelude.{◌≡◌, ◌≢◌, ◌≤◌, ◌⊎◌, ℕ, List, [], codes, Option, Some, None, IfSome}
use Rattle.outside.specs.Faults.{Rose}
use Rattle.partition_model.specs.declared.write.Write.{Write}
use Rattle.store_image.specs.declared.fault.ImageFault.{ImageFault}
use Rattle.store_image.specs.declared.fault.ImageFault.TheVariants.{NoMemory as NoSpace}
use Rattle.store_image.specs.ImageGrammar.{Pair, SpellsImage, first_fault, fault_name}
use Rattle.store_image.specs.ImageWrites.{put_writes}
use Rattle.option_words.specs.Words.{Text}
use Rattle.daemon.specs.declared.status.DaemonStatus.{DaemonStatus}
use Rattle.daemon.specs.declared.status.DaemonStatus.TheVariants.{TraceLong, ReadFault, ImageRefused}
use Rattle.server_words.specs.Limits.{IsTooLong}
use Rattle.server_words.specs.Output.{SinkFacts, with_line_feed}
use Rattle.daemon.specs.Written.{IsWritten, IsUnwritten}
use Rattle.daemon.specs.Files.{FilesFacts}

-- the bytes of a file, which are those that are told
abbrev pub OfFile : Option (List ℕ) → (List ℕ → Type 0) → Type 0
OfFile told of_bytes = (bytes : List ℕ) × IfSome told (λ b. bytes ≡ b) × ¬ (IsTooLong bytes) × of_bytes bytes

-- the writes put the pairs of the image that the bytes are, in its order
abbrev pub PutsImage : List Write → List ℕ → Type 0
PutsImage writes bytes = (pairs : List Pair) × SpellsImage bytes pairs × (writes ≡ put_writes pairs)

-- the writes that fill the partitions: those of the image of the file of this name, or none
abbrev pub Fills : FilesFacts → Option Text → List Write → Type 0
Fills files None writes = writes ≡ []
Fills files (Some name) writes = OfFile (files.file name) (PutsImage writes)

-- the text that is due of bytes that are no image: the line of their first fault
abbrev pub IsDueOfBytes : DaemonStatus → List ℕ → List ℕ → Type 0
IsDueOfBytes ImageRefused bytes text = (fault : ImageFault) × (first_fault bytes ≡ Some fault) × (text ≡ with_line_feed (fault_name fault))
IsDueOfBytes _ bytes text = ⊥

-- what became of an image that was refused for the fault
abbrev pub IsRefusedImage : ImageFault → SinkFacts → SinkFacts → DaemonStatus → Type 0
IsRefusedImage fault old new result =
    IsUnwritten old new result ⊎ ((fault ≢ NoSpace) × IsWritten ImageRefused (with_line_feed (fault_name fault)) old new result)

-- the text that is due where the file has no image
abbrev pub IsDueOfFile : FilesFacts → FilesFacts → Option Text → DaemonStatus → List ℕ → Type 0
IsDueOfFile old new None status text = ⊥
IsDueOfFile old new (Some name) TraceLong text = IfSome (old.file name) IsTooLong × (text ≡ with_line_feed (codes "trace too long"))
IsDueOfFile old new (Some name) ReadFault text = Rose old.faults new.faults × (text ≡ with_line_feed (codes "read fault"))
IsDueOfFile old new (Some name) status text = OfFile (old.file name) (λ bytes. IsDueOfBytes status bytes text)

-- no file is read where none is named
abbrev pub KeepsFiles : Option Text → FilesFacts → FilesFacts → Type 0
KeepsFiles None old new = new ≡ old
KeepsFiles (Some name) old new = old.faults ≤ new.faults
