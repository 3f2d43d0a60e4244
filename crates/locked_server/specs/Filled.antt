-- What partitions begin with: the writes that filled them, before any port was bound.
use Rattle.std.specs.Prelude.{◌≡◌, ◌==◌, ◌++◌, ◌∷◌, ℕ, false, List, filter}
use Rattle.mica_words.specs.Hash.{partition_of}
use Rattle.partition_model.specs.declared.options.Options.{Options}
use Rattle.partition_model.specs.declared.write.Write.{Write}
use Rattle.partition_model.specs.declared.write.Outcome.{Outcome}
use Rattle.partition_model.specs.Write.{is_accepted}
use Rattle.partition_model.specs.History.{History, IsHistory, MayGive}
use Rattle.partition_words.specs.declared.state.OwnerState.{OwnerState}
use Rattle.partition_words.specs.OwnerState.{as_made}
use Rattle.partition_words.specs.Shape.{shape_of}

-- those of the writes that are to keys of the partition, in order
abbrev pub origin_of : Options → List Write → ℕ → History
origin_of options writes partition = filter (λ w. partition_of options.hashing w.key options.partitions == partition) writes

-- A write was refused: its partition accepted those before it, and may refuse this one after them.
pub record RefusesFilling (options : Options) (writes : List Write) : Type 0 where
  pub before : List Write
  pub write : Write
  pub later : List Write
  pub split : writes ≡ before ++ write ∷ later
  pub accepted : IsHistory options (origin_of options before (partition_of options.hashing write.key options.partitions))
  pub outcome : Outcome
  pub refused : is_accepted outcome ≡ false
  pub may : MayGive options (origin_of options before (partition_of options.hashing write.key options.partitions)) write outcome

-- an owner as made, which then accepted the writes of its history
pub record IsFilledOwner (options : Options) (owner : OwnerState) : Type 0 where
  pub accepted : IsHistory options owner.history
  pub state : owner ≡ record (as_made (shape_of options)) { words = owner.words; history = owner.history }
