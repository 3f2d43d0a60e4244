-- What becomes of a value that is looked at and written with nothing between.
use Rattle.std.specs.Prelude.{◌≡◌, ◌⊎◌, ℕ, Bool, false, List, [], Option, Some, None, ⊤}
use Rattle.partition_model.specs.declared.options.Options.{Options}
use Rattle.partition_model.specs.declared.write.Op.TheVariants.{Put, Del}
use Rattle.partition_model.specs.declared.write.Write.{Write}
use Rattle.partition_model.specs.declared.write.Answer.{Answer}
use Rattle.partition_model.specs.declared.write.Outcome.{Outcome}
use Rattle.partition_model.specs.Write.{write_of}
use Rattle.partition_model.specs.Answer.{IsAnswer}
use Rattle.partition_model.specs.declared.change.Change.{Change}
use Rattle.partition_model.specs.declared.change.Change.TheVariants.{Stay, Become, Go}
use Rattle.fronts.specs.declared.changing.Changed.{Changed}
use Rattle.fronts.specs.declared.changing.When.{When}
use Rattle.fronts.specs.Looks.{Look}
use Rattle.fronts.specs.Session.{Session, Changes, Keeps}

-- What a decision makes of a key's value.
pub data Becoming : Type 0 where
  stays : Becoming
  becomes : List ℕ → Becoming
  goes : Becoming

-- the decision in memory, where the buffer has the next value
abbrev pub IsChange : Becoming → Change → List ℕ → Type 0
IsChange stays Stay next = ⊤
IsChange (becomes value) Become next = next ≡ value
IsChange goes Go next = ⊤
IsChange _ _ _ = ⊥

-- The decision leaves whatever is found, and goes by nothing that it is told.
abbrev pub OnlyGets : (When → Option (List ℕ) → Becoming) → Type 0
OnlyGets becoming = (when : When) (found : Option (List ℕ)) → becoming when found ≡ stays

-- What is told of when a value was looked at: all of it. Of a decision that only reads it need not be told how many writes there were.
abbrev pub TellsWhen : (When → Option (List ℕ) → Becoming) → When → When → Type 0
TellsWhen becoming told when = (told ≡ when) ⊎ (OnlyGets becoming × (told ≡ record when { written = told.written }))

-- The write that it is, if any. A put does also where the key has no value, and what is not there is not deleted.
abbrev pub write_for : List ℕ → Option (List ℕ) → Becoming → Option Write
write_for key value stays = None
write_for key value (becomes next) = Some (write_of Put key next)
write_for key None goes = None
write_for key (Some value) goes = Some (write_of Del key [])

-- the write of a change in memory
abbrev pub written_by : List ℕ → List ℕ → Change → Option Write
written_by key next Stay = None
written_by key next Become = Some (write_of Put key next)
written_by key next Go = Some (write_of Del key [])

-- how many writes were made
abbrev pub count_of : Option Outcome → ℕ
count_of None = 0
count_of (Some outcome) = 1

-- what a decision asks of a look
abbrev pub write_by : (When → Option (List ℕ) → Becoming) → List ℕ → Look → Option Write
write_by becoming key look = write_for key look.value (becoming look.when look.value)

-- the answer to a get, which was made where the value is needed
abbrev pub IsFound : Bool → Option Answer → List ℕ → Option (List ℕ) → Type 0
IsFound needs None buffer value = needs ≡ false
IsFound needs (Some answer) buffer value = IsAnswer answer buffer value

-- the write of a decision was done, with this outcome; or there was none
abbrev pub DoesWrite : Options → Bool → Session → List ℕ → Option Write → Option Outcome → ℕ → Look → Session → Type 0
DoesWrite options is_alone old key None None stamp look new = Keeps options old key stamp look new
DoesWrite options is_alone old key (Some write) (Some outcome) stamp look new =
    Changes options is_alone old (record { write = write; outcome = outcome; stamp = stamp }) look new
DoesWrite _ _ _ _ _ _ _ _ _ = ⊥

-- What a change came to: the value was looked at at this second, and what was decided of it was done.
pub record ComesTo (options : Options) (is_alone : Bool) (second : ℕ) (key : List ℕ) (needs : Bool) (becoming : When → Option (List ℕ) → Becoming) (old : Session)
    (changed : Changed) (buffer : List ℕ) (new : Session) : Type 0 where
  pub look : Look
  pub found : IsFound needs changed.found buffer look.value
  pub at : look.when.second ≡ second
  pub tells : TellsWhen becoming changed.when look.when
  pub does : DoesWrite options is_alone old key (write_by becoming key look) changed.outcome changed.stamp look new
