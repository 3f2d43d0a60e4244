-- The rule of a partition's table: what is kept of the words and the owner, and of each reader beside the owner.
use Rattle.std.specs.Prelude.{◌≡◌, ℕ, [], Bool, true, false}
use mathlib.Core.Option.{some}
use lib.ListN.{get_elem?}
use Rattle.mica_words.specs.declared.hashing.Hashing.TheVariants.{Fnv1a}
use Rattle.atomic_table.specs.Table.{State, Me}
use Rattle.partition_model.specs.declared.options.Mode.TheVariants.{Cache}
use Rattle.partition_words.specs.declared.shape.Shape.{Shape}
use Rattle.partition_words.specs.declared.state.OwnerState.{OwnerState}
use Rattle.partition_words.specs.declared.reader.ReaderState.{ReaderState}
use Rattle.partition_words.specs.OwnerState.{as_made}
use Rattle.partition_words.specs.Kept.{Kept}
use Rattle.partition_words.specs.ReaderState.{newcomer}
use Rattle.partition_words.specs.ReaderKept.{ReaderKept}
use Rattle.partition_words.specs.Joins.{lent, note_of, met_by, told}
use Rattle.partition_table.specs.declared.rule.View.{View}
use Rattle.partition_table.specs.declared.rule.View.TheVariants.{Owns, Reads, Spent}

abbrev pub Seated : Type 0
Seated = Me (Unit {0}) View

-- the owner's view is that of seat 0 alone, and a reader's goes with it
abbrev pub ViewKept : OwnerState → ℕ → View → Type 0
ViewKept owner seat (Owns o) = (seat ≡ 0) × (o ≡ owner)
ViewKept owner seat (Reads r) = ReaderKept owner r
ViewKept owner seat Spent = Unit {0}

-- The words are the owner's. No part speaks of two readers.
pub record IsLawful (s : State (Unit {0}) View) : Type 0 where
  pub owner : OwnerState
  pub words : s.words ≡ owner.words
  pub first : get_elem? s.views 0 ≡ some (Owns owner)
  pub kept : Kept owner
  pub each : (seat : ℕ) (v : View) → get_elem? s.views seat ≡ some v → ViewKept owner seat v

-- the view of the seat that comes with the table
abbrev pub first_view : Shape → View
first_view shape = Owns (as_made shape)

-- The state in a view, and some state in a view of another kind.

-- the shape of no table
abbrev pub no_shape : Shape
no_shape = record { mode = Cache; buckets = 0; spares = 0; words = 0; wear = 0; hashing = Fnv1a }

abbrev pub is_owner : View → Bool
is_owner (Owns o) = true
is_owner _ = false

abbrev pub owner_in : View → OwnerState
owner_in (Owns o) = o
owner_in _ = as_made no_shape

abbrev pub is_reader : View → Bool
is_reader (Reads r) = true
is_reader _ = false

abbrev pub reader_in : View → ReaderState
reader_in (Reads r) = r
reader_in _ = newcomer no_shape [] []

-- what a seat of this view splits off
abbrev pub view_lent : View → ReaderState
view_lent (Owns o) = lent o
view_lent (Reads r) = note_of r
view_lent Spent = newcomer no_shape [] []

-- the view of a seat that another was joined into
abbrev pub view_met : View → View → View
view_met (Owns o) other = Owns (met_by o (reader_in other))
view_met (Reads r) other = Reads (told r (reader_in other))
view_met Spent other = Spent
