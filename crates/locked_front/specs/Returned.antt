-- What is known of a partition and of its fronts once it was taken back from its lock.
use Rattle.std.specs.Prelude.{◌≡◌, ℕ, ◌≤◌, List, [], map}
use Rattle.atomic_table.specs.Seated.{TableId}
use Rattle.partition_model.specs.History.{IsPrefix}
use Rattle.partition_words.specs.declared.state.OwnerState.{OwnerState}
use Rattle.partition_words.specs.declared.state.Phase.TheVariants.{Idle}
use Rattle.partition_words.specs.Shape.{shape_of}
use Rattle.partition_words.specs.Joins.{met_by}
use Rattle.partition_table.specs.Seats.{reader_state}
use Rattle.fronts.specs.Placed.{Placed}
use Rattle.turn_book.specs.declared.rule.Entry.{Entry}
use Rattle.turn_book.specs.Entries.{BookView, book_view, entries_by}
use Rattle.locked_front.specs.declared.owned.Step.{Step}
use Rattle.locked_front.specs.declared.part.LockedPart.{LockedPart}
use Rattle.locked_front.specs.Plan.{Plan}
use Rattle.locked_front.specs.Owned.{Owned, owned_as, run_step}

-- what a partition begins with: it is as filled, and no turn was taken
pub record IsNew (plan : Plan) (number : ℕ) (home : TableId) (owner : OwnerState) (book : BookView Step) : Type 0 where
  pub book_is : book ≡ book_view (plan.books number) plan.fronts []
  pub home_is : home ≡ plan.homes number
  pub shape : owner.shape ≡ shape_of plan.options
  pub idle : owner.phase ≡ Idle
  pub closed : owner.closed ≡ 0
  pub history : owner.history ≡ plan.origin number

-- the machine's steps, each with its front
abbrev pub placed_in : List (Entry Step) → List Placed
placed_in entries = map (λ e. record { front = e.taker; step = run_step e.what }) entries

-- A front's part was taken in: of the partition's steps those of the front are just those that it answered, there are none of fronts that there
-- are not, and what its seat has seen begins the history.
pub record TookIn (old new : Owned) (part : LockedPart) : Type 0 where
  pub same : new ≡ owned_as old.number old.home (met_by old.owner (reader_state part.seat)) old.book
  pub own : entries_by part.taker.number old.book.entries ≡ part.taker.mine
  pub no_others : (number : ℕ) → old.book.takers ≤ number → entries_by number old.book.entries ≡ []
  pub seen : IsPrefix (reader_state part.seat).seen old.owner.history
