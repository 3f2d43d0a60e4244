-- What the workers of a server have to do, and what each makes of it.
use Rattle.std.specs.Prelude.{◌≡◌, ◌*◌, ◌<◌, ◌≤◌, ℕ, false, List, [], map, length, slice_index_or, Some, IfSome, vec_capacity, Result}
use Rattle.atomic_table.specs.Seated.{TableId}
use Rattle.outside.specs.Traffic.{new_traffic}
use Rattle.partition_words.specs.declared.state.OwnerState.{OwnerState}
use Rattle.queue_front.specs.declared.queue_front.FrontPart.{FrontPart}
use Rattle.server_words.specs.declared.limits.TheConstants.{MAX_BATCHES}
use Rattle.fronts.specs.declared.totals.Totals.{Totals}
use Rattle.fronts.specs.declared.totals.ServeFault.{ServeFault}
use Rattle.mica_serve.specs.declared.worker.OwnerTask.{OwnerTask}
use Rattle.mica_serve.specs.declared.worker.FrontTask.{FrontTask}
use Rattle.mica_serve.specs.declared.server.Room.{Room}
use Rattle.mica_serve.specs.declared.server.Server.{Server}
use Rattle.server_words.specs.declared.ports.PortOptions.{PortOptions}
use Rattle.partition_model.specs.declared.options.Options.{Options}
use Rattle.queue_front.specs.QueueFront.{QueueView, IsQueueFront, stand_of, sessions_of, ended_part}
use Rattle.served.specs.Ends.{EndFacts}
use Rattle.served.specs.FrontRuns.{RunsFront}
use Rattle.mica_serve.specs.Hands.{OwnerEnd, IsReadyOwner, RanOwner, AreFrontsOf}

abbrev pub owner_end : {P : Type 0} → (P → OwnerState) → (P → TableId) → OwnerTask P → OwnerEnd
owner_end owner home task = record { state = owner task.part; table = home task.part; jobs = task.jobs; acks = task.acks.items }

-- A front was served at the end of its place by a front that had these parts, and has these once it ended.
pub record RanFront (batches : ℕ) (old : QueueView) (answer : Result Totals ServeFault) (parts : List FrontPart) (before after : EndFacts) : Type 0 where
  pub new : QueueView
  pub is : IsQueueFront new
  pub options_are : new.options ≡ old.options
  pub stands : map stand_of new.parts ≡ map stand_of old.parts
  pub ended : parts ≡ map (ended_part new.number) new.parts
  pub run : RunsFront old.options batches
      (record { answer = answer; old = sessions_of old.parts; new = sessions_of new.parts; left = old.left; left_after = new.left }) before after

module _ {D : Type 0} where
  -- a front with a new end
  pub record IsReadyFront (batches : ℕ) (facts : D → EndFacts) (task : FrontTask D) : Type 0 where
    pub front : QueueView
    pub front_is : task.front ≡ Some front
    pub few : batches ≤ MAX_BATCHES
    pub left : 255 * batches ≤ front.left
    pub unended : (facts task.end).has_ended ≡ false
    pub fresh : IfSome (facts task.end).traffic (λ t. t ≡ new_traffic t.left)

  pub record FrontRan (batches : ℕ) (facts : D → EndFacts) (old new : FrontTask D) : Type 0 where
    pub front : QueueView
    pub front_is : old.front ≡ Some front
    pub ran : RanFront batches front new.answer new.parts.items (facts old.end) (facts new.end)

module _ {D : Type 0} (batches : ℕ) (facts : D → EndFacts) where
  abbrev pub FrontsRan : List (FrontTask D) → List (FrontTask D) → Type 0
  FrontsRan xs ys = (length ys ≡ length xs) × ((i : ℕ) (d : FrontTask D) → i < length xs → FrontRan batches facts (slice_index_or xs i d) (slice_index_or ys i d))

module _ {P : Type 0} (owner : P → OwnerState) (home : P → TableId) where
  abbrev pub IsReadyTask : OwnerTask P → Type 0
  IsReadyTask task = IsReadyOwner (owner_end owner home task)

  abbrev pub TaskRan : OwnerTask P → OwnerTask P → Type 0
  TaskRan old new = RanOwner (owner_end owner home old) (owner_end owner home new)

  abbrev pub OwnersRan : List (OwnerTask P) → List (OwnerTask P) → Type 0
  OwnersRan xs ys = (length ys ≡ length xs) × ((i : ℕ) (d : OwnerTask P) → i < length xs → TaskRan (slice_index_or xs i d) (slice_index_or ys i d))

module _ {D : Type 0} where
  -- empty rows with room for so many fronts, and for what they come to
  pub record IsRoom (fronts : ℕ) (room : Room D) : Type 0 where
    pub paired : (room.paired.items ≡ []) × (fronts ≤ vec_capacity room.paired)
    pub ends : (room.ends.items ≡ []) × (fronts ≤ vec_capacity room.ends)
    pub hands : (room.hands.items ≡ []) × (fronts ≤ vec_capacity room.hands)
    pub answers : (room.answers.items ≡ []) × (fronts ≤ vec_capacity room.answers)

module _ {P D : Type 0} where
  -- the owners as made, a front before them for each port, and room for all
  pub record IsServer (owner : P → OwnerState) (home : P → TableId) (options : Options) (ports : PortOptions) (server : Server P D) : Type 0 where
    pub made : AreFrontsOf options ports.fronts (255 * ports.batches) (map (owner_end owner home) server.owners.items) server.fronts.items
    pub room : IsRoom (length server.fronts.items) server.room
