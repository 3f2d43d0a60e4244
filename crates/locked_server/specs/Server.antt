-- A server as opened, with its partitions under their locks.
use Rattle.std.specs.Prelude.{◌≡◌, ◌≤◌, ℕ, List, [], map, vec_capacity}
use Rattle.std.specs.Global.{Vec}
use Rattle.locked_front.specs.Plan.{Plan}
use Rattle.locked_front.specs.declared.part.LockedPart.{LockedPart}
use Rattle.locked_server.specs.declared.server.KindRoom.{KindRoom}
use Rattle.locked_server.specs.declared.server.Room.{Room}
use Rattle.locked_server.specs.Opening.{AreNewHands}

-- an empty row with room for so many fronts and for what they come to
pub record IsKindRoom {T A : Type 0} (fronts : ℕ) (row : KindRoom T A) : Type 0 where
  pub tasks : (row.tasks.items ≡ []) × (fronts ≤ vec_capacity row.tasks)
  pub hands : (row.hands.items ≡ []) × (fronts ≤ vec_capacity row.hands)
  pub answers : (row.answers.items ≡ []) × (fronts ≤ vec_capacity row.answers)

module _ {P D C : Type 0} where
  -- and for all ends and partitions
  pub record IsRoom (streams fronts partitions : ℕ) (room : Room P D C) : Type 0 where
    pub streams_row : IsKindRoom streams room.streams
    pub fronts_row : IsKindRoom fronts room.fronts
    pub shares : (room.shares.items ≡ []) × (streams ≤ vec_capacity room.shares)
    pub ends : (room.ends.items ≡ []) × (fronts ≤ vec_capacity room.ends)
    pub parts : (room.parts.items ≡ []) × (partitions ≤ vec_capacity room.parts)

  -- So many partitions under locks, what each front has of them, and room for all. The fronts of connections come first.
  pub record IsLockedServer (plan : Plan) (streams fronts locks : ℕ) (stream_hands hands : List (Vec LockedPart)) (room : Room P D C) : Type 0 where
    pub locked : locks ≡ plan.options.partitions
    pub lent_streams : AreNewHands plan 0 streams (map (λ hand. hand.items) stream_hands)
    pub lent : AreNewHands plan streams fronts (map (λ hand. hand.items) hands)
    pub has_room : IsRoom streams fronts plan.options.partitions room
