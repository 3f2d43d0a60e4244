use Rattle.std.proofs.Common.{rules, ◌≡◌, ◌∷◌, ◌++◌, ◌≤◌, ℕ, [], List, length, refl, sym, ap, ◌∙◌, arith}
use Rattle.std.specs.Prelude.{slice_get, drop, Some}
use Rattle.connections.specs.declared.schedule.Step.TheVariants.{Opens, TurnsAway, Reports, Happens}
use Rattle.connections.specs.Connection.{new_connection}
use Rattle.connections.specs.State.{opened, reported, turned_away}
use Rattle.std.proofs.Math.ListN.{drop_of_length-le}
use Rattle.memory_connections.proofs.Pending.{got, next_pending, next_owed}
use Rattle.memory_connections.proofs.Stages.{stays_told, stage_opened, stage_turned, stage_reported, stage_happened, stage_paid}
use Rattle.memory_connections.proofs.Timing.{told_as, passes_by}
use Rattle.memory_connections.proofs.stage.Stage.next.Goals as goal

pub invariant_of-self : goal.invariant_of-self
invariant_of-self c =
    let i = c.self.inside in
    let a = c.in-Some-Opens in
    let same : a.field-0.now ≡ Opens a.window a.bytes = search rules in
    let is : slice_get i.schedule.now i.at ≡ Some (Opens a.window a.bytes) = got i.schedule.now i.at a.field-0.now (Opens a.window a.bytes) a.ensures.lookup.0 a.ensures.lookup.1 same in
    let low : c.free_number-number.result ≤ length i.all.items = search rules in
    let e = stage_opened i.schedule.now i.at i.owed.items i.paid i.all.items i.log.entries i.log.room c.self.invariant.0 a.window a.bytes c.free_number-number.result is low in
    let items : c.push_reserved.new.self.items ≡ i.all.items ++ new_connection c.free_number-number.result a.window a.bytes ∷ [] = search rules in
    let passes = passes_by i.schedule.now i.at i.owed.items i.paid i.all.items i.log.entries i.log.room c.self.invariant.0 (opened c.free_number-number.result) _ (next_pending i.schedule.now i.at i.owed.items i.paid (Opens a.window a.bytes) is) in (
      stays_told e _ c.push_reserved.new.self.items c.note_at.new.self.entries c.note_at.new.self.room items c.note_at.ensures.entries c.note_at.ensures.room,
      omega (arith, c.self.invariant.1, c.note_at.ensures.room),
      omega (arith, c.self.invariant.2, c.note_at.ensures.room, c.push_reserved.ensures.len, c.push_reserved.ensures.capacity, e.room_for),
      told_as c.self.invariant.3 (opened c.free_number-number.result) 0 passes (search rules) e.room_for _ c.note_at.new.self.entries c.note_at.new.self.room (search rules) c.note_at.ensures.entries c.note_at.ensures.room,
    )

pub invariant_of-self-in-Some-TurnsAway : goal.invariant_of-self-in-Some-TurnsAway
invariant_of-self-in-Some-TurnsAway c =
    let i = c.self.inside in
    let a = c.in-Some-TurnsAway in
    let same : a.field-0.now ≡ TurnsAway = search rules in
    let is : slice_get i.schedule.now i.at ≡ Some (TurnsAway) = got i.schedule.now i.at a.field-0.now (TurnsAway) a.ensures.lookup.0 a.ensures.lookup.1 same in
    let e = stage_turned i.schedule.now i.at i.owed.items i.paid i.all.items i.log.entries i.log.room c.self.invariant.0 is in
    let passes = passes_by i.schedule.now i.at i.owed.items i.paid i.all.items i.log.entries i.log.room c.self.invariant.0 (turned_away) _ (next_pending i.schedule.now i.at i.owed.items i.paid (TurnsAway) is) in (
      stays_told e _ i.all.items c.note_at-in-Some-TurnsAway.new.self.entries c.note_at-in-Some-TurnsAway.new.self.room refl c.note_at-in-Some-TurnsAway.ensures.entries c.note_at-in-Some-TurnsAway.ensures.room,
      omega (arith, c.self.invariant.1, c.note_at-in-Some-TurnsAway.ensures.room),
      omega (arith, c.self.invariant.2, c.note_at-in-Some-TurnsAway.ensures.room),
      told_as c.self.invariant.3 (turned_away) 0 passes (search rules) e.room_for _ c.note_at-in-Some-TurnsAway.new.self.entries c.note_at-in-Some-TurnsAway.new.self.room (search rules) c.note_at-in-Some-TurnsAway.ensures.entries c.note_at-in-Some-TurnsAway.ensures.room,
    )

pub invariant_of-self-in-Some-Reports : goal.invariant_of-self-in-Some-Reports
invariant_of-self-in-Some-Reports c =
    let i = c.self.inside in
    let a = c.in-Some-Reports in
    let same : a.field-0.now ≡ Reports a.place a.change = search rules in
    let is : slice_get i.schedule.now i.at ≡ Some (Reports a.place a.change) = got i.schedule.now i.at a.field-0.now (Reports a.place a.change) a.ensures.lookup.0 a.ensures.lookup.1 same in
    let e = stage_reported i.schedule.now i.at i.owed.items i.paid i.all.items i.log.entries i.log.room c.self.invariant.0 a.place a.change c.change_at-number.result is in
    let passes = passes_by i.schedule.now i.at i.owed.items i.paid i.all.items i.log.entries i.log.room c.self.invariant.0 (reported c.change_at-number.result) _ (next_pending i.schedule.now i.at i.owed.items i.paid (Reports a.place a.change) is) in (
      stays_told e _ c.change_at-number.new.all.items c.note_at-in-Some-Reports.new.self.entries c.note_at-in-Some-Reports.new.self.room c.change_at-number.ensures.after c.note_at-in-Some-Reports.ensures.entries c.note_at-in-Some-Reports.ensures.room,
      omega (arith, c.self.invariant.1, c.note_at-in-Some-Reports.ensures.room),
      omega (arith, c.self.invariant.2, c.note_at-in-Some-Reports.ensures.room, c.change_at-number.ensures.len, c.change_at-number.ensures.capacity),
      told_as c.self.invariant.3 (reported c.change_at-number.result) a.change.passes passes (search rules) e.room_for _ c.note_at-in-Some-Reports.new.self.entries c.note_at-in-Some-Reports.new.self.room (search rules) c.note_at-in-Some-Reports.ensures.entries c.note_at-in-Some-Reports.ensures.room,
    )

pub invariant_of-self-in-Some-Happens : goal.invariant_of-self-in-Some-Happens
invariant_of-self-in-Some-Happens c =
    let i = c.self.inside in
    let a = c.in-Some-Happens in
    let same : a.field-0.now ≡ Happens a.place a.change = search rules in
    let is : slice_get i.schedule.now i.at ≡ Some (Happens a.place a.change) = got i.schedule.now i.at a.field-0.now (Happens a.place a.change) a.ensures.lookup.0 a.ensures.lookup.1 same in
    let e = stage_happened i.schedule.now i.at i.owed.items i.paid i.all.items i.log.entries i.log.room c.self.invariant.0 a.place a.change c.change_at-number-in-Some-Happens.result is in
    let passes = passes_by i.schedule.now i.at i.owed.items i.paid i.all.items i.log.entries i.log.room c.self.invariant.0 (reported c.change_at-number-in-Some-Happens.result) _ (next_pending i.schedule.now i.at i.owed.items i.paid (Happens a.place a.change) is) in (
      stays_told e _ c.change_at-number-in-Some-Happens.new.all.items c.note_at-in-Some-Happens.new.self.entries c.note_at-in-Some-Happens.new.self.room c.change_at-number-in-Some-Happens.ensures.after c.note_at-in-Some-Happens.ensures.entries c.note_at-in-Some-Happens.ensures.room,
      omega (arith, c.self.invariant.1, c.note_at-in-Some-Happens.ensures.room),
      omega (arith, c.self.invariant.2, c.note_at-in-Some-Happens.ensures.room, c.change_at-number-in-Some-Happens.ensures.len, c.change_at-number-in-Some-Happens.ensures.capacity),
      told_as c.self.invariant.3 (reported c.change_at-number-in-Some-Happens.result) a.change.passes passes (search rules) e.room_for _ c.note_at-in-Some-Happens.new.self.entries c.note_at-in-Some-Happens.new.self.room (search rules) c.note_at-in-Some-Happens.ensures.entries c.note_at-in-Some-Happens.ensures.room,
    )

pub invariant_of-self-in-None : goal.invariant_of-self-in-None
invariant_of-self-in-None c =
    let i = c.self.inside in
    let place = c.in_ok-place-in-None.field-0.now in
    let over : drop i.at i.schedule.now ≡ [] = drop_of_length-le i.schedule.now c.in-None.ensures.lookup.3 in
    let l = c.in_ok-place-in-None.ensures.lookup in
    let is : slice_get i.owed.items i.paid ≡ Some place = ap (λ (r : List ℕ). slice_get r i.paid) (sym c.deref.ensures.value) ∙ got c.deref.result.now i.paid place place l.0 l.1 refl in
    let e = stage_paid i.schedule.now i.at i.owed.items i.paid i.all.items i.log.entries i.log.room c.self.invariant.0 place c.change_at-number-in-None.result over is in
    let passes = passes_by i.schedule.now i.at i.owed.items i.paid i.all.items i.log.entries i.log.room c.self.invariant.0 (reported c.change_at-number-in-None.result) _ (next_owed i.schedule.now i.at i.owed.items i.paid place over is) in (
      stays_told e _ c.change_at-number-in-None.new.all.items c.note_at-in-None.new.self.entries c.note_at-in-None.new.self.room c.change_at-number-in-None.ensures.after c.note_at-in-None.ensures.entries c.note_at-in-None.ensures.room,
      omega (arith, c.self.invariant.1, c.note_at-in-None.ensures.room),
      omega (arith, c.self.invariant.2, c.note_at-in-None.ensures.room, c.change_at-number-in-None.ensures.len, c.change_at-number-in-None.ensures.capacity),
      told_as c.self.invariant.3 (reported c.change_at-number-in-None.result) 0 passes (search rules) e.room_for _ c.note_at-in-None.new.self.entries c.note_at-in-None.new.self.room (search rules) c.note_at-in-None.ensures.entries c.note_at-in-None.ensures.room,
    )
