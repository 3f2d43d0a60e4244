use Rattle.std.proofs.Common.{◌≡◌, refl, ap, ◌∙◌, arith, Some}
use Rattle.std.specs.FinMap.{get, remove}
use Rattle.partition_model.specs.Store.{spares_behind}
use Rattle.mica_model.specs.CellTable.{Table, cell_of, with_cells}
use Rattle.mica_model.specs.CellTableFields.{cells_of, table_of}
use Rattle.mica_model.proofs.TableLemmas.{InBucket, in_bucket, found, room_among, after_remove, read_count, counted, less_count, table_less}
use Rattle.mica_model.proofs.cell_table.CellTable.remove.Goals.{After-bucket_of-bucket, In-Some}
use Rattle.mica_model.proofs.cell_table.CellTable.remove.Goals as goal

here : (c : After-bucket_of-bucket) → InBucket c.self.inside c.args.key.now c.bucket_of-bucket.result
here c = in_bucket c.self.inside c.args.key.now c.bucket_of-bucket.result _ c.self.view_is c.bucket_of-bucket.ensures.within c.bucket_of-bucket.ensures.value

-- the cell that the key had
had : (c : In-Some) → get (cells_of c.self.inside) c.args.key.now ≡ Some (cell_of c.in-Some.old)
had c = found c.self.inside c.self.invariant _ c.args.key.now refl _ c.in-Some.ensures.value

pub overflow_sub-self : goal.overflow_sub-self
overflow_sub-self c = room_among c.self.inside c.self.invariant c.args.key.now _ (had (goal.at.overflow_sub-self c).In-Some)

pub overflow_sub-keys : goal.overflow_sub-keys
overflow_sub-keys c =
    let z = goal.at.overflow_sub-keys c in
    let at = here z.After-bucket_of-bucket in
    let read = read_count c.self.inside c.self.invariant c.args.key.now c.bucket_of-bucket.result at c.index.result.now c.index.ensures in
    omega (arith, less_count c.self.inside c.self.invariant c.args.key.now c.bucket_of-bucket.result at (cell_of c.in-Some.old) (had z.In-Some) c.index.result.now read)

pub set-requires-clause-counted : goal.set-requires-clause-counted
set-requires-clause-counted c =
    counted c.self.inside c.self.invariant c.args.key.now c.bucket_of-bucket.result (here (goal.at.set-requires-clause-counted c).After-bucket_of-bucket)

pub set-requires-clause-fits : goal.set-requires-clause-fits
set-requires-clause-fits c =
    let at = here (goal.at.set-requires-clause-fits c).After-bucket_of-bucket in
    let count = ap spares_behind (read_count c.self.inside c.self.invariant c.args.key.now c.bucket_of-bucket.result at c.index.result.now c.index.ensures) in
    let small = c.self.invariant.small in
    omega arith

pub invariant_of-self : goal.invariant_of-self
invariant_of-self c =
    let z = goal.at.invariant_of-self c in
    let at = here z.After-bucket_of-bucket in
    table_less c.self.inside c.self.invariant c.args.key.now c.bucket_of-bucket.result at (cell_of c.in-Some.old) (had z.In-Some)
    c.index.result.now (read_count c.self.inside c.self.invariant c.args.key.now c.bucket_of-bucket.result at c.index.result.now c.index.ensures)
    c.set.new.self (record { keys = c.set.ensures.keys; spares = c.set.ensures.spares })
    c.remove.new.self (c.in-Some.ensures.ordered, after_remove c.self.inside c.self.invariant c.args.key.now c.remove.new.self.entries c.in-Some.ensures.entries)

pub returns-in-Some : goal.returns-in-Some
returns-in-Some c =
    ap (with_cells (table_of c.self.inside)) (after_remove c.self.inside c.self.invariant c.args.key.now c.remove.new.self.entries c.in-Some.ensures.entries)
    ∙ ap (λ (u : Table). with_cells u (remove u.cells c.args.key.now)) c.self.view_is

pub returns-in_default : goal.returns-in_default
returns-in_default c =
    ap (with_cells (table_of c.self.inside)) (after_remove c.self.inside c.self.invariant c.args.key.now c.remove.new.self.entries c.in_default.ensures.entries)
    ∙ ap (λ (u : Table). with_cells u (remove u.cells c.args.key.now)) c.self.view_is
