use Rattle.std.proofs.Common.{◌≡◌, ◌+◌, ◌<◌, ◌≤◌, ◌^◌, refl, sym, ap, ◌∙◌, subst, arith, None, Some}
use Rattle.std.specs.Option.{option_map}
use Rattle.std.specs.BTreeMap.{insert_entry}
use Rattle.std.specs.FinMap.{get, insert}
use Rattle.mica_model.specs.declared.cell.Cell.{Cell as CellInCode}
use Rattle.partition_model.specs.Store.{Cell, room_of, rooms, spares_behind, spares_in_use}
use Rattle.mica_model.specs.CellTable.{Table, cell_of, with_cells}
use Rattle.mica_model.specs.CellTableFields.{cells_of, table_of}
use Rattle.mica_model.proofs.CellEntries.{by_items}
use Rattle.mica_model.proofs.TableLemmas.{InBucket, in_bucket, found, room_among, after_put, read_count, counted, few_keys, table_over, table_new}
use Rattle.mica_model.proofs.cell_table.CellTable.put.Goals.{After-bucket_of-bucket, After-insert, In-None, In-Some}
use Rattle.mica_model.proofs.cell_table.CellTable.put.Goals as goal

here : (c : After-bucket_of-bucket) → InBucket c.self.inside c.args.key.now c.bucket_of-bucket.result
here c = in_bucket c.self.inside c.args.key.now c.bucket_of-bucket.result _ c.self.view_is c.bucket_of-bucket.ensures.within c.bucket_of-bucket.ensures.value

-- what is asked of the words and the spares, of the table's own cells
words : (c : After-bucket_of-bucket) → rooms (cells_of c.self.inside) + c.args.room < 2 ^ 32 + room_of (get (cells_of c.self.inside) c.args.key.now)
words c = subst (λ (t : Table). rooms t.cells + c.args.room < 2 ^ 32 + room_of (get t.cells c.args.key.now)) (sym c.self.view_is) c.requires.words

few : (c : After-bucket_of-bucket) → spares_in_use c.self.inside.hashing c.self.inside.buckets (cells_of c.self.inside) ≤ 65536
few c = subst (λ (t : Table). spares_in_use t.hashing t.buckets t.cells ≤ 65536) (sym c.self.view_is) c.requires.spares

-- the cell that the key had, if it had one, and the cells that it then has
had : (c : In-Some) → get (cells_of c.self.inside) c.args.key.now ≡ Some (cell_of c.in-Some.old)
had c = found c.self.inside c.self.invariant _ c.args.key.now c.in_ok-from_slice.ensures.items _ c.in_ok-old.ensures.old ∙ ap (option_map cell_of) c.in-Some.is

none : (c : In-None) → get (cells_of c.self.inside) c.args.key.now ≡ None
none c = found c.self.inside c.self.invariant _ c.args.key.now c.in_ok-from_slice.ensures.items _ c.in_ok-old.ensures.old ∙ ap (option_map cell_of) c.in-None.is

module _ (c : After-insert) where
  abbrev cell : Cell
  cell = record { value = c.args.value.now; room = c.args.room }

  new : (stored : CellInCode) → c.insert.new.self.entries ≡ insert_entry by_items c.self.inside.cells.entries c.in_ok-from_slice.field-0 stored
      → cell_of stored ≡ record { value = c.in_ok-copy.field-0; room = c.args.room }
      → cells_of (record c.self.inside { cells = c.insert.new.self }) ≡ insert (cells_of c.self.inside) c.args.key.now cell
  new stored is stored_is =
      after_put c.self.inside c.self.invariant c.in_ok-from_slice.field-0 stored c.args.key.now cell c.in_ok-from_slice.ensures.items
      (stored_is ∙ ap (λ v. record { value = v; room = c.args.room }) c.in_ok-copy.ensures) c.insert.new.self.entries is

pub overflow_sub-self : goal.overflow_sub-self
overflow_sub-self c = room_among c.self.inside c.self.invariant c.args.key.now _ (had (goal.at.overflow_sub-self c).In-Some)

pub overflow_add-self : goal.overflow_add-self
overflow_add-self c =
    let z = goal.at.overflow_add-self c in
    let among = room_among c.self.inside c.self.invariant c.args.key.now _ (had z.In-Some) in
    let room = ap room_of (had z.In-Some) in
    let sum = c.self.invariant.rooms in
    omega (arith, words z.After-bucket_of-bucket)

pub invariant_of-self-in-Some : goal.invariant_of-self-in-Some
invariant_of-self-in-Some c =
    let z = goal.at.invariant_of-self-in-Some c in
    table_over c.self.inside c.self.invariant c.args.key.now _ (cell z.After-insert) (had z.In-Some) c.insert.new.self (c.in_ok-old.ensures.ordered, new z.After-insert _ c.in_ok-old.ensures.entries refl)

pub overflow_add-self-in-None : goal.overflow_add-self-in-None
overflow_add-self-in-None c =
    let z = goal.at.overflow_add-self-in-None c in
    let room = ap room_of (none z.In-None) in
    let sum = c.self.invariant.rooms in
    omega (arith, words z.After-bucket_of-bucket)

pub overflow_add-keys : goal.overflow_add-keys
overflow_add-keys c =
    let z = (goal.at.overflow_add-keys c).After-bucket_of-bucket in
    let count = read_count c.self.inside c.self.invariant c.args.key.now c.bucket_of-bucket.result (here z) c.index.result.now c.index.ensures in
    omega (arith, few_keys c.self.inside c.self.invariant c.args.key.now c.bucket_of-bucket.result (here z) (few z))

pub set-requires-clause-counted : goal.set-requires-clause-counted
set-requires-clause-counted c =
    counted c.self.inside c.self.invariant c.args.key.now c.bucket_of-bucket.result (here (goal.at.set-requires-clause-counted c).After-bucket_of-bucket)

pub set-requires-clause-fits : goal.set-requires-clause-fits
set-requires-clause-fits c =
    let z = (goal.at.set-requires-clause-fits c).After-bucket_of-bucket in
    let count = ap spares_behind (read_count c.self.inside c.self.invariant c.args.key.now c.bucket_of-bucket.result (here z) c.index.result.now c.index.ensures) in
    let sum = c.self.invariant.spares in
    omega (arith, few z)

pub invariant_of-self-in-None : goal.invariant_of-self-in-None
invariant_of-self-in-None c =
    let z = goal.at.invariant_of-self-in-None c in
    let at = here z.After-bucket_of-bucket in
    table_new c.self.inside c.self.invariant c.args.key.now c.bucket_of-bucket.result at (cell z.After-insert) (none z.In-None) (few z.After-bucket_of-bucket)
    c.index.result.now (read_count c.self.inside c.self.invariant c.args.key.now c.bucket_of-bucket.result at c.index.result.now c.index.ensures)
    c.set.new.self (record { keys = c.set.ensures.keys; spares = c.set.ensures.spares })
    c.insert.new.self (c.in_ok-old.ensures.ordered, new z.After-insert _ c.in_ok-old.ensures.entries refl)

pub returns-in-Some-clause-ok : goal.returns-in-Some-clause-ok
returns-in-Some-clause-ok c =
    let z = (goal.at.returns-in-Some-clause-ok c).After-insert in
    ap (with_cells (table_of c.self.inside)) (new z _ c.in_ok-old.ensures.entries refl) ∙ ap (λ (u : Table). with_cells u (insert u.cells c.args.key.now (cell z))) c.self.view_is

pub returns-in-None-clause-ok : goal.returns-in-None-clause-ok
returns-in-None-clause-ok c =
    let z = (goal.at.returns-in-None-clause-ok c).After-insert in
    ap (with_cells (table_of c.self.inside)) (new z _ c.in_ok-old.ensures.entries refl) ∙ ap (λ (u : Table). with_cells u (insert u.cells c.args.key.now (cell z))) c.self.view_is
