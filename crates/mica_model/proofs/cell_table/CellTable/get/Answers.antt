use Rattle.std.proofs.Common.{refl, sym, ap, ◌∙◌, Option, Some, None, Bor, ◌≡◌}
use Rattle.std.specs.Option.{option_map, option_copied}
use Rattle.std.specs.FinMap.{get}
use Rattle.mica_model.specs.declared.cell.Cell.{Cell as CellInCode}
use Rattle.mica_model.specs.CellTable.{Table, cell_of}
use Rattle.mica_model.proofs.CellEntries.{sorted_entries, get_cell}
use Rattle.mica_model.proofs.cell_table.CellTable.get.Goals as goal

lent : (o : Option (Bor CellInCode)) → option_map (λ cell. cell_of cell.now) o ≡ option_map cell_of (option_copied o)
lent None = refl
lent (Some cell) = refl

pub returns : goal.returns
returns c =
    let es = c.self.inside.cells.entries in
    lent c.get.result ∙ ap (option_map cell_of) c.get.ensures.value
    ∙ sym (get_cell es (sorted_entries es c.self.invariant.ordered) c.args.key.now)
    ∙ ap (λ (t : Table). get t.cells c.args.key.now) c.self.view_is
