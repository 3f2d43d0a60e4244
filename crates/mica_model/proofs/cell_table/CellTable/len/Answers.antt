use Rattle.std.proofs.Common.{ap, ◌∙◌}
use Rattle.std.specs.FinMap.{len}
use Rattle.mica_model.specs.CellTable.{Table}
use Rattle.mica_model.proofs.CellEntries.{sorted_entries, number_of_cells}
use Rattle.mica_model.proofs.cell_table.CellTable.len.Goals as goal

pub returns-clause-number : goal.returns-clause-number
returns-clause-number c =
    let es = c.self.inside.cells.entries in
    c.len.ensures.len ∙ number_of_cells es (sorted_entries es c.self.invariant.ordered) ∙ ap (λ (t : Table). len t.cells) c.self.view_is
