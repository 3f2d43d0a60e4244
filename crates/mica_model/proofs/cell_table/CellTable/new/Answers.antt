use Rattle.std.proofs.Common.{sym, ap, ◌∙◌, length, arith}
use Rattle.std.specs.Prelude.{slice_index}
use Rattle.std.specs.FinMap.{from_sorted}
use Rattle.std.proofs.lemmas.List.{get_or-replicate, length-replicate}
use Rattle.partition_model.specs.Store.{keys_in, rooms, spares_in_use}
use Rattle.mica_model.specs.CellTableFields.{entries_of, HasCounts}
use Rattle.partition_model.proofs.CellSums.{by_bytes, no_cells, no_keys, no_rooms}
use Rattle.mica_model.proofs.SparesInUse.{no_spares}
use Rattle.mica_model.proofs.cell_table.CellTable.new.Goals as goal

pub invariant_of-result : goal.invariant_of-result
invariant_of-result c =
    let none = ap (λ es. from_sorted {R = by_bytes} (entries_of es)) c.new.ensures.empty ∙ no_cells in
    let counts : HasCounts c.args.hashing c.args.buckets c.in_ok-new.field-0.keys.items (from_sorted {R = by_bytes} (entries_of c.new.result.entries)) =
    λ bucket within. ap (λ xs. slice_index xs bucket) c.in_ok-new.ensures.keys ∙ get_or-replicate c.args.buckets bucket 0 0 within
    ∙ sym (ap (keys_in c.args.hashing c.args.buckets bucket) none ∙ no_keys c.args.hashing c.args.buckets bucket) in
    record {
      ordered = c.new.ensures.ordered;
      some = c.requires;
      len = ap length c.in_ok-new.ensures.keys ∙ length-replicate _ _;
      counts = counts;
      spares = c.in_ok-new.ensures.spares ∙ sym (ap (spares_in_use c.args.hashing c.args.buckets) none ∙ no_spares c.args.hashing c.args.buckets c.args.buckets);
      small = let none = c.in_ok-new.ensures.spares in omega arith;
      rooms = sym (ap rooms none ∙ no_rooms);
    }

pub returns : goal.returns
returns c = ap (λ es. record { hashing = c.args.hashing; buckets = c.args.buckets; cells = from_sorted (entries_of es) }) c.new.ensures.empty ∙ ap (λ cells. record { hashing = c.args.hashing; buckets = c.args.buckets; cells = cells }) no_cells
