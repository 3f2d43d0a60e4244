use Rattle.std.proofs.Common.{◌≡◌, ◌++◌, ℕ, List, length, map, slice_get, Some, sym, ap, ◌∙◌, subst, arith}
use Rattle.std.specs.Prelude.{Result, Ok, Err}
use Rattle.std.proofs.lemmas.List.{length-map}
use Rattle.std.proofs.lemmas.Result.{err_from_is_err_and}
use Rattle.partition_table.specs.declared.tables.KeptSeat.{KeptSeat}
use Rattle.partition_table.specs.Tabled.{kept_seat_in}
use Rattle.server_words.specs.declared.limits.TheConstants.{MAX_BATCHES}
use Rattle.fronts.specs.declared.totals.Totals.{Totals}
use Rattle.fronts.specs.declared.totals.ServeFault.{ServeFault}
use Rattle.mica_serve.specs.declared.worker.OwnerTask.{OwnerTask}
use Rattle.served.specs.Others.{alone}
use Rattle.served.specs.Served.{empty_origin}
use Rattle.served.specs.Ends.{EndFacts, ServesFronts, end_facts}
use Rattle.fronts.specs.Totals.{IsUpTo}
use Rattle.served.specs.FrontRuns.{SumsUp}
use Rattle.served.proofs.Gathered.{all_ran, few_answers, small_answers}
use Rattle.served.proofs.SumsUp.{sums_beside}
use Rattle.mica_serve.proofs.service.serve_all.Given as given
use Rattle.mica_serve.proofs.service.serve_all.Goals as goal

abbrev facts : (g : given.Over) → g.row.D.Denot → EndFacts
facts g = end_facts g.D.Datagrams

-- the seats that the owners may leave
abbrev entry : (g : given.Over) → OwnerTask g.row.P.Denot → KeptSeat
entry g task = kept_seat_in (g.P.Partition.owner task.part)

pub sum_up-requires-clause-few : goal.sum_up-requires-clause-few
sum_up-requires-clause-few g c =
    omega (
      arith,
      ap (λ (l : List (Result Totals ServeFault)). length l) c.as_slice.ensures.value,
      few_answers _ _ _ _ _ _ _ _ c.run_all-owners.ensures.ran,
      length-map c.args.ends.now.items (facts g),
      c.args.ends.now.ok,
      c.requires.many,
      c.requires.ports.fronts.1,
    )

pub sum_up-requires-clause-small : goal.sum_up-requires-clause-small
sum_up-requires-clause-small g c =
    subst (λ (l : List (Result Totals ServeFault)). (f : ℕ) (totals : Totals) → slice_get l f ≡ Some (Ok totals) → IsUpTo MAX_BATCHES totals) (sym c.as_slice.ensures.value)
    (small_answers _ _ _ _ _ _ _ _ c.run_all-owners.ensures.ran c.requires.ports.batches.1)

pub keep_all-requires-clause-room : goal.keep_all-requires-clause-room
keep_all-requires-clause-room g c =
    omega (
      arith,
      ap (λ (l : List KeptSeat). length l) c.requires.tables,
      length-map c.run_all-owners.result.0.items (entry g),
      c.run_all-owners.ensures.ran.taken.shapes.many,
      c.requires.options.partitions.1,
    )

pub returns-in_err-totals : goal.returns-in_err-totals
returns-in_err-totals g c =
    let is = err_from_is_err_and c.from_residual.result c.from_residual.ensures.1 in
    let same : c.from_residual.result ≡ Err c.in_err-totals.field-0.0 = is.1 ∙ ap Err is.2 in
    subst (λ (r : Result Totals ServeFault). ServesFronts alone c.args.options.now empty_origin c.args.ports.now.batches r c.args.tables.now (map (facts g) c.args.ends.now.items) (map (facts g) c.run_all-owners.new.ends.items)) (sym same)
    (all_ran alone _ _ _ c.requires.options.partitions.0 _ c.args.tables.now _ _ _ c.run_all-owners.ensures.ran (Err c.in_err-totals.field-0.0)
    (sums_beside alone c.run_all-owners.result.1.items (Err c.in_err-totals.field-0.0) (subst (λ (l : List (Result Totals ServeFault)). SumsUp l (Err c.in_err-totals.field-0.0)) c.as_slice.ensures.value c.in_err-totals.ensures)) c.requires.tables)

pub returns : goal.returns
returns g c =
    all_ran alone _ _ _ c.requires.options.partitions.0 _ c.keep_all.new.tables _ _ _ c.run_all-owners.ensures.ran (Ok c.in_ok-totals.totals)
    (sums_beside alone c.run_all-owners.result.1.items (Ok c.in_ok-totals.totals) (subst (λ (l : List (Result Totals ServeFault)). SumsUp l (Ok c.in_ok-totals.totals)) c.as_slice.ensures.value c.in_ok-totals.ensures))
    (c.keep_all.ensures ∙ ap (λ (l : List KeptSeat). l ++ map (entry g) c.run_all-owners.result.0.items) c.requires.tables)
