-- In store mode a key has a value only where a line of the trace gives it one.
use Rattle.std.proofs.Common.{arith}
use Rattle.std.proofs.Common.{rules}
use Rattle.std.proofs.lemmas.Grind.{common_steps}
use Rattle.std.proofs.Common.{◌≡◌, ◌≢◌, ℕ, List, [], ◌∷◌, ◌++◌, Some, None, Bool, true, false, cond, fold, refl, sym, ap, ◌∙◌, subst}
use Rattle.std.specs.Prelude.{◌||◌, option_map}
use Rattle.std.specs.List.{cons_option, AllByRecursion}
use Rattle.std.specs.Str.{bytes_eq}
use Rattle.std.specs.FinMap.{get, get-empty, get-remove}
use Rattle.std.specs.Ordering.{nat_cmp, eq_by_cmp}
use Rattle.std.specs.Cmp.Lexicographic.{slice_cmp, nat_list_cmp_total}
use Rattle.std.proofs.lemmas.Bool.{true≢false}
use Rattle.std.proofs.lemmas.Slice.Eq.{bytes_eq-Decides}
use Rattle.partition_model.specs.declared.options.Options.{Options}
use Rattle.partition_model.specs.declared.options.Mode.TheVariants.{Store as StoreMode}
use Rattle.partition_model.specs.declared.write.Op.TheVariants.{Del as DelOp}
use Rattle.partition_model.specs.declared.write.Write.{Write}
use Rattle.partition_model.specs.Write.{GivesValue}
use Rattle.partition_model.specs.Fate.{GivesNoValue}
use Rattle.partition_model.specs.Store as store
use Rattle.partition_model.specs.StoreStep as ss
use Rattle.partition_model.specs.History.{History, store_state, after, answer_of, value_in}
use Rattle.partition_model.specs.Run.{history_of}
use Rattle.partition_model.proofs.StoreLaws.{others_same}
use Rattle.mica_trace.specs.declared.line.TraceOp.{TraceOp}
use Rattle.mica_trace.specs.declared.line.TraceLine.{TraceLine}
use Rattle.mica_trace.specs.declared.report.Line.{Line}
use Rattle.mica_trace.specs.Rounds.{is_in_partition, write_by}
use Rattle.mica_trace.specs.LawfulReport.{step_by, steps_of}
use Rattle.mica_trace.proofs.Standing.{history_first}
use Rattle.store_image.specs.PutKeys.{key_by, put_key, put_keys, has_key}

pub start_none : (key : List ℕ) → get store.start.cells key ≡ None
unfolding store.start
start_none key = get-empty (slice_cmp nat_cmp) key

module _ (options : Options) (key : List ℕ) where
  after_del : (s : store.Store) (write : Write) → get s.cells key ≡ None → get (ss.after_op DelOp s write).cells key ≡ None
  after_del s write none = grind (arith, get-remove nat_list_cmp_total s.cells write.key key, eq_by_cmp (slice_cmp nat_cmp) key write.key, none)

  still_none : (s : store.Store) (write : Write) → GivesNoValue key write → get s.cells key ≡ None → get (ss.after s write).cells key ≡ None
  unfolding ss.after
  still_none s write leaves none = search (rules, others_same, none, get, after_del, leaves, GivesValue)

  none_from : (s : store.Store) (history : History) → AllByRecursion (GivesNoValue key) history → get s.cells key ≡ None → value_in (fold (after options) (store_state s) history) key ≡ None
  none_from s [] all none = ap (option_map (λ cell. cell.value)) none
  none_from s (write ∷ history) all none = none_from (ss.after s write) history all.1 (still_none s write all.0 none)

  -- a history that gives a key no value leaves none
  pub none_left : options.mode ≡ StoreMode → (history : History) → AllByRecursion (GivesNoValue key) history → answer_of options history key ≡ None
  none_left mode history all = search (rules, mode, none_from, start_none)

  -- lines that put no such key leave no such write

  abbrev PutsNot : TraceLine → Type 0
  PutsNot line = put_key line ≢ Some key

  module _ (k v : List ℕ) (h : History) (all : AllByRecursion (GivesNoValue key) h) where
    leaves : (op : TraceOp) (r : Line) → (key_by op k ≢ Some key) → AllByRecursion (GivesNoValue key) (history_of (cons_option (step_by (write_by op k v) r) []) ++ h)
    leaves op r not = grind (arith, common_steps)

  pub none_written : (p : ℕ) (lines : List TraceLine) (report : List Line) → AllByRecursion PutsNot lines → AllByRecursion (GivesNoValue key) (history_of (steps_of options p lines report))
  none_written p [] report all = tt
  none_written p (line ∷ lines) [] all = tt
  none_written p (line ∷ lines) (r ∷ report) all =
      let later = none_written p lines report all.1 in
      elim (is_in_partition options p line) as (λ b. AllByRecursion (GivesNoValue key) (history_of (cons_option (cond b (step_by (write_by line.op line.key line.value) r) None) (steps_of options p lines report)))) [
        | true ↦
            subst (AllByRecursion (GivesNoValue key)) (sym (history_first (step_by (write_by line.op line.key line.value) r) (steps_of options p lines report)))
            (leaves line.key line.value (history_of (steps_of options p lines report)) later line.op r all.0)
        | false ↦ later
      ]

  pub not_put : (lines : List TraceLine) → has_key (put_keys lines) key ≡ false → AllByRecursion PutsNot lines
  not_put [] lacks = tt
  not_put (line ∷ lines) lacks =
      elim (put_key line) as (λ o. has_key (cons_option o (put_keys lines)) key ≡ false → (o ≢ Some key) × AllByRecursion PutsNot lines) [
        | None ↦ λ e. ((λ is. absurd (cc)), not_put lines e)
        | Some k ↦ λ e.
            let parts = neither (bytes_eq k key) (has_key (put_keys lines) key) e in
            ((λ is. true≢false (sym ((bytes_eq-Decides k key).1 (let same : k ≡ key = cc in same)) ∙ parts.0)), not_put lines parts.1)
      ] lacks
    where
      neither : (a b : Bool) → (a || b) ≡ false → (a ≡ false) × (b ≡ false)
      neither true b e = absurd (true≢false e)
      neither false b e = (refl, e)
