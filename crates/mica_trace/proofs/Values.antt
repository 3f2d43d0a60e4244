-- Each value that a state has was written: what holds of all written values holds of those that the state has.
use Rattle.std.proofs.Common.{◌≡◌, ℕ, List, Option, Some, None, refl, sym, ◌∙◌, subst, cond, Bool, true, false, arith}
use Rattle.std.specs.List.{AllByRecursion as AllOf}
use Rattle.std.specs.Ordering.{nat_cmp, eq_by_cmp}
use Rattle.std.specs.Cmp.Lexicographic.{slice_cmp, nat_list_cmp_total}
use Rattle.std.specs.FinMap.{get, insert, get-insert, get-remove, get-empty}
use Rattle.std.proofs.lemmas.Option.{same_Some}
use Rattle.std.proofs.lemmas.Grind.{common_steps}
use Rattle.mica_words.specs.Hash.{bucket_of}
use Rattle.partition_model.specs.declared.options.Options.{Options}
use Rattle.partition_model.specs.declared.options.Mode.{Mode}
use Rattle.partition_model.specs.declared.options.Mode.TheVariants.{Cache as CacheMode, Store as StoreMode}
use Rattle.partition_model.specs.declared.write.Op.{Op}
use Rattle.partition_model.specs.declared.write.Op.TheVariants.{Put, Add, Touch, Del}
use Rattle.partition_model.specs.declared.write.Write.{Write}
use Rattle.partition_model.specs.Cache.{Record, Cache, has_key, is_live}
use Rattle.partition_model.specs.Cache as cache
use Rattle.partition_model.specs.CacheStep as cs
use Rattle.partition_model.specs.Store.{Cell, Store}
use Rattle.partition_model.specs.Store as store
use Rattle.partition_model.specs.Write.{GivesValue}
use Rattle.partition_model.specs.StoreStep as ss
use Rattle.partition_model.specs.History.{State, cache_state, store_state, start, after, value_in}
use Rattle.partition_model.proofs.Found.{found_has, all_filter, all_push, all_map, all_without_first}

module _ (P : List ℕ → Type 0) where
  abbrev pub ValuesAre : State → Type 0
  ValuesAre (cache_state s) = AllOf (λ r. P r.value) s.records
  ValuesAre (store_state s) = (key : List ℕ) (cell : Cell) → get s.cells key ≡ Some cell → P cell.value

  pub start_are : (mode : Mode) → ValuesAre (start mode)
  unfolding cache.start store.start
  start_are CacheMode = tt
  start_are StoreMode = λ key cell is. absurd (cc (get-empty (slice_cmp nat_cmp) key))

  rewritten : (write : Write) (b : Bool) (r : Record) → P write.value → P r.value → P (cond b (record r { value = write.value }) r).value
  rewritten write true r fits has = fits
  rewritten write false r fits has = has

  append_are : (s : Cache) (key value : List ℕ) → P value → AllOf (λ r. P r.value) s.records → AllOf (λ r. P r.value) (cs.after_append s (cs.new_record s key value)).records
  append_are s key value fits all = all_push (λ r. P r.value) _ (cs.new_record s key value) (all_filter (λ r. P r.value) _ s.records all) fits

  put_are : (found : Option Record) (s : Cache) (write : Write) → P write.value → AllOf (λ r. P r.value) s.records → AllOf (λ r. P r.value) (cs.after_put found s write).records
  put_are None s write fits all = append_are s write.key write.value fits all
  put_are (Some held) s write fits all = all_map (λ r. P r.value) _ s.records (λ r has. rewritten write (has_key write.key r) r fits has) all

  touch_are : (found : Option Record) (s : Cache) (write : Write) → cache.record_of s write.key ≡ found → AllOf (λ r. P r.value) s.records → AllOf (λ r. P r.value) (cs.after_touch found s write).records
  touch_are None s write at all = all
  touch_are (Some held) s write at all = append_are s write.key held.value (found_has (λ r. P r.value) (has_key write.key) s.records held all at) all

  cache_op_are : (op : Op) (options : Options) (s : Cache) (write : Write) → (GivesValue op → P write.value) → AllOf (λ r. P r.value) s.records → AllOf (λ r. P r.value) (cs.after_op op options s write).records
  cache_op_are Put options s write fits all = put_are (cs.kept_record options s write) s write (fits tt) all
  cache_op_are Add options s write fits all = append_are s write.key write.value (fits tt) all
  cache_op_are Touch options s write fits all = touch_are (cache.record_of s write.key) s write refl all
  cache_op_are Del options s write fits all = all_filter (λ r. P r.value) _ s.records all

  displaced_are : (b : Bool) (here : Record → Bool) (rs : List Record) → AllOf (λ r. P r.value) rs → AllOf (λ r. P r.value) (cond b (cs.without_first here rs) rs)
  displaced_are true here rs all = all_without_first (λ r. P r.value) here rs all
  displaced_are false here rs all = all

  store_put_are : (s : Store) (key : List ℕ) (cell : Cell) → P cell.value → ((k : List ℕ) (c : Cell) → get s.cells k ≡ Some c → P c.value)
      → (k : List ℕ) (c : Cell) → get (insert s.cells key cell) k ≡ Some c → P c.value
  store_put_are s key cell fits all k c is =
      elim (eq_by_cmp (slice_cmp nat_cmp) k key) as (λ b. cond b (Some cell) (get s.cells k) ≡ Some c → P c.value) [
        | true ↦ λ e. subst (λ x. P x.value) (same_Some cell c e) fits
        | false ↦ λ e. all k c e
      ] (sym (get-insert nat_list_cmp_total s.cells key cell k) ∙ is)

  store_op_are : (op : Op) (s : Store) (write : Write) → (GivesValue op → P write.value) → ((k : List ℕ) (c : Cell) → get s.cells k ≡ Some c → P c.value)
      → (k : List ℕ) (c : Cell) → get (ss.after_op op s write).cells k ≡ Some c → P c.value
  store_op_are Put s write fits all k c is = store_put_are s write.key _ (fits tt) all k c is
  store_op_are Add s write fits all k c is = store_put_are s write.key _ (fits tt) all k c is
  store_op_are Del s write fits all k c is =
      elim (eq_by_cmp (slice_cmp nat_cmp) k write.key) as (λ b. cond b None (get s.cells k) ≡ Some c → P c.value) [
        | true ↦ λ e. absurd (cc)
        | false ↦ λ e. all k c e
      ] (sym (get-remove nat_list_cmp_total s.cells write.key k) ∙ is)
  store_op_are Touch s write fits all k c is = all k c is

  pub after_are : (options : Options) (now : State) (write : Write) → (GivesValue write.op → P write.value) → ValuesAre now → ValuesAre (after options now write)
  unfolding cs.after ss.after
  after_are options (cache_state s) write fits all =
      displaced_are _ (cs.is_in_bucket options (bucket_of options.hashing write.key options.buckets)) _
      (all_filter (λ r. P r.value) _ (cs.after_write options s write).records (cache_op_are write.op options s write fits all))
  after_are options (store_state s) write fits all = store_op_are write.op s write fits all

  pub value_is : (now : State) (key value : List ℕ) → ValuesAre now → value_in now key ≡ Some value → P value
  value_is (cache_state s) key value all is = grind (arith, common_steps, same_Some, found_has)
  value_is (store_state s) key value all is = grind (arith, common_steps)
