-- The lines of an image, replayed from nothing, leave the image where none of them is refused.
use Rattle.std.proofs.Common.{arith}
use Rattle.std.proofs.Common.{rules}
use Rattle.std.proofs.lemmas.Grind.{common_steps}
use Rattle.std.proofs.Common.{◌≡◌, ◌≢◌, ℕ, List, [], ◌∷◌, Option, Some, None, Bool, true, false, cond, fold, map, refl, sym, ap, ◌∙◌, subst, eq-eqb}
use Rattle.std.specs.Prelude.{option_map}
use Rattle.std.specs.List.{cons_option, AllByRecursion, AllZip}
use Rattle.std.specs.List.Sorted.{IsStrictlySortedBy}
use Rattle.std.specs.Str.{bytes_eq}
use Rattle.std.specs.FinMap.{get, get-insert, slice_cmp-IsAntisymmetric, nat_cmp-IsAntisymmetric}
use Rattle.std.specs.declared.cmp.Ordering.{Ordering}
use Rattle.std.specs.declared.cmp.Ordering.TheVariants.{Less, Equal, Greater}
use Rattle.std.specs.Ordering.{nat_cmp, ordering_reverse, is_eq}
use Rattle.std.specs.Cmp.Lexicographic.{slice_cmp, nat_list_cmp_total}
use Rattle.std.proofs.lemmas.Bool.{true≢false}
use Rattle.std.proofs.lemmas.Slice.Eq.{bytes_eq-Decides}
use Rattle.mica_words.specs.Hash.{partition_of}
use Rattle.partition_model.specs.declared.options.Options.{Options}
use Rattle.partition_model.specs.declared.options.Mode.TheVariants.{Store as StoreMode}
use Rattle.partition_model.specs.declared.write.Op.{Op}
use Rattle.partition_model.specs.declared.write.Op.TheVariants.{Put as PutOp}
use Rattle.partition_model.specs.declared.write.Outcome.{Outcome}
use Rattle.partition_model.specs.declared.write.Write.{Write}
use Rattle.partition_model.specs.Write.{is_accepted, write_of, size_of}
use Rattle.partition_model.specs.Store as store
use Rattle.partition_model.specs.StoreStep as ss
use Rattle.partition_model.specs.History.{History, store_state, after, value_in as value_by}
use Rattle.partition_model.specs.Run.{RunStep, history_of}
use Rattle.partition_model.proofs.StoreLaws.{others_same}
use Rattle.mica_trace.specs.declared.report.Line.{Line}
use Rattle.mica_trace.specs.declared.report.Line.TheVariants.{Wrote, Hit, Miss, Sync as SyncLine}
use Rattle.mica_trace.specs.Rounds.{is_in_partition}
use Rattle.mica_trace.specs.LawfulReport.{IsLineFor, steps_of}
use Rattle.mica_trace.specs.ExactReport.{ExactReport}
use Rattle.store_image.specs.ImageGrammar.{Pair, key_of, KeysRise, IsImage}
use Rattle.store_image.specs.ImageLines.{put_line, put_lines}
use Rattle.store_image.specs.ImageOf.{value_in, value_after, HasPairsOf}
use Rattle.store_image.specs.Unpacked.{RefusesNothing}
use Rattle.store_image.proofs.PutOnly.{start_none}

abbrev cmp : List ℕ → List ℕ → Ordering
cmp = slice_cmp nat_cmp

-- Pairs with rising keys

own : (key : List ℕ) → bytes_eq key key ≡ true
own key = (bytes_eq-Decides key key).1 refl

differs : (a b : List ℕ) → a ≢ b → bytes_eq a b ≡ false
differs a b other = search (rules, bytes_eq, other, bytes_eq-Decides)

less_differs : (a b : List ℕ) → cmp a b ≡ Less → b ≢ a
less_differs a b less same = no (cmp a a) (ap (cmp a) (sym same) ∙ less) (nat_list_cmp_total.antisymm a a)
  where
    no : (o : Ordering) → o ≡ Less → o ≡ ordering_reverse o → ⊥
    no Less is e = cc
    no Equal is e = cc
    no Greater is e = cc

-- a key below all others has no value
below_none : (key : List ℕ) (pairs : List Pair) → AllByRecursion (λ z. cmp key z ≡ Less) (map key_of pairs) → value_in pairs key ≡ None
below_none key [] all = refl
below_none key (x ∷ pairs) all = grind (arith, cond, differs x.key key (less_differs key x.key all.0), below_none key pairs all.1)

below_more : (a b : List ℕ) (keys : List (List ℕ)) → cmp a b ≡ Less → AllByRecursion (λ z. cmp b z ≡ Less) keys → AllByRecursion (λ z. cmp a z ≡ Less) keys
below_more a b [] less all = tt
below_more a b (k ∷ keys) less all = (nat_list_cmp_total.trans a b k less all.0, below_more a b keys less all.1)

first_value : (x : Pair) (pairs : List Pair) → value_in (x ∷ pairs) x.key ≡ Some x.value
first_value x pairs = ap (λ b. cond b (Some x.value) (value_in pairs x.key)) (own x.key)

later_value : (x : Pair) (pairs : List Pair) (key : List ℕ) → x.key ≢ key → value_in (x ∷ pairs) key ≡ value_in pairs key
later_value x pairs key other = ap (λ b. cond b (Some x.value) (value_in pairs key)) (differs x.key key other)

-- those below another's first have no value there
no_value_before : (x y : Pair) (ys : List Pair) → KeysRise (y ∷ ys) → cmp x.key y.key ≡ Less → value_in (y ∷ ys) x.key ≡ None
unfolding IsStrictlySortedBy
no_value_before x y ys rise less = below_none x.key (y ∷ ys) (less, below_more x.key y.key (map key_of ys) less rise.0)

some_none : {X : Type 0} (x : X) → Some x ≡ None → ⊥
some_none x e = cc

-- with the same values and the same first key they are the same, where what is left is
same_first : (x y : Pair) (xs ys : List Pair) → KeysRise (x ∷ xs) → KeysRise (y ∷ ys) → ((key : List ℕ) → value_in (x ∷ xs) key ≡ value_in (y ∷ ys) key) → x.key ≡ y.key
    → (((key : List ℕ) → value_in xs key ≡ value_in ys key) → xs ≡ ys) → x ∷ xs ≡ y ∷ ys
unfolding IsStrictlySortedBy
same_first x y xs ys p q same is rest =
    grind (arith, first_value x xs, same x.key, value_in (y ∷ ys), first_value y ys, is, bytes_eq x.key, below_none x.key xs p.0, value_in ys, below_none y.key ys q.0, true≢false, later_value x xs, same, later_value y ys)

-- with the same values they are the same
pub same_pairs : (xs ys : List Pair) → KeysRise xs → KeysRise ys → ((key : List ℕ) → value_in xs key ≡ value_in ys key) → xs ≡ ys
unfolding IsStrictlySortedBy
same_pairs [] [] p q same = refl
same_pairs [] (y ∷ ys) p q same = absurd (some_none y.value (sym (first_value y ys) ∙ sym (same y.key)))
same_pairs (x ∷ xs) [] p q same = absurd (some_none x.value (sym (first_value x xs) ∙ same x.key))
same_pairs (x ∷ xs) (y ∷ ys) p q same =
    elim (cmp x.key y.key) as (λ o. cmp x.key y.key ≡ o → x ∷ xs ≡ y ∷ ys) [
      | Less ↦ λ is. absurd (some_none x.value (sym (first_value x xs) ∙ same x.key ∙ no_value_before x y ys q is))
      | Equal ↦ λ is. same_first x y xs ys p q same (slice_cmp-IsAntisymmetric nat_cmp-IsAntisymmetric x.key y.key is) (λ tails. same_pairs xs ys p.1 q.1 tails)
      | Greater ↦ λ is.
          let less : cmp y.key x.key ≡ Less = nat_list_cmp_total.antisymm y.key x.key ∙ ap ordering_reverse is in
          absurd (some_none y.value (sym (first_value y ys) ∙ sym (same y.key) ∙ no_value_before y x xs p less))
    ] refl

-- Puts, each of which was done

abbrev or_else : {X : Type 0} → Option X → Option X → Option X
or_else None other = other
or_else (Some x) other = Some x

self_equal : (key : List ℕ) → cmp key key ≡ Equal
self_equal key = by (cmp key key) (nat_list_cmp_total.antisymm key key)
  where
    by : (o : Ordering) → o ≡ ordering_reverse o → o ≡ Equal
    by Less e = cc
    by Equal e = refl
    by Greater e = cc

put_own : (s : store.Store) (key value : List ℕ) → value_by (store_state (ss.after s (write_of PutOp key value))) key ≡ Some value
unfolding ss.after
put_own s key value =
    let cell : store.Cell = record { value = value; room = ss.room_after (get s.cells key) (size_of (write_of PutOp key value)) } in
    ap (option_map (λ (c : store.Cell). c.value)) (get-insert nat_list_cmp_total s.cells key cell key
    ∙ ap (λ o. cond (is_eq o) (Some cell) (get s.cells key)) (self_equal key))

module _ (options : Options) (key : List ℕ) where
  abbrev p : ℕ
  p = partition_of options.hashing key options.partitions

  abbrev value_from : store.Store → History → Option (List ℕ)
  value_from s history = value_by (fold (after options) (store_state s) history) key

  abbrev history_for : List Pair → List Line → History
  history_for pairs report = history_of (steps_of options p (put_lines pairs) report)

  -- one pair more at the front, whose put was done
  module _ (s : store.Store) (x : Pair) (pairs : List Pair) (op : Op) (outcome : Outcome) (stamp : ℕ) (report : List Line) (rise : KeysRise (x ∷ pairs)) (accepted : is_accepted outcome ≡ true)
      (rest : (t : store.Store) → value_from t (history_for pairs report) ≡ or_else (value_in pairs key) (value_from t [])) where
    abbrev write : Write
    write = write_of PutOp x.key x.value

    abbrev step : RunStep
    step = record { write = write; outcome = outcome; stamp = stamp }

    -- by whether the pair is in the key's partition
    abbrev value_if : Bool → Option (List ℕ)
    value_if here = value_from s (history_of (cons_option (cond here (Some step) None) (steps_of options p (put_lines pairs) report)))

    with_write : value_if true ≡ value_from (ss.after s write) (history_for pairs report)
    with_write = ap (λ done. value_from s (cons_option (cond done (Some write) None) (history_for pairs report))) accepted

    mine : x.key ≡ key → value_if (is_in_partition options p (put_line x)) ≡ Some x.value
    unfolding IsStrictlySortedBy
    mine is =
        grind (arith, eq-eqb _ _ (ap (λ k. partition_of options.hashing k options.partitions) is), is, below_none x.key pairs rise.0, put_own s x.key x.value, with_write, rest (ss.after s write), or_else, (subst (λ k. value_by (store_state (ss.after s write)) k ≡ Some x.value) is (put_own s x.key x.value)))

    other : x.key ≢ key → value_if (is_in_partition options p (put_line x)) ≡ or_else (value_in pairs key) (value_from s [])
    other differs = search (rules, is_in_partition, with_write, rest, or_else, others_same, put_line, value_in, option_map, differs)

    one_put : value_if (is_in_partition options p (put_line x)) ≡ or_else (value_in (x ∷ pairs) key) (value_from s [])
    one_put =
        elim (bytes_eq x.key key) as (λ b. bytes_eq x.key key ≡ b → value_if (is_in_partition options p (put_line x)) ≡ or_else (cond b (Some x.value) (value_in pairs key)) (value_from s [])) [
          | true ↦ λ e. mine ((bytes_eq-Decides x.key key).0 e)
          | false ↦ λ e. other (λ h. true≢false (sym ((bytes_eq-Decides x.key key).1 h) ∙ e))
        ] refl

  -- the value of the key after the lines of these pairs
  puts_value : (s : store.Store) (pairs : List Pair) (report : List Line) → KeysRise pairs → AllZip IsLineFor (put_lines pairs) report → RefusesNothing report
      → value_from s (history_for pairs report) ≡ or_else (value_in pairs key) (value_from s [])
  unfolding IsStrictlySortedBy
  puts_value s [] [] rise lines done = refl
  puts_value s [] (r ∷ report) rise lines done = absurd lines
  puts_value s (x ∷ pairs) [] rise lines done = absurd lines
  puts_value s (x ∷ pairs) (Wrote op outcome stamp ∷ report) rise lines done =
      one_put s x pairs op outcome stamp report rise done.0 (λ t. puts_value t pairs report rise.1 lines.1 done.1)
  puts_value s (x ∷ pairs) (Hit stamp value ∷ report) rise lines done = absurd done.0
  puts_value s (x ∷ pairs) (Miss stamp ∷ report) rise lines done = absurd done.0
  puts_value s (x ∷ pairs) (SyncLine ∷ report) rise lines done = absurd done.0

  or_none : (o : Option (List ℕ)) → or_else o None ≡ o
  or_none o = grind (arith, common_steps)

  -- from nothing it is that of the image
  value_again : options.mode ≡ StoreMode → (pairs : List Pair) (report : List Line) → KeysRise pairs → AllZip IsLineFor (put_lines pairs) report → RefusesNothing report
      → value_after options (put_lines pairs) report key ≡ value_in pairs key
  value_again mode pairs report rise lines done = search (rules, mode, puts_value, or_else, start_none, or_none, value_in, option_map)

pub unpacked_again : (options : Options) (pairs : List Pair) (report : List Line) (again : List Pair) → options.mode ≡ StoreMode → IsImage pairs → IsImage again
    → ExactReport options (put_lines pairs) report → HasPairsOf options (put_lines pairs) report again → RefusesNothing report → again ≡ pairs
unpacked_again options pairs report again mode image image' exact has done = search (rules, same_pairs, has, value_again)
