-- What a key of a store has behind one write more.
use Rattle.std.proofs.Common.{◌≡◌, ◌≢◌, ℕ, List, [], ◌∷◌, ◌++◌, Option, Some, None, cond, option_map, refl, sym, ap, ◌∙◌}
use Rattle.std.specs.FinMap.{get, get-insert, get-remove}
use Rattle.std.specs.Cmp.Lexicographic.{nat_list_cmp_total}
use Rattle.std.proofs.lemmas.Cmp.{eq_by_cmp_equiv}
use Rattle.partition_model.specs.declared.options.Options.{Options}
use Rattle.partition_model.specs.declared.options.Mode.TheVariants.{Store as StoreMode}
use Rattle.partition_model.specs.declared.write.Write.{Write}
use Rattle.partition_model.specs.declared.write.Op.{Op}
use Rattle.partition_model.specs.declared.write.Op.TheVariants.{Put, Del}
use Rattle.partition_model.specs.Write.{write_of, size_of}
use Rattle.partition_model.specs.Store as store
use Rattle.partition_model.specs.StoreStep as ss
use Rattle.partition_model.specs.History.{History, State, after, value_in, answer_of}
use Rattle.partition_model.proofs.Histories.{state_snoc, stored_in}
use Rattle.partition_model.proofs.StoreLaws.{others_same}

abbrev value_of : Option store.Cell → Option (List ℕ)
value_of found = option_map (λ (c : store.Cell). c.value) found

put_own : (s : store.Store) (key value : List ℕ) → store.value_in (ss.after s (write_of Put key value)) key ≡ Some value
unfolding ss.after
put_own s key value =
    let cell : store.Cell = record { value = value; room = ss.room_after (get s.cells key) (size_of (write_of Put key value)) } in
    ap value_of (get-insert nat_list_cmp_total s.cells key cell key ∙ ap (λ b. cond b (Some cell) (get s.cells key)) ((eq_by_cmp_equiv nat_list_cmp_total).refl key))

del_own : (s : store.Store) (key : List ℕ) → store.value_in (ss.after s (write_of Del key [])) key ≡ None
unfolding ss.after
del_own s key = ap value_of (get-remove nat_list_cmp_total s.cells key key ∙ ap (λ b. cond b None (get s.cells key)) ((eq_by_cmp_equiv nat_list_cmp_total).refl key))

deleted_by : (s : store.Store) (write : Write) (op : Op) → op ≡ Del → write.op ≡ op → store.value_in (ss.after s write) write.key ≡ None
unfolding ss.after
deleted_by s write op is own =
    ap (λ o. store.value_in (ss.after_op o s write) write.key) (own ∙ is)
    ∙ ap value_of (get-remove nat_list_cmp_total s.cells write.key write.key ∙ ap (λ b. cond b None (get s.cells write.key)) ((eq_by_cmp_equiv nat_list_cmp_total).refl write.key))

module _ (options : Options) (is_store : options.mode ≡ StoreMode) (h : History) where
  behind_write : (write : Write) (key : List ℕ) → answer_of options (h ++ write ∷ []) key ≡ store.value_in (ss.after (stored_in options is_store h).0 write) key
  behind_write write key =
      ap (λ (z : State). value_in z key) (state_snoc options h write) ∙ ap (λ (z : State). value_in (after options z write) key) (stored_in options is_store h).1

  pub put_is : (key value : List ℕ) → answer_of options (h ++ write_of Put key value ∷ []) key ≡ Some value
  put_is key value = behind_write (write_of Put key value) key ∙ put_own (stored_in options is_store h).0 key value

  pub del_is : (key : List ℕ) → answer_of options (h ++ write_of Del key [] ∷ []) key ≡ None
  del_is key = behind_write (write_of Del key []) key ∙ del_own (stored_in options is_store h).0 key

  pub other_is : (write : Write) (key : List ℕ) → key ≢ write.key → answer_of options (h ++ write ∷ []) key ≡ answer_of options h key
  other_is write key differ =
      behind_write write key
      ∙ ap value_of (others_same (stored_in options is_store h).0 write key differ)
      ∙ sym (ap (λ (z : State). value_in z key) (stored_in options is_store h).1)

  -- a delete of its key leaves none, whatever else stands in the write
  pub flushed_none : (write : Write) → write.op ≡ Del → answer_of options (h ++ write ∷ []) write.key ≡ None
  flushed_none write is = behind_write write write.key ∙ deleted_by (stored_in options is_store h).0 write write.op is refl
