-- A stamp is a word, by the acceptance of its last write, whatever the values and the wear.
use Rattle.std.proofs.Common.{◌≡◌, ◌^◌, ◌<◌, [], ◌∷◌, ◌++◌, ◌+◌, refl, sym, subst, arith, append_assoc}
use Rattle.std.specs.List.{AllByRecursion as AllOf}
use Rattle.std.proofs.lemmas.List.{append-nil}
use Rattle.std.proofs.lemmas.Grind.{common_steps}
use Rattle.mica_words.specs.Stamp.{tail_of}
use Rattle.partition_model.specs.declared.options.Options.{Options}
use Rattle.partition_model.specs.declared.options.Mode.{Mode}
use Rattle.partition_model.specs.declared.write.Write.{Write}
use Rattle.partition_model.specs.Limits.{last_tail}
use Rattle.partition_model.specs.Write.{IsWrite}
use Rattle.partition_model.specs.Cache as cache
use Rattle.partition_model.specs.CacheStep as cs
use Rattle.partition_model.specs.Store as store
use Rattle.partition_model.specs.StoreStep as ss
use Rattle.partition_model.specs.History.{History, State, cache_state, store_state, start, after, state_of, stamp_in, stamp_of, Allows, IsAcceptedAfter, IsHistoryFrom, IsHistory}
use Rattle.partition_model.proofs.CacheKept.{IsKept, after_write_is}
use Rattle.partition_model.proofs.CacheLaws as cache_laws
use Rattle.partition_model.proofs.StoreLaws.{stamp_is_length}
use Rattle.partition_model.proofs.Histories.{accepted_is_length, cache_has_room, state_snoc, unworn}

-- the largest item ends before the last offset
cache_fits : (options : Options) (s : cache.Cache) (write : Write) → IsKept options s → IsWrite write → tail_of s.stamp < last_tail → (cs.after options s write).stamp < 2 ^ 64
unfolding cs.after
cache_fits options s write kept is room = let most = (after_write_is options s kept write is).most in omega arith

store_adds : (s : store.Store) (write : Write) → (ss.after s write).stamp ≡ s.stamp + 1
unfolding ss.after
store_adds s write = grind (arith, common_steps)

module _ (options : Options) (wear : options.wear < 2 ^ 64) where
  one_fits : (before : History) (write : Write) → AllOf IsWrite before → IsWrite write → IsAcceptedAfter options before write → (now : State) → state_of options before ≡ now
      → stamp_in (after options now write) < 2 ^ 64
  one_fits before write writes is accepted (cache_state s) at =
      let allowed = subst (λ (t : State). Allows options t write accepted.0) at accepted.2 in
      cache_fits options s write (cache_laws.kept_in options before writes s at) is (cache_has_room options s write accepted.0 accepted.1 allowed)
  one_fits before write writes is accepted (store_state s) at =
      let fewer = unworn options before write accepted in
      let many = accepted_is_length options before in
      let stamp = stamp_is_length options before writes s at in
      let more = store_adds s write in
      omega arith

  all_push : (before : History) (write : Write) → AllOf IsWrite before → IsWrite write → AllOf IsWrite (before ++ write ∷ [])
  all_push [] write all is = (is, tt)
  all_push (w ∷ before) write all is = (all.0, all_push before write all.1 is)

  fits_from : (before later : History) → AllOf IsWrite before → AllOf IsWrite later → stamp_of options before < 2 ^ 64 → IsHistoryFrom options before later → stamp_of options (before ++ later) < 2 ^ 64
  fits_from before [] written writes small is = subst (λ (h : History). stamp_of options h < 2 ^ 64) (sym (append-nil before)) small
  fits_from before (write ∷ later) written writes small is =
      let next = one_fits before write written writes.0 is.0 (state_of options before) refl in
      subst (λ (h : History). stamp_of options h < 2 ^ 64) (append_assoc before (write ∷ []) later)
      (fits_from (before ++ write ∷ []) later (all_push before write written writes.0) writes.1
      (subst (λ (t : State). stamp_in t < 2 ^ 64) (sym (state_snoc options before write)) next) is.1)

  start_small : (mode : Mode) → stamp_in (start mode) < 2 ^ 64
  unfolding cache.start store.start
  start_small mode = grind (arith, common_steps)

  pub stamp_is_word : (history : History) → IsHistory options history → AllOf IsWrite history → stamp_of options history < 2 ^ 64
  stamp_is_word history is writes = fits_from [] history tt writes (start_small options.mode) is
