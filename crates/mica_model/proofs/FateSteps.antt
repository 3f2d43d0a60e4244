-- The fates that the machine keeps, after a step.
use Rattle.std.proofs.Common.{◌≡◌, ℕ, List, Option, Some, None, Bool, true, false, cond, not, ◌&&◌, refl, sym, ap, ◌∙◌, subst, is_some, leb, arith}
use Rattle.std.specs.Str.{bytes_eq}
use Rattle.std.proofs.lemmas.Bool.{true≢false}
use Rattle.std.proofs.lemmas.Slice.Eq.{bytes_eq-Decides}
use Rattle.std.proofs.lemmas.Grind.{common_steps}
use Rattle.partition_model.specs.declared.options.Options.{Options}
use Rattle.partition_model.specs.declared.write.Write.{Write}
use Rattle.partition_model.specs.declared.write.Op.{Op}
use Rattle.partition_model.specs.declared.write.Op.TheVariants.{Put, Add, Touch, Del}
use Rattle.partition_model.specs.declared.write.Outcome.TheVariants.{Stored, FullBlock}
use Rattle.partition_model.specs.declared.fate.Fate.{Fate}
use Rattle.partition_model.specs.declared.fate.Fate.TheVariants.{Deleted, Displaced, Passed, Held}
use Rattle.partition_model.specs.Options.{IsValid}
use Rattle.partition_model.specs.Write.{GivesValue, IsWrite, is_accepted, size_of}
use Rattle.partition_model.specs.Cache.{Cache, Record, record_of}
use Rattle.partition_model.specs.CacheStep as cs
use Rattle.partition_model.specs.Records.{IsUnique}
use Rattle.mica_model.specs.CacheFields.{Notes, fate_in, fate_written, marked_passed, marked_displaced, displaced_record}
use Rattle.partition_model.specs.Fate.{has_record, fate_after}
use Rattle.partition_model.proofs.Laid as laid
use Rattle.partition_model.proofs.CacheKept.{others_lack, IsKept, after_write_is}
use Rattle.partition_model.proofs.CacheLaws.{appended_own, reply_fits, written_same, written_held}
use Rattle.partition_model.proofs.FateLaws.{pick, live_wrote, left_live}
use Rattle.mica_model.proofs.FateMarks.{has, has_note, passed_fate, passed_has, displaced_fate, held_has}

pick_same : (had wrote live left : Bool) (n : ℕ) (written before : Fate) → (left ≡ true → live ≡ true) → (live ≡ true → wrote ≡ true)
    → (wrote ≡ true → written ≡ Held) → (wrote ≡ false → written ≡ cond had (Deleted n) before)
    → cond (live && not left) (Displaced n) (cond (wrote && not live) (Passed n) written) ≡ pick had wrote live left n before
pick_same had true true true n written before up up' held gone = held refl
pick_same true true true false n written before up up' held gone = refl
pick_same false true true false n written before up up' held gone = refl
pick_same true true false false n written before up up' held gone = refl
pick_same false true false false n written before up up' held gone = refl
pick_same true false false false n written before up up' held gone = gone refl
pick_same false false false false n written before up up' held gone = gone refl
pick_same had wrote false true n written before up up' held gone = absurd (true≢false (sym (up refl)))
pick_same had false true left n written before up up' held gone = absurd (true≢false (sym (up' refl)))

-- a write that is to store an item and is accepted is stored
stored_by : (options : Options) (write : Write) → is_accepted (cs.reply_to_item options write) ≡ true → cs.reply_to_item options write ≡ Stored
stored_by options write done = elim (leb (size_of write) options.words) as (λ b. is_accepted (cond b Stored FullBlock) ≡ true → cond b Stored FullBlock ≡ Stored) [ true ↦ λ e. refl | false ↦ λ e. cc ] done

-- an add that is accepted found no record
added_by : (options : Options) (write : Write) (found : Bool) → is_accepted (cs.reply_of Add options write found) ≡ true → cs.reply_of Add options write found ≡ Stored
added_by options write true done = cc
added_by options write false done = stored_by options write done

module _ (options : Options) (valid : IsValid options) (s : Cache) (kept : IsKept options s) (write : Write) (is : IsWrite write) (n : ℕ) (log : Notes)
    (right : (key : List ℕ) → has_record s key ≡ true → fate_in log key ≡ Held)
    (noted : Notes) (fate : Fate) (fate_is : fate ≡ fate_written (cs.reply_of write.op options write (has_record s write.key)) n (fate_in log write.key))
    (done : is_accepted (cs.reply_of write.op options write (has_record s write.key)) ≡ true)
    (notes : (key : List ℕ) → fate_in noted key ≡ cond (bytes_eq write.key key) fate (fate_in log key)) where
  abbrev one : Cache
  one = cs.after_write options s write

  abbrev two : Cache
  two = cs.without_passed options (cs.after_write options s write)

  unique_one : IsUnique (cs.after_write options s write).records
  unique_one = (after_write_is options s kept write is).unique

  -- of the written key

  touch_held : (o : Option Record) → record_of s write.key ≡ o → has_record (cs.after_touch o s write) write.key ≡ true → fate_written (cs.reply_of Touch options write (is_some o)) n (fate_in log write.key) ≡ Held
  touch_held None at here = absurd (true≢false (sym here ∙ ap is_some at))
  touch_held (Some held) at here = refl

  own_held : (op : Op) → op ≡ write.op → is_accepted (cs.reply_of op options write (has_record s write.key)) ≡ true → has_record (cs.after_op op options s write) write.key ≡ true
      → fate_written (cs.reply_of op options write (has_record s write.key)) n (fate_in log write.key) ≡ Held
  own_held Put at done here = ap (λ o. fate_written o n (fate_in log write.key)) (stored_by options write done)
  own_held Add at done here = ap (λ o. fate_written o n (fate_in log write.key)) (added_by options write (has_record s write.key) done)
  own_held Touch at done here = touch_held (record_of s write.key) refl here
  own_held Del at done here = absurd (true≢false (sym here ∙ ap is_some (others_lack write.key s.records)))

  touch_gone : (o : Option Record) → record_of s write.key ≡ o → has_record (cs.after_touch o s write) write.key ≡ false
      → fate_written (cs.reply_of Touch options write (is_some o)) n (fate_in log write.key) ≡ cond (is_some o) (Deleted n) (fate_in log write.key)
  touch_gone None at gone = refl
  touch_gone (Some held) at gone = absurd (true≢false (sym (ap is_some (appended_own options s write held.value)) ∙ gone))

  own_gone : (op : Op) → op ≡ write.op → has_record (cs.after_op op options s write) write.key ≡ false
      → fate_written (cs.reply_of op options write (has_record s write.key)) n (fate_in log write.key) ≡ cond (has_record s write.key) (Deleted n) (fate_in log write.key)
  own_gone Put at gone = absurd (true≢false (sym (written_held options s kept write is (λ gives. reply_fits options write write.op (has_record s write.key) gives done) (subst GivesValue at tt)) ∙ (ap (λ (op : Op). has_record (cs.after_op op options s write) write.key) (sym at) ∙ gone)))
  own_gone Add at gone = absurd (true≢false (sym (written_held options s kept write is (λ gives. reply_fits options write write.op (has_record s write.key) gives done) (subst GivesValue at tt)) ∙ (ap (λ (op : Op). has_record (cs.after_op op options s write) write.key) (sym at) ∙ gone)))
  own_gone Touch at gone = touch_gone (record_of s write.key) refl gone
  own_gone Del at gone = elim (has_record s write.key) as (λ b. fate_written (cs.reply_of Del options write b) n (fate_in log write.key) ≡ cond b (Deleted n) (fate_in log write.key)) [ true ↦ refl | false ↦ refl ]

  -- of each key, after the write itself

  wrote_held : (key : List ℕ) → has_record (cs.after_write options s write) key ≡ true → fate_in noted key ≡ Held
  wrote_held key here = grind (arith, common_steps, bytes_eq-Decides write.key key, own_held write.op refl done, true≢false, written_same options s write key)

  wrote_gone : (key : List ℕ) → has_record (cs.after_write options s write) key ≡ false → fate_in noted key ≡ cond (has_record s key) (Deleted n) (fate_in log key)
  wrote_gone key gone = grind (arith, common_steps, bytes_eq-Decides write.key key, own_gone write.op refl, true≢false, written_same options s write key)

  -- of each key, after the step

  pub fate_step : (key : List ℕ) (before : Fate) → before ≡ fate_in log key
      → fate_after options s write n key before
      ≡ fate_in (marked_displaced (Displaced n) (displaced_record options write.key (cs.without_passed options (cs.after_write options s write)).records)
      (marked_passed (Passed n) options.words (cs.after_write options s write).stamp (cs.after_write options s write).records noted)) key
  unfolding cs.after
  fate_step key before before_is =
      let passed = marked_passed (Passed n) options.words one.stamp one.records noted in
      let in_noted : has one.records key ≡ true → has_note noted key ≡ true = λ here. held_has noted key (wrote_held key here) in
      let after_passed = passed_fate (Passed n) options.words one.stamp one.records noted key unique_one in_noted in
      let in_passed : has two.records key ≡ true → has_note passed key ≡ true =
      λ here. passed_has (Passed n) options.words one.stamp one.records noted key ∙ in_noted (live_wrote options s write key here) in
      let after_displaced = displaced_fate options write.key (Displaced n) two.records passed key (laid.unique_filter _ one.records unique_one) in_passed in
      sym (after_displaced
      ∙ ap (λ f. cond (has_record two key && not (has_record (cs.without_displaced options write.key two) key)) (Displaced n) f) after_passed
      ∙ pick_same (has_record s key) (has_record one key) (has_record two key) (has_record (cs.without_displaced options write.key two) key) n (fate_in noted key) before
      (left_live options s write key) (live_wrote options s write key) (wrote_held key) (λ gone. wrote_gone key gone ∙ ap (λ f. cond (has_record s key) (Deleted n) f) (sym before_is)))
