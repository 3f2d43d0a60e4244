-- A step of the cache machine: its history, its state and its fates.
use Rattle.std.proofs.Common.{◌≡◌, ℕ, ◌+◌, ◌<◌, List, [], ◌∷◌, ◌++◌, length, Option, Some, None, true, false, cond, refl, sym, ap, ◌∙◌, subst, arith}
use Rattle.std.specs.List.{AllByRecursion as AllOf}
use Rattle.std.specs.Str.{bytes_eq}
use Rattle.mica_words.specs.Stamp.{tail_of}
use Rattle.std.specs.Global.{Vec}
use Rattle.std.proofs.lemmas.Grind.{common_steps}
use Rattle.partition_model.specs.declared.options.Options.{Options}
use Rattle.partition_model.specs.declared.write.Write.{Write}
use Rattle.partition_model.specs.declared.write.Op.{Op}
use Rattle.partition_model.specs.declared.write.Op.TheVariants.{Put, Add, Touch, Del}
use Rattle.partition_model.specs.declared.write.Outcome.{Outcome}
use Rattle.partition_model.specs.declared.fate.Fate.{Fate}
use Rattle.partition_model.specs.declared.fate.Fate.TheVariants.{Displaced, Passed, Held}
use Rattle.mica_model.specs.declared.fates.Fates.{Fates}
use Rattle.mica_model.specs.declared.cache_machine.CacheMachine.TheInside.{Inside}
use Rattle.mica_model.specs.CacheInside.{IsMachine, logged_of}
use Rattle.partition_model.specs.Write.{IsWrite, is_accepted}
use Rattle.partition_model.specs.Cache as cache
use Rattle.partition_model.specs.Cache.{Cache}
use Rattle.partition_model.specs.CacheStep as cs
use Rattle.partition_model.specs.Records.{AreRising}
use Rattle.mica_model.specs.CacheFields.{Notes, notes_of, fate_in, marked, fate_written, marked_passed, marked_displaced, displaced_record}
use Rattle.partition_model.specs.Fate.{has_record, fate_of, fate_after}
use Rattle.partition_model.specs.History.{History, State, cache_state, accepted_in, after, state_of, IsHistory, Allows}
use Rattle.mica_model.specs.Logged.{IsLoggedStep}
use Rattle.partition_model.proofs.CacheKept.{IsKept, after_write_is}
use Rattle.partition_model.proofs.CacheLaws.{kept_in}
use Rattle.mica_model.proofs.Passed.{laid_rising}
use Rattle.partition_model.proofs.FateLaws.{cache_of, state_is_cache, fate_snoc, right_in}
use Rattle.mica_model.proofs.FateSteps.{fate_step}
use Rattle.mica_model.proofs.FateMarks.{has_note, written_fates}
use Rattle.partition_model.proofs.Found.{all_push}
use Rattle.partition_model.proofs.Histories.{accepted_is_length, cache_unworn, state_snoc, history_snoc}

same_accepted : (op : Op) (options : Options) (s : Cache) (write : Write) → (cs.after_op op options s write).accepted ≡ s.accepted
same_accepted Put options s write = put_same (cs.kept_record options s write)
  where
    put_same : (o : Option cache.Record) → (cs.after_put o s write).accepted ≡ s.accepted
    put_same None = refl
    put_same (Some held) = refl
same_accepted Add options s write = refl
same_accepted Touch options s write = touch_same (cache.record_of s write.key)
  where
    touch_same : (o : Option cache.Record) → (cs.after_touch o s write).accepted ≡ s.accepted
    touch_same None = refl
    touch_same (Some held) = refl
same_accepted Del options s write = refl

written_accepted : (options : Options) (s : Cache) (write : Write) → (cs.after_write options s write).accepted ≡ s.accepted
written_accepted options s write = same_accepted write.op options s write

-- the state once the write is in it, and once what is dead is dropped
pub wrote_count : (options : Options) (s : Cache) (write : Write) (wrote : Cache) → wrote ≡ cs.after_write options s write → wrote.accepted ≡ s.accepted
wrote_count options s write wrote is = ap (λ (t : Cache). t.accepted) is ∙ written_accepted options s write

pub dropped_count : (options : Options) (s : Cache) (write : Write) (wrote dropped : Cache) → wrote ≡ cs.after_write options s write
    → dropped ≡ cs.without_displaced options write.key (cs.without_passed options wrote) → dropped.accepted ≡ s.accepted
dropped_count options s write wrote dropped wrote_is is = ap (λ (t : Cache). t.accepted) is ∙ wrote_count options s write wrote wrote_is

same_state : (s t : Cache) → cache_state s ≡ cache_state t → s ≡ t
same_state s t e = cc

module _ (a : Inside) (m : IsMachine a) where
  pub kept : IsKept a.options a.state
  kept = kept_in a.options a.log.items m.writes a.state m.state

  state_is : cache_of a.options a.log.items ≡ a.state
  state_is = same_state _ _ (sym (state_is_cache a.options m.mode a.log.items) ∙ m.state)

  right : (key : List ℕ) → has_record a.state key ≡ true → fate_in (notes_of a.fates) key ≡ Held
  right key here = sym (m.fates key) ∙ (right_in a.options a.log.items key).on (ap (λ (t : Cache). has_record t key) state_is ∙ here)

  pub rising : (write : Write) → IsWrite write → AreRising (cs.after_write a.options a.state write).records
  rising write is =
      let after = cs.after_write a.options a.state write in
      laid_rising 0 (tail_of after.stamp) after.records (after_write_is a.options a.state kept write is).laid

  module _ (write : Write) (outcome : Outcome) (replied : outcome ≡ cs.reply a.options a.state write) where
    allowed : Allows a.options (state_of a.options a.log.items) write outcome
    allowed = subst (λ (t : State). Allows a.options t write outcome) (sym m.state) replied

    pub refused_step : is_accepted outcome ≡ false → IsLoggedStep (logged_of a) write outcome (logged_of a)
    refused_step refused = grind (arith, common_steps)

    module _ (done : is_accepted outcome ≡ true) where
      pub unworn : a.state.accepted < a.options.wear
      unworn = cache_unworn a.options a.state write outcome done replied

      -- an accepted write has the reply of a partition that is not worn
      replied_unworn : outcome ≡ cs.reply_of write.op a.options write (has_record a.state write.key)
      unfolding cs.reply
      replied_unworn = grind (arith, common_steps)

      pub accepted_step : (later : History) → later ≡ a.log.items ++ write ∷ [] → IsLoggedStep (logged_of a) write outcome (record { options = a.options; history = later })
      accepted_step later is = grind (arith, common_steps)

      -- its state once the write is in it, and once what is dead is dropped
      module _ (wrote dropped : Cache) (wrote_is : wrote ≡ cs.after_write a.options a.state write) (dropped_is : dropped ≡ cs.without_displaced a.options write.key (cs.without_passed a.options wrote)) where
        counted : record dropped { accepted = dropped.accepted + 1 } ≡ cs.after a.options a.state write
        unfolding cs.after
        counted = grind (arith, common_steps)

        -- its notes once the key has one, once that says the key's fate, and once what is dead is dropped
        module _ (is : IsWrite write) (number : ℕ) (number_is : number ≡ wrote.accepted + 1) (added noted : Notes) (fate : Fate) (fates : Fates)
            (has : has_note added write.key ≡ true) (same : (key : List ℕ) → fate_in added key ≡ fate_in (notes_of a.fates) key)
            (fate_is : fate ≡ fate_written outcome number (fate_in added write.key)) (noted_is : noted ≡ marked write.key fate added)
            (fates_are : notes_of fates ≡ marked_displaced (Displaced number) (displaced_record a.options write.key (cs.without_passed a.options wrote).records)
            (marked_passed (Passed number) a.options.words wrote.stamp wrote.records noted)) where
          count : number ≡ length a.log.items + 1
          count = number_is ∙ ap (λ n. n + 1) (wrote_count a.options a.state write wrote wrote_is ∙ sym (ap accepted_in m.state) ∙ accepted_is_length a.options a.log.items)

          written : fate ≡ fate_written (cs.reply_of write.op a.options write (has_record a.state write.key)) number (fate_in (notes_of a.fates) write.key)
          written = grind (arith, common_steps, replied_unworn)

          noted_fates : (key : List ℕ) → fate_in noted key ≡ cond (bytes_eq write.key key) fate (fate_in (notes_of a.fates) key)
          noted_fates key = ap (λ (n : Notes). fate_in n key) noted_is ∙ written_fates write.key fate added has key ∙ ap (cond (bytes_eq write.key key) fate) (same key)

          later_fates : (key : List ℕ) → fate_of a.options (a.log.items ++ write ∷ []) key ≡ fate_in (notes_of fates) key
          later_fates key =
              let was = fate_of a.options a.log.items key in
              fate_snoc a.options a.log.items write key
              ∙ ap (λ (t : Cache). fate_after a.options t write (length a.log.items + 1) key was) state_is
              ∙ ap (λ (n : ℕ). fate_after a.options a.state write n key was) (sym count)
              ∙ fate_step a.options m.valid a.state kept write is number (notes_of a.fates) right noted fate written (ap is_accepted (sym replied_unworn) ∙ done) noted_fates key was (m.fates key)
              ∙ sym (ap (λ (n : Notes). fate_in n key) (fates_are ∙ ap (λ (t : Cache). marked_displaced (Displaced number) (displaced_record a.options write.key (cs.without_passed a.options t).records)
              (marked_passed (Passed number) a.options.words t.stamp t.records noted)) wrote_is))

          pub machine_after : (log : Vec Write) → log.items ≡ a.log.items ++ write ∷ [] → (now : Cache) → now ≡ record dropped { accepted = dropped.accepted + 1 }
              → IsMachine (record { options = a.options; state = now; log = log; fates = fates })
          machine_after log later now now_is = record {
            valid = m.valid;
            mode = m.mode;
            lawful = subst (IsHistory a.options) (sym later) (history_snoc a.options a.log.items write m.lawful (outcome, done, allowed));
            writes = subst (AllOf IsWrite) (sym later) (all_push IsWrite a.log.items write m.writes is);
            state = ap (state_of a.options) later ∙ state_snoc a.options a.log.items write ∙ ap (λ (t : State). after a.options t write) m.state ∙ ap cache_state (sym (now_is ∙ counted));
            fates = λ key. ap (λ h. fate_of a.options h key) later ∙ later_fates key;
          }
