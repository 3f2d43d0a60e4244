-- The fate `Never` comes exactly where no accepted write gave the key a value.
use Rattle.std.proofs.Common.{◌≡◌, ℕ, ◌+◌, List, [], ◌∷◌, ◌++◌, ◌≤◌, Option, Some, None, Bool, true, false, refl, sym, ap, ◌∙◌, is_some, ◌≢◌, ◌↔◌, arith}
use Rattle.std.specs.List.{find, AllByRecursion as AllOf}
use Rattle.std.proofs.lemmas.Bool.{true≢false}
use Rattle.std.proofs.lemmas.Slice.Eq.{bytes_eq-Decides}
use Rattle.std.proofs.lemmas.Grind.{common_steps}
use Rattle.partition_model.specs.declared.options.Options.{Options}
use Rattle.partition_model.specs.declared.write.Write.{Write}
use Rattle.partition_model.specs.declared.write.Op.{Op}
use Rattle.partition_model.specs.declared.write.Op.TheVariants.{Put, Add, Touch, Del}
use Rattle.partition_model.specs.declared.fate.Fate.{Fate}
use Rattle.partition_model.specs.declared.fate.Fate.TheVariants.{Never, Held}
use Rattle.partition_model.specs.Write.{GivesValue, IsWrite, size_of}
use Rattle.partition_model.specs.Cache as cache
use Rattle.partition_model.specs.Cache.{Record, Cache, has_key, record_of}
use Rattle.partition_model.specs.CacheStep as cs
use Rattle.partition_model.specs.Fate.{GivesNoValue, has_record, fate_after, fate_from, fate_of}
use Rattle.partition_model.specs.History.{History, IsHistory, IsHistoryFrom, State, after, cache_state, start, state_of}
use Rattle.partition_model.specs.declared.options.Mode.TheVariants.{Cache as CacheMode}
use Rattle.partition_model.proofs.CacheKept.{others_lack, IsKept, start_kept, after_kept}
use Rattle.partition_model.proofs.CacheLaws.{accepted_fits, written_same, value_held}
use Rattle.partition_model.proofs.Histories.{state_snoc}
use Rattle.partition_model.proofs.FateLaws.{pick, live_wrote, left_live}

-- a fate that is another stays another

module _ (options : Options) (key : List ℕ) where
  stays_after : (s : Cache) (write : Write) (n : ℕ) (before : Fate) → before ≢ Never → fate_after options s write n key before ≢ Never
  stays_after s write n before other = grind (arith, common_steps)

  stays : (s : Cache) (n : ℕ) (before : Fate) (history : History) → before ≢ Never → fate_from options s n key before history ≢ Never
  stays s n before [] other = other
  stays s n before (write ∷ history) other =
      stays (cs.after options s write) (n + 1) (fate_after options s write n key before) history (stays_after s write n before other)

  was_never : (s : Cache) (n : ℕ) (before : Fate) (history : History) → fate_from options s n key before history ≡ Never → before ≡ Never
  was_never s n before history is = grind (arith, common_steps, stays s n before history)

  -- a write that gives a value gives its key a record, so a fate that is another

  no_put : (s : Cache) → IsKept options s → (write : Write) → IsWrite write → (GivesValue write.op → size_of write ≤ options.words) → (n : ℕ) (before : Fate) → fate_after options s write n key before ≡ Never → GivesNoValue key write
  no_put s kept write is few n before never gives same =
      let mine = value_held options s kept write is few gives in
      let here : has_record (cs.after options s write) key ≡ true = ap (λ (k : List ℕ). has_record (cs.after options s write) k) (sym same) ∙ ap is_some mine.1 in
      held_not (ap (λ b. pick (has_record s key) (has_record (cs.after_write options s write) key) (has_record (cs.without_passed options (cs.after_write options s write)) key) b n before) (sym here) ∙ never)
    where
      held_not : Held ≡ Never → ⊥
      held_not e = cc

  no_puts : (past : History) (s : Cache) → state_of options past ≡ cache_state s → IsKept options s → (n : ℕ) (before : Fate) (history : History)
      → IsHistoryFrom options past history → AllOf IsWrite history → fate_from options s n key before history ≡ Never → AllOf (GivesNoValue key) history
  no_puts past s at kept n before [] lawful writes never = tt
  no_puts past s at kept n before (write ∷ history) lawful writes never = (
    no_put s kept write writes.0 (accepted_fits options write s (state_of options past) at lawful.0.0 lawful.0.1 lawful.0.2) n before (was_never (cs.after options s write) (n + 1) (fate_after options s write n key before) history never),
    no_puts (past ++ write ∷ []) (cs.after options s write) (state_snoc options past write ∙ ap (λ (z : State). after options z write) at) (after_kept options s write writes.0 kept)
        (n + 1) (fate_after options s write n key before) history lawful.1 writes.1 never,
  )

  -- without such a write there is no record, and no fate

  touched_none : (o : Option Record) (s : Cache) (write : Write) → write.key ≡ key → record_of s write.key ≡ o → has_record s key ≡ false
      → has_record (cs.after_touch o s write) key ≡ false
  touched_none None s write same at none = none
  touched_none (Some held) s write same at none = absurd (true≢false (sym (ap (λ (k : List ℕ). has_record s k) (sym same) ∙ ap is_some at) ∙ none))

  own_none : (op : Op) (s : Cache) (write : Write) → ¬ (GivesValue op) → write.key ≡ key → has_record s key ≡ false → has_record (cs.after_op op options s write) key ≡ false
  own_none Put s write other same none = absurd (other tt)
  own_none Add s write other same none = absurd (other tt)
  own_none Touch s write other same none = touched_none (record_of s write.key) s write same refl none
  own_none Del s write other same none = ap (λ (k : List ℕ). is_some (find (has_key key) (cs.others k s.records))) same ∙ ap is_some (others_lack key s.records)

  still_none : (s : Cache) (write : Write) → GivesNoValue key write → has_record s key ≡ false → has_record (cs.after_write options s write) key ≡ false
  still_none s write absent none = grind (arith, common_steps, bytes_eq-Decides write.key key, own_none write.op s write, written_same options s write key, true≢false)

  never_by : (had wrote live left : Bool) (n : ℕ) → had ≡ false → wrote ≡ false → (left ≡ true → live ≡ true) → (live ≡ true → wrote ≡ true) → (pick had wrote live left n Never ≡ Never) × (left ≡ false)
  never_by false false false false n h w up up' = (refl, refl)
  never_by had wrote false true n h w up up' = absurd (true≢false (sym (up refl)))
  never_by had false true left n h w up up' = absurd (true≢false (sym (up' refl)))
  never_by true wrote live left n h w up up' = absurd (true≢false h)
  never_by had true live left n h w up up' = absurd (true≢false w)

  never_from : (s : Cache) (n : ℕ) (history : History) → has_record s key ≡ false → AllOf (GivesNoValue key) history → fate_from options s n key Never history ≡ Never
  never_from s n [] none absent = refl
  never_from s n (write ∷ history) none absent =
      let next = never_by (has_record s key) (has_record (cs.after_write options s write) key) (has_record (cs.without_passed options (cs.after_write options s write)) key) (has_record (cs.after options s write) key) n
      none (still_none s write absent.0 none) (left_live options s write key) (live_wrote options s write key) in
      ap (λ (f : Fate). fate_from options (cs.after options s write) (n + 1) key f history) next.0 ∙ never_from (cs.after options s write) (n + 1) history next.1 absent.1

start_none : (key : List ℕ) → has_record cache.start key ≡ false
unfolding cache.start
start_none key = refl

pub never_is_no_value : (options : Options) → options.mode ≡ CacheMode → (history : History) → IsHistory options history → AllOf IsWrite history → (key : List ℕ) → (fate_of options history key ≡ Never) ↔ AllOf (GivesNoValue key) history
unfolding fate_of
never_is_no_value options mode history lawful writes key =
    (no_puts options key [] cache.start (ap start mode) (start_kept options) 1 Never history lawful writes, never_from options key cache.start 1 history (start_none key))
