-- Each accepted write raises the stamp, so a stamp is that of one prefix of a history at most.
use Rattle.std.proofs.Common.{rules}
use Rattle.std.proofs.Common.{◌≡◌, ◌≢◌, ℕ, zero, suc, ◌<◌, ◌≤◌, List, [], ◌∷◌, ◌++◌, take, refl, ap, arith}
use Rattle.std.specs.List.{fold}
use Rattle.std.proofs.lemmas.Grind.{fold-append}
use Rattle.std.proofs.lemmas.Grind.{common_steps}
use Rattle.partition_model.specs.declared.options.Options.{Options}
use Rattle.partition_model.specs.declared.write.Write.{Write}
use Rattle.partition_model.specs.CacheStep as cs
use Rattle.partition_model.specs.StoreStep as ss
use Rattle.partition_model.specs.History.{History, State, after, start, state_of, stamp_in, stamp_of, IsPrefix, IsCut}
use Rattle.partition_model.specs.Run.{RunStep, history_of}

pub after_rises : (options : Options) (now : State) (write : Write) → stamp_in now < stamp_in (after options now write)
unfolding cs.after ss.after
after_rises options now write = grind (arith, common_steps)

pub fold-snoc : (options : Options) (now : State) (history : History) (write : Write) → fold (after options) now (history ++ write ∷ []) ≡ after options (fold (after options) now history) write
fold-snoc options now history write = grind (arith, common_steps)

pub stamp_rises : (options : Options) (history : History) (write : Write) → stamp_of options history < stamp_of options (history ++ write ∷ [])
stamp_rises options history write = let next = after_rises options (state_of options history) write in omega (arith, ap stamp_in (fold-snoc options (start options.mode) history write))

module _ (options : Options) where
  -- further writes never lower the stamp
  rises : (history : History) (now : State) → stamp_in now ≤ stamp_in (fold (after options) now history)
  rises [] now = omega arith
  rises (write ∷ history) now = grind (arith, common_steps, after_rises options now write, rises history (after options now write))

  -- so stamps don't fall from a history to one that it begins
  pub prefix_rises : (a b : History) → IsPrefix a b → stamp_of options a ≤ stamp_of options b
  prefix_rises a b is = grind (arith, common_steps, fold-append (after options) (start options.mode) a is.0, rises is.0 (fold (after options) (start options.mode) a))

  -- and one more raises it
  rises_by_one : (write : Write) (history : History) (now : State) → stamp_in now < stamp_in (fold (after options) now (write ∷ history))
  rises_by_one write history now = grind (arith, common_steps, after_rises options now write, rises history (after options now write))

  rises_more : (steps : List RunStep) (now : State) (i j : ℕ) → i ≤ j
      → stamp_in (fold (after options) now (history_of (take i steps))) ≤ stamp_in (fold (after options) now (history_of (take j steps)))
  rises_more steps now zero j le = rises (history_of (take j steps)) now
  rises_more [] now (suc i) j le = rises (history_of (take j [])) now
  rises_more (step ∷ steps) now (suc i) zero le = absurd (omega arith)
  rises_more (step ∷ steps) now (suc i) (suc j) le = grind (arith, common_steps, rises_more steps now i j, rises_more steps)

  -- stamps never fall along a run
  pub stamps_rise : (steps : List RunStep) (i j : ℕ) → i ≤ j → stamp_of options (history_of (take i steps)) ≤ stamp_of options (history_of (take j steps))
  stamps_rise steps i j le = rises_more steps (start options.mode) i j le

  lower_from : (begun later : History) (now : State) → begun ≢ begun ++ later → stamp_in (fold (after options) now begun) < stamp_in (fold (after options) now (begun ++ later))
  lower_from [] [] now proper = absurd (proper refl)
  lower_from [] (write ∷ later) now proper = rises_by_one write later now
  lower_from (write ∷ begun) later now proper = lower_from begun later (after options now write) (λ e. proper (ap (λ h. write ∷ h) e))

  -- the stamp of a proper prefix is lower
  pub proper_prefix_lower : (history begun : History) → IsPrefix begun history → begun ≢ history → stamp_of options begun < stamp_of options history
  proper_prefix_lower history begun prefix proper = grind (arith, common_steps, lower_from begun prefix.0 (start options.mode))

  one_from : (a b later later' : History) (now : State) → a ++ later ≡ b ++ later' → stamp_in (fold (after options) now a) ≡ stamp_in (fold (after options) now b) → a ≡ b
  one_from [] [] later later' now same stamps = refl
  one_from [] (write ∷ b) later later' now same stamps = let more = rises_by_one write b now in absurd (omega arith)
  one_from (write ∷ a) [] later later' now same stamps = let more = rises_by_one write a now in absurd (omega arith)
  one_from (write ∷ a) (write' ∷ b) later later' now same stamps = grind (arith, common_steps, one_from a b later later' (after options now write'))

  -- no two prefixes of a history have one stamp
  pub one_cut : (history : History) (stamp : ℕ) (a b : History) → IsCut options history stamp a → IsCut options history stamp b → a ≡ b
  one_cut history stamp a b cut cut' = search (rules, one_from)
