-- The machine of options is that of their shape: it reads no other option, and in cache mode no spares.
use Rattle.std.proofs.lemmas.Grind.{common_steps}
use Rattle.partition_words.proofs.Vocabulary.{History, IsPossible, IsPossibleShape, MayGive, Options, Outcome, Write}
use Rattle.partition_words.proofs.Vocabulary.{arith, options_of, shape_of, spares_in, state_of, ℕ, ◌≡◌}
use Rattle.partition_model.proofs.SameMachine as machine

module _ (options : Options) where
  abbrev spares : ℕ
  spares = spares_in options.mode options.spares

  pub same_state : (history : History) → state_of (options_of (shape_of options)) history ≡ state_of options history
  same_state history = machine.same_state options 1 1 1 spares history

  -- what the machine of the shape may give, that of the options may
  pub same_may_give : (history : History) (write : Write) (outcome : Outcome)
      → MayGive (options_of (shape_of options)) history write outcome → MayGive options history write outcome
  same_may_give history write outcome may = grind (arith, common_steps, machine.same_may_give options 1 1 1 spares)

pub shape_possible : (options : Options) → IsPossible options → IsPossibleShape (shape_of options)
shape_possible options possible = grind (arith, common_steps)
