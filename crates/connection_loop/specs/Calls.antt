-- What calls leave of what is at hand. They take as parameters what contracts see of a front.
use Rattle.std.specs.Prelude.{◌≡◌, ℕ, List}
use Rattle.partition_model.specs.declared.options.Options.{Options}
use Rattle.connection_loop.specs.declared.hand.Hand.{Hand}

-- The front is the same: its options, its number and its stands; and so is how values are numbered. No other clause speaks of them.
pub record KeepsHand {Front Stand : Type 0} (options : Front → Options) (number : Front → ℕ) (stands : Front → List Stand) (old new : Hand Front) : Type 0 where
  pub same_options : options new.front ≡ options old.front
  pub same_number : number new.front ≡ number old.front
  pub same_stands : stands new.front ≡ stands old.front
  pub same_numbering : new.numbering ≡ old.numbering
