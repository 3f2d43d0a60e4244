-- What words mean, from what options were given.
use Rattle.std.proofs.Common.{◌≡◌, List, Option, Some, None, ap, sym, subst}
use Rattle.option_words.specs.Words.{Text, Given, given_by, text_of}
use Rattle.option_words.specs.ClapCommand.{GivesTexts}
use Rattle.option_words.specs.Settings.{read_as, ◌>>=◌}

-- what is made of options' texts, where these texts were given
pub read_given : {A : Type 0} (known names : List Text) → known ≡ names → (meaning : (Text → Option Text) → Option A) (words : List Text) (texts : Text → Option Text)
    → GivesTexts texts (given_by known words) → read_as names meaning words ≡ meaning texts
read_given known names same meaning words texts is = by_given (given_by names words) (subst (λ n. GivesTexts texts (given_by n words)) same is)
  where
    by_given : (r : Option Given) → GivesTexts texts r → (r >>= λ given. meaning (text_of given)) ≡ meaning texts
    by_given None none = absurd none
    by_given (Some given) is = let same : texts ≡ text_of given = λ j name. is name j in ap meaning (sym same)
