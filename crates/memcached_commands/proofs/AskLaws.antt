-- What is asked is fit, where the command is.
use Rattle.std.proofs.Common.{◌≡◌, ℕ, Bool, ap, subst, ◌∙◌, List, [], ◌∷◌, Option, Some, None, map}
use Rattle.std.specs.List.{AllByRecursion}
use Rattle.memcached_text.specs.declared.command.Command.{Command}
use Rattle.memcached_text.specs.declared.command.Command.TheVariants as commands
use Rattle.memcached_text.specs.declared.lifetime.Lifetime.{Lifetime}
use Rattle.memcached_text.specs.declared.next.Next.TheVariants as nexts
use Rattle.memcached_text.specs.Fit.{IsFitKey, IsKept, IsFit}
use Rattle.memcached_text.specs.Lines.{words_of}
use Rattle.memcached_text.proofs.WordLaws.{words_of_none}
use Rattle.memcached_commands.specs.declared.ask.Ask.{Ask}
use Rattle.memcached_commands.specs.Asks.{asked, get_ask}
use Rattle.memcached_commands.specs.Fit.{IsFitAsk, IsFitAsked}

get_fits : (lifetime : Option Lifetime) → IsKept lifetime → IsFitAsk (get_ask lifetime)
get_fits None is = tt
get_fits (Some lifetime) is = is

each_fits : (ask : Ask) (keys : List (List ℕ)) → IsFitAsk ask → AllByRecursion IsFitKey keys → AllByRecursion IsFitAsked (map (asked ask) keys)
each_fits ask [] is all = tt
each_fits ask (key ∷ keys) is all = ((all.0, is), each_fits ask keys is all.1)

gets_fit : (keys : List (List ℕ)) (unique : Bool) (lifetime : Option Lifetime) → IsFit (commands.Get keys unique lifetime)
    → AllByRecursion IsFitAsked (map (asked (get_ask lifetime)) keys)
gets_fit keys unique lifetime is = each_fits (get_ask lifetime) keys (get_fits lifetime is.1) is.0

pub gets_fit_by : (command : Command) (keys : List (List ℕ)) (unique : Bool) (lifetime : Option Lifetime) → command ≡ commands.Get keys unique lifetime
    → IsFit command → AllByRecursion IsFitAsked (map (asked (get_ask lifetime)) keys)
gets_fit_by command keys unique lifetime is fit = gets_fit keys unique lifetime (subst IsFit is fit)

-- an empty text has no words, and nothing is asked of them
pub none_asked : (ask : Ask) (text : List ℕ) (words : List (List ℕ)) → text ≡ [] → words ≡ words_of text → map (asked ask) words ≡ []
none_asked ask text words empty is = ap (map (asked ask)) (is ∙ ap words_of empty ∙ words_of_none)
