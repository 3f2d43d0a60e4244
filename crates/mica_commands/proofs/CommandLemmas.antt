-- The command that words give, from what its options were given.
use Rattle.std.proofs.Common.{◌≡◌, ◌≢◌, List, ◌∷◌, Option, Some, None, Err, true, false, map, codes, ap, sym, refl, ◌∙◌, subst, unwrap_or, if◌then◌else◌, arith}
use Rattle.std.specs.Prelude.{bytes_eq}
use Rattle.std.proofs.lemmas.Slice.Eq.{bytes_eq-Decides}
use Rattle.std.proofs.lemmas.Option.{none-some}
use Rattle.std.proofs.lemmas.Grind.{common_steps}
use Rattle.option_words.specs.declared.words_fault.WordsFault.{WordsFault}
use Rattle.option_words.specs.declared.words_fault.WordsFault.TheVariants.{Usage, NoMemory}
use Rattle.option_words.specs.Words.{Text, given_by, text_of}
use Rattle.option_words.specs.Settings.{read_as, value_of, ◌>>=◌}
use Rattle.option_words.proofs.ValueLemmas.{both_told}
use Rattle.mica_commands.specs.declared.command.Command.{Command}
use Rattle.mica_commands.specs.declared.gen_options.GenOptions.{GenOptions}
use Rattle.mica_commands.specs.GenOptions.{is_valid}
use Rattle.mica_commands.specs.CommandLine.{command_of, command_named, IsReadingOf, gen_options, if_valid, seed, ops, keys, key_len, value_len, gets, dels, hot, every}

-- words that give nothing to the options give no command
pub read_none : (known names : List Text) → known ≡ names → (meaning : (Text → Option Text) → Option Command) (words : List Text) (fault : WordsFault)
    → (fault ≡ Usage → given_by known words ≡ None) → IsReadingOf (read_as names meaning words) (Err fault)
read_none known names same meaning words Usage none = ap (λ r. r >>= λ given. meaning (text_of given)) (ap (λ n. given_by n words) (sym same) ∙ none refl)
read_none known names same meaning words NoMemory none = tt

-- the words of a command, behind its name
pub command_is : {S : Type 0} (text : S → Text) (words : List S) (name : S) (rest : List S) → words ≡ name ∷ rest → command_of (map text words) ≡ command_named (text name) (map text rest)
command_is text words name rest is = ap (λ ws. command_of (map text ws)) is

other_name : (name this : Text) → name ≢ this → bytes_eq name this ≡ false
other_name name this differs = grind (arith, common_steps, bytes_eq-Decides name this)

-- a name that no command has
pub no_command : (name : Text) (words : List Text) → name ≢ codes "replay" → name ≢ codes "serve" → name ≢ codes "gen" → name ≢ codes "bench" → name ≢ codes "check" → name ≢ codes "exclusive" → name ≢ codes "ask" → name ≢ codes "image"
    → name ≢ codes "unpack" → command_named name words ≡ None
no_command name words replay serve gen bench check exclusive ask image unpack = rw (other_name name (codes "replay") replay, other_name name (codes "serve") serve, other_name name (codes "gen") gen, other_name name (codes "bench") bench, other_name name (codes "check") check, other_name name (codes "exclusive") exclusive, other_name name (codes "ask") ask, other_name name (codes "image") image, other_name name (codes "unpack") unpack) refl

pub gen_valid : (given : Text → Option Text) (generator : GenOptions) → gen_options given ≡ Some generator → is_valid generator ≡ true
gen_valid given generator is =
    let a = both_told (value_of seed given) _ generator is in
    let b = both_told (value_of ops given) _ generator a.2 in
    let c = both_told (value_of keys given) _ generator b.2 in
    let d = both_told (value_of key_len given) _ generator c.2 in
    let e = both_told (value_of value_len given) _ generator d.2 in
    let f = both_told (value_of gets given) _ generator e.2 in
    let g = both_told (value_of dels given) _ generator f.2 in
    let h = both_told (value_of hot given) _ generator g.2 in
    let i = both_told (value_of every given) _ generator h.2 in
    told (record { seed = a.0; ops = b.0; keys = c.0; key_len = d.0; value_len = e.0; gets = f.0; dels = g.0; hot = h.0; every = i.0 }) i.2
  where
    told : (options : GenOptions) → if_valid options ≡ Some generator → is_valid generator ≡ true
    told options is = elim (is_valid options) as (λ b. is_valid options ≡ b → (if b then Some options else None) ≡ Some generator → is_valid generator ≡ true) [
      | true ↦ λ valid same. subst (λ o. is_valid o ≡ true) (ap (λ o. unwrap_or o options) same) valid
      | false ↦ λ _ none. absurd (none-some generator none)
    ] refl is
