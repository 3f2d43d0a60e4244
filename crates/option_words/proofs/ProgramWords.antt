-- All words of a program, and those behind its name.
use Rattle.std.proofs.Common.{◌≡◌, ◌∙◌, List, Option, Some, Result, Ok, Err, sym, ap, map, drop}
use Rattle.std.specs.Prelude.{option_map, IfOk}
use Rattle.std.specs.Vec.Iter.{into_iter_items}
use Rattle.std.specs.declared.vec.IntoIter.{IntoIter}
use Rattle.std.specs.declared.vec.Vec.{Vec}
use Rattle.std.specs.declared.io.Error.{Error}
use Rattle.std.proofs.lemmas.List.{drop-map}
use Rattle.option_words.specs.Words.{Text}
use Rattle.option_words.specs.ProgramWords.{all_words_of}

-- words that were gathered
pub gathered_words : {S Z E : Type 0} (text : S → Text) (all : Result (IntoIter S Z) Error) (args : IntoIter S Z) (result : Result (Vec S Z) E) → all ≡ Ok args
    → IfOk result (λ words. words.items ≡ into_iter_items args) → IfOk result (λ words. all_words_of text all ≡ Some (map text words.items))
gathered_words text all args (Ok words) same is = ap (λ a. all_words_of text a) same ∙ ap (λ ws. Some (map text ws)) (sym is)
gathered_words text all args (Err e) same is = tt

-- the words that the system gave behind the first of all words
pub words_behind : {S : Type 0} (text : S → Text) (all : Option (List Text)) (words behind : List S) → all ≡ Some (map text words) → behind ≡ drop 1 words
    → option_map (λ ws. drop 1 ws) all ≡ Some (map text behind)
words_behind text all words behind are is = ap (option_map (λ ws. drop 1 ws)) are ∙ ap (λ ws. Some ws) (drop-map text 1 words ∙ ap (map text) (sym is))
