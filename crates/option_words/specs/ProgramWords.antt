-- The words that a program is started with.
use Rattle.std.specs.Prelude.{List, [], map, drop, Option, Some, None, Result, Ok, Err, option_map}
use Rattle.std.specs.IoError.{error_kind}
use Rattle.std.specs.Vec.Iter.{into_iter_items}
use Rattle.std.specs.declared.vec.IntoIter.{IntoIter}
use Rattle.std.specs.declared.io.Error.{Error}
use Rattle.std.specs.declared.io.ErrorKind.{ErrorKind}
use Rattle.std.specs.declared.io.ErrorKind.TheVariants.{OutOfMemory}
use Rattle.option_words.specs.Words.{Text}

-- The words that the system gives, by the kind of its answer where it gives none: words that are no text count as none, which no command
-- has. Where it found no memory for them, nothing is known of them.
abbrev pub words_by : ErrorKind → Option (List Text)
words_by OutOfMemory = None
words_by _ = Some []

-- all words, the program's name first
abbrev pub all_words_of : {S Z : Type 0} → (S → Text) → Result (IntoIter S Z) Error → Option (List Text)
all_words_of text (Ok args) = Some (map text (into_iter_items args))
all_words_of text (Err error) = words_by (error_kind error)

-- the words after the program's name
abbrev pub words_of : {S Z : Type 0} → (S → Text) → Result (IntoIter S Z) Error → Option (List Text)
words_of text args = option_map (λ words. drop 1 words) (all_words_of text args)
