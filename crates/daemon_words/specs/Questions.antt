-- Words that ask about the program, in place of a server.
use Rattle.std.specs.Prelude.{List, [], ◌∷◌, Option, Some, None, codes, bytes_eq, if◌then◌else◌}
use Rattle.option_words.specs.Words.{Text}
use Rattle.daemon_words.specs.declared.question.Question.{Question}
use Rattle.daemon_words.specs.declared.question.Question.TheVariants.{Help, Version}

-- the question that a word asks, if it is one that does
abbrev pub question_in : Text → Option Question
question_in word =
    if bytes_eq word (codes "--help") then Some Help
    else (if bytes_eq word (codes "-h") then Some Help
    else (if bytes_eq word (codes "--version") then Some Version
    else (if bytes_eq word (codes "-V") then Some Version else None)))

abbrev pub or_later : Option Question → Option Question → Option Question
or_later (Some question) later = Some question
or_later None later = later

-- the question of the first word that asks one
abbrev pub question_of : List Text → Option Question
question_of [] = None
question_of (word ∷ words) = or_later (question_in word) (question_of words)
