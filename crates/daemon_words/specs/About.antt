-- What the program says of itself.
use Rattle.option_words.specs.Words.{Text}
use Rattle.daemon_words.specs.declared.about.TheConstants.{HELP, VERSION}
use Rattle.daemon_words.specs.declared.question.Question.{Question}
use Rattle.daemon_words.specs.declared.question.Question.TheVariants.{Help, Version}

-- the text that answers a question
abbrev pub answer_text : Question → Text
answer_text Help = HELP.now
answer_text Version = VERSION.now
