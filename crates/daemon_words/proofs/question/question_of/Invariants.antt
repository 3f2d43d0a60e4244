use Rattle.std.proofs.Common.{◌≡◌, map, drop, string_bytes}
use Rattle.daemon_words.specs.Questions.{question_of}
use Rattle.daemon_words.proofs.question.question_of.Given as goal

abbrev pub invariant-loop-word : goal.invariant-loop-word
invariant-loop-word l = question_of (map string_bytes (drop l.word-index l.words)) ≡ question_of (map string_bytes l.words)
