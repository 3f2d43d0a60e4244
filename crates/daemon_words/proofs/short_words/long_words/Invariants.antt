use Rattle.std.proofs.Common.{◌≡◌, ◌++◌, map, drop, string_bytes}
use Rattle.daemon_words.specs.ShortWords.{long_after, long_words}
use Rattle.daemon_words.proofs.short_words.long_words.Given as goal

-- whatever stands already, with what the words that are left stand for, is all
abbrev pub invariant-loop-word : goal.invariant-loop-word
invariant-loop-word l = map string_bytes l.long.items ++ long_after l.waiting (map string_bytes (drop l.word-index l.words)) ≡ long_words (map string_bytes l.words)
