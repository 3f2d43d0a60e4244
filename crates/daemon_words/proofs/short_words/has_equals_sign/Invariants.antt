use Rattle.std.proofs.Common.{◌≡◌, drop}
use Rattle.std.specs.List.{list_any}
use Rattle.option_words.specs.Words.{is_equals_sign}
use Rattle.daemon_words.proofs.short_words.has_equals_sign.Given as goal

abbrev pub invariant-loop-byte : goal.invariant-loop-byte
invariant-loop-byte l = list_any is_equals_sign (drop l.byte-index l.text) ≡ list_any is_equals_sign l.text
