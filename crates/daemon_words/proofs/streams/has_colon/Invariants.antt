use Rattle.std.proofs.Common.{◌≡◌, drop}
use Rattle.std.specs.List.{list_any}
use Rattle.daemon_words.specs.StreamWords.{is_colon}
use Rattle.daemon_words.proofs.streams.has_colon.Given as goal

abbrev pub invariant-loop-byte : goal.invariant-loop-byte
invariant-loop-byte l = list_any is_colon (drop l.byte-index l.text) ≡ list_any is_colon l.text
