use Rattle.std.proofs.Common.{◌≡◌, ◌<◌, ◌^◌, drop}
use Rattle.daemon_words.specs.Secret.{number_from}
use Rattle.daemon_words.proofs.secret.number_of.Given as goal

abbrev pub invariant-loop-byte : goal.invariant-loop-byte
invariant-loop-byte l = record {
  below : l.number < 16 ^ l.byte-index;
  rest : number_from l.number (drop l.byte-index l.digits) ≡ number_from 0 l.digits;
}
