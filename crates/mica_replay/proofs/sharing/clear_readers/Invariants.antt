use Rattle.std.proofs.Common.{map}
use Rattle.list_laws.proofs.UpTo.{UpTo}
use Rattle.mica_replay.specs.RoundRun.{reader_part}
use Rattle.mica_replay.specs.Shares.{HasNoGets}
use Rattle.mica_replay.proofs.sharing.clear_readers.Given as goal

abbrev pub invariant-loop-q : goal.invariant-loop-q
invariant-loop-q g l = record { so_far : UpTo HasNoGets l.q (map (λ r. reader_part g.R.ReaderWords.reader g.R.ReaderWords.home r) l.initial.readers.items) (map (λ r. reader_part g.R.ReaderWords.reader g.R.ReaderWords.home r) l.readers.items) }
