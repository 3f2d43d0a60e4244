use Rattle.std.proofs.Common.{refl, map, string_bytes, subst, Err}
use Rattle.std.proofs.KnownBytes.{Keeps-refl}
use Rattle.option_words.specs.declared.words_fault.WordsFault.{WordsFault}
use Rattle.daemon_words.specs.DaemonWords.{daemon_of, IsDaemonReading}
use Rattle.daemon.proofs.Announced.{unwritten, refused}
use Rattle.daemon.proofs.top.daemon.Goals as goal

pub returns-in-Err-NoMemory : goal.returns-in-Err-NoMemory
returns-in-Err-NoMemory g c = unwritten _ _ _ _ _ _ (refl, Keeps-refl (g.K.Sink.taken c.args.speaker.now.sink)) (record { ports = refl; tables = refl; lacked = refl })

pub returns-then-not-has_memory : goal.returns-then-not-has_memory
returns-then-not-has_memory g c = unwritten _ _ _ _ _ _ (refl, Keeps-refl (g.K.Sink.taken c.args.speaker.now.sink)) (record { ports = refl; tables = refl; lacked = refl })

pub returns-in-Err-Usage : goal.returns-in-Err-Usage
returns-in-Err-Usage g c = refused _ _ _ _ (subst (λ (f : WordsFault). IsDaemonReading (daemon_of c.args.process.now.host (map string_bytes c.args.words.now)) (Err f)) c.in-Err-Usage.field-0-is c.in-Err-Usage.ensures)
