use Rattle.partition_words.proofs.Vocabulary.{event_of, write_of}
use Rattle.partition_words.proofs.plain.PlainWordsOwnerWords.begin_write.Given as goal

abbrev pub ghosts-happen : goal.ghosts-happen
ghosts-happen a = record { event = event_of a._event (write_of a._op a._key.now a._value.now) }
