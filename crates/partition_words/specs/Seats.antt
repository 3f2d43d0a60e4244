-- What the one seat of plain words knows.
use Rattle.partition_words.specs.declared.plain.Diary.{Diary}
use Rattle.partition_words.specs.declared.plain.PlainWords.{PlainWords}

-- what plain words keep of their owner
abbrev pub diary_of : PlainWords → Diary
diary_of words = words.seat.me.0
