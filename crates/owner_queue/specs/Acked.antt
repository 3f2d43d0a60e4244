-- What an acknowledgement says of its write.
use Rattle.std.specs.Prelude.{ℕ}
use Rattle.partition_model.specs.declared.write.Write.{Write}
use Rattle.partition_model.specs.declared.write.Outcome.{Outcome}
use Rattle.partition_model.specs.Write.{is_accepted}
use Rattle.partition_model.specs.History.{History, IsPrefix, IsCut}
use Rattle.partition_model.specs.ReplyAt.{IsReplyAt}
use Rattle.partition_words.specs.declared.reader.ReaderState.{ReaderState}
use Rattle.partition_words.specs.Shape.{options_of}

-- The note has seen a history that begins with the one of this stamp, whose every write has ended. The reply is the machine's there.
pub record IsAcked (note : ReaderState) (write : Write) (outcome : Outcome) (stamp : ℕ) : Type 0 where
  pub cut : History
  pub is_cut : IsCut (options_of note.shape) note.seen stamp cut
  pub ended : IsPrefix cut note.done
  pub reply : IsReplyAt (is_accepted outcome) (options_of note.shape) cut write outcome
