-- What an owner replies to the jobs that it takes.
use Rattle.std.specs.Prelude.{◌≡◌, ◌+◌, List, ◌++◌, length, map}
use Rattle.partition_words.specs.declared.state.OwnerState.{OwnerState}
use Rattle.owner_queue.specs.declared.message.Message.{Message}
use Rattle.owner_queue.specs.JobEnds.{Inbox}
use Rattle.owner_queue.specs.Worked.{DoneJob, HasWorked}
use Rattle.mica_replay.specs.Replies.{Replies, reply_of}

-- Messages were taken and their jobs done, and the replies to these stand behind those that were there, in their room.
pub record RepliesToJobs (old new : OwnerState) (from to : Inbox) (before after : Replies) : Type 0 where
  pub messages : List Message
  pub done : List DoneJob
  pub worked : HasWorked old new from to messages done
  pub list : after.list ≡ before.list ++ map reply_of done
  pub room : after.spare + length done ≡ before.spare
