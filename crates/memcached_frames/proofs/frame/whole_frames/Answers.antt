use Rattle.memcached_frames.proofs.FrameLaws.{ends_at_once, frames_stay, frames_wait, keeps_frames}
use Rattle.memcached_frames.proofs.frame.whole_frames.Goals as goal

pub returns-clause-stays : goal.returns-clause-stays
returns-clause-stays c = frames_stay

pub returns-clause-keeps : goal.returns-clause-keeps
returns-clause-keeps c = keeps_frames

pub returns-clause-at_once : goal.returns-clause-at_once
returns-clause-at_once c = ends_at_once

pub returns-clause-waits : goal.returns-clause-waits
returns-clause-waits c = frames_wait
