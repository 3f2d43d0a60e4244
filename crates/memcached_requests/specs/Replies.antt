-- What is replied, in whatever protocol.
use Rattle.std.specs.Prelude.{ℕ, Bool, List, [], ◌++◌, flat_map, if◌then◌else◌}
use Rattle.memcached_text.specs.Answer.{part_text, last_text}
use Rattle.memcached_text.specs.Replies as lines
use Rattle.memcached_commands.specs.declared.ask.Says.{Says}
use Rattle.memcached_commands.specs.Answers.{parts_of, last_of, unless_quiet}
use Rattle.memcached_frames.specs.Replies.{reply_text}
use Rattle.memcached_meta.specs.Replies.{meta_fault_text, meta_text}
use Rattle.memcached_requests.specs.declared.request.Style.{Style}
use Rattle.memcached_requests.specs.declared.request.Style.TheVariants.{Classic, Frame, Meta, Fault}
use Rattle.memcached_requests.specs.FrameReplies.{frame_text, count_frame}

-- What is replied where this is said of a key, or of none, and whether nothing more is said behind it. In a line an item that is shown is a part, and behind the last one
-- stands the last line.
unfoldable pub said_text : Style → Bool → List ℕ → Says → List ℕ
said_text (Classic quiet unique) is_last key says =
    unless_quiet quiet (flat_map part_text (parts_of unique key says) ++ (if is_last then last_text (last_of says) else []))
said_text (Frame echo) is_last key says = frame_text echo key says
said_text (Meta manner) is_last key says = meta_text manner says
said_text (Fault fault) is_last key says = meta_fault_text fault

-- one thing that the server counts
abbrev pub stat_text : Style → List ℕ → List ℕ → List ℕ
stat_text (Frame echo) name value = reply_text echo (count_frame name value)
stat_text _ name value = lines.stat_text name value
