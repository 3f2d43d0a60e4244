-- A frame wants what its line wants.
use Rattle.std.proofs.Common.{◌≡◌, None, refl}
use Rattle.memcached_frames.specs.declared.opcode.Verb.{Verb}
use Rattle.memcached_frames.specs.declared.opcode.Verb.TheVariants as verbs
use Rattle.memcached_frames.specs.declared.frame.Frame.{Frame}
use Rattle.memcached_meta.specs.Flags.{argument_of}
use Rattle.memcached_requests.specs.FrameRequests.{initial_of, request_by}
use Rattle.memcached_requests.specs.Laws.{line_for, IsAlike, AsksAlike, MetaAsksAlike}

alike : (verb : Verb) (frame : Frame) → frame.unique ≡ 0 → initial_of frame.extras ≡ None → IsAlike (request_by verb frame) (line_for verb frame)
alike verbs.Get frame none makes = refl
alike verbs.Set frame none makes = rw none refl
alike verbs.Add frame none makes = rw none refl
alike verbs.Replace frame none makes = rw none refl
alike verbs.Delete frame none makes = rw none refl
alike verbs.Up frame none makes = rw (none, makes) refl
alike verbs.Down frame none makes = rw (none, makes) refl
alike verbs.Quit frame none makes = refl
alike verbs.Flush frame none makes = refl
alike verbs.Noop frame none makes = refl
alike verbs.Version frame none makes = refl
alike verbs.Append frame none makes = rw none refl
alike verbs.Prepend frame none makes = rw none refl
alike verbs.Stat frame none makes = tt
alike verbs.Touch frame none makes = tt
alike verbs.GetTouch frame none makes = refl

pub asks_alike : AsksAlike
asks_alike frame none makes = alike frame.opcode.verb frame none makes

pub meta_asks_alike : MetaAsksAlike
unfolding argument_of
meta_asks_alike word value = record { store = refl; delete = refl; count = refl }
