-- What bytes begin with asks of few keys, in whatever protocol.
use Rattle.std.proofs.Common.{◌≡◌, ◌+◌, ◌<◌, ◌≤◌, ◌^◌, ◌==◌, ℕ, Bool, true, false, true≢false, List, [], ◌∷◌, length, take, refl, sym, subst, arith}
use Rattle.std.specs.Prelude.{Option, Some, None, if◌then◌else◌}
use Rattle.std.specs.Option.{IfSome}
use Rattle.memcached_text.specs.declared.limits.TheConstants.{MAX_GET_LINE_LEN, MAX_TEXT_LEN}
use Rattle.memcached_text.specs.declared.command.Command.{Command}
use Rattle.memcached_text.specs.declared.command.Command.TheVariants as commands
use Rattle.memcached_text.specs.declared.command.Topic.{Topic}
use Rattle.memcached_text.specs.declared.command.Topic.TheVariants.{Server}
use Rattle.memcached_text.specs.ServerLine.{topic_of}
use Rattle.memcached_text.specs.declared.lifetime.Lifetime.{Lifetime}
use Rattle.memcached_text.specs.declared.reply.Reply.TheVariants.{End}
use Rattle.memcached_text.specs.declared.next.Next as lines
use Rattle.memcached_text.specs.declared.next.Next.TheVariants as of_lines
use Rattle.memcached_text.specs.Next as text
use Rattle.memcached_commands.specs.Asks as asked
use Rattle.memcached_frames.specs.declared.header.TheConstants.{FRAME_LEN}
use Rattle.memcached_frames.specs.declared.opcode.Verb.{Verb}
use Rattle.memcached_frames.specs.declared.opcode.Verb.TheVariants as verbs
use Rattle.memcached_frames.specs.declared.frame.Frame.{Frame}
use Rattle.memcached_frames.specs.declared.frame.FrameNext.{FrameNext}
use Rattle.memcached_frames.specs.declared.frame.FrameNext.TheVariants as of_frames
use Rattle.memcached_frames.specs.Header.{header_in}
use Rattle.memcached_frames.specs.Frames.{frame_next}
use Rattle.memcached_frames.specs.Laws.{TakesFrame}
use Rattle.memcached_frames.proofs.FrameLaws.{keeps_frames}
use Rattle.memcached_requests.specs.declared.request.Request.TheVariants.{Stats}
use Rattle.memcached_requests.specs.declared.request.Next.{Next}
use Rattle.memcached_requests.specs.Requests.{asks_in, asks_of, len_of}
use Rattle.memcached_requests.specs.Lines.{of_line, request_of, request_by as line_request}
use Rattle.memcached_requests.specs.FrameRequests.{of_frame, request_by, stats_on}
use Rattle.memcached_requests.specs.MetaRequests.{refused_by, of_meta}
use Rattle.memcached_requests.specs.Next.{is_frame, of_text, next_of}
use Rattle.memcached_meta.specs.declared.fault.MetaFault.{MetaFault}
use Rattle.memcached_meta.specs.declared.fault.MetaFault.TheVariants as faults
use Rattle.memcached_meta.specs.declared.next.MetaNext.{MetaNext}
use Rattle.memcached_meta.specs.declared.next.MetaNext.TheVariants as of_metas
use Rattle.memcached_meta.specs.Next.{next_meta, IsWithin}
use Rattle.memcached_meta.proofs.NextLaws.{meta_within, none_yet}
use Rattle.memcached_requests.proofs.NextLaws.{as_frame, as_text}
use Rattle.connection_loop.proofs.Few.{AsksFew, few_asked}

-- What bytes begin with asks of no more keys than there are bytes, than a line has, and than it takes.
pub record FewAsks (come : ℕ) (next : Next) : Type 0 where
  pub within : length (asks_in next) ≤ come
  pub counted : length (asks_in next) ≤ MAX_GET_LINE_LEN + 1
  pub taken : length (asks_in next) ≤ len_of next

-- Lines

-- a get that has no keys is replied to at once
get_asks : (none : Bool) (keys : List (List ℕ)) (unique : Bool) (lifetime : Option Lifetime)
    → length (asks_of (line_request (if none then Some End else None) (commands.Get keys unique lifetime))) ≤ length (asked.asks_of (commands.Get keys unique lifetime))
get_asks true keys unique lifetime = omega arith
get_asks false keys unique lifetime = omega arith

line_asks : (command : Command) → length (asks_of (request_of command)) ≤ length (asked.asks_of command)
line_asks (commands.Get keys unique lifetime) = get_asks (length keys == 0) keys unique lifetime
line_asks (commands.Store wants key flags lifetime value quiet) = omega arith
line_asks (commands.Join side key value quiet) = omega arith
line_asks (commands.Count direction key delta quiet) = omega arith
line_asks (commands.Delete key quiet) = omega arith
line_asks (commands.Touch key lifetime quiet) = omega arith
line_asks (commands.Flush due quiet) = omega arith
line_asks (commands.Stats topic) = omega arith
line_asks commands.Version = omega arith
line_asks (commands.Verbosity quiet) = omega arith
line_asks commands.Noop = omega arith
line_asks commands.Quit = omega arith

of_line_few : (come : ℕ) (next : lines.Next) → AsksFew come next → FewAsks come (of_line next)
of_line_few come (of_lines.Command command len) few =
    let asks = line_asks command in
    let within = few.within in
    let counted = few.counted in
    let taken = few.taken in record { within = omega (arith, asks, within); counted = omega (arith, asks, counted); taken = omega (arith, asks, taken) }
of_line_few come (of_lines.Refused fault None quiet len) few = record { within = omega arith; counted = omega arith; taken = omega arith }
of_line_few come (of_lines.Refused fault (Some key) quiet len) few = record { within = few.within; counted = few.counted; taken = few.taken }
of_line_few come of_lines.More few = record { within = omega arith; counted = omega arith; taken = omega arith }
of_line_few come of_lines.LongLine few = record { within = omega arith; counted = omega arith; taken = omega arith }

-- Frames

stats_ask : (none : Bool) (topic : Option Topic) → length (asks_of (if none then Stats Server else stats_on topic)) ≤ 1
stats_ask true topic = omega arith
stats_ask false None = omega arith
stats_ask false (Some topic) = omega arith

-- a frame asks of one key at most
frame_asks : (verb : Verb) (frame : Frame) → length (asks_of (request_by verb frame)) ≤ 1
frame_asks verbs.Get frame = omega arith
frame_asks verbs.Set frame = omega arith
frame_asks verbs.Add frame = omega arith
frame_asks verbs.Replace frame = omega arith
frame_asks verbs.Delete frame = omega arith
frame_asks verbs.Up frame = omega arith
frame_asks verbs.Down frame = omega arith
frame_asks verbs.Quit frame = omega arith
frame_asks verbs.Flush frame = omega arith
frame_asks verbs.Noop frame = omega arith
frame_asks verbs.Version frame = omega arith
frame_asks verbs.Append frame = omega arith
frame_asks verbs.Prepend frame = omega arith
frame_asks verbs.Stat frame = stats_ask (length frame.key == 0) (topic_of frame.key)
frame_asks verbs.Touch frame = omega arith
frame_asks verbs.GetTouch frame = omega arith

of_frame_few : (come body : ℕ) (next : FrameNext) → 0 < come → TakesFrame (FRAME_LEN + body) next → FewAsks come (of_frame next)
of_frame_few come body (of_frames.Whole frame echo len) some taken =
    let one = frame_asks frame.opcode.verb frame in record { within = omega (arith, one, some); counted = omega (arith, one); taken = omega (arith, one, taken) }
of_frame_few come body (of_frames.Dropped fault None echo len) some taken = record { within = omega arith; counted = omega arith; taken = omega arith }
of_frame_few come body (of_frames.Dropped fault (Some key) echo len) some taken = record { within = omega (arith, some); counted = omega arith; taken = omega (arith, taken) }
of_frame_few come body of_frames.More some taken = record { within = omega arith; counted = omega arith; taken = omega arith }
of_frame_few come body (of_frames.Over fault echo) some taken = record { within = omega arith; counted = omega arith; taken = omega arith }

some_come : (bytes : List ℕ) → is_frame bytes ≡ true → 0 < length bytes
some_come [] is = absurd (true≢false (sym is))
some_come (byte ∷ bytes) is = omega arith

-- Meta commands

none_asked : (fault : MetaFault) → length (asks_of (refused_by fault None)) ≡ 0
none_asked (faults.Line fault) = refl
none_asked faults.FlagTwice = refl
none_asked faults.UnknownFlag = refl
none_asked faults.FlagFormat = refl
none_asked faults.InitialFormat = refl
none_asked faults.DeltaFormat = refl
none_asked faults.LongOpaque = refl
none_asked faults.LongMode = refl
none_asked faults.StoreMode = refl
none_asked faults.CountMode = refl
none_asked faults.BadFlag = refl
none_asked faults.KeyFormat = refl

-- one asks of one key at most
of_meta_few : (come : ℕ) (next : MetaNext) → 0 < come → IsWithin come next → FewAsks come (of_meta next)
of_meta_few come (of_metas.Whole meta len) some within = record { within = omega (arith, some); counted = omega arith; taken = omega (arith, within.0) }
of_meta_few come (of_metas.Dropped fault None len) some within = let none = none_asked fault in record { within = omega (arith, none); counted = omega (arith, none); taken = omega (arith, none) }
of_meta_few come (of_metas.Dropped fault (Some key) len) some within = record { within = omega (arith, some); counted = omega arith; taken = omega (arith, within) }
of_meta_few come of_metas.More some within = record { within = omega arith; counted = omega arith; taken = omega arith }

meta_come : (bytes : List ℕ) → IfSome (next_meta bytes) (λ next. 0 < length bytes)
meta_come [] = subst (λ o. IfSome o (λ next. 0 < 0)) (sym (none_yet [] tt)) tt
meta_come (byte ∷ bytes) = come (next_meta (byte ∷ bytes))
  where
    come : (o : Option MetaNext) → IfSome o (λ next. 0 < length (byte ∷ bytes))
    come None = tt
    come (Some next) = omega arith

of_text_few : (bytes : List ℕ) (o : Option MetaNext) → IfSome o (λ next. 0 < length bytes) → IfSome o (IsWithin (length bytes)) → FewAsks (length bytes) (of_text bytes o)
of_text_few bytes None some within = of_line_few (length bytes) (text.next_of bytes) (few_asked bytes)
of_text_few bytes (Some next) some within = of_meta_few (length bytes) next some within

pub few_asks : (bytes : List ℕ) → FewAsks (length bytes) (next_of bytes)
few_asks bytes = either (is_frame bytes) refl
  where
    either : (t : Bool) → is_frame bytes ≡ t → FewAsks (length bytes) (next_of bytes)
    either true is = subst (FewAsks (length bytes)) (sym (as_frame bytes is))
        (of_frame_few (length bytes) (header_in (take FRAME_LEN bytes)).body_len (frame_next MAX_TEXT_LEN bytes) (some_come bytes is) (keeps_frames MAX_TEXT_LEN bytes))
    either false is = subst (FewAsks (length bytes)) (sym (as_text bytes is)) (of_text_few bytes (next_meta bytes) (meta_come bytes) (meta_within bytes))

-- the keys of what bytes begin with can be counted
pub few_asks_of : (next : Next) (bytes : List ℕ) → next ≡ next_of bytes → length (asks_in next) + 1 < 2 ^ 64
few_asks_of next bytes is = subst (λ n. length (asks_in n) + 1 < 2 ^ 64) (sym is) (let few = (few_asks bytes).counted in omega (arith, few))
