-- What bytes ask of keys is fit, whichever their spelling.
use Rattle.std.specs.Prelude.{⊤, ◌==◌, ◌^◌, nat_le, nat_lt, option_map}
use Rattle.std.specs.Int.{w32, w64, from_be_bytes}
use Rattle.std.specs.List.{AllByRecursion}
use Rattle.std.specs.Option.{IfSome}
use Rattle.std.proofs.Common.{◌≡◌, ◌<◌, ◌+◌, ℕ, zero, suc, Bool, true, false, cond, List, [], ◌∷◌, length, map, take, drop, get_or, Option, Some, None, refl, sym, subst, arith}
use Rattle.std.proofs.lemmas.Bool.{eqb-true, eqb-false, leb-true, leb-false, ltb-true}
use Rattle.memcached_text.specs.declared.limits.TheConstants.{MAX_TEXT_LEN}
use Rattle.memcached_text.specs.declared.command.Command.{Command}
use Rattle.memcached_text.specs.declared.command.Command.TheVariants as commands
use Rattle.memcached_text.specs.declared.command.Topic.{Topic}
use Rattle.memcached_text.specs.declared.command.Topic.TheVariants.{Server}
use Rattle.memcached_text.specs.declared.command.Wants.{Wants}
use Rattle.memcached_text.specs.declared.command.Wants.TheVariants.{Whatever, Absent, Present}
use Rattle.memcached_text.specs.declared.lifetime.Lifetime.{Lifetime}
use Rattle.memcached_text.specs.declared.lifetime.Lifetime.TheVariants.{Forever, For, Until}
use Rattle.memcached_text.specs.declared.lifetime.Due.TheVariants.{Now, After, At}
use Rattle.memcached_text.specs.declared.next.Next as lines
use Rattle.memcached_text.specs.declared.next.Next.TheVariants as of_lines
use Rattle.memcached_text.specs.Fit.{IsFitKey, IsWant, IsKept, IsFit, IsFitNext as IsFitLine}
use Rattle.memcached_text.specs.Lifetimes.{IsLifetime, IsDue}
use Rattle.memcached_text.specs.Lines.{line_at, words_of, without_return}
use Rattle.memcached_text.specs.Next as text
use Rattle.memcached_text.specs.ServerLine.{topic_of}
use Rattle.memcached_text.proofs.FitLaws.{is_fit}
use Rattle.memcached_commands.specs.Asks.{asked, get_ask}
use Rattle.memcached_commands.specs.Fit.{IsFitAsk, IsFitInitial, IsFitAsked}
use Rattle.memcached_frames.specs.declared.header.Header.{Header}
use Rattle.memcached_frames.specs.declared.header.TheConstants.{FRAME_LEN}
use Rattle.memcached_frames.specs.declared.opcode.Opcode.{Opcode}
use Rattle.memcached_frames.specs.declared.opcode.Verb.{Verb}
use Rattle.memcached_frames.specs.declared.opcode.Verb.TheVariants as verbs
use Rattle.memcached_frames.specs.declared.frame.Frame.{Frame}
use Rattle.memcached_frames.specs.declared.frame.FrameNext.{FrameNext}
use Rattle.memcached_frames.specs.declared.frame.FrameNext.TheVariants as of_frames
use Rattle.memcached_frames.specs.Fit as frames
use Rattle.memcached_frames.specs.Header.{header_in}
use Rattle.memcached_frames.specs.Opcodes.{fits_key, opcode_of}
use Rattle.memcached_frames.specs.Frames.{frame_in, fits, frame_by, frame_of, frame_at, frame_next, value_len, dropped, stale_of, echo_of}
use Rattle.memcached_frames.specs.Header.{frame_len}
use Rattle.memcached_frames.proofs.FitLaws.{at_fits}
use Rattle.memcached_meta.specs.declared.fault.MetaFault.TheVariants as meta_faults
use Rattle.memcached_meta.specs.declared.line.Verb.{Verb as MetaVerb}
use Rattle.memcached_meta.specs.declared.next.MetaNext.{MetaNext}
use Rattle.memcached_meta.specs.declared.next.MetaNext.TheVariants as of_metas
use Rattle.memcached_meta.specs.Fit.{IsFitMetaNext}
use Rattle.memcached_meta.specs.Lines.{verb_of, line_of}
use Rattle.memcached_meta.specs.Next.{line_next, named_next, found_next, begins_meta, next_meta}
use Rattle.memcached_meta.proofs.FitLaws.{line_fits, says_fits}
use Rattle.memcached_meta.proofs.AskLaws.{ask_fits}
use Rattle.memcached_requests.specs.declared.request.Next.{Next}
use Rattle.memcached_requests.specs.Lines.{request_of, of_line}
use Rattle.memcached_requests.specs.FrameRequests.{lifetime_at, due_at, due_in, wants_of, initial_of, store_of, count_of, touch_of, request_by, stats_on, stats_of, of_frame}
use Rattle.memcached_requests.specs.MetaRequests.{of_meta}
use Rattle.memcached_requests.specs.Requests.{IsFitRequest, IsFitNext, asks_in, len_of}
use Rattle.memcached_requests.specs.Next.{is_frame, of_text, next_of}
use Rattle.memcached_requests.proofs.NextLaws.{as_frame, as_text}
use Rattle.memcached_requests.specs.declared.request.Request.TheVariants.{Keys, Flush, Stats, Said}
use Rattle.memcached_requests.specs.declared.request.Next.TheVariants.{Whole, More}
use Rattle.memcached_text.specs.declared.command.Direction.{Direction}
use Rattle.memcached_text.specs.declared.command.Direction.TheVariants as directions
use Rattle.memcached_text.specs.declared.command.Wants.TheVariants.{Numbered}
use Rattle.memcached_text.specs.declared.limits.TheConstants.{MAX_KEY_LEN}
use Rattle.memcached_frames.specs.declared.frame.FrameFault.TheVariants.{Unknown, Invalid, TooLarge}
use Rattle.client_stories.specs.Stories.{AreBytes, AreFirst, BytesAskFit}

-- Lines

keys_fit : (lifetime : Option Lifetime) (keys : List (List ℕ)) → IsKept lifetime → AllByRecursion IsFitKey keys → AllByRecursion IsFitAsked (map (asked (get_ask lifetime)) keys)
keys_fit lifetime [] kept fit = tt
keys_fit None (key ∷ keys) kept fit = ((fit.0, tt), keys_fit None keys kept fit.1)
keys_fit (Some lifetime) (key ∷ keys) kept fit = ((fit.0, kept), keys_fit (Some lifetime) keys kept fit.1)

command_fits : (command : Command) → IsFit command → IsFitRequest (request_of command)
command_fits (commands.Get [] unique lifetime) fit = omega arith
command_fits (commands.Get (key ∷ keys) unique lifetime) fit = by (length (key ∷ keys) == 0) refl
  where
    by : (b : Bool) → (length (key ∷ keys) == 0) ≡ b → IsFitRequest (request_of (commands.Get (key ∷ keys) unique lifetime))
    by true none = absurd (omega (arith, eqb-true (length (key ∷ keys)) 0 none))
    by false some = rw some (keys_fit lifetime (key ∷ keys) fit.1 fit.0)
command_fits (commands.Store wants key flags lifetime value quiet) fit = ((fit.1, (fit.0, fit.2, fit.3, fit.4)), tt)
command_fits (commands.Join side key value quiet) fit = ((fit.0, fit.1), tt)
command_fits (commands.Count direction key delta quiet) fit = ((fit.0, (fit.1, tt, tt)), tt)
command_fits (commands.Delete key quiet) fit = ((fit, tt), tt)
command_fits (commands.Touch key lifetime quiet) fit = ((fit.0, fit.1), tt)
command_fits (commands.Flush due quiet) fit = fit
command_fits (commands.Stats topic) fit = tt
command_fits commands.Version fit = omega arith
command_fits (commands.Verbosity quiet) fit = omega arith
command_fits commands.Noop fit = omega arith
command_fits commands.Quit fit = omega arith

line_is_fit : (next : lines.Next) → IsFitLine next → IsFitNext (of_line next)
line_is_fit (of_lines.Command command len) fit = command_fits command fit
line_is_fit (of_lines.Refused fault None quiet len) fit = omega arith
line_is_fit (of_lines.Refused fault (Some key) quiet len) fit = ((fit, tt), tt)
line_is_fit of_lines.More fit = tt
line_is_fit of_lines.LongLine fit = omega arith

-- Meta commands

meta_is_fit : (next : MetaNext) → IsFitMetaNext next → IsFitNext (of_meta next)
meta_is_fit (of_metas.Whole meta len) fit = ((fit.key, ask_fits meta.verb meta.flags meta.value fit.value), tt)
meta_is_fit (of_metas.Dropped fault (Some key) len) fit = ((fit, tt), tt)
meta_is_fit (of_metas.Dropped (meta_faults.Line fault) None len) fit = omega arith
meta_is_fit (of_metas.Dropped fault None len) fit = omega arith
meta_is_fit of_metas.More fit = tt

named_fits : (words : List (List ℕ)) (len : ℕ) (rest : List ℕ) → IfSome (named_next words len rest) IsFitMetaNext
named_fits [] len rest = tt
named_fits (name ∷ words) len rest = by (verb_of name)
  where
    by : (o : Option MetaVerb) → IfSome (option_map (λ verb. line_next (line_of verb words) len rest) o) IsFitMetaNext
    by None = tt
    by (Some verb) = says_fits (line_of verb words) len rest (line_fits verb words)

either_meta : (b : Bool) (x y : Option MetaNext) → IfSome x IsFitMetaNext → IfSome y IsFitMetaNext → IfSome (cond b x y) IsFitMetaNext
either_meta true x y one other = one
either_meta false x y one other = other

found_fits : (o : Option (List ℕ × List ℕ)) → IfSome (found_next o) IsFitMetaNext
found_fits None = tt
found_fits (Some found) = either_meta (nat_lt _ (length found.0)) None (named_next (words_of (without_return found.0)) (length found.0 + 1) found.1) tt (named_fits (words_of (without_return found.0)) (length found.0 + 1) found.1)

metas_fit : (bytes : List ℕ) → IfSome (next_meta bytes) IsFitMetaNext
unfolding next_meta
metas_fit bytes = either_meta (begins_meta bytes) (found_next (line_at bytes)) None (found_fits (line_at bytes)) tt

text_fits : (bytes : List ℕ) (o : Option MetaNext) → IfSome o IsFitMetaNext → IsFitNext (of_text bytes o)
text_fits bytes None fit = line_is_fit (text.next_of bytes) (is_fit bytes)
text_fits bytes (Some next) fit = meta_is_fit next fit

-- Frames

low_at : (bytes : List ℕ) (i : ℕ) → AreBytes bytes → get_or bytes i 0 < 256
low_at [] i are = omega arith
low_at (b ∷ bytes) zero are = are.0
low_at (b ∷ bytes) (suc i) are = low_at bytes i are.1

low_take : (n : ℕ) (bytes : List ℕ) → AreBytes bytes → AreBytes (take n bytes)
low_take zero bytes are = tt
low_take (suc n) [] are = tt
low_take (suc n) (b ∷ bytes) are = (are.0, low_take n bytes are.1)

low_drop : (n : ℕ) (bytes : List ℕ) → AreBytes bytes → AreBytes (drop n bytes)
low_drop zero bytes are = are
low_drop (suc n) [] are = tt
low_drop (suc n) (b ∷ bytes) are = low_drop n bytes are.1

number_low : (bytes : List ℕ) → AreBytes bytes → from_be_bytes w32 bytes < 2 ^ 32
number_low bytes are =
    let b0 = low_at bytes 0 are in
    let b1 = low_at bytes 1 are in
    let b2 = low_at bytes 2 are in
    let b3 = low_at bytes 3 are in
    omega (arith, b0, b1, b2, b3)

long_low : (bytes : List ℕ) → AreBytes bytes → from_be_bytes w64 bytes < 2 ^ 64
long_low bytes are =
    let b0 = low_at bytes 0 are in
    let b1 = low_at bytes 1 are in
    let b2 = low_at bytes 2 are in
    let b3 = low_at bytes 3 are in
    let b4 = low_at bytes 4 are in
    let b5 = low_at bytes 5 are in
    let b6 = low_at bytes 6 are in
    let b7 = low_at bytes 7 are in
    omega (arith, b0, b1, b2, b3, b4, b5, b6, b7)

lifetime_fits : (number : ℕ) → number < 2 ^ 32 → IsLifetime (lifetime_at number)
lifetime_fits number low = go (number == 0) (nat_le number _) refl refl
  where
    go : (none short : Bool) → (number == 0) ≡ none → nat_le number 2592000 ≡ short → IsLifetime (cond none Forever (cond short (For number) (Until number)))
    go true short none less = tt
    go false true none less = (omega (arith, eqb-false number 0 none), leb-true _ _ less)
    go false false none less = (leb-false _ _ less, omega (arith, low))

due_fits : (number : ℕ) → number < 2 ^ 32 → IsDue (due_at number)
due_fits number low = go (number == 0) (nat_le number _) refl refl
  where
    go : (none short : Bool) → (number == 0) ≡ none → nat_le number 2592000 ≡ short → IsDue (cond none Now (cond short (After number) (At number)))
    go true short none less = tt
    go false true none less = (omega (arith, eqb-false number 0 none), leb-true _ _ less)
    go false false none less = (leb-false _ _ less, omega (arith, low))

wanted_fits : (wants : Wants) (unique : ℕ) → IsWant wants → unique < 2 ^ 64 → IsWant (wants_of wants unique)
wanted_fits wants unique want low = by (unique == 0)
  where
    by : (b : Bool) → IsWant (cond b wants (Numbered unique))
    by true = want
    by false = low

-- a frame of bytes
pub record OfBytes (frame : Frame) : Type 0 where
  pub extras : AreBytes frame.extras
  pub unique : frame.unique < 2 ^ 64

module _ (frame : Frame) (fit : frames.IsFitFrame MAX_TEXT_LEN frame) (bytes : OfBytes frame) where
  store_fits : (wants : Wants) → IsWant wants → IsFitAsk (store_of wants frame)
  store_fits wants want = (
    wanted_fits wants frame.unique want bytes.unique,
    number_low frame.extras bytes.extras,
    lifetime_fits (from_be_bytes w32 (drop 4 frame.extras)) (number_low (drop 4 frame.extras) (low_drop 4 frame.extras bytes.extras)),
    fit.value,
  )

  initial_fits : IsFitInitial (initial_of frame.extras)
  initial_fits = by (from_be_bytes w32 (drop 16 frame.extras) == 4294967295)
    where
      by : (b : Bool) → IsFitInitial (cond b None (Some (record { number = from_be_bytes w64 (drop 8 frame.extras); lifetime = lifetime_at (from_be_bytes w32 (drop 16 frame.extras)) })))
      by true = tt
      by false = record {
        number = long_low (drop 8 frame.extras) (low_drop 8 frame.extras bytes.extras);
        lifetime = lifetime_fits (from_be_bytes w32 (drop 16 frame.extras)) (number_low (drop 16 frame.extras) (low_drop 16 frame.extras bytes.extras));
      }

  count_fits : (direction : Direction) → IsFitAsk (count_of direction frame)
  count_fits direction = (long_low frame.extras bytes.extras, tt, initial_fits)

  touch_fits : IsFitAsk (touch_of frame)
  touch_fits = lifetime_fits (from_be_bytes w32 frame.extras) (number_low frame.extras bytes.extras)

  key_fits : nat_lt 0 (length frame.key) ≡ true → IsFitKey frame.key
  key_fits is = (ltb-true 0 (length frame.key) is, fit.short)

  topic_fits : (o : Option Topic) → IsFitRequest (stats_on o)
  topic_fits None = omega arith
  topic_fits (Some topic) = tt

  stats_fit : IsFitRequest (stats_of frame.key)
  stats_fit = by (length frame.key == 0)
    where
      by : (b : Bool) → IsFitRequest (cond b (Stats Server) (stats_on (topic_of frame.key)))
      by true = tt
      by false = topic_fits (topic_of frame.key)

  due_is_fit : IsFitRequest (Flush (due_in frame.extras))
  due_is_fit = by (nat_lt (length frame.extras) 4)
    where
      by : (b : Bool) → IsDue (cond b Now (due_at (from_be_bytes w32 frame.extras)))
      by true = tt
      by false = due_fits (from_be_bytes w32 frame.extras) (number_low frame.extras bytes.extras)

  request_fits : (verb : Verb) → fits_key verb (length frame.key) ≡ true → IsFitRequest (request_by verb frame)
  request_fits verbs.Get key = ((key_fits key, tt), tt)
  request_fits verbs.Set key = ((key_fits key, store_fits Whatever tt), tt)
  request_fits verbs.Add key = ((key_fits key, store_fits Absent tt), tt)
  request_fits verbs.Replace key = ((key_fits key, store_fits Present tt), tt)
  request_fits verbs.Delete key = ((key_fits key, tt), tt)
  request_fits verbs.Up key = ((key_fits key, count_fits directions.Up), tt)
  request_fits verbs.Down key = ((key_fits key, count_fits directions.Down), tt)
  request_fits verbs.Quit key = omega arith
  request_fits verbs.Flush key = due_is_fit
  request_fits verbs.Noop key = omega arith
  request_fits verbs.Version key = omega arith
  request_fits verbs.Append key = ((key_fits key, fit.value), tt)
  request_fits verbs.Prepend key = ((key_fits key, fit.value), tt)
  request_fits verbs.Stat key = stats_fit
  request_fits verbs.Touch key = ((key_fits key, touch_fits), tt)
  request_fits verbs.GetTouch key = ((key_fits key, touch_fits), tt)

abbrev OfNext : FrameNext → Type 0
OfNext (of_frames.Whole frame echo len) = OfBytes frame
OfNext _ = ⊤

either_frame : (b : Bool) (x y : FrameNext) → OfNext x → OfNext y → OfNext (cond b x y)
either_frame true x y one other = one
either_frame false x y one other = other

by_bytes : (most : ℕ) (opcode : Opcode) (header : Header) (body : List ℕ) → header.unique < 2 ^ 64 → AreBytes body → OfNext (frame_by most opcode header body)
unfolding frame_by
by_bytes most opcode header body unique are =
    either_frame (nat_lt most (value_len header)) _ _
    (either_frame (nat_lt (length body) (header.extras_len + header.key_len)) of_frames.More (dropped TooLarge (stale_of opcode.verb (take header.key_len (drop header.extras_len body))) header) tt tt)
    (either_frame (nat_lt (length body) header.body_len) of_frames.More (of_frames.Whole (frame_in opcode header body) (echo_of header) (frame_len header)) tt
    (record { extras = low_take header.extras_len body are; unique = unique }))

of_bytes : (most : ℕ) (o : Option Opcode) (header : Header) (body : List ℕ) → header.unique < 2 ^ 64 → AreBytes body → OfNext (frame_of most o header body)
unfolding frame_of
of_bytes most None header body unique are = tt
of_bytes most (Some opcode) header body unique are = either_frame (fits opcode.verb header) (frame_by most opcode header body) (of_frames.Over Invalid (echo_of header)) (by_bytes most opcode header body unique are) tt

at_bytes : (most : ℕ) (header : Header) (body : List ℕ) → header.unique < 2 ^ 64 → AreBytes body → OfNext (frame_at most header body)
unfolding frame_at
at_bytes most header body unique are =
    either_frame (nat_lt header.body_len (header.extras_len + header.key_len)) (of_frames.Over Unknown (echo_of header)) _ tt
    (either_frame (nat_lt MAX_KEY_LEN header.key_len) (of_frames.Over Invalid (echo_of header)) (frame_of most (opcode_of header.opcode) header body) tt (of_bytes most (opcode_of header.opcode) header body unique are))

unique_low : (bytes : List ℕ) → AreBytes bytes → (header_in bytes).unique < 2 ^ 64
unfolding header_in
unique_low bytes are = long_low (drop 16 bytes) (low_drop 16 bytes are)

frame_bytes : (bytes : List ℕ) → AreBytes bytes → OfNext (frame_next MAX_TEXT_LEN bytes)
unfolding frame_next
frame_bytes bytes are = either_frame (nat_lt (length bytes) FRAME_LEN) of_frames.More (frame_at MAX_TEXT_LEN (header_in (take FRAME_LEN bytes)) (drop FRAME_LEN bytes)) tt
    (at_bytes MAX_TEXT_LEN (header_in (take FRAME_LEN bytes)) (drop FRAME_LEN bytes) (unique_low (take FRAME_LEN bytes) (low_take FRAME_LEN bytes are)) (low_drop FRAME_LEN bytes are))

either_fit : (b : Bool) (x y : FrameNext) → frames.IsFitNext MAX_TEXT_LEN x → frames.IsFitNext MAX_TEXT_LEN y → frames.IsFitNext MAX_TEXT_LEN (cond b x y)
either_fit true x y one other = one
either_fit false x y one other = other

frame_fits : (bytes : List ℕ) → frames.IsFitNext MAX_TEXT_LEN (frame_next MAX_TEXT_LEN bytes)
unfolding frame_next
frame_fits bytes = either_fit (nat_lt (length bytes) FRAME_LEN) of_frames.More (frame_at MAX_TEXT_LEN (header_in (take FRAME_LEN bytes)) (drop FRAME_LEN bytes)) tt (at_fits MAX_TEXT_LEN (header_in (take FRAME_LEN bytes)) (drop FRAME_LEN bytes))

frame_is_fit : (next : FrameNext) → frames.IsFitNext MAX_TEXT_LEN next → OfNext next → IsFitNext (of_frame next)
frame_is_fit (of_frames.Whole frame echo len) fit bytes = request_fits frame fit bytes frame.opcode.verb fit.key
frame_is_fit (of_frames.Dropped fault None echo len) fit bytes = omega arith
frame_is_fit (of_frames.Dropped fault (Some key) echo len) fit bytes = ((fit, tt), tt)
frame_is_fit of_frames.More fit bytes = tt
frame_is_fit (of_frames.Over fault echo) fit bytes = omega arith

-- Bytes

pub next_fits : (bytes : List ℕ) → AreBytes bytes → IsFitNext (next_of bytes)
next_fits bytes are = by (is_frame bytes) refl
  where
    by : (b : Bool) → is_frame bytes ≡ b → IsFitNext (next_of bytes)
    by true is = subst IsFitNext (sym (as_frame bytes is)) (frame_is_fit (frame_next MAX_TEXT_LEN bytes) (frame_fits bytes) (frame_bytes bytes are))
    by false is = subst IsFitNext (sym (as_text bytes is)) (text_fits bytes (next_meta bytes) (metas_fit bytes))

asks_of_fit : (next : Next) → IsFitNext next → AllByRecursion IsFitAsked (asks_in next)
asks_of_fit (Whole (Keys asks) style len last) fit = fit
asks_of_fit (Whole (Flush due) style len last) fit = tt
asks_of_fit (Whole (Stats topic) style len last) fit = tt
asks_of_fit (Whole (Said says) style len last) fit = tt
asks_of_fit More fit = tt

all_fit : (bytes : List ℕ) (nexts : List Next) → AreBytes bytes → AreFirst bytes nexts → AllByRecursion (λ next. AllByRecursion IsFitAsked (asks_in next)) nexts
all_fit bytes [] are first = tt
all_fit bytes (next ∷ nexts) are first =
    (asks_of_fit next (subst IsFitNext first.0 (next_fits bytes are)), all_fit (drop (len_of next) bytes) nexts (low_drop (len_of next) bytes are) first.1)

pub fit_asks : BytesAskFit
fit_asks bytes are nexts first = all_fit bytes nexts are first
