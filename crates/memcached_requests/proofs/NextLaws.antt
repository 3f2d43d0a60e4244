-- What bytes begin with stays so whatever follows.
use Rattle.std.specs.Prelude.{⊤, if◌then◌else◌}
use Rattle.std.specs.Option.{IfSome}
use Rattle.std.proofs.Common.{◌≡◌, ◌≢◌, ℕ, ◌+◌, ◌<◌, ◌==◌, Bool, true, false, true≢false, Option, Some, None, List, [], ◌∷◌, ◌++◌, length, take, refl, sym, ap, subst, ◌∙◌, arith}
use Rattle.memcached_text.specs.declared.limits.TheConstants.{MAX_TEXT_LEN, MAX_WAITING_LEN}
use Rattle.memcached_text.specs.declared.next.Next as lines
use Rattle.memcached_text.specs.declared.next.Next.TheVariants as of_lines
use Rattle.memcached_text.specs.Lines.{Lacks}
use Rattle.memcached_text.specs.Next as text
use Rattle.memcached_text.proofs.NextLaws as texts
use Rattle.memcached_frames.specs.declared.header.TheConstants.{FRAME_LEN, REQUEST}
use Rattle.memcached_frames.specs.declared.frame.FrameNext.{FrameNext}
use Rattle.memcached_frames.specs.declared.frame.FrameNext.TheVariants as of_frames
use Rattle.memcached_frames.specs.Header.{header_in}
use Rattle.memcached_frames.specs.Frames.{frame_next}
use Rattle.memcached_frames.specs.Laws.{TakesFrame}
use Rattle.memcached_frames.proofs.FrameLaws.{frames_stay, frames_wait, keeps_frames}
use Rattle.memcached_meta.specs.declared.next.MetaNext.{MetaNext}
use Rattle.memcached_meta.specs.declared.next.MetaNext.TheVariants as of_metas
use Rattle.memcached_meta.specs.Next.{next_meta, IsWithin}
use Rattle.memcached_meta.proofs.NextLaws.{meta_stays, meta_stays_none, meta_within, meta_waits_within, none_yet}
use Rattle.memcached_requests.specs.declared.request.Next.{Next}
use Rattle.memcached_requests.specs.declared.request.Next.TheVariants.{Whole, More}
use Rattle.memcached_requests.specs.Lines.{of_line}
use Rattle.memcached_requests.specs.FrameRequests.{of_frame}
use Rattle.memcached_requests.specs.MetaRequests.{of_meta}
use Rattle.memcached_requests.specs.Requests.{is_last, len_of}
use Rattle.memcached_requests.specs.Next.{is_frame, of_text, next_of}
use Rattle.memcached_requests.specs.Laws.{NextStays, TakesSome, NextWaits}

pub as_frame : (bytes : List ℕ) → is_frame bytes ≡ true → next_of bytes ≡ of_frame (frame_next MAX_TEXT_LEN bytes)
unfolding next_of
as_frame bytes is = ap (λ t. if t then of_frame (frame_next MAX_TEXT_LEN bytes) else of_text bytes (next_meta bytes)) is

pub as_text : (bytes : List ℕ) → is_frame bytes ≡ false → next_of bytes ≡ of_text bytes (next_meta bytes)
unfolding next_of
as_text bytes is = ap (λ t. if t then of_frame (frame_next MAX_TEXT_LEN bytes) else of_text bytes (next_meta bytes)) is

-- no bytes are the beginning of something
pub nothing : next_of [] ≡ More
nothing = as_text [] refl ∙ ap (of_text []) (none_yet [] tt) ∙ ap of_line (texts.no_bytes [] refl)

-- a line waits that has not come
pub line_is_due : (bytes : List ℕ) → is_frame bytes ≡ false → Lacks 10 bytes → text.next_of bytes ≡ of_lines.More → next_of bytes ≡ More
line_is_due bytes is lacks waits = as_text bytes is ∙ ap (of_text bytes) (none_yet bytes lacks) ∙ ap of_line waits

-- What is a meta command, or a line, stays so.
text_stays : (bytes more : List ℕ) (o : Option MetaNext) → next_meta bytes ≡ o → of_text bytes o ≢ More → of_text (bytes ++ more) (next_meta (bytes ++ more)) ≡ of_text bytes o
text_stays bytes more None is some =
    let line_some : text.next_of bytes ≢ of_lines.More = λ waits. some (ap of_line waits) in
    ap (of_text (bytes ++ more)) (meta_stays_none bytes more is line_some) ∙ ap of_line (texts.stays bytes more line_some)
text_stays bytes more (Some next) is some =
    ap (of_text (bytes ++ more)) (meta_stays bytes more next is (λ waits. some (ap of_meta waits)))

behind : (byte : ℕ) (bytes more : List ℕ) (t : Bool) → (byte == REQUEST) ≡ t → next_of (byte ∷ bytes) ≢ More → next_of (byte ∷ bytes ++ more) ≡ next_of (byte ∷ bytes)
behind byte bytes more true is some =
    let here = as_frame (byte ∷ bytes) is in
    as_frame (byte ∷ bytes ++ more) is ∙ ap of_frame (frames_stay MAX_TEXT_LEN (byte ∷ bytes) more (λ waits. some (here ∙ ap of_frame waits))) ∙ sym here
behind byte bytes more false is some =
    let here = as_text (byte ∷ bytes) is in
    as_text (byte ∷ bytes ++ more) is ∙ text_stays (byte ∷ bytes) more (next_meta (byte ∷ bytes)) refl (λ waits. some (here ∙ waits)) ∙ sym here

pub next_stays : NextStays
next_stays [] more some = absurd (some nothing)
next_stays (byte ∷ bytes) more some = behind byte bytes more _ refl some

-- What takes some bytes

-- what does not wait and does not end the connection
abbrev TakesOne : Next → Type 0
TakesOne next = next ≢ More → is_last next ≡ false → 0 < len_of next

line_takes : (come : ℕ) (next : lines.Next) → text.IsWithin come next → TakesOne (of_line next)
line_takes come (of_lines.Command command len) within some on = within.0
line_takes come (of_lines.Refused fault stale quiet len) within some on = within
line_takes come of_lines.More within some on = absurd (some refl)
line_takes come of_lines.LongLine within some on = absurd (true≢false on)

frame_takes : (body : ℕ) (next : FrameNext) → TakesFrame (FRAME_LEN + body) next → TakesOne (of_frame next)
frame_takes body (of_frames.Whole frame echo len) taken some on = omega (arith, taken)
frame_takes body (of_frames.Dropped fault stale echo len) taken some on = omega (arith, taken)
frame_takes body of_frames.More taken some on = absurd (some refl)
frame_takes body (of_frames.Over fault echo) taken some on = absurd (true≢false on)

meta_takes : (come : ℕ) (next : MetaNext) → IsWithin come next → TakesOne (of_meta next)
meta_takes come (of_metas.Whole meta len) within some on = within.0
meta_takes come (of_metas.Dropped fault stale len) within some on = within
meta_takes come of_metas.More within some on = absurd (some refl)

text_takes : (bytes : List ℕ) (o : Option MetaNext) → IfSome o (IsWithin (length bytes)) → TakesOne (of_text bytes o)
text_takes bytes None within = line_takes (length bytes) (text.next_of bytes) (texts.within bytes)
text_takes bytes (Some next) within = meta_takes (length bytes) next within

pub takes_some : TakesSome
takes_some bytes = go (is_frame bytes) refl
  where
    go : (t : Bool) → is_frame bytes ≡ t → TakesOne (next_of bytes)
    go true is = subst TakesOne (sym (as_frame bytes is)) (frame_takes (header_in (take FRAME_LEN bytes)).body_len (frame_next MAX_TEXT_LEN bytes) (keeps_frames MAX_TEXT_LEN bytes))
    go false is = subst TakesOne (sym (as_text bytes is)) (text_takes bytes (next_meta bytes) (meta_within bytes))

-- What waits

abbrev IsMore : Next → Type 0
IsMore More = ⊤
IsMore (Whole request style len last) = ⊥

line_waits : (next : lines.Next) → IsMore (of_line next) → next ≡ of_lines.More
line_waits (of_lines.Command command len) waits = absurd waits
line_waits (of_lines.Refused fault stale quiet len) waits = absurd waits
line_waits of_lines.More waits = refl
line_waits of_lines.LongLine waits = absurd waits

frame_waits : (next : FrameNext) → IsMore (of_frame next) → next ≡ of_frames.More
frame_waits (of_frames.Whole frame echo len) waits = absurd waits
frame_waits (of_frames.Dropped fault stale echo len) waits = absurd waits
frame_waits of_frames.More waits = refl
frame_waits (of_frames.Over fault echo) waits = absurd waits

meta_waits : (next : MetaNext) → IsMore (of_meta next) → next ≡ of_metas.More
meta_waits (of_metas.Whole meta len) waits = absurd waits
meta_waits (of_metas.Dropped fault stale len) waits = absurd waits
meta_waits of_metas.More waits = refl

text_waits : (bytes : List ℕ) (o : Option MetaNext) → next_meta bytes ≡ o → IsMore (of_text bytes o) → length bytes < MAX_WAITING_LEN
text_waits bytes None is waits = texts.waits_within bytes (line_waits (text.next_of bytes) waits)
text_waits bytes (Some next) is waits = meta_waits_within bytes (is ∙ ap Some (meta_waits next waits))

pub next_waits : NextWaits
next_waits bytes waits = go (is_frame bytes) refl
  where
    is_more : IsMore (next_of bytes)
    is_more = subst IsMore (sym waits) tt

    go : (t : Bool) → is_frame bytes ≡ t → length bytes < MAX_WAITING_LEN
    go true is =
        let few = frames_wait MAX_TEXT_LEN bytes (frame_waits (frame_next MAX_TEXT_LEN bytes) (subst IsMore (as_frame bytes is) is_more)) in
        omega (arith, few)
    go false is = text_waits bytes (next_meta bytes) refl (subst IsMore (as_text bytes is) is_more)
