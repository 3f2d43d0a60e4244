-- Frames are taken whole, in whatever pieces their bytes come.
use Rattle.std.specs.Prelude.{⊤, if◌then◌else◌}
use Rattle.std.proofs.Common.{◌≡◌, ◌≢◌, ℕ, ◌+◌, ◌-◌, ◌<◌, ◌≤◌, ◌==◌, ◌&&◌, ◌||◌, Bool, true, false, List, ◌++◌, length, take, drop, Option, Some, None, nat_lt, refl, sym, subst, ◌∙◌, arith, length-append}
use Rattle.std.proofs.lemmas.List.{take-append-le, drop-append-le, length-drop}
use Rattle.std.proofs.lemmas.Bool.{le-ltb, ltb-false, eqb-true}
use borrow.Author.Tests.{ltb-true}
use Rattle.memcached_text.specs.declared.limits.TheConstants.{MAX_KEY_LEN}
use Rattle.memcached_frames.specs.declared.opcode.TheConstants.{MOST_EXTRAS}
use Rattle.memcached_frames.specs.declared.opcode.Verb.{Verb}
use Rattle.memcached_frames.specs.declared.opcode.Verb.TheVariants as verbs
use Rattle.memcached_frames.specs.declared.opcode.Opcode.{Opcode}
use Rattle.memcached_frames.specs.declared.header.TheConstants.{FRAME_LEN}
use Rattle.memcached_frames.specs.declared.header.Header.{Header}
use Rattle.memcached_frames.specs.declared.frame.FrameFault.TheVariants.{Unknown, Invalid, TooLarge}
use Rattle.memcached_frames.specs.declared.frame.FrameNext.{FrameNext}
use Rattle.memcached_frames.specs.declared.frame.FrameNext.TheVariants.{Whole, More, Over}
use Rattle.memcached_frames.specs.Opcodes.{opcode_of, fits_extras}
use Rattle.memcached_frames.specs.Header.{header_in, frame_len}
use Rattle.memcached_frames.specs.Frames.{echo_of, value_len, frame_in, fits, stale_of, dropped, frame_by, frame_of, frame_at, frame_next}
use Rattle.memcached_frames.specs.Laws.{FramesStay, TakesFrame, KeepsFrames, IsOver, EndsAtOnce, FramesWait}

-- a key that has come is the same with more bytes behind it
same_key : (header : Header) (body more : List ℕ) → header.extras_len + header.key_len ≤ length body
    → take header.key_len (drop header.extras_len (body ++ more)) ≡ take header.key_len (drop header.extras_len body)
same_key header body more come =
    let left : length (drop header.extras_len body) ≡ length body - header.extras_len = length-drop header.extras_len body in
    let behind : drop header.extras_len (body ++ more) ≡ drop header.extras_len body ++ more = drop-append-le header.extras_len body more (omega arith) in
    rw behind (take-append-le header.key_len (drop header.extras_len body) more (omega arith))

-- and so is a request
same_frame : (opcode : Opcode) (header : Header) (body more : List ℕ) → header.extras_len + header.key_len ≤ header.body_len → header.body_len ≤ length body
    → frame_in opcode header (body ++ more) ≡ frame_in opcode header body
same_frame opcode header body more lengths come =
    let e = header.extras_len in
    let k = header.key_len in
    let left : length (drop e body) ≡ length body - e = length-drop e body in
    let rest : length (drop k (drop e body)) ≡ length (drop e body) - k = length-drop k (drop e body) in
    let extras : take e (body ++ more) ≡ take e body = take-append-le e body more (omega arith) in
    let behind : drop e (body ++ more) ≡ drop e body ++ more = drop-append-le e body more (omega arith) in
    let key : take k (drop e body ++ more) ≡ take k (drop e body) = take-append-le k (drop e body) more (omega arith) in
    let last : drop k (drop e body ++ more) ≡ drop k (drop e body) ++ more = drop-append-le k (drop e body) more (omega arith) in
    let value : take (value_len header) (drop k (drop e body) ++ more) ≡ take (value_len header) (drop k (drop e body)) = take-append-le (value_len header) (drop k (drop e body)) more (omega arith) in
    rw (extras, behind, key, last, value) refl

-- a frame whose value is too long
large_stays : (most : ℕ) (opcode : Opcode) (header : Header) (body more : List ℕ) (early : Bool) → nat_lt most (value_len header) ≡ true
    → nat_lt (length body) (header.extras_len + header.key_len) ≡ early → frame_by most opcode header body ≢ More
    → frame_by most opcode header (body ++ more) ≡ frame_by most opcode header body
unfolding frame_by
large_stays most opcode header body more true large is some = absurd (some (rw (large, is) refl))
large_stays most opcode header body more false large is some =
    let come = ltb-false _ _ is in
    let longer : nat_lt (length (body ++ more)) (header.extras_len + header.key_len) ≡ false = le-ltb _ _ (omega (arith, length-append body more)) in
    rw (large, is, longer, same_key header body more come) refl

-- one whose value is as it may be
short_stays : (most : ℕ) (opcode : Opcode) (header : Header) (body more : List ℕ) (waits : Bool) → header.extras_len + header.key_len ≤ header.body_len
    → nat_lt most (value_len header) ≡ false → nat_lt (length body) header.body_len ≡ waits → frame_by most opcode header body ≢ More
    → frame_by most opcode header (body ++ more) ≡ frame_by most opcode header body
unfolding frame_by
short_stays most opcode header body more true lengths short is some = absurd (some (rw (short, is) refl))
short_stays most opcode header body more false lengths short is some =
    let come = ltb-false _ _ is in
    let longer : nat_lt (length (body ++ more)) header.body_len ≡ false = le-ltb _ _ (omega (arith, length-append body more)) in
    rw (short, is, longer, same_frame opcode header body more lengths come) refl

by_stays : (most : ℕ) (opcode : Opcode) (header : Header) (body more : List ℕ) (large : Bool) → header.extras_len + header.key_len ≤ header.body_len
    → nat_lt most (value_len header) ≡ large → frame_by most opcode header body ≢ More
    → frame_by most opcode header (body ++ more) ≡ frame_by most opcode header body
by_stays most opcode header body more true lengths is some = large_stays most opcode header body more _ is refl some
by_stays most opcode header body more false lengths is some = short_stays most opcode header body more _ lengths is refl some

of_stays : (most : ℕ) (opcode : Option Opcode) (header : Header) (body more : List ℕ) → header.extras_len + header.key_len ≤ header.body_len
    → frame_of most opcode header body ≢ More → frame_of most opcode header (body ++ more) ≡ frame_of most opcode header body
unfolding frame_of
of_stays most None header body more lengths some = refl
of_stays most (Some opcode) header body more lengths some = go (fits opcode.verb header) refl
  where
    go : (t : Bool) → fits opcode.verb header ≡ t → frame_of most (Some opcode) header (body ++ more) ≡ frame_of most (Some opcode) header body
    go true is = rw is (by_stays most opcode header body more _ lengths refl (λ waits. some (rw (is, waits) refl)))
    go false is = rw is refl

at_stays : (most : ℕ) (header : Header) (body more : List ℕ) → frame_at most header body ≢ More → frame_at most header (body ++ more) ≡ frame_at most header body
unfolding frame_at
at_stays most header body more some = go (nat_lt header.body_len (header.extras_len + header.key_len)) (nat_lt MAX_KEY_LEN header.key_len) refl refl
  where
    go : (short long : Bool) → nat_lt header.body_len (header.extras_len + header.key_len) ≡ short → nat_lt MAX_KEY_LEN header.key_len ≡ long
        → frame_at most header (body ++ more) ≡ frame_at most header body
    go true long a b = rw a refl
    go false true a b = rw (a, b) refl
    go false false a b = rw (a, b) (of_stays most (opcode_of header.opcode) header body more (ltb-false _ _ a) (λ waits. some (rw (a, b, waits) refl)))

-- what bytes begin with that have a header
next_at : (most : ℕ) (bytes : List ℕ) → FRAME_LEN ≤ length bytes → frame_next most bytes ≡ frame_at most (header_in (take FRAME_LEN bytes)) (drop FRAME_LEN bytes)
unfolding frame_next
next_at most bytes come = let is : nat_lt (length bytes) FRAME_LEN ≡ false = le-ltb _ _ come in rw is refl

-- the same header stands at the front with more bytes behind
next_with : (most : ℕ) (bytes more : List ℕ) → FRAME_LEN ≤ length bytes → frame_next most (bytes ++ more) ≡ frame_at most (header_in (take FRAME_LEN bytes)) (drop FRAME_LEN bytes ++ more)
next_with most bytes more come =
    let header : take FRAME_LEN (bytes ++ more) ≡ take FRAME_LEN bytes = take-append-le FRAME_LEN bytes more come in
    let body : drop FRAME_LEN (bytes ++ more) ≡ drop FRAME_LEN bytes ++ more = drop-append-le FRAME_LEN bytes more come in
    next_at most (bytes ++ more) (omega (arith, length-append bytes more)) ∙ rw (header, body) refl

pub frames_stay : FramesStay
unfolding frame_next
frames_stay most bytes more some = go (nat_lt (length bytes) FRAME_LEN) refl
  where
    go : (t : Bool) → nat_lt (length bytes) FRAME_LEN ≡ t → frame_next most (bytes ++ more) ≡ frame_next most bytes
    go true is = absurd (some (rw is refl))
    go false is =
        let come = ltb-false _ _ is in
        let here = next_at most bytes come in
        next_with most bytes more come ∙ at_stays most (header_in (take FRAME_LEN bytes)) (drop FRAME_LEN bytes) more (λ waits. some (here ∙ waits)) ∙ sym here

-- each of two
either : (t : Bool) (len : ℕ) (one two : FrameNext) → TakesFrame len one → TakesFrame len two → TakesFrame len (if t then one else two)
either true len one two here there = here
either false len one two here there = there

takes_by : (most : ℕ) (opcode : Opcode) (header : Header) (body : List ℕ) → TakesFrame (frame_len header) (frame_by most opcode header body)
unfolding frame_by
takes_by most opcode header body =
    either (nat_lt most (value_len header)) _ _ _
    (either (nat_lt (length body) (header.extras_len + header.key_len)) _ More _ tt refl)
    (either (nat_lt (length body) header.body_len) _ More _ tt refl)

takes_of : (most : ℕ) (opcode : Option Opcode) (header : Header) (body : List ℕ) → TakesFrame (frame_len header) (frame_of most opcode header body)
unfolding frame_of
takes_of most None header body = refl
takes_of most (Some opcode) header body = either (fits opcode.verb header) _ _ _ (takes_by most opcode header body) tt

takes_at : (most : ℕ) (header : Header) (body : List ℕ) → TakesFrame (frame_len header) (frame_at most header body)
unfolding frame_at
takes_at most header body =
    either (nat_lt header.body_len (header.extras_len + header.key_len)) _ _ _ tt
    (either (nat_lt MAX_KEY_LEN header.key_len) _ _ _ tt (takes_of most (opcode_of header.opcode) header body))

pub keeps_frames : KeepsFrames
unfolding frame_next
keeps_frames most bytes =
    either (nat_lt (length bytes) FRAME_LEN) _ More _ tt (takes_at most (header_in (take FRAME_LEN bytes)) (drop FRAME_LEN bytes))

-- what ends a connection does so by the header alone
over_by : (most : ℕ) (opcode : Opcode) (header : Header) (body : List ℕ) (a b c : Bool) → IsOver (if a then (if b then More else dropped TooLarge (stale_of opcode.verb (take header.key_len (drop header.extras_len body))) header)
    else (if c then More else Whole (frame_in opcode header body) (echo_of header) (frame_len header))) → ⊥
over_by most opcode header body true true c over = over
over_by most opcode header body true false c over = over
over_by most opcode header body false b true over = over
over_by most opcode header body false b false over = over

never_over : (most : ℕ) (opcode : Opcode) (header : Header) (body : List ℕ) → IsOver (frame_by most opcode header body) → ⊥
unfolding frame_by
never_over most opcode header body over = over_by most opcode header body _ _ _ over

over_of : (most : ℕ) (opcode : Option Opcode) (header : Header) (body other : List ℕ) → IsOver (frame_of most opcode header body) → frame_of most opcode header other ≡ frame_of most opcode header body
unfolding frame_of
over_of most None header body other over = refl
over_of most (Some opcode) header body other over = go (fits opcode.verb header) refl
  where
    go : (t : Bool) → fits opcode.verb header ≡ t → frame_of most (Some opcode) header other ≡ frame_of most (Some opcode) header body
    go true is = let same : frame_of most (Some opcode) header body ≡ frame_by most opcode header body = rw is refl in absurd (never_over most opcode header body (subst IsOver same over))
    go false is = rw is refl

over_at : (most : ℕ) (header : Header) (body other : List ℕ) → IsOver (frame_at most header body) → frame_at most header other ≡ frame_at most header body
unfolding frame_at
over_at most header body other over = go (nat_lt header.body_len (header.extras_len + header.key_len)) (nat_lt MAX_KEY_LEN header.key_len) refl refl
  where
    go : (short long : Bool) → nat_lt header.body_len (header.extras_len + header.key_len) ≡ short → nat_lt MAX_KEY_LEN header.key_len ≡ long
        → frame_at most header other ≡ frame_at most header body
    go true long a b = rw a refl
    go false true a b = rw (a, b) refl
    go false false a b =
        let same : frame_at most header body ≡ frame_of most (opcode_of header.opcode) header body = rw (a, b) refl in
        rw (a, b) (over_of most (opcode_of header.opcode) header body other (subst IsOver same over))

pub ends_at_once : EndsAtOnce
ends_at_once most bytes more whole over =
    let come : FRAME_LEN ≤ length bytes = omega arith in
    let with = next_with most bytes more come in
    next_at most bytes come ∙ over_at most (header_in (take FRAME_LEN bytes)) (drop FRAME_LEN bytes ++ more) (drop FRAME_LEN bytes) (subst IsOver with over) ∙ sym with

-- the extras that a verb may have are few
is_few : (len n : ℕ) → (len == n) ≡ true → n ≤ MOST_EXTRAS → len ≤ MOST_EXTRAS
is_few len n is few = omega (arith, eqb-true len n is)

both_few : (len : ℕ) (a : Bool) → (len == 0) ≡ a → (a || len == 4) ≡ true → len ≤ MOST_EXTRAS
both_few len true is fits = is_few len 0 is (omega arith)
both_few len false is fits = is_few len 4 fits (omega arith)

few_extras : (verb : Verb) (len : ℕ) → fits_extras verb len ≡ true → len ≤ MOST_EXTRAS
few_extras verbs.Set len fits = is_few len 8 fits (omega arith)
few_extras verbs.Add len fits = is_few len 8 fits (omega arith)
few_extras verbs.Replace len fits = is_few len 8 fits (omega arith)
few_extras verbs.Up len fits = is_few len 20 fits (omega arith)
few_extras verbs.Down len fits = is_few len 20 fits (omega arith)
few_extras verbs.Touch len fits = is_few len 4 fits (omega arith)
few_extras verbs.GetTouch len fits = is_few len 4 fits (omega arith)
few_extras verbs.Flush len fits = both_few len _ refl fits
few_extras verbs.Get len fits = is_few len 0 fits (omega arith)
few_extras verbs.Delete len fits = is_few len 0 fits (omega arith)
few_extras verbs.Quit len fits = is_few len 0 fits (omega arith)
few_extras verbs.Noop len fits = is_few len 0 fits (omega arith)
few_extras verbs.Version len fits = is_few len 0 fits (omega arith)
few_extras verbs.Append len fits = is_few len 0 fits (omega arith)
few_extras verbs.Prepend len fits = is_few len 0 fits (omega arith)
few_extras verbs.Stat len fits = is_few len 0 fits (omega arith)

first_of : (a b : Bool) → (a && b) ≡ true → a ≡ true
first_of true b is = refl
first_of false b is = is

-- what waits
abbrev IsMore : FrameNext → Type 0
IsMore More = ⊤
IsMore _ = ⊥

by_large : (most : ℕ) (opcode : Opcode) (header : Header) (body : List ℕ) (early : Bool) → nat_lt most (value_len header) ≡ true
    → nat_lt (length body) (header.extras_len + header.key_len) ≡ early → IsMore (frame_by most opcode header body) → length body < header.extras_len + header.key_len
unfolding frame_by
by_large most opcode header body true large is waits = ltb-true _ _ is
by_large most opcode header body false large is waits =
    let same : frame_by most opcode header body ≡ dropped TooLarge (stale_of opcode.verb (take header.key_len (drop header.extras_len body))) header = rw (large, is) refl in
    absurd (subst IsMore same waits)

by_short : (most : ℕ) (opcode : Opcode) (header : Header) (body : List ℕ) (short : Bool) → nat_lt most (value_len header) ≡ false
    → nat_lt (length body) header.body_len ≡ short → IsMore (frame_by most opcode header body) → length body < header.body_len
unfolding frame_by
by_short most opcode header body true large is waits = ltb-true _ _ is
by_short most opcode header body false large is waits =
    let same : frame_by most opcode header body ≡ Whole (frame_in opcode header body) (echo_of header) (frame_len header) = rw (large, is) refl in
    absurd (subst IsMore same waits)

-- a body that waits is shorter than one that is as long as it may be
waits_by : (most : ℕ) (opcode : Opcode) (header : Header) (body : List ℕ) (large : Bool) → header.extras_len ≤ MOST_EXTRAS → header.key_len ≤ MAX_KEY_LEN
    → nat_lt most (value_len header) ≡ large → IsMore (frame_by most opcode header body) → length body < MOST_EXTRAS + MAX_KEY_LEN + most
waits_by most opcode header body true extras key is waits = omega (arith, by_large most opcode header body _ is refl waits)
waits_by most opcode header body false extras key is waits = omega (arith, by_short most opcode header body _ is refl waits, ltb-false _ _ is)

waits_of : (most : ℕ) (opcode : Option Opcode) (header : Header) (body : List ℕ) → header.key_len ≤ MAX_KEY_LEN
    → IsMore (frame_of most opcode header body) → length body < MOST_EXTRAS + MAX_KEY_LEN + most
unfolding frame_of
waits_of most None header body key waits = absurd waits
waits_of most (Some opcode) header body key waits = go (fits opcode.verb header) refl
  where
    go : (t : Bool) → fits opcode.verb header ≡ t → length body < MOST_EXTRAS + MAX_KEY_LEN + most
    go true is =
        let same : frame_of most (Some opcode) header body ≡ frame_by most opcode header body = rw is refl in
        waits_by most opcode header body _ (few_extras opcode.verb header.extras_len (first_of _ _ (first_of _ _ is))) key refl (subst IsMore same waits)
    go false is = let same : frame_of most (Some opcode) header body ≡ Over Invalid (echo_of header) = rw is refl in absurd (subst IsMore same waits)

waits_at : (most : ℕ) (header : Header) (body : List ℕ) → IsMore (frame_at most header body) → length body < MOST_EXTRAS + MAX_KEY_LEN + most
unfolding frame_at
waits_at most header body waits = go (nat_lt header.body_len (header.extras_len + header.key_len)) (nat_lt MAX_KEY_LEN header.key_len) refl refl
  where
    go : (short long : Bool) → nat_lt header.body_len (header.extras_len + header.key_len) ≡ short → nat_lt MAX_KEY_LEN header.key_len ≡ long
        → length body < MOST_EXTRAS + MAX_KEY_LEN + most
    go true long a b = let same : frame_at most header body ≡ Over Unknown (echo_of header) = rw a refl in absurd (subst IsMore same waits)
    go false true a b = let same : frame_at most header body ≡ Over Invalid (echo_of header) = rw (a, b) refl in absurd (subst IsMore same waits)
    go false false a b =
        let same : frame_at most header body ≡ frame_of most (opcode_of header.opcode) header body = rw (a, b) refl in
        waits_of most (opcode_of header.opcode) header body (ltb-false _ _ b) (subst IsMore same waits)

pub frames_wait : FramesWait
frames_wait most bytes waits = go (nat_lt (length bytes) FRAME_LEN) refl
  where
    go : (t : Bool) → nat_lt (length bytes) FRAME_LEN ≡ t → length bytes < FRAME_LEN + MOST_EXTRAS + MAX_KEY_LEN + most
    go true is = omega (arith, ltb-true _ _ is)
    go false is =
        let come : FRAME_LEN ≤ length bytes = ltb-false _ _ is in
        omega (arith, length-drop FRAME_LEN bytes, waits_at most (header_in (take FRAME_LEN bytes)) (drop FRAME_LEN bytes) (subst IsMore (sym waits ∙ next_at most bytes come) tt))
