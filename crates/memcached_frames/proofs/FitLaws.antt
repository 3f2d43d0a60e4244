-- What frames begin with is fit.
use Rattle.std.specs.Prelude.{if◌then◌else◌}
use Rattle.std.proofs.Common.{◌≡◌, ℕ, ◌+◌, ◌≤◌, ◌&&◌, Bool, true, false, List, length, take, drop, Option, Some, None, nat_lt, refl, ap, ◌∙◌, arith}
use Rattle.std.proofs.lemmas.List.{length-drop, length-take, length-take-le}
use Rattle.std.proofs.lemmas.Bool.{ltb-false}
use borrow.Author.Tests.{ltb-true}
use Rattle.memcached_text.specs.declared.limits.TheConstants.{MAX_KEY_LEN}
use Rattle.memcached_frames.specs.declared.opcode.Verb.{Verb}
use Rattle.memcached_frames.specs.declared.opcode.Verb.TheVariants as verbs
use Rattle.memcached_frames.specs.declared.opcode.Opcode.{Opcode}
use Rattle.memcached_frames.specs.declared.header.Header.{Header}
use Rattle.memcached_frames.specs.declared.frame.FrameFault.TheVariants.{Unknown, Invalid, TooLarge}
use Rattle.memcached_frames.specs.declared.frame.FrameNext.TheVariants.{Whole, More, Over}
use Rattle.memcached_frames.specs.Opcodes.{opcode_of, fits_extras, fits_key}
use Rattle.memcached_frames.specs.Header.{frame_len}
use Rattle.memcached_frames.specs.Frames.{echo_of, value_len, frame_in, fits, stale_of, dropped, frame_by, frame_of, frame_at}
use Rattle.memcached_frames.specs.Fit.{IsFitFrame, IsStale, IsFitNext}

first_of : (a b : Bool) → (a && b) ≡ true → a ≡ true
first_of true b is = refl
first_of false b is = is

second_of : (a b : Bool) → (a && b) ≡ true → b ≡ true
second_of true b is = is
second_of false false is = is
second_of false true is = refl

-- a key that has come has the length that the header tells
key_len : (header : Header) (body : List ℕ) → header.extras_len + header.key_len ≤ length body → length (take header.key_len (drop header.extras_len body)) ≡ header.key_len
key_len header body come = let left = length-drop header.extras_len body in length-take-le header.key_len (drop header.extras_len body) (omega (arith, left, come))

-- a header of a verb whose lengths fit it, with a body that has come
module _ (most : ℕ) (opcode : Opcode) (header : Header) (body : List ℕ) (lengths : header.extras_len + header.key_len ≤ header.body_len) (short : header.key_len ≤ MAX_KEY_LEN) (fit : fits opcode.verb header ≡ true) where
  fit_extras : fits_extras opcode.verb header.extras_len ≡ true
  fit_extras = first_of _ _ (first_of _ _ fit)

  fit_key : fits_key opcode.verb header.key_len ≡ true
  fit_key = second_of (fits_extras opcode.verb header.extras_len) _ (first_of _ _ fit)

  whole : header.body_len ≤ length body → value_len header ≤ most → IsFitFrame most (frame_in opcode header body)
  whole come few =
      let extras : length (take header.extras_len body) ≡ header.extras_len = length-take-le header.extras_len body (omega (arith, come, lengths)) in
      let key = key_len header body (omega (arith, come, lengths)) in
      let value = length-take (value_len header) (drop header.key_len (drop header.extras_len body)) in record {
        extras = ap (fits_extras opcode.verb) extras ∙ fit_extras;
        key = ap (fits_key opcode.verb) key ∙ fit_key;
        short = omega (arith, key, short);
        value = omega (arith, value, few);
      }

  stale : (verb : Verb) → fits_key verb header.key_len ≡ true → header.extras_len + header.key_len ≤ length body → IsStale (stale_of verb (take header.key_len (drop header.extras_len body)))
  stale verbs.Set is come = let key = key_len header body come in let some = ltb-true 0 header.key_len is in (omega (arith, key, some), omega (arith, key, short))
  stale verbs.Get is come = tt
  stale verbs.Add is come = tt
  stale verbs.Replace is come = tt
  stale verbs.Delete is come = tt
  stale verbs.Up is come = tt
  stale verbs.Down is come = tt
  stale verbs.Quit is come = tt
  stale verbs.Flush is come = tt
  stale verbs.Noop is come = tt
  stale verbs.Version is come = tt
  stale verbs.Append is come = tt
  stale verbs.Prepend is come = tt
  stale verbs.Stat is come = tt
  stale verbs.Touch is come = tt
  stale verbs.GetTouch is come = tt

  too_large : (waits : Bool) → nat_lt (length body) (header.extras_len + header.key_len) ≡ waits
      → IsFitNext most (if waits then More else dropped TooLarge (stale_of opcode.verb (take header.key_len (drop header.extras_len body))) header)
  too_large true is = tt
  too_large false is = let come = ltb-false _ _ is in stale opcode.verb fit_key come

  no_larger : (waits : Bool) → value_len header ≤ most → nat_lt (length body) header.body_len ≡ waits
      → IsFitNext most (if waits then More else Whole (frame_in opcode header body) (echo_of header) (frame_len header))
  no_larger true few is = tt
  no_larger false few is = let come = ltb-false _ _ is in whole come few

  by_fits : IsFitNext most (frame_by most opcode header body)
  unfolding frame_by
  by_fits = go (nat_lt most (value_len header)) refl
    where
      go : (large : Bool) → nat_lt most (value_len header) ≡ large
          → IsFitNext most (if large
          then (if nat_lt (length body) (header.extras_len + header.key_len) then More
          else dropped TooLarge (stale_of opcode.verb (take header.key_len (drop header.extras_len body))) header)
          else (if nat_lt (length body) header.body_len then More
          else Whole (frame_in opcode header body) (echo_of header) (frame_len header)))
      go true is = too_large (nat_lt (length body) (header.extras_len + header.key_len)) refl
      go false is = no_larger (nat_lt (length body) header.body_len) (ltb-false _ _ is) refl

of_fits : (most : ℕ) (opcode : Option Opcode) (header : Header) (body : List ℕ) → header.extras_len + header.key_len ≤ header.body_len → header.key_len ≤ MAX_KEY_LEN
    → IsFitNext most (frame_of most opcode header body)
unfolding frame_of
of_fits most None header body lengths short = tt
of_fits most (Some opcode) header body lengths short = go (fits opcode.verb header) refl
  where
    go : (t : Bool) → fits opcode.verb header ≡ t → IsFitNext most (if t then frame_by most opcode header body else Over Invalid (echo_of header))
    go true is = by_fits most opcode header body lengths short is
    go false is = tt

pub at_fits : (most : ℕ) (header : Header) (body : List ℕ) → IsFitNext most (frame_at most header body)
unfolding frame_at
at_fits most header body = go (nat_lt header.body_len (header.extras_len + header.key_len)) refl (nat_lt MAX_KEY_LEN header.key_len) refl
  where
    go : (less : Bool) → nat_lt header.body_len (header.extras_len + header.key_len) ≡ less → (long : Bool) → nat_lt MAX_KEY_LEN header.key_len ≡ long
        → IsFitNext most (if less then Over Unknown (echo_of header)
        else (if long then Over Invalid (echo_of header) else frame_of most (opcode_of header.opcode) header body))
    go true is long key = tt
    go false is true key = tt
    go false is false key = of_fits most (opcode_of header.opcode) header body (ltb-false _ _ is) (ltb-false _ _ key)
