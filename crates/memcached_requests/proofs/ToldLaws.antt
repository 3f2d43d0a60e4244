-- What quiet frames are told.
use Rattle.std.specs.Prelude.{◌&&◌}
use Rattle.std.proofs.Common.{◌≡◌, ◌<◌, ◌==◌, ℕ, List, Bool, true, false, refl, ap, arith}
use Rattle.std.proofs.lemmas.Bool.{eqb-true}
use Rattle.memcached_commands.specs.declared.ask.Says.{Says}
use Rattle.memcached_commands.specs.declared.ask.Says.TheVariants.{Line, Refusal, Stores, Number, Shows, Leases, Nothing}
use Rattle.memcached_frames.specs.declared.frame.Echo.{Echo}
use Rattle.memcached_frames.specs.declared.opcode.Opcode.{Opcode}
use Rattle.memcached_frames.specs.Replies.{reply_text}
use Rattle.memcached_requests.specs.FrameReplies.{said_frame, told_as, unless_hidden, is_hidden, missed_frame, frame_text}
use Rattle.memcached_requests.specs.Laws.{NeverHidesFaults, IsTold}

-- what is not hidden is told
told : (echo : Echo) (key : List ℕ) (says : Says) → (is_hidden says (said_frame (told_as echo) key says).status && (told_as echo).quiet) ≡ false
    → frame_text echo key says ≡ reply_text echo (said_frame (told_as echo) key says)
unfolding frame_text
told echo key says shown = ap (λ hidden. unless_hidden hidden echo (said_frame (told_as echo) key says)) shown

both_false : (a b : Bool) → b ≡ false → (a && b) ≡ false
both_false true b is = is
both_false false b is = refl

pub is_told : IsTold
is_told echo key says quiet = told echo key says (both_false (is_hidden says (said_frame (told_as echo) key says).status) _ quiet)

not_none : (n : ℕ) → 1 < n → (n == 0) ≡ false
not_none n high = go (n == 0) refl
  where
    go : (t : Bool) → (n == 0) ≡ t → t ≡ false
    go true none = let zero_is = eqb-true n 0 none in absurd (omega (arith, high, zero_is))
    go false some = refl

missed_status : (named : Bool) (key : List ℕ) → (missed_frame named key).status ≡ 1
missed_status true key = refl
missed_status false key = refl

shown : (opcode : Opcode) (key : List ℕ) (says : Says) → 1 < (said_frame opcode key says).status → is_hidden says (said_frame opcode key says).status ≡ false
unfolding said_frame
shown opcode key (Line reply) high = not_none _ high
shown opcode key (Refusal fault) high = not_none _ high
shown opcode key (Stores unique) high = not_none _ high
shown opcode key (Number number unique left made) high = not_none _ high
shown opcode key (Shows item) high = refl
shown opcode key (Leases item left wins) high = refl
shown opcode key Nothing high = let one = missed_status opcode.named key in absurd (omega (arith, high, one))

pub never_hides_faults : NeverHidesFaults
never_hides_faults echo key says high = told echo key says (ap (λ hidden. hidden && (told_as echo).quiet) (shown (told_as echo) key says high))
