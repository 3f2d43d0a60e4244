-- The owners and the feeder of a run, before it and after it.
use Rattle.std.proofs.Common.{◌≡◌, ℕ, zero, suc, ◌+◌, List, [], ◌∷◌, ◌++◌, length, slice_get, Some, IfSome, refl, sym, ap, ◌∙◌, subst, arith, All}
use Rattle.std.specs.List.{AllZip}
use Rattle.std.proofs.lemmas.List.Elements.{All-cons, All-nil}
use Rattle.list_laws.proofs.AllElements.{all_zipped}
use Rattle.partition_model.specs.declared.options.Options.{Options}
use Rattle.mica_trace.specs.declared.line.TraceLine.{TraceLine}
use Rattle.line_replies.specs.Replied.{HasReplied}
use Rattle.exclusive_replay.specs.declared.owner.Owner.{Owner}
use Rattle.exclusive_replay.specs.declared.feeder.Feeder.{Feeder}
use Rattle.exclusive_replay.specs.Sent.{numbers_in}
use Rattle.exclusive_replay.specs.LineEnds.{LineBox, line_box}
use Rattle.any_partition.specs.PlainPartition.{owner_of}
use Rattle.exclusive_replay.specs.Workers.{IsReadyOwner, OwnerRan, OwnersRan, IsReadyFeeder, HasFed, lines_at, messages_for}
use Rattle.exclusive_replay.specs.Run.{IsMade, AreMade, HaveRun}

module _ (options : Options) (trace : List TraceLine) where
  -- before the run

  owners_ready : (os : List Owner) (ss : List LineBox) → AllZip (IsMade options trace) os ss → All (IsReadyOwner trace) os
  owners_ready [] [] zip = All-nil (IsReadyOwner trace)
  owners_ready [] (s ∷ ss) zip = absurd zip
  owners_ready (o ∷ os) [] zip = absurd zip
  owners_ready (o ∷ os) (s ∷ ss) zip = All-cons (IsReadyOwner trace) o os zip.0.ready (owners_ready os ss zip.1)

  as_many : (os : List Owner) (ss : List LineBox) → AllZip (IsMade options trace) os ss → length ss ≡ length os
  as_many [] [] zip = refl
  as_many [] (s ∷ ss) zip = absurd zip
  as_many (o ∷ os) [] zip = absurd zip
  as_many (o ∷ os) (s ∷ ss) zip = ap suc (as_many os ss zip.1)

  fresh_at : (os : List Owner) (ss : List LineBox) → AllZip (IsMade options trace) os ss → (p : ℕ) (s : LineBox) → slice_get ss p ≡ Some s → (s.list ≡ []) × (s.lines ≡ length trace)
  fresh_at [] [] zip p s is = absurd (cc)
  fresh_at [] (x ∷ ss) zip p s is = absurd zip
  fresh_at (o ∷ os) [] zip p s is = absurd zip
  fresh_at (o ∷ os) (x ∷ ss) zip zero s is =
      let here : x ≡ s = cc in
      let made : s ≡ line_box o.queue.queue (length trace) [] = sym here ∙ zip.0.fresh in
      (ap (λ (b : LineBox). b.list) made, ap (λ (b : LineBox). b.lines) made)
  fresh_at (o ∷ os) (x ∷ ss) zip (suc p) s is = fresh_at os ss zip.1 p s is

  pub all_ready : (os : List Owner) (ss : List LineBox) → AreMade options trace os ss → All (IsReadyOwner trace) os
  all_ready os ss made = owners_ready os ss made.each

  pub feeder_ready : (os : List Owner) (f : Feeder) → AreMade options trace os f.senders.items → IsReadyFeeder options trace f
  feeder_ready os f made =
      record { many = as_many os f.senders.items made.each ∙ made.many; fresh = fresh_at os f.senders.items made.each }

  -- after it

  -- the partitions from p on
  have_run : (p : ℕ) (os vs : List Owner) (olds news : List LineBox) → AllZip (IsMade options trace) os olds → AllZip (OwnerRan trace) os vs → length news ≡ length olds
      → ((i : ℕ) (old new : LineBox) → slice_get olds i ≡ Some old → slice_get news i ≡ Some new → new ≡ line_box old.queue old.lines (messages_for options (p + i) trace))
      → HaveRun options trace p vs news
  have_run p [] [] [] [] made ran many fed = tt
  have_run p [] [] [] (new ∷ news) made ran many fed = absurd (omega arith)
  have_run p [] [] (old ∷ olds) news made ran many fed = absurd made
  have_run p [] (v ∷ vs) olds news made ran many fed = absurd ran
  have_run p (o ∷ os) [] olds news made ran many fed = absurd ran
  have_run p (o ∷ os) (v ∷ vs) [] news made ran many fed = absurd made
  have_run p (o ∷ os) (v ∷ vs) (old ∷ olds) [] made ran many fed = absurd (omega arith)
  have_run p (o ∷ os) (v ∷ vs) (old ∷ olds) (new ∷ news) made ran many fed =
      let here : p + 0 ≡ p = omega arith in
      let sent : new ≡ line_box old.queue old.lines (messages_for options p trace)
      = fed 0 old new refl refl ∙ ap (λ (n : ℕ). line_box old.queue old.lines (messages_for options n trace)) here in (
        record {
          queue = ap (λ (b : LineBox). b.queue) sent ∙ ap (λ (b : LineBox). b.queue) made.0.fresh ∙ sym (ap (λ (b : LineBox). b.queue) ran.0.taken);
          sent = ap (λ (b : LineBox). b.list) sent;
          ended = ran.0.ended;
          answered = subst (λ (made : _). IfSome v.printed (λ printed. HasReplied made (owner_of v.part) (lines_at trace (numbers_in v.queue.list)) printed.items)) made.0.empty ran.0.answered;
        },
        have_run (p + 1) os vs olds news made.1 ran.1 (omega arith) (λ i x y is_old is_new.
            let next : p + suc i ≡ (p + 1) + i = omega arith in
            fed (suc i) x y is_old is_new ∙ ap (λ (n : ℕ). line_box x.queue x.lines (messages_for options n trace)) next),
      )

  pub all_run : (os vs : List Owner) (olds news : List LineBox) → AreMade options trace os olds → OwnersRan trace os vs → HasFed options trace olds news
      → HaveRun options trace 0 vs news
  all_run os vs olds news made ran fed =
      have_run 0 os vs olds news made.each (all_zipped _ os vs ran.0 ran.1) fed.many (λ i old new is_old is_new.
      let here : i ≡ 0 + i = omega arith in
      fed.each i old new is_old is_new ∙ ap (λ (n : ℕ). line_box old.queue old.lines (messages_for options n trace)) here)

-- one more on each side
zip_push : {A B : Type 0} (R : A → B → Type 0) (xs : List A) (ys : List B) (x : A) (y : B) → AllZip R xs ys → R x y → AllZip R (xs ++ x ∷ []) (ys ++ y ∷ [])
zip_push R [] [] x y zip r = (r, tt)
zip_push R [] (b ∷ ys) x y zip r = absurd zip
zip_push R (a ∷ xs) [] x y zip r = absurd zip
zip_push R (a ∷ xs) (b ∷ ys) x y zip r = (zip.0, zip_push R xs ys x y zip.1 r)

pub zip_pushed : {A B : Type 0} (R : A → B → Type 0) (xs news : List A) (ys more : List B) (x : A) (y : B) → news ≡ xs ++ x ∷ [] → more ≡ ys ++ y ∷ [] → AllZip R xs ys → R x y → AllZip R news more
zip_pushed R xs news ys more x y is_x is_y zip r = rw (is_x, is_y) (zip_push R xs ys x y zip r)
