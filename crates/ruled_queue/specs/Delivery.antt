-- What a queue keeps: of each sender, what was taken and then what waits is what it sent.
use Rattle.std.specs.Prelude.{◌≡◌, ℕ, ◌+◌, ◌<◌, ◌≤◌, ◌==◌, true, false, List, [], ◌∷◌, ◌++◌, filter}
use mathlib.Core.Option.{some}
use lib.ListN.{get_elem?}
use Rattle.ruled_queue.specs.declared.rule.PassView.{PassView}

module _ {T S : Type 0} where
  -- the one pass of a sender
  abbrev pub sender : ℕ → S → List T → PassView T S
  sender number terms sent = record { sends = true; takes = false; number = number; terms = terms; taken = []; sent = sent; hears = false; heard = 0 }

  -- the pass of the receiver, which has so many senders
  abbrev pub receiver : ℕ → S → List T → PassView T S
  receiver senders terms taken = record { sends = false; takes = true; number = senders; terms = terms; taken = taken; sent = []; hears = false; heard = 0 }

  abbrev pub newborn : S → PassView T S
  newborn unset = receiver 0 unset []

  abbrev pub nobody : S → PassView T S
  nobody unset = record { sends = false; takes = false; number = 0; terms = unset; taken = []; sent = []; hears = false; heard = 0 }

  -- the receiver once it has one sender more, and that sender
  abbrev pub with_sender : S → PassView T S → PassView T S
  with_sender terms v = receiver (v.number + 1) terms v.taken

  abbrev pub new_sender : S → PassView T S → PassView T S
  new_sender terms v = sender v.number terms []

  -- the receiver v, which knows what the sender w sent in all
  abbrev pub told_by : PassView T S → PassView T S → PassView T S
  told_by v w = record { sends = false; takes = true; number = v.number; terms = v.terms; taken = v.taken; sent = w.sent; hears = true; heard = w.number }

  -- the sender's pass, after it sent a message
  abbrev pub HasSent : PassView T S → T → PassView T S → Type 0
  HasSent v m w = w ≡ sender v.number v.terms (v.sent ++ m ∷ [])

module _ {T : Type 0} (sender_of : T → ℕ) where
  -- the messages of one sender, in order
  abbrev pub from_sender : ℕ → List T → List T
  from_sender p messages = filter (λ m. sender_of m == p) messages

module _ {T S : Type 0} (follows : S → List T → T → Type 0) where
  -- each message may follow those before it
  abbrev pub MayBeSent : S → List T → Type 0
  MayBeSent terms messages = (before later : List T) (m : T) → messages ≡ before ++ m ∷ later → follows terms before m

module _ {T S : Type 0} (terms : S) (reader : ℕ) (owner : ℕ → ℕ) (sent : ℕ → List T) (taken : List T) (pass : ℕ) (v : PassView T S) where
  -- each sender has one pass, which knows what was sent
  pub record FitsSender : Type 0 where
    pub owner_is : owner v.number ≡ pass
    pub sent_is : v.sent ≡ sent v.number
    pub terms_are : v.terms ≡ terms

  -- the one receiver knows what was taken, and that no other sender has sent anything
  pub record FitsReceiver : Type 0 where
    pub is_reader : pass ≡ reader
    pub is_silent : v.sends ≡ false
    pub taken_is : v.taken ≡ taken
    pub terms_are : v.terms ≡ terms
    pub later_owner : (p : ℕ) → v.number ≤ p → owner p ≡ reader
    pub later_sent : (p : ℕ) → v.number ≤ p → sent p ≡ []
    pub heard_owner : v.hears ≡ true → owner v.heard ≡ reader
    pub heard_sent : v.hears ≡ true → v.sent ≡ sent v.heard

  pub record Fits : Type 0 where
    pub as_sender : v.sends ≡ true → FitsSender
    pub as_receiver : v.takes ≡ true → FitsReceiver

module _ {T S : Type 0} (sender_of : T → ℕ) (follows : S → List T → T → Type 0) where
  -- The rule. `waiting` are the messages in the queue, oldest first, and `owner` is the pass of each sender.
  pub record Delivers (waiting : List T) (views : List (PassView T S)) : Type 0 where
    pub terms : S
    pub reader : ℕ
    pub owner : ℕ → ℕ
    pub sent : ℕ → List T
    pub taken : List T
    pub kept : (p : ℕ) → from_sender sender_of p (taken ++ waiting) ≡ sent p
    pub lawful : (p : ℕ) → MayBeSent follows terms (sent p)
    pub fits : (pass : ℕ) (v : PassView T S) → get_elem? views pass ≡ some v → Fits terms reader owner sent taken pass v

  -- the receiver's pass, after it took a message
  abbrev pub HasTaken : PassView T S → T → PassView T S → Type 0
  HasTaken v m w = (w ≡ receiver v.number v.terms (v.taken ++ m ∷ [])) × (sender_of m < v.number) × follows v.terms (from_sender sender_of (sender_of m) v.taken) m

  -- what the receiver learns of the sender that it took in
  abbrev pub IsWhole : PassView T S → List T → Type 0
  IsWhole v waiting = (from_sender sender_of v.heard (v.taken ++ waiting) ≡ v.sent) × MayBeSent follows v.terms v.sent
