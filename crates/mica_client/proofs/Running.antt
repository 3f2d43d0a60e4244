-- An exchange goes on by a datagram, and by what follows it.
use Rattle.std.proofs.Common.{◌≡◌, inl, inr, ℕ, true, false, List, [], ◌∷◌, ◌++◌, refl, sym, ap, subst, ◌∙◌, append_assoc, append-nil, take, IfSome, IfOk, IfErr, Option, Some, None, Result, Ok, Err}
use Rattle.outside.specs.Traffic.{Datagram}
use Rattle.batch_packets.specs.declared.batch.Batch.{Batch}
use Rattle.batch_packets.specs.declared.replies.Replies.{Replies}
use Rattle.mica_client.specs.declared.fault.AskFault.{AskFault}
use Rattle.mica_client.specs.declared.fault.AskFault.TheVariants.{Unread, Stranger, Double, Wrong, Lost, Link, NoMemory}
use Rattle.mica_client.specs.Talk.{Passed, sent, received, Talk, received_in, Went, OnTalk, Passes, ReceivesNext}
use Rattle.mica_client.specs.Batches.{Ask}
use Rattle.mica_client.specs.Answers.{KnownLines}
use Rattle.mica_client.specs.declared.exchange.TheConstants.{ROOM}
use Rattle.mica_client.proofs.Cut.{cut_spells, cut_unread}
use Rattle.mica_client.specs.Exchange.{Standing, standing_at, waits, waits_for, lacks_answer, Steps, Runs, IsWhole, ComesTo, StopsAt, IsCauseOf, IsUnread, IsOfReading, SpellsAnswers, TakesReplies, ShowsFault, Receives, StopsReading, StopsOne, Asks, StopsAsking}

-- two facts of what was told, one after the other
pub on_both : (P Q R : Talk → Talk → Type 0) → ((a b c : Talk) → P a b → Q b c → R a c) → (x y z : Option Talk) → OnTalk P x y → OnTalk Q y z → OnTalk R x z
on_both P Q R both None y z p q = tt
on_both P Q R both (Some a) None z p q = absurd p
on_both P Q R both (Some a) (Some b) None p q = absurd q
on_both P Q R both (Some a) (Some b) (Some c) p q = both a b c p q

received_on : (xs ys : List Passed) (left : List Datagram) → received_in xs ++ (received_in ys ++ left) ≡ received_in (xs ++ ys) ++ left
received_on [] ys left = refl
received_on (sent port bytes faults ∷ xs) ys left = received_on xs ys left
received_on (received bytes faults ∷ xs) ys left = ap (λ (l : List Datagram). bytes ∷ l) (received_on xs ys left)

pub went_none : (t : Talk) → Went [] t t
went_none t = record { told = sym (append-nil t.passed); given = refl }

pub went_on : (a b c : Talk) (xs ys : List Passed) → Went xs a b → Went ys b c → Went (xs ++ ys) a c
went_on a b c xs ys p q = record {
  told = q.told ∙ ap (λ (l : List Passed). l ++ ys) p.told ∙ append_assoc a.passed xs ys;
  given = p.given ∙ ap (λ (l : List Datagram). received_in xs ++ l) q.given ∙ received_on xs ys c.left;
}

pub runs_more : (a b c : Standing) (xs : List Passed) (x : Passed) → Runs a xs b → Steps b x c → Runs a (xs ++ x ∷ []) c
runs_more a b c [] x r s = (c, subst (λ (v : Standing). Steps v x c) r s, refl)
runs_more a b c (y ∷ ys) x r s = (r.0, r.1, runs_more r.0 b c ys x r.2 s)

pub runs_on : (a b c : Standing) (xs ys : List Passed) → Runs a xs b → Runs b ys c → Runs a (xs ++ ys) c
runs_on a b c [] ys r s = subst (λ (v : Standing). Runs v ys c) r s
runs_on a b c (x ∷ xs) ys r s = (r.0, r.1, runs_on r.0 b c xs ys r.2 s)

comes_on : (fact : Standing → Type 0) (a b : Standing) (xs ys : List Passed) → Runs a xs b → ComesTo b ys fact → ComesTo a (xs ++ ys) fact
comes_on fact a b xs ys r c = (c.0, runs_on a b c.0 xs ys r c.1, c.2)

stops_on : (shows : Batch → KnownLines → Datagram → Type 0) (a b : Standing) (xs ys : List Passed) → Runs a xs b → StopsAt b ys shows → StopsAt a (xs ++ ys) shows
stops_on shows a b xs ys r s = record {
  earlier = xs ++ s.earlier;
  at = s.at;
  runs = runs_on a b s.at xs s.earlier r s.runs;
  batch = s.batch;
  asked = s.asked;
  waited = s.waited;
  bytes = s.bytes;
  faults = s.faults;
  last = ap (λ (l : List Passed). xs ++ l) s.last ∙ sym (append_assoc xs s.earlier (received s.bytes s.faults ∷ []));
  shown = s.shown;
}

-- the cause of a fault behind what passed before
pub cause_on : (fault : AskFault) (a b : Standing) (xs ys : List Passed) (left : List Datagram) → Runs a xs b → IsCauseOf fault b ys left → IsCauseOf fault a (xs ++ ys) left
cause_on Unread a b xs ys left r c = stops_on _ a b xs ys r c
cause_on (Stranger t) a b xs ys left r c = stops_on _ a b xs ys r c
cause_on (Double t) a b xs ys left r c = stops_on _ a b xs ys r c
cause_on (Wrong t) a b xs ys left r c = stops_on _ a b xs ys r c
cause_on Lost a b xs ys left r c = comes_on _ a b xs ys r c
cause_on Link a b xs ys left r c = comes_on _ a b xs ys r c
cause_on NoMemory a b xs ys left r (inl c) = inl (comes_on _ a b xs ys r c)
cause_on NoMemory a b xs ys left r (inr c) = inr (stops_on _ a b xs ys r c)

-- One datagram

-- what was received, as far as there was room for it
pub receives_cut : (P Q : Datagram → Type 0) → ((d : Datagram) → P (take ROOM d) → Q d) → (x y : Option Talk) (faults : ℕ) (given : List ℕ) (room : ℕ) → room ≡ ROOM
    → IfSome x (λ t. ReceivesNext t faults given room y) → P given → OnTalk (Receives Q) x y
receives_cut P Q gives None y faults given room wide next p = tt
receives_cut P Q gives (Some t) y faults given room wide next p =
    subst (OnTalk (Receives Q) (Some t)) (sym next.result)
    (record {
      bytes = next.datagram;
      faults = faults;
      went = record { told = refl; given = next.next };
      fact_of = gives next.datagram (subst P (next.cut ∙ ap (λ (n : ℕ). take n next.datagram) wide) p);
    })

pub replies_told : (r : Result Replies AskFault) (x y : Option Talk) (faults : ℕ) (given : List ℕ) (room : ℕ) → room ≡ ROOM → IfSome x (λ t. ReceivesNext t faults given room y)
    → IfOk r (SpellsAnswers given) → IfOk r (λ replies. OnTalk (Receives (λ bytes. SpellsAnswers bytes replies)) x y)
replies_told (Ok replies) x y faults given room wide next p =
    receives_cut (λ d. SpellsAnswers d replies) (λ d. SpellsAnswers d replies) (λ d s. cut_spells d replies s) x y faults given room wide next p
replies_told (Err fault) x y faults given room wide next p = p

pub stops_told : (r : Result Replies AskFault) (x y : Option Talk) (faults : ℕ) (given : List ℕ) (room : ℕ) → room ≡ ROOM → IfSome x (λ t. ReceivesNext t faults given room y)
    → (r ≡ Err Unread → IsUnread given) → IfErr r IsOfReading → IfErr r (λ fault. OnTalk (StopsReading fault) x y)
stops_told (Ok replies) x y faults given room wide next un is = is
stops_told (Err Unread) x y faults given room wide next un is = receives_cut IsUnread IsUnread cut_unread x y faults given room wide next (un refl)
stops_told (Err NoMemory) x y faults given room wide next un is = receives_cut (λ d. Unit {0}) (λ d. Unit {0}) (λ d u. u) x y faults given room wide next tt
stops_told (Err Lost) x y faults given room wide next un is = absurd is
stops_told (Err Link) x y faults given room wide next un is = absurd is
stops_told (Err (Stranger t)) x y faults given room wide next un is = absurd is
stops_told (Err (Double t)) x y faults given room wide next un is = absurd is
stops_told (Err (Wrong t)) x y faults given room wide next un is = absurd is

-- One batch

-- one datagram of answers more
pub asks_more : (ask : Ask) (old mid new : KnownLines) (x y z : Option Talk) → OnTalk (Passes (Asks ask old mid)) x y → OnTalk (Receives (λ bytes. TakesReplies ask.batch mid bytes new)) y z
    → OnTalk (Passes (Asks ask old new)) x z
asks_more ask old mid new x y z p q = on_both (Passes (Asks ask old mid)) (Receives (λ bytes. TakesReplies ask.batch mid bytes new)) (Passes (Asks ask old new)) step x y z p q
  where
    step : (a b c : Talk) → Passes (Asks ask old mid) a b → Receives (λ bytes. TakesReplies ask.batch mid bytes new) b c → Passes (Asks ask old new) a c
    step a b c p q = record {
      between = p.between ++ received q.bytes q.faults ∷ [];
      went = went_on a b c p.between (received q.bytes q.faults ∷ []) p.went q.went;
      fact = record {
        runs = λ later asked idle. runs_more _ (standing_at later (Some ask.batch) mid) _ p.between (received q.bytes q.faults) (p.fact.runs later asked idle) (record {
          batch = ask.batch;
          asked = refl;
          taken = q.fact_of;
          left = refl;
          same = refl;
        });
      };
    }

-- a datagram that shows something, behind what passed
stop_at : (shows : Batch → KnownLines → Datagram → Type 0) (ask : Ask) (old mid : KnownLines) (between : List Passed) (left : List Datagram) (bytes : Datagram) (faults : ℕ) → Asks ask old mid between left
    → lacks_answer mid ask.batch.requests ≡ true → shows ask.batch mid bytes → (later : List Ask) (asked : Option Batch) → waits_for asked old ≡ false
    → StopsAt (standing_at (ask ∷ later) asked old) (between ++ received bytes faults ∷ []) shows
stop_at shows ask old mid between left bytes faults asks waited shown later asked idle = record {
  earlier = between;
  at = standing_at later (Some ask.batch) mid;
  runs = asks.runs later asked idle;
  batch = ask.batch;
  asked = refl;
  waited = waited;
  bytes = bytes;
  faults = faults;
  last = refl;
  shown = shown;
}

pub not_whole : (standing : Standing) → waits standing ≡ true → IsWhole standing → ⊥
not_whole standing waited whole = let no = whole.answered in cc

module _ (ask : Ask) (old mid : KnownLines) (waited : lacks_answer mid ask.batch.requests ≡ true) where
  -- what follows a datagram that was received
  behind : (shows : Batch → KnownLines → Datagram → Type 0) (fault : AskFault)
      → ((before : Standing) (passed : List Passed) (left : List Datagram) → StopsAt before passed shows → IsCauseOf fault before passed left)
      → (a b c : Talk) → Passes (Asks ask old mid) a b → Receives (λ bytes. shows ask.batch mid bytes) b c → Passes (StopsAsking fault ask old) a c
  behind shows fault is a b c p q = record {
    between = p.between ++ received q.bytes q.faults ∷ [];
    went = went_on a b c p.between (received q.bytes q.faults ∷ []) p.went q.went;
    fact = record { cause = λ later asked idle. is _ _ _ (stop_at shows ask old mid p.between b.left q.bytes q.faults p.fact waited q.fact_of later asked idle) };
  }

  -- nothing was received
  as_before : (fault : AskFault) (c : Talk)
      → ((later : List Ask) (between : List Passed) (before : Standing) → Runs before between (standing_at later (Some ask.batch) mid) → IsCauseOf fault before between c.left)
      → (a b : Talk) → Passes (Asks ask old mid) a b → c ≡ b → Passes (StopsAsking fault ask old) a c
  as_before fault c is a b p same = record {
    between = p.between;
    went = subst (Went p.between a) (sym same) p.went;
    fact = record { cause = λ later asked idle. is later p.between _ (p.fact.runs later asked idle) };
  }

  stop : (fault : AskFault) (a b c : Talk) → Passes (Asks ask old mid) a b → StopsOne fault ask.batch mid b c → Passes (StopsAsking fault ask old) a c
  stop Unread a b c p q = behind (λ batch answers bytes. IsUnread bytes) Unread (λ before passed left s. s) a b c p q
  stop (Stranger t) a b c p q = behind (λ batch answers bytes. ShowsFault batch answers bytes (Stranger t)) (Stranger t) (λ before passed left s. s) a b c p q
  stop (Double t) a b c p q = behind (λ batch answers bytes. ShowsFault batch answers bytes (Double t)) (Double t) (λ before passed left s. s) a b c p q
  stop (Wrong t) a b c p q = behind (λ batch answers bytes. ShowsFault batch answers bytes (Wrong t)) (Wrong t) (λ before passed left s. s) a b c p q
  stop NoMemory a b c p q = behind (λ batch answers bytes. Unit {0}) NoMemory (λ before passed left s. inr s) a b c p q
  stop Lost a b c p q = as_before Lost c (λ later between before r. (standing_at later (Some ask.batch) mid, r, (waited, ap (λ (t : Talk). t.left) q.0 ∙ q.1))) a b p q.0
  stop Link a b c p q = as_before Link c (λ later between before r. (standing_at later (Some ask.batch) mid, r, not_whole (standing_at later (Some ask.batch) mid) waited)) a b p q

  pub asks_stop : (fault : AskFault) (x y z : Option Talk) → OnTalk (Passes (Asks ask old mid)) x y → OnTalk (StopsOne fault ask.batch mid) y z → OnTalk (Passes (StopsAsking fault ask old)) x z
  asks_stop fault x y z p q = on_both (Passes (Asks ask old mid)) (StopsOne fault ask.batch mid) (Passes (StopsAsking fault ask old)) (stop fault) x y z p q

-- All batches

-- these are left, and no ticket waits
abbrev pub SoFar : List Ask → List Ask → KnownLines → KnownLines → List Passed → List Datagram → Type 0
SoFar asks rest old mid between left = (asked : Option Batch) × Runs (standing_at asks None old) between (standing_at rest asked mid) × (waits_for asked mid ≡ false)

pub so_far_none : (asks : List Ask) (old : KnownLines) (x : Option Talk) → OnTalk (Passes (SoFar asks asks old old)) x x
so_far_none asks old None = tt
so_far_none asks old (Some t) = record { between = []; went = went_none t; fact = (None, refl, refl) }

pub so_far_more : (asks rest : List Ask) (ask : Ask) (old mid new : KnownLines) (x y z : Option Talk) → OnTalk (Passes (SoFar asks (ask ∷ rest) old mid)) x y → OnTalk (Passes (Asks ask mid new)) y z
    → lacks_answer new ask.batch.requests ≡ false → OnTalk (Passes (SoFar asks rest old new)) x z
so_far_more asks rest ask old mid new x y z p q done = on_both (Passes (SoFar asks (ask ∷ rest) old mid)) (Passes (Asks ask mid new)) (Passes (SoFar asks rest old new)) step x y z p q
  where
    step : (a b c : Talk) → Passes (SoFar asks (ask ∷ rest) old mid) a b → Passes (Asks ask mid new) b c → Passes (SoFar asks rest old new) a c
    step a b c p q = record {
      between = p.between ++ q.between;
      went = went_on a b c p.between q.between p.went q.went;
      fact = (Some ask.batch, runs_on _ _ _ p.between q.between p.fact.1 (q.fact.runs rest p.fact.0 p.fact.2), done);
    }

pub so_far_stop : (fault : AskFault) (asks rest : List Ask) (ask : Ask) (old mid : KnownLines) (x y z : Option Talk) → OnTalk (Passes (SoFar asks (ask ∷ rest) old mid)) x y
    → OnTalk (Passes (StopsAsking fault ask mid)) y z → OnTalk (Passes (IsCauseOf fault (standing_at asks None old))) x z
so_far_stop fault asks rest ask old mid x y z p q =
    on_both (Passes (SoFar asks (ask ∷ rest) old mid)) (Passes (StopsAsking fault ask mid)) (Passes (IsCauseOf fault (standing_at asks None old))) step x y z p q
  where
    step : (a b c : Talk) → Passes (SoFar asks (ask ∷ rest) old mid) a b → Passes (StopsAsking fault ask mid) b c → Passes (IsCauseOf fault (standing_at asks None old)) a c
    step a b c p q = record {
      between = p.between ++ q.between;
      went = went_on a b c p.between q.between p.went q.went;
      fact = cause_on fault _ _ p.between q.between c.left p.fact.1 (q.fact.cause rest p.fact.0 p.fact.2);
    }
