-- The datagrams that passed decide where an exchange stands, and what it shows.
use Rattle.std.proofs.Common.{◌≡◌, ◌≢◌, ◌⊎◌, inl, inr, ℕ, Bool, true, false, List, [], ◌∷◌, ◌++◌, map, refl, sym, ap, subst, ◌∙◌, Option, Some, Result, Ok, Err}
use Rattle.outside.specs.Traffic.{Datagram}
use Rattle.mica_trace.specs.declared.report.Line.{Line}
use Rattle.batch_packets.specs.declared.batch.Batch.{Batch}
use Rattle.batch_packets.specs.declared.replies.Replies.{Replies}
use Rattle.batch_packets.specs.ReplyGrammar.{SpellsReplies}
use Rattle.mica_client.specs.declared.fault.AskFault.{AskFault}
use Rattle.mica_client.specs.declared.fault.AskFault.TheVariants.{Unread, Stranger, Double, Wrong, Lost, Link, NoMemory}
use Rattle.mica_client.specs.Talk.{Passed, sent, received}
use Rattle.mica_client.specs.Batches.{Ask}
use Rattle.mica_client.specs.Answers.{KnownLines, after_replies}
use Rattle.mica_client.specs.Exchange.{Standing, Steps, Runs, IsWhole, ComesTo, StopsAt, IsUnread, ShowsFault, TakesReplies, IsCauseOf, MeansForAsk}
use Rattle.mica_client.specs.Replied.{broken_off}
use Rattle.mica_client.proofs.Running.{not_whole}

abbrev failed : AskFault → Result (List Line) AskFault
failed fault = Err fault

-- what a datagram shows that is the last
abbrev pub Shows : AskFault → Batch → KnownLines → Datagram → Type 0
Shows Unread batch answers bytes = IsUnread bytes
Shows fault batch answers bytes = ShowsFault batch answers bytes fault

abbrev pub is_shown : AskFault → Bool
is_shown Lost = false
is_shown Link = false
is_shown NoMemory = false
is_shown _ = true

stops : (fault : AskFault) (before : Standing) (passed : List Passed) (left : List Datagram) → is_shown fault ≡ true → IsCauseOf fault before passed left → StopsAt before passed (Shows fault)
stops Unread before passed left s c = c
stops (Stranger t) before passed left s c = c
stops (Double t) before passed left s c = c
stops (Wrong t) before passed left s c = c
stops Lost before passed left s c = absurd (cc)
stops Link before passed left s c = absurd (cc)
stops NoMemory before passed left s c = absurd (cc)

abbrev pub BreaksOff : Standing → List Passed → Type 0
BreaksOff before passed = ComesTo before passed (λ at. IsWhole at → ⊥)

breaks_off : (fault : AskFault) (before : Standing) (passed : List Passed) (left : List Datagram) → is_shown fault ≡ false → fault ≢ NoMemory → IsCauseOf fault before passed left → BreaksOff before passed
breaks_off Lost before passed left s some c = (c.0, c.1, not_whole c.0 c.2.0)
breaks_off Link before passed left s some c = c
breaks_off NoMemory before passed left s some c = absurd (some refl)
breaks_off Unread before passed left s some c = absurd (cc)
breaks_off (Stranger t) before passed left s some c = absurd (cc)
breaks_off (Double t) before passed left s some c = absurd (cc)
breaks_off (Wrong t) before passed left s some c = absurd (cc)

broken : (fault : AskFault) → is_shown fault ≡ false → fault ≢ NoMemory → broken_off (Err fault) ≡ Err Lost
broken Lost s some = refl
broken Link s some = refl
broken NoMemory s some = absurd (some refl)
broken Unread s some = absurd (cc)
broken (Stranger t) s some = absurd (cc)
broken (Double t) s some = absurd (cc)
broken (Wrong t) s some = absurd (cc)

same_standing : (a b : Standing) → a.left ≡ b.left → a.asked ≡ b.asked → a.answers ≡ b.answers → a ≡ b
same_standing a b left asked answers =
    ap (λ (l : List Ask). let s : Standing = record { left = l; asked = a.asked; answers = a.answers } in s) left
    ∙ ap (λ (o : Option Batch). let s : Standing = record { left = b.left; asked = o; answers = a.answers } in s) asked
    ∙ ap (λ (l : KnownLines). let s : Standing = record { left = b.left; asked = b.asked; answers = l } in s) answers

last_alike : (xs ys : List Passed) (b d : Datagram) (f g : ℕ) → xs ++ received b f ∷ [] ≡ ys ++ received d g ∷ [] → (xs ≡ ys) × (b ≡ d)
last_alike [] [] b d f g e = (refl, cc)
last_alike [] (y ∷ []) b d f g e = absurd (cc)
last_alike [] (y ∷ z ∷ ys) b d f g e = absurd (cc)
last_alike (x ∷ []) [] b d f g e = absurd (cc)
last_alike (x ∷ z ∷ xs) [] b d f g e = absurd (cc)
last_alike (x ∷ xs) (y ∷ ys) b d f g e =
    let tail : xs ++ received b f ∷ [] ≡ ys ++ received d g ∷ [] = cc in
    let more = last_alike xs ys b d f g tail in
    let same : xs ≡ ys = more.0 in
    let front : x ≡ y = cc in
    (cc, more.1)

module _ (once : (bytes : Datagram) (a b : Replies) → SpellsReplies bytes a → SpellsReplies bytes b → a ≡ b) where
  answers_once : (batch : Batch) (old a b : KnownLines) (bytes : Datagram) → TakesReplies batch old bytes a → TakesReplies batch old bytes b → a ≡ b
  answers_once batch old a b bytes p q =
      let same = once bytes p.replies q.replies p.spelled.spelled q.spelled.spelled in
      let made : after_replies batch q.replies.number q.replies.replies old ≡ Ok a = subst (λ (r : Replies). after_replies batch r.number r.replies old ≡ Ok a) same p.made in
      let other = q.made in
      cc

  step_once : (before a b : Standing) (x : Passed) → Steps before x a → Steps before x b → a ≡ b
  step_once before a b (sent port bytes faults) p q =
      let p_next = p.next in
      let q_next = q.next in
      let ask : p.ask ≡ q.ask = cc in
      let left : a.left ≡ b.left = cc in
      same_standing a b left (p.asked ∙ ap (λ (k : Ask). Some k.batch) ask ∙ sym q.asked) (p.answers ∙ sym q.answers)
  step_once before a b (received bytes faults) p q =
      let p_asked = p.asked in
      let q_asked = q.asked in
      let batch : p.batch ≡ q.batch = cc in
      same_standing a b (p.left ∙ sym q.left) (p.same ∙ sym q.same)
      (answers_once q.batch before.answers a.answers b.answers bytes (subst (λ (k : Batch). TakesReplies k before.answers bytes a.answers) batch p.taken) q.taken)

  runs_once : (before a b : Standing) (passed : List Passed) → Runs before passed a → Runs before passed b → a ≡ b
  runs_once before a b [] p q = p ∙ sym q
  runs_once before a b (x ∷ xs) p q =
      let mid = step_once before p.0 q.0 x p.1 q.1 in
      runs_once q.0 a b xs (subst (λ (s : Standing). Runs s xs a) mid p.2) q.2

  -- the last datagram of an exchange that came so far answered its batch
  last_taken : (before at mid : Standing) (earlier : List Passed) (bytes : Datagram) (faults : ℕ) → Runs before (earlier ++ received bytes faults ∷ []) at → Runs before earlier mid
      → Steps mid (received bytes faults) at
  last_taken before at mid [] bytes faults r s = subst (λ (k : Standing). Steps mid (received bytes faults) k) (sym r.2) (subst (λ (k : Standing). Steps k (received bytes faults) r.0) (sym s) r.1)
  last_taken before at mid (x ∷ xs) bytes faults r s =
      let same = step_once before r.0 s.0 x r.1 s.1 in
      last_taken s.0 at mid xs bytes faults (subst (λ (k : Standing). Runs k (xs ++ received bytes faults ∷ []) at) same r.2) s.2

  same_after : (batch : Batch) (old : KnownLines) (x y : Result KnownLines AskFault) (bytes : Datagram) (a b : Replies) → SpellsReplies bytes a → SpellsReplies bytes b → after_replies batch a.number a.replies old ≡ x
      → after_replies batch b.number b.replies old ≡ y → x ≡ y
  same_after batch old x y bytes a b p q e f = sym e ∙ ap (λ (r : Replies). after_replies batch r.number r.replies old) (once bytes a b p q) ∙ f

  taken_shown : (batch : Batch) (old new : KnownLines) (bytes : Datagram) (fault : AskFault) → ShowsFault batch old bytes fault → TakesReplies batch old bytes new → ⊥
  taken_shown batch old new bytes fault shown taken =
      let same : Ok new ≡ Err fault = same_after batch old (Ok new) (Err fault) bytes taken.replies shown.replies taken.spelled.spelled shown.spelled.spelled taken.made shown.shown in cc

  not_both : (fault : AskFault) → is_shown fault ≡ true → (batch : Batch) (old new : KnownLines) (bytes : Datagram) → Shows fault batch old bytes → TakesReplies batch old bytes new → ⊥
  not_both Unread s batch old new bytes none taken = none taken.replies taken.spelled
  not_both (Stranger t) s batch old new bytes shown taken = taken_shown batch old new bytes (Stranger t) shown taken
  not_both (Double t) s batch old new bytes shown taken = taken_shown batch old new bytes (Double t) shown taken
  not_both (Wrong t) s batch old new bytes shown taken = taken_shown batch old new bytes (Wrong t) shown taken
  not_both Lost s batch old new bytes shown taken = absurd (cc)
  not_both Link s batch old new bytes shown taken = absurd (cc)
  not_both NoMemory s batch old new bytes shown taken = absurd (cc)

  came_and_stopped : (fault : AskFault) (before : Standing) (passed : List Passed) (fact : Standing → Type 0) → is_shown fault ≡ true → ComesTo before passed fact → StopsAt before passed (Shows fault) → ⊥
  came_and_stopped fault before passed fact shown c s =
      let taken = last_taken before c.0 s.at s.earlier s.bytes s.faults (subst (λ (l : List Passed). Runs before l c.0) s.last c.1) s.runs in
      let asked = s.asked in
      let its = taken.asked in
      let batch : taken.batch ≡ s.batch = cc in
      not_both fault shown s.batch s.at.answers c.0.answers s.bytes s.shown (subst (λ (k : Batch). TakesReplies k s.at.answers s.bytes c.0.answers) batch taken.taken)

  pub one_stop : (f g : AskFault) → is_shown f ≡ true → is_shown g ≡ true → (batch : Batch) (old : KnownLines) (bytes : Datagram) → Shows f batch old bytes → Shows g batch old bytes → f ≡ g
  one_stop f g sf sg batch old bytes a b = by f g sf sg (fault_of f sf a) (fault_of g sg b)
    where
      fault_of : (f : AskFault) → is_shown f ≡ true → Shows f batch old bytes → (f ≡ Unread) × IsUnread bytes ⊎ ShowsFault batch old bytes f
      fault_of Unread s h = inl (refl, h)
      fault_of (Stranger t) s h = inr h
      fault_of (Double t) s h = inr h
      fault_of (Wrong t) s h = inr h
      fault_of Lost s h = absurd (cc)
      fault_of Link s h = absurd (cc)
      fault_of NoMemory s h = absurd (cc)

      by : (f g : AskFault) → is_shown f ≡ true → is_shown g ≡ true → (f ≡ Unread) × IsUnread bytes ⊎ ShowsFault batch old bytes f → (g ≡ Unread) × IsUnread bytes ⊎ ShowsFault batch old bytes g → f ≡ g
      by f g sf sg (inl a) (inl b) = a.0 ∙ sym b.0
      by f g sf sg (inl a) (inr b) = absurd (a.1 b.replies b.spelled)
      by f g sf sg (inr a) (inl b) = absurd (b.1 a.replies a.spelled)
      by f g sf sg (inr a) (inr b) =
          let same : Err f ≡ Err g = same_after batch old (Err f) (Err g) bytes a.replies b.replies a.spelled.spelled b.spelled.spelled a.shown b.shown in cc

  stopped_once : (f g : AskFault) (before : Standing) (passed : List Passed) → is_shown f ≡ true → is_shown g ≡ true → StopsAt before passed (Shows f) → StopsAt before passed (Shows g) → f ≡ g
  stopped_once f g before passed sf sg a b =
      let ends = last_alike a.earlier b.earlier a.bytes b.bytes a.faults b.faults (sym a.last ∙ b.last) in
      let at = runs_once before a.at b.at b.earlier (subst (λ (l : List Passed). Runs before l a.at) ends.0 a.runs) b.runs in
      let a_asked : b.at.asked ≡ Some a.batch = subst (λ (s : Standing). s.asked ≡ Some a.batch) at a.asked in
      let b_asked = b.asked in
      let batch : a.batch ≡ b.batch = cc in
      let one = subst (λ (s : Standing). Shows f a.batch s.answers a.bytes) at a.shown in
      let two = subst (λ (k : Batch). Shows f k b.at.answers a.bytes) batch one in
      one_stop f g sf sg b.batch b.at.answers b.bytes (subst (λ (d : Datagram). Shows f b.batch b.at.answers d) ends.1 two) b.shown

  report_once : (before : Standing) (passed : List Passed) (a b : List Line) → ComesTo before passed (λ at. IsWhole at × (at.answers ≡ map (λ line. Some line) a)) → ComesTo before passed (λ at. IsWhole at × (at.answers ≡ map (λ line. Some line) b)) → a ≡ b
  report_once before passed a b p q = same_lines a b (sym p.2.1 ∙ ap (λ (s : Standing). s.answers) (runs_once before p.0 q.0 passed p.1 q.1) ∙ q.2.1)
    where
      same_lines : (a b : List Line) → map (λ line. Some line) a ≡ map (λ line. Some line) b → a ≡ b
      same_lines [] [] e = refl
      same_lines [] (y ∷ ys) e = absurd (cc)
      same_lines (x ∷ xs) [] e = absurd (cc)
      same_lines (x ∷ xs) (y ∷ ys) e =
          let tail : map (λ line. Some line) xs ≡ map (λ line. Some line) ys = cc in
          let more = same_lines xs ys tail in
          let front : x ≡ y = cc in
          cc

  whole_and_fault : (report : List Line) (fault : AskFault) (before : Standing) (passed : List Passed) (left other : List Datagram) → fault ≢ NoMemory → MeansForAsk (Ok report) before passed left
      → IsCauseOf fault before passed other → ⊥
  whole_and_fault report fault before passed left other some c d = by (is_shown fault) refl
    where
      by : (b : Bool) → is_shown fault ≡ b → ⊥
      by true e = came_and_stopped fault before passed _ e c (stops fault before passed other e d)
      by false e = let broke = breaks_off fault before passed other e some d in broke.2 (subst IsWhole (runs_once before c.0 broke.0 passed c.1 broke.1) c.2.0)

  fault_once : (f g : AskFault) (before : Standing) (passed : List Passed) (left other : List Datagram) → f ≢ NoMemory → g ≢ NoMemory → IsCauseOf f before passed left → IsCauseOf g before passed other
      → broken_off (Err f) ≡ broken_off (Err g)
  fault_once f g before passed left other some_f some_g c d = by (is_shown f) (is_shown g) refl refl
    where
      by : (a b : Bool) → is_shown f ≡ a → is_shown g ≡ b → broken_off (Err f) ≡ broken_off (Err g)
      by true true e h = ap (λ (k : AskFault). broken_off (Err k)) (stopped_once f g before passed e h (stops f before passed left e c) (stops g before passed other h d))
      by true false e h = absurd (came_and_stopped f before passed _ e (breaks_off g before passed other h some_g d) (stops f before passed left e c))
      by false true e h = absurd (came_and_stopped g before passed _ h (breaks_off f before passed left e some_f c) (stops g before passed other h d))
      by false false e h = broken f e some_f ∙ sym (broken g h some_g)

  no_memory_fault : (fault : AskFault) → failed fault ≢ failed NoMemory → fault ≢ NoMemory
  no_memory_fault fault some e = some (ap failed e)

  pub one_answer : (a b : Result (List Line) AskFault) (before : Standing) (passed : List Passed) (left other : List Datagram) → a ≢ Err NoMemory → b ≢ Err NoMemory → MeansForAsk a before passed left
      → MeansForAsk b before passed other → broken_off a ≡ broken_off b
  one_answer (Ok a) (Ok b) before passed left other some_a some_b c d = ap (λ (l : List Line). broken_off (Ok l)) (report_once before passed a b c d)
  one_answer (Ok a) (Err g) before passed left other some_a some_b c d = absurd (whole_and_fault a g before passed left other (no_memory_fault g some_b) c d)
  one_answer (Err f) (Ok b) before passed left other some_a some_b c d = absurd (whole_and_fault b f before passed other left (no_memory_fault f some_a) d c)
  one_answer (Err f) (Err g) before passed left other some_a some_b c d = fault_once f g before passed left other (no_memory_fault f some_a) (no_memory_fault g some_b) c d
