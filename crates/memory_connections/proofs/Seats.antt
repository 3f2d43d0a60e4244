-- The seats of ports: what one of them has after a change, and how many are taken.
use Rattle.std.specs.Global.{Box}
use Rattle.std.proofs.Common.{◌≡◌, ℕ, zero, suc, ◌+◌, ◌-◌, ◌<◌, ◌≤◌, Bool, true, false, cond, eqb, eqb-true, List, [], ◌∷◌, ◌++◌, length, refl, sym, ap, ◌∙◌, subst, arith}
use Rattle.std.specs.Prelude.{slice_get, slice_set, ◌&&◌, slice_index_or, Option, None, Some, IfSome, is_some, option_map}
use Rattle.std.proofs.lemmas.Bool.{ne_eqb, and_parts, true≢false}
use Rattle.std.proofs.lemmas.Grind.{common_steps}
use Rattle.std.proofs.lemmas.List.{set-get_or}
use Rattle.memory_connections.specs.declared.memory_connections.MemConnections.{MemConnections}
use Rattle.connections.specs.declared.schedule.Step.{Step}
use Rattle.connections.specs.Log.{Log, new_log}
use Rattle.memory_connections.specs.MemoryConnections.{log_of}
use Rattle.connections.specs.Shares.{ShareLogs, IsNewShare, are_awaited, with_share, without_shares}
use Rattle.connections.proofs.Shares.{awaited_next, past_without}
use Rattle.memory_connections.specs.MemoryPorts.{Seating, with_seat, in_seat, seating_in, taken_in, logs_at, IsNewAt, AreNew}

abbrev Seat : Type 0
Seat = Option (Box MemConnections)

same_seating : (f g : Seating) → ((n : ℕ) → f n ≡ g n) → f ≡ g
same_seating f g h = λ i. λ n. h n i

same_logs : (f g : ShareLogs) → ((n : ℕ) → f n ≡ g n) → f ≡ g
same_logs f g h = λ i. λ n. h n i

suc_eqb : (m n : ℕ) → eqb m n ≡ eqb (suc m) (suc n)
suc_eqb m n = grind (arith, common_steps)

at_set : (seats : List Seat) (port n : ℕ) (seat : Seat) → port < length seats
    → in_seat (slice_get (slice_set seats port seat) n) ≡ cond (eqb n port) (in_seat (Some seat)) (in_seat (slice_get seats n))
at_set [] port n seat lt = absurd (omega arith)
at_set (s ∷ seats) zero zero seat lt = refl
at_set (s ∷ seats) zero (suc n) seat lt = ap (λ b. cond b (in_seat (Some seat)) (in_seat (slice_get seats n))) (sym (ne_eqb (suc n) 0 (λ e. absurd (omega (arith, e)))))
at_set (s ∷ seats) (suc port) zero seat lt = ap (λ b. cond b (in_seat (Some seat)) (in_seat (Some s))) (sym (ne_eqb 0 (suc port) (λ e. absurd (omega (arith, e)))))
at_set (s ∷ seats) (suc port) (suc n) seat lt =
    at_set seats port n seat (omega arith) ∙ ap (λ b. cond b (in_seat (Some seat)) (in_seat (slice_get seats n))) (suc_eqb n port)

-- one seat is taken anew, or left
pub put_there : (seats : List Seat) (port : ℕ) (seat : Seat) (c : Option MemConnections)
    → port < length seats → in_seat (Some seat) ≡ c → seating_in (slice_set seats port seat) ≡ with_seat port c (seating_in seats)
put_there seats port seat c lt is = same_seating _ _ (λ n. at_set seats port n seat lt) ∙ ap (λ x. with_seat port x (seating_in seats)) is

-- what a seat that was read has
pub was_there : (seats : List Seat) (port : ℕ) (seat : Seat) → port < length seats → seat ≡ slice_index_or seats port seat → in_seat (Some seat) ≡ seating_in seats port
was_there [] port seat lt is = absurd (omega arith)
was_there (s ∷ seats) zero seat lt is = ap (λ x. in_seat (Some x)) is
was_there (s ∷ seats) (suc port) seat lt is = was_there seats port seat (omega arith) is

-- a free seat that is left free
pub same_set : (seats : List Seat) (port : ℕ) (old new : Seat) → old ≡ slice_index_or seats port old → old ≡ None → new ≡ None → slice_set seats port new ≡ seats
same_set seats port old new is none still = ap (slice_set seats port) (still ∙ sym none ∙ is) ∙ set-get_or seats port old

-- whether a seat is taken, as a number
abbrev one : Seat → ℕ
one None = 0
one (Some seat) = 1

one_more : (seat : Seat) (seats : List Seat) → taken_in (seat ∷ seats) ≡ one seat + taken_in seats
one_more None seats = omega arith
one_more (Some c) seats = omega arith

set_counts : (seats : List Seat) (port : ℕ) (old new : Seat) → port < length seats → old ≡ slice_index_or seats port old
    → taken_in (slice_set seats port new) + one old ≡ taken_in seats + one new
set_counts [] port old new lt is = absurd (omega arith)
set_counts (s ∷ seats) zero old new lt is =
    let was : one old ≡ one s = ap one is in
    omega (arith, was, one_more s seats, one_more new seats)
set_counts (s ∷ seats) (suc port) old new lt is =
    let rest = set_counts seats port old new (omega arith) is in
    omega (arith, rest, one_more s seats, one_more s (slice_set seats port new))

-- one seat more is taken
pub taken_more : (seats : List Seat) (port : ℕ) (old new : Seat) (c : Box MemConnections) → port < length seats → old ≡ slice_index_or seats port old → old ≡ None
    → new ≡ Some c → taken_in (slice_set seats port new) ≡ taken_in seats + 1
taken_more seats port old new c lt is none some =
    let was : one old ≡ 0 = ap one none in
    let now : one new ≡ 1 = ap one some in
    omega (arith, set_counts seats port old new lt is, was, now)

-- it was taken
pub taken_same : (seats : List Seat) (port : ℕ) (old new : Seat) (b c : Box MemConnections) → port < length seats → old ≡ slice_index_or seats port old → old ≡ Some b
    → new ≡ Some c → taken_in (slice_set seats port new) ≡ taken_in seats
taken_same seats port old new b c lt is was_some some =
    let was : one old ≡ 1 = ap one was_some in
    let now : one new ≡ 1 = ap one some in
    omega (arith, set_counts seats port old new lt is, was, now)

-- one seat is left
pub taken_fewer : (seats : List Seat) (port : ℕ) (old new : Seat) (c : Box MemConnections) → port < length seats → old ≡ slice_index_or seats port old → old ≡ Some c
    → new ≡ None → taken_in (slice_set seats port new) + 1 ≡ taken_in seats
taken_fewer seats port old new c lt is some none =
    let was : one old ≡ 1 = ap one some in
    let now : one new ≡ 0 = ap one none in
    omega (arith, set_counts seats port old new lt is, was, now)

-- no more than there are
pub taken_few : (seats : List Seat) → taken_in seats ≤ length seats
taken_few [] = omega arith
taken_few (None ∷ seats) = omega (arith, taken_few seats)
taken_few (Some c ∷ seats) = omega (arith, taken_few seats)

-- one seat more that is free
pub free_more : (seats : List Seat) → taken_in (seats ++ None ∷ []) ≡ taken_in seats
free_more [] = refl
free_more (None ∷ seats) = free_more seats
free_more (Some c ∷ seats) = ap suc (free_more seats)

at_none : (seats : List Seat) (n : ℕ) → taken_in seats ≡ 0 → in_seat (slice_get seats n) ≡ None
at_none [] n is = refl
at_none (None ∷ seats) zero is = refl
at_none (None ∷ seats) (suc n) is = at_none seats n is
at_none (Some c ∷ seats) n is = absurd (omega (arith, is))

-- nothing is at any port
pub none_seated : (seats : List Seat) → taken_in seats ≡ 0 → seating_in seats ≡ (λ port. None)
none_seated seats is = same_seating _ _ (λ n. at_none seats n is)

logs_with : (port : ℕ) (connections : Option MemConnections) (at : Seating) → logs_at (with_seat port connections at) ≡ with_share port (option_map log_of connections) (logs_at at)
logs_with port connections at = same_logs _ _ (λ n. by (eqb n port) n)
  where
    by : (b : Bool) (n : ℕ) → option_map log_of (cond b connections (at n)) ≡ cond b (option_map log_of connections) (option_map log_of (at n))
    by true n = refl
    by false n = refl

-- the logs of all ports where something was put at one
pub logs_put : (port : ℕ) (c : MemConnections) (log : Option Log) (old new : Seating) → new ≡ with_seat port (Some c) old → Some (log_of c) ≡ log
    → Some (logs_at new) ≡ option_map (with_share port log) (Some (logs_at old))
logs_put port c log old new is told =
    ap Some (ap logs_at is ∙ logs_with port (Some c) old ∙ ap (λ (l : Option Log). with_share port l (logs_at old)) told)

-- and where it was taken
pub logs_taken : (port : ℕ) (old new : Seating) → new ≡ with_seat port None old → logs_at new ≡ with_share port None (logs_at old)
logs_taken port old new is = ap logs_at is ∙ logs_with port None old

-- where there is nothing there is no log, and all that is there is new
pub none_logged : (at : Seating) → at ≡ (λ port. None) → Some (logs_at at) ≡ Some (λ port. None)
none_logged at is = ap (λ (f : Seating). Some (logs_at f)) is

pub none_new : (at : Seating) → at ≡ (λ port. None) → AreNew at
none_new at is = subst AreNew (sym is) (λ port. tt)

-- with new ones at a port all are new
pub new_with : (old new : Seating) (port : ℕ) (c : MemConnections) → new ≡ with_seat port (Some c) old → AreNew old → c.share ≡ port → c.faults ≡ 0 → c.ended ≡ false
    → c.stage.entries ≡ [] → AreNew new
new_with old new port c is are_new at faults ended entries = subst AreNew (sym is) (λ n. by n (eqb n port) refl)
  where
    by : (n : ℕ) (b : Bool) → eqb n port ≡ b → IfSome (cond b (Some c) (old n)) (IsNewAt n)
    by n true same = record { share_is = at ∙ sym (eqb-true n port same); no_faults = faults; unended = ended; fresh = entries }
    by n false other = are_new n

-- without those at a port too
pub new_without : (old new : Seating) (port : ℕ) → new ≡ with_seat port None old → AreNew old → AreNew new
new_without old new port is are_new = subst AreNew (sym is) (λ n. by n (eqb n port))
  where
    by : (n : ℕ) (b : Bool) → IfSome (cond b None (old n)) (IsNewAt n)
    by n true = tt
    by n false = are_new n

-- those that are taken were new
taken_new : (at : Seating) (port : ℕ) (c : MemConnections) → AreNew at → Some c ≡ at port → IsNewAt port c
taken_new at port c are_new is = subst (λ o. IfSome o (IsNewAt port)) (sym is) (are_new port)

pub new_share : (at : Seating) (port : ℕ) (c : MemConnections) → AreNew at → Some c ≡ at port
    → IsNewShare (Some (logs_at at)) port (record { share = c.share; faults = c.faults; has_ended = c.ended; log = Some (log_of c) })
new_share at port c are_new is =
    let new = taken_new at port c are_new is in
    record { share_is = new.share_is; no_faults = new.no_faults; unended = new.unended; fresh = new.fresh; waited_is = ap (option_map log_of) (sym is) }

-- what is awaited has a seat
seat_within : (seats : List Seat) (n : ℕ) → is_some (logs_at (seating_in seats) n) ≡ true → n < length seats
seat_within [] n is = absurd (true≢false (sym is))
seat_within (s ∷ seats) zero is = omega arith
seat_within (s ∷ seats) (suc n) is = let rest = seat_within seats n is in omega (arith, rest)

pub awaited_within : (seats : List Seat) (first count : ℕ) → 0 < count → are_awaited first count (logs_at (seating_in seats)) ≡ true → first + count ≤ length seats
awaited_within seats first zero some is = absurd (omega (arith, some))
awaited_within seats first (suc zero) some is =
    let here = seat_within seats first (and_parts (is_some (logs_at (seating_in seats) first)) (are_awaited (suc first) 0 (logs_at (seating_in seats))) is).0 in omega (arith, here)
awaited_within seats first (suc (suc count)) some is =
    let rest = awaited_within seats (suc first) (suc count) (omega arith)
    (and_parts (is_some (logs_at (seating_in seats) first)) (are_awaited (suc first) (suc count) (logs_at (seating_in seats))) is).1 in
    omega (arith, rest)

-- what is seated is awaited
seated : (o : Option MemConnections) → is_some (option_map log_of o) ≡ is_some o
seated None = refl
seated (Some c) = refl

pub awaited_on : (first k count : ℕ) (seats : List Seat) → k < count → is_some (seating_in seats (first + k)) ≡ true
    → are_awaited (first + k) (count - k) (logs_at (seating_in seats)) ≡ are_awaited (first + (k + 1)) (count - (k + 1)) (logs_at (seating_in seats))
awaited_on first k count seats lt is =
    awaited_next first k count (logs_at (seating_in seats)) lt
    ∙ ap (λ b. b && are_awaited (first + (k + 1)) (count - (k + 1)) (logs_at (seating_in seats))) (seated (seating_in seats (first + k)) ∙ is)

-- where some of those that are awaited were taken, the next one waits still, and so do the others
pub waits_still : (first k count : ℕ) (all now : ShareLogs) → k < count → are_awaited (first + k) (count - k) all ≡ true → now ≡ without_shares first k all
    → (is_some (now (first + k)) ≡ true) × (are_awaited (first + (k + 1)) (count - (k + 1)) all ≡ true)
waits_still first k count all now lt awaited is =
    let parts = and_parts (is_some (all (first + k))) (are_awaited (first + (k + 1)) (count - (k + 1)) all) (sym (awaited_next first k count all lt) ∙ awaited) in
    (ap (λ (f : ShareLogs). is_some (f (first + k))) is ∙ ap is_some (past_without first k all (first + k) (omega arith)) ∙ parts.0, parts.1)

-- the log of connections with which nothing was done yet
pub log_is : (c : MemConnections) (schedule : List Step) (fails : List ℕ) (piece : ℕ) → c.stage.schedule ≡ schedule → c.stage.entries ≡ [] → c.fails.items ≡ fails → c.calls ≡ 0
    → c.piece ≡ piece → Some (log_of c) ≡ Some (new_log schedule (record { fails = fails; calls = 0; piece = piece }))
log_is c schedule fails piece schedule_is fresh fails_is uncalled piece_is =
    λ i. Some (record { schedule = schedule_is i; script = record { fails = fails_is i; calls = uncalled i; piece = piece_is i }; entries = fresh i })
