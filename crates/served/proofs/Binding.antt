-- Ends that are bound one after another, and come back one after another.
use Rattle.std.proofs.Common.{◌≡◌, ℕ, zero, suc, ◌+◌, ◌<◌, ◌≤◌, ◌⊎◌, inl, inr, true, false, cond, List, [], ◌∷◌, ◌++◌, length, map, Option, Some, None, refl, sym, ap, ◌∙◌, subst, drop, slice_get, get_or, eqb, eqb-true, arith, length-append}
use Rattle.std.specs.Prelude.{◌≢◌, IfSome, IfNone, is_some, min, sum_by}
use Rattle.std.proofs.lemmas.Bool.{eq-eqb, ne_eqb, true≢false, cases_lt}
use Rattle.outside.specs.Traffic.{Traffic, EndScript}
use Rattle.outside.specs.PortStates.{Port, PortStates, out, back, with_port, BindsEnd}
use Rattle.served.specs.Ends.{EndFacts, IsNewEnd, AreNewEnds, WaitedAt, BindsEnds, ReleasesEnds, TellAll}
use Rattle.outside.specs.Faults.{Rose, LAST_COUNT}
use Rattle.std.proofs.lemmas.List.{length-map}
use Rattle.std.proofs.Math.ListN.{drop_of_length-le}
use Rattle.std.proofs.lemmas.Option.{slice_get_within, get_or_from_slice_get}
use Rattle.std.proofs.lemmas.List.Sums.{sum_by-drop_more}
use Rattle.served.specs.NetRun.{OnPorts}

-- what stands at a place of a list with one more element
pub at_snoc : {X : Type 0} (xs : List X) (x : X) (i : ℕ) (y : X) → slice_get (xs ++ x ∷ []) i ≡ Some y
    → ((slice_get xs i ≡ Some y) × (i < length xs)) ⊎ ((i ≡ length xs) × (x ≡ y))
at_snoc [] x zero y is = inr (refl, cc)
at_snoc [] x (suc i) y is = absurd (cc)
at_snoc (z ∷ xs) x zero y is = inl (is, omega arith)
at_snoc (z ∷ xs) x (suc i) y is = elim (at_snoc xs x i y is) [
  | inl h ↦ inl (h.0, omega (arith, h.1))
  | inr h ↦ inr (omega (arith, h.0), h.1)
]

pub new_more : (first : ℕ) (ends : List EndFacts) (end : EndFacts) → AreNewEnds first ends → IsNewEnd (first + length ends) end → AreNewEnds first (ends ++ end ∷ [])
new_more first ends end each one i e is = elim (at_snoc ends end i e is) as (λ _. IsNewEnd (first + i) e) [
  | inl h ↦ each i e h.0
  | inr h ↦ subst (λ (x : EndFacts). IsNewEnd (first + i) x) h.1 (subst (λ (n : ℕ). IsNewEnd (first + n) end) (sym h.0) one)
]

at_port : (number : ℕ) (port : Port) (ports : PortStates) → with_port number port ports number ≡ port
at_port number port ports = ap (λ b. cond b port (ports number)) (eq-eqb number number refl)

off_port : (number q : ℕ) (port : Port) (ports : PortStates) → q ≢ number → with_port number port ports q ≡ ports q
off_port number q port ports other = ap (λ b. cond b port (ports q)) (ne_eqb q number other)

-- one end more was bound
pub binds_more : (first : ℕ) (ends : List EndFacts) (end : EndFacts) (script : Option EndScript) (before between after : PortStates)
    → BindsEnds first ends before between → BindsEnd between (first + length ends) end.traffic script (Some after) → end.has_script ≡ true
    → BindsEnds first (ends ++ end ∷ []) before after
binds_more first ends end script before between after so_far one scripted =
    let port = first + length ends in
    let was : between port ≡ before port = so_far.others port (λ i lt e. absurd (omega arith)) in
    let result = one.result in
    let now : after ≡ with_port port out between = cc in
    record {
      each = λ i e is. elim (at_snoc ends end i e is) as (λ _. WaitedAt before (first + i) e) [
        | inl h ↦ so_far.each i e h.0
        | inr h ↦ subst (λ (x : EndFacts). WaitedAt before (first + i) x) h.1 (record {
          datagrams = one.datagrams;
          foretold = one.foretold;
          waited = ap (λ n. before (first + n)) h.0 ∙ sym was ∙ one.waited;
          told = one.traffic_is;
          scripted = scripted;
        })
      ];
      out = λ i lt. ap (λ (f : PortStates). f (first + i)) now ∙ elim (eqb (first + i) port) as (λ b. eqb (first + i) port ≡ b → cond b out (between (first + i)) ≡ out) [
        | true ↦ λ e. refl
        | false ↦ λ e. so_far.out i (below i (length ends) (omega (arith, lt, length-append ends (end ∷ []))) (λ same. absurd (true≢false (sym (eq-eqb (first + i) port (ap (λ n. first + n) same)) ∙ e))))
      ] refl;
      others = λ q other. ap (λ (f : PortStates). f q) now
          ∙ off_port port q out between (other (length ends) (omega (arith, length-append ends (end ∷ []))))
          ∙ so_far.others q (λ i lt. other i (omega (arith, lt, length-append ends (end ∷ []))));
    }
  where
    below : (i n : ℕ) → i ≤ n → ¬ (i ≡ n) → i < n
    below i n le other = elim (cases_lt i n) as (λ _. i < n) [ inl lt ↦ lt | inr ge ↦ absurd (other (omega arith)) ]

-- one end more is bound, where the net may tell its ports or not
pub bound_more : (first : ℕ) (ends : List EndFacts) (end : EndFacts) (script : Option EndScript) (a b c : Option PortStates) → OnPorts (BindsEnds first ends) a b
    → IfSome b (λ y. BindsEnd y (first + length ends) end.traffic script c) → end.has_script ≡ is_some script
    → IfNone b (c ≡ None) → OnPorts (BindsEnds first (ends ++ end ∷ [])) a c
bound_more first ends end script None b c p q scripted silent = subst (λ (o : Option PortStates). IfNone o (c ≡ None)) p silent
bound_more first ends end script (Some x) None c p q scripted silent = absurd p
bound_more first ends end script (Some x) (Some y) c p q scripted silent =
    let port = first + length ends in
    let is = q.result in
    subst (λ (t : Option PortStates). OnPorts (BindsEnds first (ends ++ end ∷ [])) (Some x) t) (sym is)
    (binds_more first ends end script x y (with_port port out y) p (subst (λ (t : Option PortStates). BindsEnd y port end.traffic script t) is q)
    (scripted ∙ ap is_some q.script_is))

-- What stands while ends are released, the last one first, where the first k are still out.
pub record Releasing (first : ℕ) (ends : List EndFacts) (k : ℕ) (before now : PortStates) : Type 0 where
  pub still : (i : ℕ) → i < k → now (first + i) ≡ out
  pub came : (i : ℕ) (end : EndFacts) (traffic : Traffic) → k ≤ i → slice_get ends i ≡ Some end → end.traffic ≡ Some traffic
      → now (first + i) ≡ back traffic end.has_ended
  pub others : (q : ℕ) → ((i : ℕ) → i < length ends → q ≢ first + i) → now q ≡ before q

-- at first all are out
pub releasing_none : (first : ℕ) (ends : List EndFacts) (k : ℕ) (o : Option PortStates) → length ends ≡ k → IfSome o (λ all. (i : ℕ) → i < k → all (first + i) ≡ out)
    → OnPorts (Releasing first ends k) o o
releasing_none first ends k None many outs = refl
releasing_none first ends k (Some x) many outs = record {
  still = outs;
  came = λ i e t le is told. absurd (omega (arith, slice_get_within ends i e is));
  others = λ q other. refl;
}

pub one_released : (first : ℕ) (ends : List EndFacts) (j : ℕ) (end : EndFacts) (traffic : Traffic) (before now : PortStates)
    → Releasing first ends (suc j) before now → slice_get ends j ≡ Some end → end.traffic ≡ Some traffic
    → Releasing first ends j before (with_port (first + j) (back traffic end.has_ended) now)
one_released first ends j end traffic before now r here told = record {
  still = λ i lt. off_port (first + j) (first + i) (back traffic end.has_ended) now (λ e. absurd (omega arith)) ∙ r.still i (omega arith);
  came = λ i e t le is is'. elim (cases_lt j i) as (λ _. with_port (first + j) (back traffic end.has_ended) now (first + i) ≡ back t e.has_ended) [
    | inl lt ↦ off_port (first + j) (first + i) (back traffic end.has_ended) now (λ e. absurd (omega arith)) ∙ r.came i e t (omega arith) is is'
    | inr ge ↦
        let place : i ≡ j = omega arith in
        let there : slice_get ends i ≡ Some end = ap (slice_get ends) place ∙ here in
        let same : end ≡ e = cc in
        let same' : traffic ≡ t = cc in
        ap (λ (n : ℕ). with_port (first + j) (back traffic end.has_ended) now (first + n)) place ∙ at_port (first + j) (back traffic end.has_ended) now
        ∙ ap (λ (x : Traffic). back x end.has_ended) same' ∙ ap (λ (x : EndFacts). back t x.has_ended) same
  ];
  others = λ q other. off_port (first + j) q (back traffic end.has_ended) now (other j (slice_get_within ends j end here)) ∙ r.others q other;
}

pub all_released : (first : ℕ) (ends : List EndFacts) (before now : PortStates) → Releasing first ends 0 before now → ReleasesEnds first ends before now
all_released first ends before now r = record { each = λ i e t is is'. r.came i e t (omega arith) is is'; others = r.others }

pub released_more : (first : ℕ) (ends : List EndFacts) (j : ℕ) (end : EndFacts) (a b c : Option PortStates) → OnPorts (Releasing first ends (suc j)) a b
    → slice_get ends j ≡ Some end → end.port ≡ first + j → IfSome a (λ _. is_some end.traffic ≡ true)
    → IfSome b (λ all. IfSome end.traffic (λ traffic. c ≡ Some (with_port end.port (back traffic end.has_ended) all)))
    → IfNone b (c ≡ None) → OnPorts (Releasing first ends j) a c
released_more first ends j end None b c p here port told q silent = subst (λ (o : Option PortStates). IfNone o (c ≡ None)) p silent
released_more first ends j end (Some x) None c p here port told q silent = absurd p
released_more first ends j end (Some x) (Some y) c p here port told q silent = by end.traffic refl told q
  where
    by : (t : Option Traffic) → end.traffic ≡ t → is_some t ≡ true → IfSome t (λ traffic. c ≡ Some (with_port end.port (back traffic end.has_ended) y))
        → OnPorts (Releasing first ends j) (Some x) c
    by None is never q = absurd (true≢false (sym never))
    by (Some traffic) is told q =
        subst (λ (o : Option PortStates). OnPorts (Releasing first ends j) (Some x) o)
        (sym (q ∙ ap (λ (n : ℕ). Some (with_port n (back traffic end.has_ended) y)) port))
        (one_released first ends j end traffic x y p here is)

pub all_told : (first : ℕ) (ends : List EndFacts) (a b : Option PortStates) → OnPorts (Releasing first ends 0) a b → OnPorts (ReleasesEnds first ends) a b
all_told first ends None b p = p
all_told first ends (Some x) None p = absurd p
all_told first ends (Some x) (Some y) p = all_released first ends x y p

pub when_some : {A : Type 0} {X : Type 0} (o : Option A) → is_some o ≡ true → IfSome o (λ _. X) → X
when_some None never h = absurd (true≢false (sym never))
when_some (Some a) told h = h

-- the first port that was bound
pub first_kept : (binds n port at first new : ℕ) → binds ≡ n → new ≡ cond (eqb binds 0) at first → at ≡ port + n → (0 < n → first ≡ port) → new ≡ port
first_kept binds n port at first new is now here before = elim (eqb binds 0) as (λ b. eqb binds 0 ≡ b → new ≡ cond b at first → new ≡ port) [
  | true ↦ λ e now. let zero_is = eqb-true binds 0 e in now ∙ here ∙ omega arith
  | false ↦ λ e now. now ∙ before (some n is e)
] refl now
  where
    some : (n : ℕ) → binds ≡ n → eqb binds 0 ≡ false → 0 < n
    some zero is e = absurd (true≢false (sym (eq-eqb binds 0 is) ∙ e))
    some (suc n) is e = omega arith

-- a count that rose, seen from before or from after
pub rose_on : (a b c : ℕ) → a ≤ b → Rose b c → Rose a c
rose_on a b c le (inl lt) = inl (omega arith)
rose_on a b c le (inr last) = inr last

pub rose_before : (a b c : ℕ) → a ≤ b → Rose a b → b ≤ c → Rose a c
rose_before a b c under (inl lt) le = inl (omega arith)
rose_before a b c under (inr last) le = elim (cases_lt LAST_COUNT c) as (λ _. Rose a c) [ inl past ↦ inl (omega arith) | inr upto ↦ inr (omega arith) ]

-- no end was released yet
pub counts_none : {X : Type 0} (facts : X → EndFacts) (items : List X) (a : ℕ) → min a LAST_COUNT ≡ min (a + sum_by (λ e. e.faults) (drop (length items) (map facts items))) LAST_COUNT
counts_none facts items a =
    let none : drop (length items) (map facts items) ≡ [] = drop_of_length-le (map facts items) (let many = length-map items facts in omega arith) in
    let sum : sum_by (λ (e : EndFacts). e.faults) (drop (length items) (map facts items)) ≡ 0 = ap (sum_by (λ (e : EndFacts). e.faults)) none in
    omega (arith, sum)

-- a count rose by one end's faults, behind those that were released before
pub counts_more : (ends : List EndFacts) (n : ℕ) (end : EndFacts) (a b c : ℕ) → slice_get ends n ≡ Some end → c ≡ min (b + end.faults) LAST_COUNT
    → min b LAST_COUNT ≡ min (a + sum_by (λ e. e.faults) (drop (n + 1) ends)) LAST_COUNT → min c LAST_COUNT ≡ min (a + sum_by (λ e. e.faults) (drop n ends)) LAST_COUNT
counts_more ends n end a b c is now before =
    let one : get_or ends n end ≡ end = get_or_from_slice_get ends n end end is in
    let all = sum_by-drop_more (λ (e : EndFacts). e.faults) ends n end (slice_get_within ends n end is) in
    let here : (get_or ends n end).faults ≡ end.faults = ap (λ (e : EndFacts). e.faults) one in
    added_up a b c end.faults (sum_by (λ e. e.faults) (drop (n + 1) ends)) (sum_by (λ e. e.faults) (drop n ends)) (omega (arith, all, here)) now before
  where
    added_up : (a b c f rest all : ℕ) → all ≡ f + rest → c ≡ min (b + f) LAST_COUNT → min b LAST_COUNT ≡ min (a + rest) LAST_COUNT → min c LAST_COUNT ≡ min (a + all) LAST_COUNT
    added_up a b c f rest all whole now before = omega arith

pub still_out : (first : ℕ) (ends : List EndFacts) (n j port : ℕ) (a b : Option PortStates) → OnPorts (Releasing first ends n) a b → j < n → port ≡ first + j
    → IfSome b (λ all. all port ≡ out)
still_out first ends n j port None b p lt is = subst (λ (o : Option PortStates). IfSome o (λ all. all port ≡ out)) (sym p) tt
still_out first ends n j port (Some x) None p lt is = absurd p
still_out first ends n j port (Some x) (Some y) p lt is = ap y is ∙ p.still j lt

pub tells_at : (ends : List EndFacts) (j : ℕ) (end : EndFacts) (a : Option PortStates) → IfSome a (λ all. TellAll ends) → slice_get ends j ≡ Some end
    → IfSome a (λ _. is_some end.traffic ≡ true)
tells_at ends j end None h is = tt
tells_at ends j end (Some x) h is = h j end is
