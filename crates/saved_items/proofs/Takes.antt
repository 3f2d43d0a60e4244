-- Entries that are handed on, one behind another.
use Rattle.std.proofs.Common.{◌≡◌, ℕ, zero, suc, ◌+◌, ◌-◌, ◌%◌, ◌^◌, ◌<◌, Bool, true, false, cond, List, [], ◌∷◌, ◌++◌, length, length-append, refl, sym, ap, ◌∙◌, subst, arith}
use Rattle.std.specs.Prelude.{Option, Some, None, Result, Ok, Err, IsErrAnd, IfErr, OnOk}
use Rattle.std.proofs.lemmas.Grind.{common_steps}
use Rattle.saved_items.specs.declared.fault.SavedFault.{SavedFault}
use Rattle.saved_items.specs.declared.fault.SavedFault.TheVariants as faults
use Rattle.saved_items.specs.declared.items.Closing.{Closing}
use Rattle.saved_items.specs.Items.{Entry, Keeps, Closes, Pair, entry_of, left_after, close_after}
use Rattle.saved_items.specs.Reading.{Stream, entry_at, EndsWith}
use Rattle.saved_items.specs.Moves.{Reads, Ends, IsRead, HasFault, AreEntries, TakesAll, HandsOn, TakesOne, TakesNone, closes, is_of_outside}
use Rattle.saved_items.specs.Causes.{IsNext, Refuses}

-- what was read of an entry stood at the front
entry_read : (close : ℕ) (pair : Pair) (s s' : Option Stream) (o : Option Closing)
    → Reads (λ (closing : Option Closing). entry_of closing pair) s s' (let r : Result (Option Closing) SavedFault = Ok o in r) (entry_at close) → IsRead close s s' (entry_of o pair)
entry_read close pair None s' o read = tt
entry_read close pair (Some s) None o read = read
entry_read close pair (Some s) (Some s') o read = read

module _ (close : ℕ) (pair : Pair) (s s' : Option Stream) (o : Option Closing)
    (read : Reads (λ (closing : Option Closing). entry_of closing pair) s s' (let r : Result (Option Closing) SavedFault = Ok o in r) (entry_at close)) where
  pub pair_read : o ≡ None → IsRead close s s' (Keeps pair)
  pair_read is = subst (λ (x : Option Closing). IsRead close s s' (entry_of x pair)) is (entry_read close pair s s' o read)

  pub closing_read : (closing : Closing) → o ≡ Some closing → IsRead close s s' (Closes closing)
  closing_read closing is = subst (λ (x : Option Closing). IsRead close s s' (entry_of x pair)) is (entry_read close pair s s' o read)

has_fault : (close : ℕ) (s s' : Option Stream) (pair : Pair) (fault : SavedFault)
    → Reads (λ (c : Option Closing). entry_of c pair) s s' (let r : Result (Option Closing) SavedFault = Err fault in r) (entry_at close) → is_of_outside fault ≡ false → HasFault close s fault
has_fault close None s' pair fault read told = tt
has_fault close (Some s) s' pair fault read told = read told

-- with the fault as `?` hands it on
pub took_none : {T X : Type 0} (old : T) (close : ℕ) (s s' : Option Stream) (pair : Pair) (fault : SavedFault) (result : Result X SavedFault) → IsErrAnd result (λ e. e ≡ fault)
    → Reads (λ (c : Option Closing). entry_of c pair) s s' (let r : Result (Option Closing) SavedFault = Err fault in r) (entry_at close) → IfErr result (λ f. is_of_outside f ≡ false → TakesNone old old close s f)
took_none old close s s' pair fault (Ok x) is read = absurd is
took_none old close s s' pair fault (Err e) is read = λ told.
    (refl, has_fault close s s' pair e (subst (λ (f : SavedFault). Reads (λ (c : Option Closing). entry_of c pair) s s' (let r : Result (Option Closing) SavedFault = Err f in r) (entry_at close)) (sym is) read) told)

-- who takes entries refused one
pub refused : {T X : Type 0} (old new : T) (close : ℕ) (s : Option Stream) (result : Result X SavedFault) → IsErrAnd result (λ e. e ≡ faults.Refused)
    → IfErr result (λ f. is_of_outside f ≡ false → TakesNone old new close s f)
refused old new close s (Ok x) is = absurd is
refused old new close s (Err e) is = λ told. absurd (let outside : true ≡ false = subst (λ (f : SavedFault). is_of_outside f ≡ false) is told in cc)

-- A stream leads by entries to what is behind them, with how many partitions are still to be closed there, and by which word.
abbrev pub Leads : ℕ → ℕ → Option Stream → List Entry → ℕ → ℕ → Option Stream → Type 0
Leads n close s [] n' close' s' = (n' ≡ n) × (close' ≡ close) × (s' ≡ s)
Leads n close s (entry ∷ entries) n' close' s' = (0 < n) × (mid : Option Stream) × IsRead close s mid entry × Leads (left_after n entry) (close_after close entry) mid entries n' close' s'

leads_more : (n close : ℕ) (s : Option Stream) (entries : List Entry) (n' close' : ℕ) (s' s'' : Option Stream) (entry : Entry)
    → Leads n close s entries n' close' s' → 0 < n' → IsRead close' s' s'' entry → Leads n close s (entries ++ entry ∷ []) (left_after n' entry) (close_after close' entry) s''
leads_more n close s [] n' close' s' s'' entry leads some read = (
  subst (λ (k : ℕ). 0 < k) leads.0 some,
  s'',
  subst (λ (z : Option Stream). IsRead close z s'' entry) leads.2 (subst (λ (k : ℕ). IsRead k s' s'' entry) leads.1 read),
  (ap (λ (k : ℕ). left_after k entry) leads.0, ap (λ (k : ℕ). close_after k entry) leads.1, refl),
)
leads_more n close s (first ∷ entries) n' close' s' s'' entry leads some read =
    (leads.0, leads.1, leads.2, leads_more (left_after n first) (close_after close first) leads.1 entries n' close' s' s'' entry leads.3 some read)

-- what stands behind the entries, stands behind them and those before

entries_behind : (n close : ℕ) (s : Option Stream) (entries : List Entry) (n' close' : ℕ) (s' : Option Stream) → Leads n close s entries n' close' s'
    → (more : List Entry) (end : Option SavedFault) → AreEntries n' close' s' more end → AreEntries n close s (entries ++ more) end
entries_behind n close None entries n' close' s' leads more end are = tt
entries_behind n close (Some s) [] n' close' s' leads more end are =
    subst (λ (z : Option Stream). AreEntries n close z more end) leads.2 (subst (λ (k : ℕ). AreEntries n k s' more end) leads.1 (subst (λ (k : ℕ). AreEntries k close' s' more end) leads.0 are))
entries_behind n close (Some s) (first ∷ entries) n' close' s' leads more end are =
    by_rest leads.1 leads.2 leads.3 (λ mid later. entries_behind (left_after n first) (close_after close first) (Some mid) entries n' close' s' later more end are)
  where
    by_rest : (mid : Option Stream) → IsRead close (Some s) mid first → Leads (left_after n first) (close_after close first) mid entries n' close' s'
        → ((rest : Stream) → Leads (left_after n first) (close_after close first) (Some rest) entries n' close' s' → AreEntries (left_after n first) (close_after close first) (Some rest) (entries ++ more) end)
        → AreEntries n close (Some s) (first ∷ entries ++ more) end
    by_rest None read later rest = absurd read
    by_rest (Some mid) read later rest = (leads.0, mid, read, rest mid later)

next_behind : (n close : ℕ) (s : Option Stream) (entries : List Entry) (n' close' : ℕ) (s' s'' : Option Stream) (entry : Entry) → Leads n close s entries n' close' s'
    → 0 < n' → IsRead close' s' s'' entry → IsNext n close s entries entry
next_behind n close None entries n' close' s' s'' entry leads some read = tt
next_behind n close (Some s) [] n' close' s' s'' entry leads some read =
    by_rest s'' (subst (λ (z : Option Stream). IsRead close z s'' entry) leads.2 (subst (λ (k : ℕ). IsRead k s' s'' entry) leads.1 read))
  where
    by_rest : (now : Option Stream) → IsRead close (Some s) now entry → IsNext n close (Some s) [] entry
    by_rest None read = absurd read
    by_rest (Some now) read = (subst (λ (k : ℕ). 0 < k) leads.0 some, now, read)
next_behind n close (Some s) (first ∷ entries) n' close' s' s'' entry leads some read =
    by_rest leads.1 leads.2 leads.3 (λ mid later. next_behind (left_after n first) (close_after close first) (Some mid) entries n' close' s' s'' entry later some read)
  where
    by_rest : (mid : Option Stream) → IsRead close (Some s) mid first → Leads (left_after n first) (close_after close first) mid entries n' close' s'
        → ((rest : Stream) → Leads (left_after n first) (close_after close first) (Some rest) entries n' close' s' → IsNext (left_after n first) (close_after close first) (Some rest) entries entry)
        → IsNext n close (Some s) (first ∷ entries) entry
    by_rest None read later rest = absurd read
    by_rest (Some mid) read later rest = (leads.0, mid, read, rest mid later)

takes_more : {T : Type 0} (takes : T → Entry → T → Type 0) (old mid new : T) (entries : List Entry) (entry : Entry) → TakesAll takes old entries mid → takes mid entry new → TakesAll takes old (entries ++ entry ∷ []) new
takes_more takes old mid new [] entry all took = (new, subst (λ (t : _). takes t entry new) all took, refl)
takes_more takes old mid new (first ∷ entries) entry all took = (all.0, all.1, takes_more takes all.0 mid new entries entry all.2 took)

-- Entries were taken up to here, as many as the turns of the loop.
pub record HasTaken {T : Type 0} (takes : T → Entry → T → Type 0) (old now : T) (n : ℕ) (s : Option Stream) (turn n' close' : ℕ) (s' : Option Stream) : Type 0 where
  pub entries : List Entry
  pub took : TakesAll takes old entries now
  pub many : length entries ≡ turn
  pub leads : Leads n 0 s entries n' close' s'

module _ {T : Type 0} (takes : T → Entry → T → Type 0) (old : T) (n₀ : ℕ) (s₀ : Option Stream) where
  pub taken_none : HasTaken takes old old n₀ s₀ 0 n₀ 0 s₀
  taken_none = record { entries = []; took = refl; many = refl; leads = (refl, refl, refl) }

  module _ (now : T) (turn n close : ℕ) (s : Option Stream) (so_far : HasTaken takes old now n₀ s₀ turn n close s) where
    -- one entry more

    left_is : (entry : Entry) (closed : Bool) → closes entry ≡ closed → cond closed (n - 1) n ≡ left_after n entry
    left_is (Keeps pair) closed is = grind (arith, common_steps)
    left_is (Closes closing) closed is = grind (arith, common_steps)

    close_is : (entry : Entry) (closed : Bool) → closes entry ≡ closed → cond closed 0 ((close + 256) % 2 ^ 64) ≡ close_after close entry
    close_is (Keeps pair) closed is = grind (arith, common_steps)
    close_is (Closes closing) closed is = grind (arith, common_steps)

    pub taken_then : (next : T) (n' close' : ℕ) (closed : Bool) (s' : Option Stream) → 0 < n → TakesOne takes now next close closed s s'
        → n' ≡ cond closed (n - 1) n → close' ≡ cond closed 0 ((close + 256) % 2 ^ 64) → HasTaken takes old next n₀ s₀ (turn + 1) n' close' s'
    taken_then next n' close' closed s' some took is is' = record {
      entries = so_far.entries ++ took.0 ∷ [];
      took = takes_more takes old now next so_far.entries took.0 so_far.took took.1;
      many = omega (arith, length-append so_far.entries (took.0 ∷ []), so_far.many);
      leads = subst (λ (k : ℕ). Leads n₀ 0 s₀ (so_far.entries ++ took.0 ∷ []) k close' s') (sym (is ∙ left_is took.0 closed took.2))
          (subst (λ (k : ℕ). Leads n₀ 0 s₀ (so_far.entries ++ took.0 ∷ []) (left_after n took.0) k s') (sym (is' ∙ close_is took.0 closed took.2))
          (leads_more n₀ 0 s₀ so_far.entries n close s s' took.0 so_far.leads some took.3));
    }

    -- the end, or a fault

    handed : (end : Option SavedFault) → AreEntries n close s [] end → HandsOn takes old now n₀ 0 s₀ end
    handed end are = (
      so_far.entries,
      so_far.took,
      subst (λ (es : List Entry). AreEntries n₀ 0 s₀ es end) (nothing_behind so_far.entries) (entries_behind n₀ 0 s₀ so_far.entries n close s so_far.leads [] end are),
    )
      where
        nothing_behind : (es : List Entry) → es ++ [] ≡ es
        nothing_behind [] = refl
        nothing_behind (e ∷ es) = ap (λ (z : List Entry). e ∷ z) (nothing_behind es)

    end_of : (s' : Option Stream) (end : Option SavedFault) → n ≡ 0 → ((stream : Stream) → s' ≡ Some stream → EndsWith 0 0 stream end) → AreEntries n close s' [] end
    end_of None end is ends = tt
    end_of (Some stream) end is ends = subst (λ (k : ℕ). EndsWith k close stream end) (sym is) (at_zero end (ends stream refl))
      where
        at_zero : (end : Option SavedFault) → EndsWith 0 0 stream end → EndsWith 0 close stream end
        at_zero None ends = ends
        at_zero (Some fault) ends = ends

    fault_of : (s' : Option Stream) (fault : SavedFault) → 0 < n → HasFault close s' fault → AreEntries n close s' [] (Some fault)
    fault_of None fault some has = tt
    fault_of (Some stream) fault some has = by_count n some
      where
        by_count : (k : ℕ) → 0 < k → EndsWith k close stream (Some fault)
        by_count zero some = absurd (omega arith)
        by_count (suc k) some = has

    ended : (result : Result (Unit {0}) SavedFault) (s' : Option Stream) → Ends result s' → OnOk result ((stream : Stream) → s' ≡ Some stream → EndsWith 0 0 stream None)
    ended (Ok x) None ends = λ stream is. absurd cc
    ended (Ok x) (Some s') ends = λ stream is. subst (λ (z : Option Stream). Ends (let r : Result (Unit {0}) SavedFault = Ok tt in r) z) is ends
    ended (Err fault) s' ends = tt

    ended_ill : (fault : SavedFault) (s' : Option Stream) → Ends (let r : Result (Unit {0}) SavedFault = Err fault in r) s' → is_of_outside fault ≡ false → (stream : Stream) → s' ≡ Some stream → EndsWith 0 0 stream (Some fault)
    ended_ill fault None ends told stream is = absurd cc
    ended_ill fault (Some s') ends told stream is = subst (λ (z : Option Stream). Ends (let r : Result (Unit {0}) SavedFault = Err fault in r) z) is ends told

    pub ends_all : (result : Result (Unit {0}) SavedFault) → n ≡ 0 → Ends result s → OnOk result (HandsOn takes old now n₀ 0 s₀ None)
    ends_all (Ok x) is ends = handed None (end_of s None is (ended (Ok x) s ends))
    ends_all (Err fault) is ends = tt

    pub ends_fault : (result : Result (Unit {0}) SavedFault) → n ≡ 0 → Ends result s → IfErr result (λ f. is_of_outside f ≡ false → HandsOn takes old now n₀ 0 s₀ (Some f))
    ends_fault (Ok x) is ends = tt
    ends_fault (Err fault) is ends = λ told. handed (Some fault) (end_of s (Some fault) is (ended_ill fault s ends told))

    -- an entry was not taken, with the fault as `?` hands it on
    pub stops_at : {X : Type 0} (new : T) (fault : SavedFault) (result : Result X SavedFault) → IsErrAnd result (λ e. e ≡ fault) → 0 < n → (is_of_outside fault ≡ false → TakesNone now new close s fault)
        → IfErr result (λ f. is_of_outside f ≡ false → HandsOn takes old new n₀ 0 s₀ (Some f))
    stops_at new fault (Ok x) is some none = absurd is
    stops_at new fault (Err e) is some none = λ told.
        let none = none (subst (λ (f : SavedFault). is_of_outside f ≡ false) is told) in
        subst (λ (t : T). HandsOn takes old t n₀ 0 s₀ (Some e)) (sym none.0)
        (handed (Some e) (fault_of s e some (subst (λ (f : SavedFault). HasFault close s f) (sym is) none.1)))

    -- an entry was refused
    pub refuses_next : (refuses : T → Entry → T → Type 0) (new : T) (entry : Entry) (s' : Option Stream) → 0 < n → refuses now entry new → IsRead close s s' entry → Refuses takes refuses old new n₀ 0 s₀
    refuses_next refuses new entry s' some refused read =
        (so_far.entries, entry, now, so_far.took, refused, next_behind n₀ 0 s₀ so_far.entries n close s s' entry so_far.leads some read)
