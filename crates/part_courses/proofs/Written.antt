-- What a decision writes, and what writes do not flush.
use Rattle.std.proofs.Common.{◌≡◌, ◌≢◌, ◌==◌, ◌&&◌, ◌⊎◌, inl, inr, not, ℕ, suc, Bool, true, false, cond, List, [], Option, Some, None, is_some, bytes_eq, nat_lt, refl, sym, ap, ◌∙◌, eqb-true, arith}
use Rattle.std.proofs.lemmas.Bool.{cond_both, true≢false}
use Rattle.std.proofs.lemmas.Slice.Eq.{bytes_eq-Decides}
use Rattle.partition_model.specs.declared.write.Op.{Op}
use Rattle.partition_model.specs.declared.write.Op.TheVariants.{Put, Add, Touch as TouchOp, Del}
use Rattle.partition_model.specs.declared.write.Write.{Write}
use Rattle.partition_model.specs.Write.{write_of}
use Rattle.memcached_text.specs.declared.item.Item.{Item}
use Rattle.memcached_text.specs.Item.{item_text}
use Rattle.memcached_commands.specs.declared.ask.Ask.{Ask}
use Rattle.memcached_commands.specs.declared.ask.Ask.TheVariants.{Get, GetTouch, Leased, Store as StoreAsk, Join, Count, Touch, Delete, Mark, Spoil}
use Rattle.memcached_commands.specs.declared.ask.Says.TheVariants.{Line}
use Rattle.memcached_commands.specs.Answers.{no_room}
use Rattle.memcached_commands.specs.Changes.{without_dead}
use Rattle.memcached_commands.specs.Decide.{Becoming, stays, becomes, goes}
use Rattle.fronts.specs.declared.flushes.Flush.{Flush}
use Rattle.fronts.specs.declared.flushes.Flushes.{Flushes}
use Rattle.fronts.specs.Changing.{write_for}
use Rattle.fronts.specs.Flushes.{is_delete, flushes_then}
use Rattle.memcached_decisions.specs.Numbered.{numbered, stored_becoming}
use Rattle.memcached_page.specs.Shelf.{Shelf, at, there}
use Rattle.memcached_page.specs.Course.{is_no_room}
use Rattle.part_courses.proofs.Shelves.{number_of, in_numbers}

-- Decisions and writes

-- what becomes of what is stored, where it is written
pub written : (b : Becoming) (key : List ℕ) (value : Option (List ℕ)) (write : Write) → write_for key value (stored_becoming b) ≡ Some write
    → ((item : Item) × (b ≡ becomes item) × (write ≡ write_of Put key (item_text item))) ⊎ ((b ≡ goes) × (write ≡ write_of Del key []))
written stays key value write is = absurd (cc)
written (becomes item) key value write is = inl (item, refl, cc)
written goes key None write is = absurd (cc)
written goes key (Some stored) write is = inr (refl, cc)

pub unwritten : (b : Becoming) (key : List ℕ) (value : Option (List ℕ)) → write_for key value (stored_becoming b) ≡ None → (b ≡ stays) ⊎ ((b ≡ goes) × (value ≡ None))
unwritten stays key value is = inl refl
unwritten (becomes item) key value is = absurd (cc)
unwritten goes key None is = inr (refl, refl)
unwritten goes key (Some stored) is = absurd (cc)

-- and what was decided of it, unless it was over
pub stays_so : (gets : Bool) (value : Option (List ℕ)) (found : Option Item) (b : Becoming) → without_dead gets value found b ≡ stays → b ≡ stays
stays_so true value found b is = is
stays_so false None found b is = is
stays_so false (Some stored) (Some item) b is = is
stays_so false (Some stored) None stays is = refl
stays_so false (Some stored) None (becomes item) is = is
stays_so false (Some stored) None goes is = is

pub becomes_so : (gets : Bool) (value : Option (List ℕ)) (found : Option Item) (b : Becoming) (next : Item) → without_dead gets value found b ≡ becomes next → b ≡ becomes next
becomes_so true value found b next is = is
becomes_so false None found b next is = is
becomes_so false (Some stored) (Some item) b next is = is
becomes_so false (Some stored) None stays next is = absurd (cc)
becomes_so false (Some stored) None (becomes item) next is = is
becomes_so false (Some stored) None goes next is = is

pub goes_so : (gets : Bool) (value : Option (List ℕ)) (found : Option Item) (b : Becoming) → without_dead gets value found b ≡ goes
    → (b ≡ goes) ⊎ ((b ≡ stays) × ((is_some value && not (is_some found)) ≡ true))
goes_so true value found b is = inl is
goes_so false None found b is = inl is
goes_so false (Some stored) (Some item) b is = inl is
goes_so false (Some stored) None stays is = inr (refl, refl)
goes_so false (Some stored) None (becomes item) is = inl is
goes_so false (Some stored) None goes is = inl is

pub refused_line : (ask : Ask) → is_no_room (Line (no_room ask)) ≡ true
refused_line Get = refl
refused_line (GetTouch lifetime) = refl
refused_line (Leased lease) = refl
refused_line (StoreAsk wants flags lifetime value) = refl
refused_line (Join side unique more) = refl
refused_line (Count direction delta unique lifetime initial) = refl
refused_line (Touch lifetime) = refl
refused_line (Delete unique) = refl
refused_line (Mark unique lifetime) = refl
refused_line Spoil = refl

pub found_none : (value : Option (List ℕ)) (found : Option Item) → (is_some value && not (is_some found)) ≡ true → found ≡ None
found_none None found is = absurd (cc)
found_none (Some stored) None is = refl
found_none (Some stored) (Some item) is = absurd (cc)

-- the number at which it is looked at does not matter
pub there_alike : (second one other : ℕ) (shelf : Shelf) (o : Option Item) → there (at second one shelf) o ≡ there (at second other shelf) o
there_alike second one other shelf None = refl
there_alike second one other shelf (Some item) = refl

pub never_flushes : (first mark : Bool) → (first && false && mark) ≡ false
never_flushes true mark = refl
never_flushes false mark = refl

pub no_mark_flushes : (first delete : Bool) → (first && delete && false) ≡ false
no_mark_flushes true true = refl
no_mark_flushes true false = refl
no_mark_flushes false delete = refl

pub own_key : (key : List ℕ) (item old : Option Item) → cond (bytes_eq key key) item old ≡ item
own_key key item old = ap (λ b. cond b item old) ((bytes_eq-Decides key key).1 refl)

pub other_key : (other key : List ℕ) (item old : Option Item) → other ≢ key → cond (bytes_eq other key) item old ≡ old
other_key other key item old differ = cond_both (bytes_eq other key) item old (λ z. z ≡ old) (λ same. absurd (differ ((bytes_eq-Decides other key).0 same))) (λ _. refl)

pub dead_then : (value : Option (List ℕ)) (found : Option Item) → found ≡ None → value ≢ None → (is_some value && not (is_some found)) ≡ true
dead_then None found none some = absurd (some refl)
dead_then (Some stored) found none some = ap (λ o. not (is_some o)) none

-- a flush deletes a mark
pub mark_of : (first delete mark : Bool) → (first && delete && mark) ≡ true → mark ≡ true
mark_of true true mark is = is
mark_of true false mark is = absurd (cc)
mark_of false delete mark is = absurd (cc)

pub first_of : (first second : Bool) → (first && second) ≡ true → first ≡ true
first_of true second is = refl
first_of false second is = absurd (cc)

pub deletes_of : (first : Bool) (op : Op) (mark : Bool) → (first && is_delete op && mark) ≡ true → op ≡ Del
deletes_of first Del mark is = refl
deletes_of first Put mark is = absurd (true≢false (sym is ∙ never_flushes first mark))
deletes_of first Add mark is = absurd (true≢false (sym is ∙ never_flushes first mark))
deletes_of first TouchOp mark is = absurd (true≢false (sym is ∙ never_flushes first mark))

-- the flushes of one write more, in numbers
pub numbered_flush : (base n : ℕ) (flush : Flush) (flushes : Flushes) → in_numbers base (flushes_then (suc n) flush flushes) ≡ flushes_then (numbered base (suc n)) flush (in_numbers base flushes)
numbered_flush base n flush flushes = by (nat_lt flush.asked flushes.due)
  where
    made : ℕ → ℕ → Flushes
    made before behind = record { before = before; due = flush.due; after = behind }

    some : (b : Bool) → (suc n == 0) ≡ b → number_of base (suc n) ≡ numbered base (suc n)
    some true none = let is = eqb-true (suc n) 0 none in absurd (omega (arith, is))
    some false is = ap (λ b. cond b 0 (numbered base (suc n))) is

    by : (b : Bool) → made (number_of base (cond b flushes.before flushes.after)) (number_of base (suc n)) ≡ made (cond b (number_of base flushes.before) (number_of base flushes.after)) (numbered base (suc n))
    by true = ap (made (number_of base flushes.before)) (some (suc n == 0) refl)
    by false = ap (made (number_of base flushes.after)) (some (suc n == 0) refl)

pub over_parts : (there_is low high : Bool) → (not there_is && low && high) ≡ true → there_is ≡ false
over_parts true low high is = absurd (cc)
over_parts false low high is = refl
