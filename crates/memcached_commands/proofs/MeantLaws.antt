-- Which item a command means, which number it tells, and what does not depend on that.
use Rattle.std.proofs.Common.{◌≡◌, ◌+◌, ℕ, List, Bool, true, false, cond, Option, Some, None, length, nat_lt, decimal, refl, ap, subst}
use Rattle.std.proofs.lemmas.Bool.{cond_both}
use Rattle.memcached_text.specs.declared.limits.TheConstants.{MAX_TEXT_LEN}
use Rattle.memcached_text.specs.declared.command.Direction.{Direction}
use Rattle.memcached_text.specs.declared.command.Side.{Side}
use Rattle.memcached_text.specs.declared.fault.Fault.TheVariants.{TooLarge}
use Rattle.memcached_text.specs.declared.item.Item.{Item}
use Rattle.memcached_text.specs.declared.lifetime.Lifetime.{Lifetime}
use Rattle.memcached_text.specs.declared.reply.Reply.TheVariants.{Exists, Deleted, Touched}
use Rattle.memcached_commands.specs.declared.moment.Moment.{Moment}
use Rattle.memcached_commands.specs.declared.ask.Ask.{Ask}
use Rattle.memcached_commands.specs.declared.ask.Ask.TheVariants.{Get, GetTouch, Leased, Store, Join, Count, Touch, Delete, Mark, Spoil}
use Rattle.memcached_commands.specs.declared.ask.Initial.{Initial}
use Rattle.memcached_commands.specs.declared.ask.Says.TheVariants.{Line, Refusal, Stores}
use Rattle.memcached_commands.specs.Moments.{end_of}
use Rattle.memcached_commands.specs.Counting.{number_in}
use Rattle.memcached_commands.specs.Decide.{Becoming, stays, becomes, goes, Decision, leaves, kept_until, end_by, number_until, has_number, if_meant, is_wanted, later_than, missed, new_item, stored_over, joined_item, counted_item, joins, count_from, begun, vivified, outdated, decide}
use Rattle.memcached_commands.specs.Laws.{ChangesWhatIsMeant, told_number, IsTold, TellsNumber, LeavesAlike}

-- The item that is meant

not_meant : (unique : Option ℕ) (item : Item) (d : Decision) → has_number unique item ≡ false → if_meant unique item d ≡ leaves (Line Exists)
not_meant unique item d other = ap (λ t. cond t d (leaves (Line Exists))) other

any_meant : {X : Type 0} → true ≡ false → X
any_meant is = absurd (cc)

pub meant : ChangesWhatIsMeant
unfolding decide
meant at Get item other = any_meant other
meant at (GetTouch lifetime) item other = any_meant other
meant at (Leased lease) item other = any_meant other
meant at (Store wants flags lifetime value) item other = any_meant other
meant at (Join side unique more) item other = not_meant unique item _ other
meant at (Count direction delta unique lifetime initial) item other = not_meant unique item _ other
meant at (Touch lifetime) item other = any_meant other
meant at (Delete unique) item other = not_meant unique item _ other
meant at (Mark unique lifetime) item other = not_meant unique item _ other
meant at Spoil item other = any_meant other

-- Numbers that are told

-- what is told, if anything is, is that of what is left
abbrev IsToldOf : Option (Option ℕ) → Becoming → Type 0
IsToldOf None becoming = Unit {0}
IsToldOf (Some told) becoming = IsTold told becoming

abbrev Tells : Decision → Type 0
Tells d = IsToldOf (told_number d.says) d.becoming

module _ (at : Moment) where
  until : (end : Option ℕ) (item : Item) → item.unique ≡ at.unique → IsTold (number_until at end) (kept_until end item)
  until None item same = tt
  until (Some end) item same = same

  meant_tells : (unique : Option ℕ) (item : Item) (d : Decision) → Tells d → Tells (if_meant unique item d)
  meant_tells unique item d is = cond_both (has_number unique item) d (leaves (Line Exists)) Tells (λ _. is) (λ _. tt)

  stored_tells : (over : Option Item) (flags : ℕ) (lifetime : Lifetime) (value : List ℕ) → Tells (stored_over over at flags lifetime value)
  stored_tells None flags lifetime value = until (end_of at.second lifetime) (new_item at flags value) refl
  stored_tells (Some item) flags lifetime value = refl

  count_tells : (number : Option ℕ) (direction : Direction) (delta : ℕ) (lifetime : Option Lifetime) (item : Item) → Tells (count_from number at direction delta lifetime item)
  count_tells None direction delta lifetime item = tt
  count_tells (Some n) direction delta lifetime item = until (end_by at lifetime item) (counted_item at direction delta n item) refl

  begun_tells : (initial : Option Initial) → Tells (begun at initial)
  begun_tells None = tt
  begun_tells (Some initial) = until (end_of at.second initial.lifetime) (new_item at 0 (decimal initial.number)) refl

  vivified_tells : (lifetime : Option Lifetime) → Tells (vivified at lifetime)
  vivified_tells None = tt
  vivified_tells (Some lifetime) = tt

  tells_each : (ask : Ask) (found : Option Item) → Tells (decide at ask found)
  unfolding decide
  tells_each Get None = tt
  tells_each Get (Some item) = tt
  tells_each (GetTouch lifetime) None = tt
  tells_each (GetTouch lifetime) (Some item) = tt
  tells_each (Leased lease) None = vivified_tells lease.vivify
  tells_each (Leased lease) (Some item) = tt
  tells_each (Store wants flags lifetime value) found =
      cond_both (is_wanted wants found) (stored_over (later_than wants found) at flags lifetime value) (leaves (Line (missed wants found))) Tells
      (λ _. stored_tells (later_than wants found) flags lifetime value) (λ _. tt)
  tells_each (Join side unique more) None = tt
  tells_each (Join side unique more) (Some item) = meant_tells unique item (joins at side more item)
      (cond_both (nat_lt MAX_TEXT_LEN (length item.value + length more)) (leaves (Refusal TooLarge)) (record { becoming = becomes (joined_item at side more item); says = Stores (Some at.unique) })
      Tells (λ _. tt) (λ _. refl))
  tells_each (Count direction delta unique lifetime initial) None = begun_tells initial
  tells_each (Count direction delta unique lifetime initial) (Some item) =
      meant_tells unique item (count_from (number_in item.value) at direction delta lifetime item) (count_tells (number_in item.value) direction delta lifetime item)
  tells_each (Touch lifetime) None = tt
  tells_each (Touch lifetime) (Some item) = tt
  tells_each (Delete unique) None = tt
  tells_each (Delete unique) (Some item) = meant_tells unique item (record { becoming = goes; says = Line Deleted }) tt
  tells_each (Mark unique lifetime) None = tt
  tells_each (Mark unique lifetime) (Some item) =
      meant_tells unique item (record { becoming = kept_until (end_by at lifetime item) (outdated at item); says = Line Touched }) tt
  tells_each Spoil found = tt

pub tells : TellsNumber
tells at ask found unique is = subst (λ t. IsToldOf t (decide at ask found).becoming) is (tells_each at ask found)

-- What is left does not depend on them

abbrev IsChanged : Becoming → Type 0
IsChanged stays = ⊥
IsChanged _ = Unit {0}

kept : (end : Option ℕ) (item : Item) → IsChanged (kept_until end item)
kept None item = tt
kept (Some end) item = tt

-- a change is no stay
other : {X : Type 0} (becoming : Becoming) → IsChanged becoming → becoming ≡ stays → X
other becoming is stay = absurd (subst IsChanged stay is)

-- where one of two decisions is taken by a test that both share
by_test : (b : Bool) (one two else : Decision) → (one.becoming ≡ stays → two ≡ one) → (cond b one else).becoming ≡ stays → cond b two else ≡ cond b one else
by_test true one two else alike stay = alike stay
by_test false one two else alike stay = refl

module _ (at : Moment) (unique : ℕ) where
  abbrev then : Moment
  then = record at { unique = unique }

  stored_alike : (over : Option Item) (flags : ℕ) (lifetime : Lifetime) (value : List ℕ) → (stored_over over at flags lifetime value).becoming ≡ stays
      → stored_over over then flags lifetime value ≡ stored_over over at flags lifetime value
  stored_alike None flags lifetime value stay = other _ (kept (end_of at.second lifetime) _) stay
  stored_alike (Some item) flags lifetime value stay = other _ tt stay

  joined_alike : (large : Bool) (side : Side) (more : List ℕ) (item : Item)
      → (cond large (leaves (Refusal TooLarge)) (record { becoming = becomes (joined_item at side more item); says = Stores (Some at.unique) })).becoming ≡ stays
      → cond large (leaves (Refusal TooLarge)) (record { becoming = becomes (joined_item then side more item); says = Stores (Some unique) })
      ≡ cond large (leaves (Refusal TooLarge)) (record { becoming = becomes (joined_item at side more item); says = Stores (Some at.unique) })
  joined_alike true side more item stay = refl
  joined_alike false side more item stay = other (becomes (joined_item at side more item)) tt stay

  count_alike : (number : Option ℕ) (direction : Direction) (delta : ℕ) (lifetime : Option Lifetime) (item : Item) → (count_from number at direction delta lifetime item).becoming ≡ stays
      → count_from number then direction delta lifetime item ≡ count_from number at direction delta lifetime item
  count_alike None direction delta lifetime item stay = refl
  count_alike (Some n) direction delta lifetime item stay = other _ (kept (end_by at lifetime item) _) stay

  begun_alike : (initial : Option Initial) → (begun at initial).becoming ≡ stays → begun then initial ≡ begun at initial
  begun_alike None stay = refl
  begun_alike (Some initial) stay = other _ (kept (end_of at.second initial.lifetime) _) stay

  vivified_alike : (lifetime : Option Lifetime) → (vivified at lifetime).becoming ≡ stays → vivified then lifetime ≡ vivified at lifetime
  vivified_alike None stay = refl
  vivified_alike (Some lifetime) stay = other _ (kept (end_of at.second lifetime) _) stay

  alike : (ask : Ask) (found : Option Item) → (decide at ask found).becoming ≡ stays → decide then ask found ≡ decide at ask found
  unfolding decide
  alike Get None stay = refl
  alike Get (Some item) stay = refl
  alike (GetTouch lifetime) None stay = refl
  alike (GetTouch lifetime) (Some item) stay = refl
  alike (Leased lease) None stay = vivified_alike lease.vivify stay
  alike (Leased lease) (Some item) stay = refl
  alike (Store wants flags lifetime value) found stay = by_test (is_wanted wants found) _ _ _ (stored_alike (later_than wants found) flags lifetime value) stay
  alike (Join side number more) None stay = refl
  alike (Join side number more) (Some item) stay =
      by_test (has_number number item) _ _ _ (joined_alike (nat_lt MAX_TEXT_LEN (length item.value + length more)) side more item) stay
  alike (Count direction delta number lifetime initial) None stay = begun_alike initial stay
  alike (Count direction delta number lifetime initial) (Some item) stay =
      by_test (has_number number item) _ _ _ (count_alike (number_in item.value) direction delta lifetime item) stay
  alike (Touch lifetime) None stay = refl
  alike (Touch lifetime) (Some item) stay = refl
  alike (Delete number) None stay = refl
  alike (Delete number) (Some item) stay = refl
  alike (Mark number lifetime) None stay = refl
  alike (Mark number lifetime) (Some item) stay = by_test (has_number number item) _ _ _ (λ stands. other _ (kept (end_by at lifetime item) (outdated at item)) stands) stay
  alike Spoil found stay = refl

pub leaves_alike : LeavesAlike
leaves_alike at ask found unique stay = alike at unique ask found stay
