-- What follows from what is decided.
use Rattle.std.proofs.Common.{◌≡◌, ◌<◌, ◌≤◌, ◌+◌, ◌-◌, ◌%◌, ◌^◌, ◌==◌, ℕ, List, Bool, true, false, true≢false, Option, Some, None, cond, length, drop, length-drop, max, min, zero, suc, subst, decimal, nat_le, nat_lt, refl, sym, ap, ◌∙◌, arith, ◌⊎◌, inl, inr}
use Rattle.std.proofs.Math.Bool.{and-false}
use Rattle.std.proofs.Math.Nat.{mod-eq_of_lt, mod-eq-sub-mod}
use Rattle.std.proofs.lemmas.Bool.{leb-false, ltb-true, le-ltb, lt-leb, eqb-true}
use Rattle.std.specs.Int.{w32, w64, from_le_bytes}
use Rattle.std.specs.Option.{IfSome}
use Rattle.mica_words.specs.Item.{StoredFits}
use Rattle.memcached_text.specs.declared.limits.TheConstants.{HEADER_LEN, MAX_TEXT_LEN}
use Rattle.memcached_text.specs.declared.command.Direction.{Direction}
use Rattle.memcached_text.specs.declared.item.Item.{Item}
use Rattle.memcached_text.specs.declared.lifetime.Lifetime.{Lifetime}
use Rattle.memcached_text.specs.declared.lifetime.Lifetime.TheVariants.{Forever, Over, For, Until}
use Rattle.memcached_text.specs.Item.{item_text, item_of, item_in}
use Rattle.memcached_text.specs.Fit.{IsKept as IsFitLifetime}
use Rattle.memcached_text.proofs.ItemLaws.{one_item}
use Rattle.memcached_commands.specs.declared.moment.Moment.{Moment}
use Rattle.memcached_commands.specs.declared.moment.TheConstants.{LAST_SECOND}
use Rattle.memcached_text.specs.declared.reply.Reply.TheVariants.{Exists}
use Rattle.memcached_text.specs.declared.command.Wants.{Wants}
use Rattle.memcached_text.specs.declared.command.Wants.TheVariants.{Whatever, Absent, Present, Numbered, AtLeast}
use Rattle.memcached_commands.specs.Changes.{only_gets, without_dead, ends_with_flush, becoming_of, looks}
use Rattle.memcached_commands.specs.declared.ask.Says.{Says}
use Rattle.memcached_commands.specs.declared.ask.Says.TheVariants.{Line, Number}
use Rattle.memcached_commands.specs.declared.ask.Initial.{Initial}
use Rattle.memcached_commands.specs.declared.ask.Left.{Left}
use Rattle.memcached_commands.specs.declared.ask.Ask.{Ask}
use Rattle.memcached_commands.specs.declared.ask.Ask.TheVariants.{Get, GetTouch, Leased, Store, Join, Count, Touch, Delete, Mark, Spoil}
use Rattle.memcached_commands.specs.Moments.{end_of, ended_by, is_there, found_in}
use Rattle.memcached_commands.specs.Counting.{number_in, counted}
use Rattle.memcached_commands.specs.Decide.{Becoming, stays, becomes, goes, kept_until, has_number, later_than, counted_item, count_from, leaves, decide}
use Rattle.memcached_commands.specs.Fit.{IsFitAsk, IsFitStored}
use Rattle.memcached_commands.specs.Laws.{IsFitItem, IsKept, BecomesKept, Fits, IsFitFound, IsGone, expired, flushed, LateIsNever, EndsAs, EndsAsAsked, asked_lifetime, NeverLonger, EndsWithFlush, IsSameValue, OneNumberOneValue, CountsOn, CountsWrap, CountsGoOn}
use Rattle.memcached_commands.proofs.CountLaws.{number_fits, counted_fits, padded_len, padded_reads}
use Rattle.memcached_commands.proofs.Decided.{asked_end, IsFitNext, Keeps, decided}

fit_is_kept : (item : Item) → IsFitItem item → IsKept item
unfolding item_text
fit_is_kept item is = record { fit = is; fits = omega (arith, is.value); reads = one_item item is.numbers }

-- one whose end is set
ended_fit : (item : Item) (end : ℕ) → end < 2 ^ 32 → IsFitNext item → IsKept (record item { expires = end })
ended_fit item end low is =
    fit_is_kept (record item { expires = end }) (record { numbers = record { flags = is.flags; expires = low; unique = is.unique }; value = is.value })

kept_fits : (at : Moment) (lifetime : Option Lifetime) (found : Option Item) (item : Item) → IsFitLifetime lifetime → IsFitFound found → IsFitNext item
    → BecomesKept (kept_until (asked_end at lifetime found) item)
unfolding end_of
kept_fits at None None item life fit is = tt
kept_fits at None (Some old) item life fit is = ended_fit item old.expires fit.numbers.expires is
kept_fits at (Some Forever) found item life fit is = ended_fit item 0 (omega arith) is
kept_fits at (Some Over) found item life fit is = tt
kept_fits at (Some (For seconds)) found item life fit is = ended_fit item _ (omega arith) is
kept_fits at (Some (Until end)) found item life fit is = go (nat_le end at.second)
  where
    go : (t : Bool) → BecomesKept (kept_until (cond t None (Some end)) item)
    go true = tt
    go false = ended_fit item end life.1 is

decided_fits : (at : Moment) (ask : Ask) (found : Option Item) → at.unique < 2 ^ 62 → IsFitAsk ask → IsFitFound found → BecomesKept (decide at ask found).becoming
decided_fits at ask found low asked is = elim (decided at ask found) [
  | inl left ↦ subst BecomesKept (sym left) tt
  | inr more ↦ elim more [
    | inl gone ↦ subst BecomesKept (sym gone) tt
    | inr keeps ↦ subst BecomesKept (sym keeps.is) (kept_fits at (asked_lifetime ask found) found keeps.next (keeps.lasts asked) is (keeps.fits low asked is))
  ]
]

-- and with a flush that waits
ended_low : (until expires : ℕ) → expires < 2 ^ 32 → ended_by until expires < 2 ^ 32
ended_low until expires low = go (until == 0) (expires == 0)
  where
    go : (none ever : Bool) → cond none expires (cond ever (min until LAST_SECOND) (min (min until LAST_SECOND) expires)) < 2 ^ 32
    go true ever = low
    go false true = omega arith
    go false false = omega (arith, low)

flush_fits : (at : Moment) (becoming : Becoming) → BecomesKept becoming → BecomesKept (ends_with_flush at becoming)
flush_fits at stays is = tt
flush_fits at (becomes item) is =
    ended_fit item (ended_by at.until item.expires) (ended_low at.until item.expires is.fit.numbers.expires)
    (record { flags = is.fit.numbers.flags; unique = is.fit.numbers.unique; value = is.fit.value })
flush_fits at goes is = tt

pub fits : Fits
fits at ask found low asked is = flush_fits at (decide at ask found).becoming (decided_fits at ask found low asked is)

some_end : (expires : ℕ) → 0 < expires → (expires == 0) ≡ false
some_end expires some = go (expires == 0) refl
  where
    go : (t : Bool) → (expires == 0) ≡ t → (expires == 0) ≡ false
    go true is = absurd (omega (arith, some, eqb-true expires 0 is))
    go false is = is

gone_is_not_there : (at : Moment) (item : Item) → IsGone at item → is_there at item ≡ false
gone_is_not_there at item (expired some past) =
    let ends : (item.expires == 0) ≡ false = some_end item.expires some in
    let over : nat_lt at.second item.expires ≡ false = le-ltb _ _ past in
    rw (ends, over) refl
gone_is_not_there at item (flushed low) =
    let below : nat_le at.flushed item.unique ≡ false = lt-leb _ _ low in
    rw below (and-false _)

-- the value of what is stored
value_fits : (stored : List ℕ) → StoredFits stored → length (item_in stored).value ≤ MAX_TEXT_LEN
unfolding item_in
value_fits stored is = go (nat_lt (length stored) HEADER_LEN) refl
  where
    whole : Item
    whole = record { flags = 0; expires = 0; unique = 0; stale = false; won = false; value = stored }

    parted : Item
    parted = item_of (from_le_bytes w32 stored) (from_le_bytes w32 (drop 4 stored)) (from_le_bytes w64 (drop 8 stored)) (drop HEADER_LEN stored)

    go : (t : Bool) → nat_lt (length stored) HEADER_LEN ≡ t → length (cond t whole parted).value ≤ MAX_TEXT_LEN
    go true short = omega (arith, ltb-true _ _ short)
    go false long = omega (arith, is, length-drop HEADER_LEN stored)

-- and of what is found
pub found_fits : (at : Moment) (stored : Option (List ℕ)) → IsFitStored stored → IfSome (found_in at stored) (λ item. length item.value ≤ MAX_TEXT_LEN)
found_fits at None is = tt
found_fits at (Some stored) is = go (is_there at (item_in stored))
  where
    go : (t : Bool) → IfSome (cond t (Some (item_in stored)) None) (λ item. length item.value ≤ MAX_TEXT_LEN)
    go true = value_fits stored is
    go false = tt

pub late_is_never : LateIsNever
late_is_never at ask stored gone =
    let absent : is_there at (item_in stored) ≡ false = gone_is_not_there at (item_in stored) gone in
    rw absent refl

-- the item that is to be, and this one where none is
abbrev next_or : Item → Becoming → Item
next_or item stays = item
next_or item (becomes next) = next
next_or item goes = item

abbrev is_item : Becoming → Bool
is_item (becomes next) = true
is_item _ = false

-- two that become the same are the same
one_next : (item next : Item) → becomes item ≡ becomes next → item ≡ next
one_next item next is = ap (next_or item) is

stays_no_item : {X : Type 0} (next : Item) → stays ≡ becomes next → X
stays_no_item next is = absurd (true≢false (sym (ap is_item is)))

goes_no_item : {X : Type 0} (next : Item) → goes ≡ becomes next → X
goes_no_item next is = absurd (true≢false (sym (ap is_item is)))

kept_ends : (at : Moment) (lifetime : Option Lifetime) (found : Option Item) (item next : Item) → IsFitLifetime lifetime
    → kept_until (asked_end at lifetime found) item ≡ becomes next → EndsAsAsked at.second lifetime found next.expires
unfolding end_of
kept_ends at None None item next life is = goes_no_item next is
kept_ends at None (Some old) item next life is = sym (ap (λ (i : Item). i.expires) (one_next _ next is))
kept_ends at (Some Forever) found item next life is = sym (ap (λ (i : Item). i.expires) (one_next _ next is))
kept_ends at (Some Over) found item next life is = goes_no_item next is
kept_ends at (Some (For seconds)) found item next life is =
    let end = ap (λ (i : Item). i.expires) (one_next _ next is) in (omega (arith, end, life.0), omega (arith, end))
kept_ends at (Some (Until end)) found item next life is = go (nat_le end at.second) refl is
  where
    go : (t : Bool) → nat_le end at.second ≡ t → kept_until (cond t None (Some end)) item ≡ becomes next → EndsAs at.second (Until end) next.expires
    go true past is = goes_no_item next is
    go false later is =
        let same = ap (λ (i : Item). i.expires) (one_next _ next is) in (omega (arith, same, leb-false _ _ later), sym same)

-- what becomes an item is one that is kept
pub keeps_one : (at : Moment) (ask : Ask) (found : Option Item) (next : Item) → (decide at ask found).becoming ≡ becomes next
    → Keeps at ask found (asked_lifetime ask found) (becomes next)
keeps_one at ask found next is = elim (decided at ask found) [
  | inl left ↦ stays_no_item next (sym left ∙ is)
  | inr more ↦ elim more [ inl gone ↦ goes_no_item next (sym gone ∙ is) | inr keeps ↦ subst (Keeps at ask found (asked_lifetime ask found)) is keeps ]
]

pub never_longer : NeverLonger
never_longer at ask found next asked is =
    let keeps = keeps_one at ask found next is in
    kept_ends at (asked_lifetime ask found) found keeps.next next (keeps.lasts asked) (sym keeps.is)

-- what becomes an item is decided so
alive_item : (reads : Bool) (stored : Option (List ℕ)) (found : Option Item) (becoming : Becoming) (item : Item) → without_dead reads stored found becoming ≡ becomes item → becoming ≡ becomes item
alive_item true stored found becoming item is = is
alive_item false None found becoming item is = is
alive_item false (Some stored) (Some old) becoming item is = is
alive_item false (Some stored) None stays item is = goes_no_item item is
alive_item false (Some stored) None (becomes next) item is = is
alive_item false (Some stored) None goes item is = is

above_none : (n : ℕ) → (n == 0) ≡ false → 0 < n
above_none zero is = absurd (true≢false is)
above_none (suc n) is = omega arith

ended_soon : (until expires : ℕ) → 0 < until → (0 < ended_by until expires) × (ended_by until expires ≤ until)
ended_soon until expires some = go (until == 0) refl (expires == 0) refl
  where
    go : (none : Bool) → (until == 0) ≡ none → (ever : Bool) → (expires == 0) ≡ ever
        → let end = cond none expires (cond ever (min until LAST_SECOND) (min (min until LAST_SECOND) expires)) in (0 < end) × (end ≤ until)
    go true is ever which = let same = eqb-true until 0 is in absurd (omega (arith, some, same))
    go false is true which = (omega (arith, some), omega arith)
    go false is false which = let high = above_none expires which in (omega (arith, some, high), omega arith)

flush_ends : (at : Moment) (becoming : Becoming) (item : Item) → 0 < at.until → ends_with_flush at becoming ≡ becomes item
    → (0 < item.expires) × (item.expires ≤ at.until)
flush_ends at stays item some is = stays_no_item item is
flush_ends at (becomes next) item some is =
    subst (λ e. (0 < e) × (e ≤ at.until)) (ap (λ (i : Item). i.expires) (one_next _ item is)) (ended_soon at.until next.expires some)
flush_ends at goes item some is = goes_no_item item is

pub ends_with_it : EndsWithFlush
ends_with_it at ask stored item some is =
    flush_ends at (decide at ask (found_in at stored)).becoming item some (alive_item (only_gets ask) stored (found_in at stored) _ item is)

kept_number : (at : Moment) (found : Option Item) (end : Option ℕ) (item next : Item) → (item.unique ≡ at.unique) ⊎ IsSameValue found item → kept_until end item ≡ becomes next
    → (next.unique ≡ at.unique) ⊎ IsSameValue found next
kept_number at found None item next number is = goes_no_item next is
kept_number at None (Some end) item next number is = subst (λ (i : Item). (i.unique ≡ at.unique) ⊎ IsSameValue None i) (one_next _ next is) number
kept_number at (Some old) (Some end) item next number is = subst (λ (i : Item). (i.unique ≡ at.unique) ⊎ IsSameValue (Some old) i) (one_next _ next is) number

pub one_number_one_value : OneNumberOneValue
one_number_one_value at ask found next is =
    let keeps = keeps_one at ask found next is in
    kept_number at found (asked_end at (asked_lifetime ask found) found) keeps.next next keeps.number (sym keeps.is)

around_once : (sum : ℕ) → 2 ^ 64 ≤ sum → sum < 2 ^ 64 + 2 ^ 64 → sum % 2 ^ 64 + 2 ^ 64 ≡ sum
around_once sum high low =
    let below : sum - 2 ^ 64 < 2 ^ 64 = omega arith in
    let same : sum % 2 ^ 64 ≡ sum - 2 ^ 64 = mod-eq-sub-mod high ∙ mod-eq_of_lt below in
    omega (arith, same)

pub counts : CountsWrap
counts number delta small few = record {
  up = λ low. mod-eq_of_lt low;
  around = λ high. around_once (number + delta) high (omega arith);
  down = λ low. omega arith;
  stops = λ high. omega arith;
}

abbrev number_said : Says → ℕ
number_said (Number n unique left made) = n
number_said _ = 0

abbrev is_number : Says → Bool
is_number (Number n unique left made) = true
is_number _ = false

said_on : (at : Moment) (direction : Direction) (delta : ℕ) (unique : Option ℕ) (lifetime : Option Lifetime) (initial : Option Initial) (n : ℕ) (told : Option ℕ) (left : Left)
    (made : Bool) (item : Item) (meant : Bool) (read : Option ℕ) → has_number unique item ≡ meant → number_in item.value ≡ read
    → (cond meant (count_from read at direction delta lifetime item) (leaves (Line Exists))).says ≡ Number n told left made
    → CountsOn at (Count direction delta unique lifetime initial) lifetime n item
unfolding decide
said_on at direction delta unique lifetime initial n told left made item false read meant reads is = absurd (true≢false (sym (ap is_number is)))
said_on at direction delta unique lifetime initial n told left made item true None meant reads is = absurd (true≢false (sym (ap is_number is)))
said_on at direction delta unique lifetime initial n told left made item true (Some m) meant reads is =
    let same : counted direction delta m ≡ n = ap number_said is in
    let small = counted_fits direction delta m (number_fits item.value m reads) in
    record {
      next = counted_item at direction delta m item;
      becoming = ap (λ t. (cond t (count_from (number_in item.value) at direction delta lifetime item) (leaves (Line Exists))).becoming) meant
          ∙ ap (λ r. (count_from r at direction delta lifetime item).becoming) reads;
      reads = padded_reads (length item.value) _ small ∙ ap (λ k. Some k) same;
      len = padded_len (length item.value) _ ∙ ap (λ k. max (length item.value) (length (decimal k))) same;
    }

pub counts_go_on : CountsGoOn
unfolding decide
counts_go_on at direction delta unique lifetime initial n told left made item is =
    said_on at direction delta unique lifetime initial n told left made item (has_number unique item) (number_in item.value) refl refl is

-- only what stays is taken away where it is not there
kept_alive : (at : Moment) (end : Option ℕ) (item : Item) (stored : Option (List ℕ)) (found : Option Item)
    → without_dead false stored found (ends_with_flush at (kept_until end item)) ≡ ends_with_flush at (kept_until end item)
kept_alive at None item None found = refl
kept_alive at None item (Some stored) None = refl
kept_alive at None item (Some stored) (Some old) = refl
kept_alive at (Some end) item None found = refl
kept_alive at (Some end) item (Some stored) None = refl
kept_alive at (Some end) item (Some stored) (Some old) = refl

goes_alive : (stored : Option (List ℕ)) (found : Option Item) → without_dead false stored found goes ≡ goes
goes_alive None found = refl
goes_alive (Some stored) None = refl
goes_alive (Some stored) (Some old) = refl

-- a command that does not look makes one thing of whatever is stored
pub blind : (ask : Ask) → looks ask ≡ false → (at : Moment) (one other : Option (List ℕ)) → becoming_of at ask one ≡ becoming_of at ask other
unfolding decide
blind (Store Whatever flags lifetime value) is at one other = kept_alive at _ _ one _ ∙ sym (kept_alive at _ _ other _)
blind Spoil is at one other = goes_alive one _ ∙ sym (goes_alive other _)
blind Get is at one other = absurd (true≢false is)
blind (GetTouch lifetime) is at one other = absurd (true≢false is)
blind (Leased lease) is at one other = absurd (true≢false is)
blind (Store Absent flags lifetime value) is at one other = absurd (true≢false is)
blind (Store Present flags lifetime value) is at one other = absurd (true≢false is)
blind (Store (Numbered unique) flags lifetime value) is at one other = absurd (true≢false is)
blind (Store (AtLeast unique) flags lifetime value) is at one other = absurd (true≢false is)
blind (Join side unique more) is at one other = absurd (true≢false is)
blind (Count direction delta unique lifetime initial) is at one other = absurd (true≢false is)
blind (Touch lifetime) is at one other = absurd (true≢false is)
blind (Delete unique) is at one other = absurd (true≢false is)
blind (Mark unique lifetime) is at one other = absurd (true≢false is)

-- no later item is found where none is
pub none_later : (wants : Wants) → later_than wants None ≡ None
none_later Whatever = refl
none_later Absent = refl
none_later Present = refl
none_later (Numbered unique) = refl
none_later (AtLeast unique) = refl

-- a command that only reads leaves whatever is stored
pub left : (ask : Ask) → only_gets ask ≡ true → (at : Moment) (stored : Option (List ℕ)) → becoming_of at ask stored ≡ stays
unfolding decide
left Get is at stored = nothing (found_in at stored)
  where
    nothing : (found : Option Item) → without_dead true stored found (ends_with_flush at (decide at Get found).becoming) ≡ stays
    nothing None = refl
    nothing (Some item) = refl
left (GetTouch lifetime) is at stored = absurd (true≢false (sym is))
left (Leased lease) is at stored = absurd (true≢false (sym is))
left (Store wants flags lifetime value) is at stored = absurd (true≢false (sym is))
left (Join side unique more) is at stored = absurd (true≢false (sym is))
left (Count direction delta unique lifetime initial) is at stored = absurd (true≢false (sym is))
left (Touch lifetime) is at stored = absurd (true≢false (sym is))
left (Delete unique) is at stored = absurd (true≢false (sym is))
left (Mark unique lifetime) is at stored = absurd (true≢false (sym is))
left Spoil is at stored = absurd (true≢false (sym is))
