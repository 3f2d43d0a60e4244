-- Who wins, and how long an item is stale.
use Rattle.std.proofs.Common.{◌≡◌, ℕ, Bool, true, false, true≢false, ◌||◌, ◌&&◌, not, Option, Some, None, refl, sym, ap, subst}
use Rattle.std.proofs.lemmas.Bool.{cond_both}
use Rattle.memcached_text.specs.declared.item.Item.{Item}
use Rattle.memcached_text.specs.declared.lifetime.Lifetime.{Lifetime}
use Rattle.memcached_text.specs.declared.command.Direction.{Direction}
use Rattle.memcached_text.specs.declared.reply.Reply.TheVariants.{Exists}
use Rattle.memcached_commands.specs.declared.moment.Moment.{Moment}
use Rattle.memcached_commands.specs.declared.ask.Ask.{Ask}
use Rattle.memcached_commands.specs.declared.ask.Ask.TheVariants.{Get, GetTouch, Leased, Store, Join, Count, Touch, Delete, Mark, Spoil}
use Rattle.memcached_commands.specs.declared.ask.Says.TheVariants.{Line}
use Rattle.memcached_commands.specs.Moments.{end_of}
use Rattle.memcached_commands.specs.Counting.{number_in}
use Rattle.memcached_commands.specs.Decide.{Becoming, stays, becomes, goes, Decision, leaves, kept_until, end_by, has_number, if_meant, count_from, wants_newer, wins, leased_item, outdated, decide}
use Rattle.memcached_commands.specs.Laws.{WinsOnce, is_store, StaysStale}

-- this holds of the item that is left, if one is
abbrev IfItem : (Item → Type 0) → Becoming → Type 0
IfItem P stays = Unit {0}
IfItem P (becomes item) = P item
IfItem P goes = Unit {0}

abbrev IsWon : Item → Type 0
IsWon item = item.won ≡ true

abbrev IsStale : Item → Type 0
IsStale item = item.stale ≡ true

or_true : (b : Bool) → (b || true) ≡ true
or_true true = refl
or_true false = refl

kept_won : (end : Option ℕ) (item : Item) → IsWon item → IfItem IsWon (kept_until end item)
kept_won None item is = tt
kept_won (Some end) item is = is

kept_stale : (end : Option ℕ) (item : Item) → IsStale item → IfItem IsStale (kept_until end item)
kept_stale None item is = tt
kept_stale (Some end) item is = is

leased_won : (at : Moment) (touch : Option Lifetime) (wins : Bool) (item : Item) → wins ≡ true → IfItem IsWon (leased_item at touch wins item)
leased_won at None true item is = kept_won (end_by at None item) (record item { won = item.won || true }) (or_true item.won)
leased_won at (Some lifetime) true item is = kept_won (end_by at (Some lifetime) item) (record item { won = item.won || true }) (or_true item.won)
leased_won at touch false item is = absurd (true≢false (sym is))

leased_stale : (at : Moment) (touch : Option Lifetime) (wins : Bool) (item : Item) → IsStale item → IfItem IsStale (leased_item at touch wins item)
leased_stale at None false item is = tt
leased_stale at None true item is = kept_stale (end_by at None item) (record item { won = item.won || true }) is
leased_stale at (Some lifetime) wins item is = kept_stale (end_by at (Some lifetime) item) (record item { won = item.won || wins }) is

pub wins_once : WinsOnce
unfolding decide
wins_once at later lease other item next win is =
    let won : next.won ≡ true = subst (IfItem IsWon) is (leased_won at lease.touch (wins at lease item) item win) in
    ap (λ w. not w && (next.stale || wants_newer later other next)) won

meant_stale : (unique : Option ℕ) (item : Item) (d : Decision) → IfItem IsStale d.becoming → IfItem IsStale (if_meant unique item d).becoming
meant_stale unique item d is = cond_both (has_number unique item) d (leaves (Line Exists)) (λ (e : Decision). IfItem IsStale e.becoming) (λ _. is) (λ _. tt)

count_stale : (number : Option ℕ) (at : Moment) (direction : Direction) (delta : ℕ) (lifetime : Option Lifetime) (item : Item) → IsStale item
    → IfItem IsStale (count_from number at direction delta lifetime item).becoming
count_stale None at direction delta lifetime item is = tt
count_stale (Some n) at direction delta lifetime item is = kept_stale (end_by at lifetime item) _ is

still_stale : (at : Moment) (ask : Ask) (item : Item) → is_store ask ≡ false → IsStale item → IfItem IsStale (decide at ask (Some item)).becoming
unfolding decide
still_stale at Get item none is = tt
still_stale at (GetTouch lifetime) item none is = kept_stale (end_of at.second lifetime) item is
still_stale at (Leased lease) item none is = leased_stale at lease.touch (wins at lease item) item is
still_stale at (Store wants flags lifetime value) item none is = absurd (true≢false none)
still_stale at (Join side unique more) item none is = absurd (true≢false none)
still_stale at (Count direction delta unique lifetime initial) item none is = meant_stale unique item _ (count_stale (number_in item.value) at direction delta lifetime item is)
still_stale at (Touch lifetime) item none is = kept_stale (end_of at.second lifetime) item is
still_stale at (Delete unique) item none is = meant_stale unique item _ tt
still_stale at (Mark unique lifetime) item none is = meant_stale unique item _ (kept_stale (end_by at lifetime item) (outdated at item) refl)
still_stale at Spoil item none is = tt

pub stays_stale : StaysStale
stays_stale at ask item next none stale is = subst (IfItem IsStale) is (still_stale at ask item none stale)
