-- What can be decided of an item: it is left, it goes, or one is kept until the end that is asked for.
use Rattle.std.proofs.Common.{◌≡◌, ◌<◌, ◌≤◌, ◌+◌, ◌==◌, ◌^◌, ℕ, List, [], Bool, true, false, cond, ◌||◌, Option, Some, None, option_map, length, decimal, nat_lt, refl, arith, length-append, ◌⊎◌, inl, inr}
use Rattle.std.proofs.lemmas.Bool.{cond_both, ltb-false}
use Rattle.memcached_text.specs.declared.limits.TheConstants.{MAX_TEXT_LEN}
use Rattle.memcached_text.specs.declared.command.Direction.{Direction}
use Rattle.memcached_text.specs.declared.command.Side.{Side}
use Rattle.memcached_text.specs.declared.command.Side.TheVariants.{Front, Back}
use Rattle.memcached_text.specs.declared.command.Wants.TheVariants.{Whatever, Absent, Present, Numbered, AtLeast}
use Rattle.memcached_text.specs.declared.item.Item.{Item}
use Rattle.memcached_text.specs.declared.lifetime.Lifetime.{Lifetime}
use Rattle.memcached_text.specs.Fit.{IsKept as IsFitLifetime}
use Rattle.memcached_commands.specs.declared.moment.Moment.{Moment}
use Rattle.memcached_commands.specs.declared.ask.Ask.{Ask}
use Rattle.memcached_commands.specs.declared.ask.Ask.TheVariants.{Get, GetTouch, Leased, Store, Join, Count, Touch, Delete, Mark, Spoil}
use Rattle.memcached_commands.specs.declared.ask.Initial.{Initial}
use Rattle.memcached_commands.specs.declared.ask.Says.{Says}
use Rattle.memcached_commands.specs.declared.ask.Says.TheVariants.{Line, Refusal, Stores}
use Rattle.memcached_text.specs.declared.fault.Fault.TheVariants.{TooLarge}
use Rattle.memcached_text.specs.declared.reply.Reply.TheVariants.{Exists, Deleted}
use Rattle.memcached_commands.specs.Moments.{end_of}
use Rattle.memcached_commands.specs.Counting.{number_in}
use Rattle.memcached_commands.specs.Decide.{Becoming, stays, becomes, goes, Decision, leaves, kept_until, end_by, has_number, if_meant, is_wanted, missed, later_than, stored, stored_over, joined, joined_item, new_item, joins, counted_item, count_from, begun, leased_item, wins, vivified, outdated, decide}
use Rattle.memcached_commands.specs.Fit.{IsFitAsk, IsFitInitial}
use Rattle.memcached_commands.specs.Laws.{IsFitItem, IsFitFound, IsSameValue, asked_lifetime}
use Rattle.memcached_commands.proofs.CountLaws.{number_fits, counted_fits, padded_fits, digits_fit}

-- the end that is asked for, and else that of the item before
abbrev pub asked_end : Moment → Option Lifetime → Option Item → Option ℕ
asked_end at (Some lifetime) found = end_of at.second lifetime
asked_end at None None = None
asked_end at None (Some item) = Some item.expires

-- an item that is fit, but for its end
pub record IsFitNext (item : Item) : Type 0 where
  pub flags : item.flags < 2 ^ 32
  pub unique : item.unique < 2 ^ 62
  pub value : length item.value ≤ MAX_TEXT_LEN

-- one that is kept: it is fit, its number is its own or that of the same value, and its lifetime is fit
pub record Keeps (at : Moment) (ask : Ask) (found : Option Item) (lifetime : Option Lifetime) (becoming : Becoming) : Type 0 where
  pub next : Item
  pub is : becoming ≡ kept_until (asked_end at lifetime found) next
  pub fits : at.unique < 2 ^ 62 → IsFitAsk ask → IsFitFound found → IsFitNext next
  pub number : (next.unique ≡ at.unique) ⊎ IsSameValue found next
  pub lasts : IsFitAsk ask → IsFitLifetime lifetime

abbrev pub IsDecided : Moment → Ask → Option Item → Option Lifetime → Becoming → Type 0
IsDecided at ask found lifetime becoming = (becoming ≡ stays) ⊎ ((becoming ≡ goes) ⊎ Keeps at ask found lifetime becoming)

same_fits : (item : Item) → IsFitItem item → IsFitNext item
same_fits item is = record { flags = is.numbers.flags; unique = is.numbers.unique; value = is.value }

-- the item before, for another lifetime
kept_on : (at : Moment) (ask : Ask) (item : Item) (lifetime : Lifetime) → (IsFitAsk ask → IsFitLifetime (Some lifetime))
    → IsDecided at ask (Some item) (Some lifetime) (kept_until (end_of at.second lifetime) item)
kept_on at ask item lifetime lasts = inr (inr (record {
  next = item;
  is = refl;
  fits = λ low asked found. same_fits item found;
  number = inr (refl, refl, refl);
  lasts = lasts;
}))

-- the item before, whose end is asked for or not, with what may be changed of it
end_is : (at : Moment) (lifetime : Option Lifetime) (item next : Item) → kept_until (end_by at lifetime item) next ≡ kept_until (asked_end at lifetime (Some item)) next
end_is at None item next = refl
end_is at (Some lifetime) item next = refl

joined_len : (side : Side) (more value : List ℕ) → length (joined side more value) ≡ length value + length more
joined_len Front more value = omega (arith, length-append more value)
joined_len Back more value = omega (arith, length-append value more)

-- a new item
new_one : (at : Moment) (ask : Ask) (found : Option Item) (lifetime : Lifetime) (flags : ℕ) (value : List ℕ) (won : Bool) → (IsFitAsk ask → IsFitLifetime (Some lifetime))
    → (IsFitAsk ask → (flags < 2 ^ 32) × (length value ≤ MAX_TEXT_LEN))
    → IsDecided at ask found (Some lifetime) (kept_until (end_of at.second lifetime) (record (new_item at flags value) { won = won }))
new_one at ask found lifetime flags value won lasts fit = inr (inr (record {
  next = record (new_item at flags value) { won = won };
  is = refl;
  fits = λ low asked found. record { flags = (fit asked).0; unique = low; value = (fit asked).1 };
  number = inl refl;
  lasts = lasts;
}))

module _ (at : Moment) where
  -- the item before, which may be won now
  won_fits : (item : Item) (won : Bool) → IsFitItem item → IsFitNext (record item { won = won })
  won_fits item won is = record { flags = is.numbers.flags; unique = is.numbers.unique; value = is.value }

  by_lease : (ask : Ask) (item : Item) (touch : Option Lifetime) (won : Bool) → (IsFitAsk ask → IsFitLifetime touch) → IsDecided at ask (Some item) touch (leased_item at touch won item)
  by_lease ask item None false lasts = inl refl
  by_lease ask item None true lasts = inr (inr (record {
    next = record item { won = item.won || true };
    is = refl;
    fits = λ low asked found. won_fits item (item.won || true) found;
    number = inr (refl, refl, refl);
    lasts = lasts;
  }))
  by_lease ask item (Some lifetime) won lasts = inr (inr (record {
    next = record item { won = item.won || won };
    is = refl;
    fits = λ low asked found. won_fits item (item.won || won) found;
    number = inr (refl, refl, refl);
    lasts = lasts;
  }))

  -- the one that is meant, or none
  by_meant : (ask : Ask) (unique : Option ℕ) (item : Item) (lifetime : Option Lifetime) (d : Decision) → IsDecided at ask (Some item) lifetime d.becoming
      → IsDecided at ask (Some item) lifetime (if_meant unique item d).becoming
  by_meant ask unique item lifetime d is =
      cond_both (has_number unique item) d (leaves (Line Exists)) (λ (e : Decision). IsDecided at ask (Some item) lifetime e.becoming) (λ _. is) (λ _. inl refl)

  by_join : (side : Side) (unique : Option ℕ) (more : List ℕ) (item : Item) → IsDecided at (Join side unique more) (Some item) None (joins at side more item).becoming
  by_join side unique more item =
      cond_both (nat_lt MAX_TEXT_LEN (length item.value + length more)) (leaves (Refusal TooLarge)) (record { becoming = becomes (joined_item at side more item); says = Stores (Some at.unique) })
      (λ (e : Decision). IsDecided at (Join side unique more) (Some item) None e.becoming) (λ _. inl refl) (λ short. inr (inr (record {
        next = new_item at item.flags (joined side more item.value);
        is = refl;
        fits = λ low asked found. record { flags = found.numbers.flags; unique = low; value = omega (arith, joined_len side more item.value, ltb-false _ _ short) };
        number = inl refl;
        lasts = λ asked. tt;
      })))

  by_count : (ask : Ask) (direction : Direction) (delta : ℕ) (lifetime : Option Lifetime) (item : Item) (number : Option ℕ) → (IsFitAsk ask → IsFitLifetime lifetime)
      → number_in item.value ≡ number → IsDecided at ask (Some item) lifetime (count_from number at direction delta lifetime item).becoming
  by_count ask direction delta lifetime item None lasts read = inl refl
  by_count ask direction delta lifetime item (Some n) lasts read = inr (inr (record {
    next = counted_item at direction delta n item;
    is = end_is at lifetime item (counted_item at direction delta n item);
    fits = λ low asked found. record {
      flags = found.numbers.flags;
      unique = low;
      value = padded_fits (length item.value) MAX_TEXT_LEN _ (counted_fits direction delta n (number_fits item.value n read)) found.value (omega arith);
    };
    number = inl refl;
    lasts = lasts;
  }))

  by_store : (ask : Ask) (wanted : Bool) (says : Says) (found : Option Item) (flags : ℕ) (lifetime : Lifetime) (value : List ℕ)
      → (IsFitAsk ask → IsFitLifetime (Some lifetime)) → (IsFitAsk ask → (flags < 2 ^ 32) × (length value ≤ MAX_TEXT_LEN))
      → IsDecided at ask found (Some lifetime) (cond wanted (stored at flags lifetime value) (leaves says)).becoming
  by_store ask true says found flags lifetime value lasts fit = new_one at ask found lifetime flags value false lasts fit
  by_store ask false says found flags lifetime value lasts fit = inl refl

  -- over the item that is meant, or over a later one
  by_late : (unique flags : ℕ) (lifetime : Lifetime) (value : List ℕ) (item : Item) (same : Bool)
      → IsDecided at (Store (AtLeast unique) flags lifetime value) (Some item) (cond same (Some lifetime) None) (stored_over (cond same None (Some item)) at flags lifetime value).becoming
  by_late unique flags lifetime value item true = new_one at (Store (AtLeast unique) flags lifetime value) (Some item) lifetime flags value false (λ asked. asked.2) (λ asked. (asked.1, asked.3))
  by_late unique flags lifetime value item false = inr (inr (record {
    next = record (new_item at flags value) { stale = true; won = item.won };
    is = refl;
    fits = λ low asked found. record { flags = asked.1; unique = low; value = asked.3 };
    number = inl refl;
    lasts = λ asked. tt;
  }))

  by_begun : (ask : Ask) (initial : Option Initial) → (IsFitAsk ask → IsFitInitial initial)
      → IsDecided at ask None (option_map (λ (i : Initial). i.lifetime) initial) (begun at initial).becoming
  by_begun ask None fit = inl refl
  by_begun ask (Some initial) fit = new_one at ask None initial.lifetime 0 (decimal initial.number) false (λ asked. (fit asked).lifetime) (λ asked. (omega arith, digits_fit initial.number (fit asked).number))

  by_vivify : (ask : Ask) (lifetime : Option Lifetime) → (IsFitAsk ask → IsFitLifetime lifetime) → IsDecided at ask None lifetime (vivified at lifetime).becoming
  by_vivify ask None lasts = inl refl
  by_vivify ask (Some lifetime) lasts = new_one at ask None lifetime 0 [] true lasts (λ asked. (omega arith, omega arith))

  pub decided : (ask : Ask) (found : Option Item) → IsDecided at ask found (asked_lifetime ask found) (decide at ask found).becoming
  unfolding decide
  decided Get None = inl refl
  decided Get (Some item) = inl refl
  decided (GetTouch lifetime) None = inl refl
  decided (GetTouch lifetime) (Some item) = kept_on at (GetTouch lifetime) item lifetime (λ asked. asked)
  decided (Leased lease) None = by_vivify (Leased lease) lease.vivify (λ asked. asked.1)
  decided (Leased lease) (Some item) = by_lease (Leased lease) item lease.touch (wins at lease item) (λ asked. asked.0)
  decided (Store Whatever flags lifetime value) found =
      by_store (Store Whatever flags lifetime value) true (Line (missed Whatever found)) found flags lifetime value (λ asked. asked.2) (λ asked. (asked.1, asked.3))
  decided (Store Absent flags lifetime value) found =
      by_store (Store Absent flags lifetime value) (is_wanted Absent found) (Line (missed Absent found)) found flags lifetime value (λ asked. asked.2) (λ asked. (asked.1, asked.3))
  decided (Store Present flags lifetime value) found =
      by_store (Store Present flags lifetime value) (is_wanted Present found) (Line (missed Present found)) found flags lifetime value (λ asked. asked.2) (λ asked. (asked.1, asked.3))
  decided (Store (Numbered unique) flags lifetime value) found =
      by_store (Store (Numbered unique) flags lifetime value) (is_wanted (Numbered unique) found) (Line (missed (Numbered unique) found)) found flags lifetime value (λ asked. asked.2) (λ asked. (asked.1, asked.3))
  decided (Store (AtLeast unique) flags lifetime value) None = inl refl
  decided (Store (AtLeast unique) flags lifetime value) (Some item) =
      cond_both (is_wanted (AtLeast unique) (Some item)) (stored_over (later_than (AtLeast unique) (Some item)) at flags lifetime value) (leaves (Line Exists))
      (λ (e : Decision). IsDecided at (Store (AtLeast unique) flags lifetime value) (Some item) (asked_lifetime (Store (AtLeast unique) flags lifetime value) (Some item)) e.becoming)
      (λ _. by_late unique flags lifetime value item (unique == item.unique)) (λ _. inl refl)
  decided (Join side unique more) None = inl refl
  decided (Join side unique more) (Some item) = by_meant (Join side unique more) unique item None _ (by_join side unique more item)
  decided (Count direction delta unique lifetime initial) None = by_begun (Count direction delta unique lifetime initial) initial (λ asked. asked.2)
  decided (Count direction delta unique lifetime initial) (Some item) =
      by_meant (Count direction delta unique lifetime initial) unique item lifetime _
      (by_count (Count direction delta unique lifetime initial) direction delta lifetime item (number_in item.value) (λ asked. asked.1) refl)
  decided (Touch lifetime) None = inl refl
  decided (Touch lifetime) (Some item) = kept_on at (Touch lifetime) item lifetime (λ asked. asked)
  decided (Delete unique) None = inl refl
  decided (Delete unique) (Some item) = by_meant (Delete unique) unique item None (record { becoming = goes; says = Line Deleted }) (inr (inl refl))
  decided (Mark unique lifetime) None = inl refl
  decided (Mark unique lifetime) (Some item) = by_meant (Mark unique lifetime) unique item lifetime _ (inr (inr (record {
    next = outdated at item;
    is = end_is at lifetime item (outdated at item);
    fits = λ low asked found. record { flags = found.numbers.flags; unique = low; value = found.value };
    number = inl refl;
    lasts = λ asked. asked;
  })))
  decided Spoil found = inr (inl refl)
