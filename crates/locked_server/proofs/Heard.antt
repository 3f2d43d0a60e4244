-- Places that were listened at one after another, and the shares that they gave.
use Rattle.std.proofs.Common.{◌≡◌, ℕ, zero, suc, ◌+◌, ◌<◌, ◌≤◌, Bool, true, false, List, [], ◌∷◌, ◌++◌, Option, Some, None, cond, refl, sym, ap, ◌∙◌, subst, slice_get, arith}
use Rattle.std.specs.Prelude.{nat_lt, option_map}
use Rattle.std.proofs.lemmas.Bool.{ltb-true, ltb-false, lt-ltb, le-ltb}
use Rattle.connections.specs.Log.{Log}
use Rattle.connections.specs.Shares.{ShareLogs, ShareFacts, GivesShares, without_shares}
use Rattle.connections.proofs.Shares.{without_none}
use Rattle.locked_server.specs.Streams.{ListenFacts, AreNewShares, KeepsListeners, with_heard}

-- no share was given out
pub waits_none : (first : ℕ) (waits : Option ShareLogs) → waits ≡ option_map (without_shares first 0) waits
waits_none first None = refl
waits_none first (Some all) = ap Some (sym (without_none first all))

-- the shares that were given out are new, each at its place
pub new_shares : (waited : Option ShareLogs) (first count : ℕ) (all : List ShareFacts) → GivesShares waited first count [] all → AreNewShares waited first all
new_shares waited first count all gives k share at = gives.each k share (ap (λ l. slice_get l k) (sym gives.behind) ∙ at)

-- nothing was listened at
pub kept_unheard : (places : ℕ) (all : ListenFacts) → KeepsListeners 0 places all all
kept_unheard places all = record {
  few = omega arith;
  heard = refl;
  given = omega arith;
  never_fall = omega arith;
  waits = waits_none all.given all.waits;
  places_are = refl;
  most = refl;
  unneeded = λ none. refl;
}

-- the first place was listened at, and gave so many shares
pub gave_all : (count : ℕ) (before after : ListenFacts) → 0 < count → after.heard ≡ before.heard ++ 0 ∷ [] → after.given ≡ before.given + count → before.faults ≤ after.faults
    → after.waits ≡ option_map (without_shares before.given count) before.waits → after.places ≡ before.places → after.most ≡ before.most → KeepsListeners count count before after
gave_all zero before after some heard given never_fall waits places_are most = absurd (omega (arith, some))
gave_all (suc count) before after some heard given never_fall waits places_are most = record {
  few = omega arith;
  heard = heard;
  given = given;
  never_fall = never_fall;
  waits = waits;
  places_are = places_are;
  most = most;
  unneeded = λ none. absurd (omega (arith, none));
}

-- it could not be listened at
pub gave_none : (count : ℕ) (before after : ListenFacts) → 0 < count → after.heard ≡ before.heard → after.given ≡ before.given → before.faults ≤ after.faults → after.waits ≡ before.waits
    → after.places ≡ before.places → after.most ≡ before.most → KeepsListeners 0 count before after
gave_none count before after some heard given never_fall waits places_are most = record {
  few = omega arith;
  heard = heard;
  given = omega (arith, given);
  never_fall = never_fall;
  waits = waits ∙ waits_none before.given before.waits;
  places_are = places_are;
  most = most;
  unneeded = λ none. absurd (omega (arith, none, some));
}
