-- Shares that were let go, one after another.
use Rattle.std.proofs.Common.{◌≡◌, ◌≤◌, ℕ, List, [], ◌∷◌, ◌++◌, length, Option, None, Some, refl, sym, ap, ◌∙◌, arith}
use Rattle.std.specs.Prelude.{option_map}
use Rattle.connections.specs.Shares.{ShareLogs, ShareFacts, with_share}
use Rattle.locked_server.specs.Streams.{ListenFacts, KeepsListeners, ReleasesStreams, with_shares}

pub none_released : (all : Option ShareLogs) → all ≡ option_map (with_shares []) all
none_released None = refl
none_released (Some all) = refl

with_one : (shares : List ShareFacts) (share : ShareFacts) (all : ShareLogs) → with_share share.share share.log (with_shares shares all) ≡ with_shares (shares ++ share ∷ []) all
with_one [] share all = refl
with_one (first ∷ shares) share all = with_one shares share (with_share first.share first.log all)

pub one_released : (shares : List ShareFacts) (share : ShareFacts) (all : Option ShareLogs)
    → option_map (with_share share.share share.log) (option_map (with_shares shares) all) ≡ option_map (with_shares (shares ++ share ∷ [])) all
one_released shares share None = refl
one_released shares share (Some all) = ap Some (with_one shares share all)

-- where there are none, nothing became of what listens
none_left : (shares : List ShareFacts) (before after : ListenFacts) → length shares ≤ 0 → ReleasesStreams shares before after → after ≡ before
none_left [] before after none gone = λ i. record {
  faults = gone.faults i;
  waits = gone.waits i;
  released = (gone.released ∙ sym (none_released before.released)) i;
  places = gone.places i;
  most = gone.most i;
  heard = gone.heard i;
  given = gone.given i;
}
none_left (share ∷ shares) before after none gone = absurd (omega (arith, none))

-- what listened at some places, and let these shares go
pub kept_released : {count : ℕ} (places : ℕ) (shares : List ShareFacts) (before between after : ListenFacts) → length shares ≤ places → KeepsListeners count places before between
    → ReleasesStreams shares between after → KeepsListeners count places before after
kept_released places shares before between after few keeps gone = record {
  few = keeps.few;
  heard = gone.heard ∙ keeps.heard;
  given = gone.given ∙ keeps.given;
  never_fall = omega (arith, keeps.never_fall, gone.faults);
  waits = gone.waits ∙ keeps.waits;
  places_are = gone.places ∙ keeps.places_are;
  most = gone.most ∙ keeps.most;
  unneeded = λ none. none_left shares between after (omega (arith, few, none)) gone ∙ keeps.unneeded none;
}
