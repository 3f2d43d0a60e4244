-- The records that a log has passed stand in front, and what it is to drop and to mark them.
use Rattle.std.proofs.Common.{◌≡◌, ℕ, suc, ◌+◌, ◌≤◌, ◌<◌, List, [], ◌∷◌, length, drop, take, Option, Some, None, Bool, true, false, cond, not, refl, sym, ap, ◌∙◌, arith, position}
use Rattle.std.specs.Prelude.{IfSome}
use Rattle.std.specs.List.{filter, AllByRecursion as AllOf}
use Rattle.std.proofs.lemmas.List.Quantifiers.{position-Some}
use Rattle.std.proofs.lemmas.Grind.{common_steps}
use Rattle.partition_model.specs.declared.fate.Fate.{Fate}
use Rattle.partition_model.specs.Cache.{Record, has_key, is_live}
use Rattle.partition_model.specs.CacheStep.{others, without_first}
use Rattle.partition_model.specs.Records.{AreRising, IsUnique}
use Rattle.mica_model.specs.CacheFields.{Notes, marked, marked_passed, passed_front, without_at}
use Rattle.partition_model.proofs.Laid.{IsLaid, key_is}
use Rattle.partition_model.proofs.Found.{missed_all}
use Rattle.mica_model.proofs.Places.{removed_at, kept_all}

-- laid records rise

laid_above : (from upto : ℕ) (rs : List Record) (low : ℕ) → low ≤ from → IsLaid from upto rs → AllOf (λ r. low ≤ r.offset) rs
laid_above from upto [] low below laid = tt
laid_above from upto (r ∷ rs) low below laid = let first = laid.0 in (omega arith, laid_above (r.offset + r.room) upto rs low (omega arith) laid.1)

pub laid_rising : (from upto : ℕ) (rs : List Record) → IsLaid from upto rs → AreRising rs
laid_rising from upto [] laid = tt
laid_rising from upto (r ∷ rs) laid = (laid_above (r.offset + r.room) upto rs r.offset (omega arith) laid.1, laid_rising (r.offset + r.room) upto rs laid.1)

-- 1 more is the next number, by which lists compute
next : (n : ℕ) → 1 + n ≡ suc n
next n = omega arith

module _ (words stamp : ℕ) where
  abbrev live : Record → Bool
  live held = is_live words stamp held.offset

  live_later : (r : Record) (rs : List Record) → live r ≡ true → AllOf (λ later. r.offset ≤ later.offset) rs → AllOf (λ later. live later ≡ true) rs
  live_later r [] is above = tt
  live_later r (x ∷ rs) is above = grind (arith, common_steps, live_later r rs is above.1)

  all_stay : (rs : List Record) → AllOf (λ r. live r ≡ true) rs → filter live rs ≡ rs
  all_stay [] all = refl
  all_stay (r ∷ rs) all = ap (λ b. cond b (r ∷ filter live rs) (filter live rs)) all.0 ∙ ap (λ l. r ∷ l) (all_stay rs all.1)

  none_marked : (fate : Fate) (rs : List Record) (notes : Notes) → AllOf (λ r. live r ≡ true) rs → marked_passed fate words stamp rs notes ≡ notes
  none_marked fate [] notes all = refl
  none_marked fate (r ∷ rs) notes all = grind (arith, common_steps, none_marked fate rs notes all.1)

  -- what is live lies behind what is passed

  pub passed_dropped : (rs : List Record) → AreRising rs → filter (λ held. is_live words stamp held.offset) rs ≡ drop (passed_front words stamp rs) rs
  passed_dropped [] rising = refl
  passed_dropped (r ∷ rs) rising = grind (arith, common_steps, all_stay rs, live_later r rs, passed_dropped rs rising.1, next (passed_front words stamp rs))

  pub passed_marked : (fate : Fate) (rs : List Record) (notes : Notes) → AreRising rs
      → marked_passed fate words stamp (take (passed_front words stamp rs) rs) notes ≡ marked_passed fate words stamp rs notes
  passed_marked fate [] notes rising = refl
  passed_marked fate (r ∷ rs) notes rising =
      grind (arith, common_steps, none_marked fate rs notes, live_later r rs, next (passed_front words stamp rs), passed_marked fate rs (marked r.key fate notes) rising.1)

-- to drop the first record of a key is to drop each, where there is one

all_other : (key : List ℕ) (rs : List Record) → AllOf (λ r. has_key key r ≡ false) rs → others key rs ≡ rs
all_other key [] all = refl
all_other key (r ∷ rs) all = ap (λ b. cond (not b) (r ∷ others key rs) (others key rs)) all.0 ∙ ap (λ l. r ∷ l) (all_other key rs all.1)

first_other : (key : List ℕ) (rs : List Record) → IsUnique rs → without_first (has_key key) rs ≡ others key rs
first_other key [] unique = refl
first_other key (r ∷ rs) unique = grind (arith, common_steps, key_is key r, all_other key rs, missed_all (has_key key) rs, first_other key rs unique.1)

other_by : (key : List ℕ) (rs : List Record) → IsUnique rs → (at : Option ℕ) → position (has_key key) rs ≡ at → without_at at rs ≡ others key rs
other_by key rs unique None is = sym (kept_all (has_key key) rs is) ∙ first_other key rs unique
other_by key [] unique (Some at) is = cc
other_by key (r ∷ rs) unique (Some at) is = sym (removed_at (has_key key) (r ∷ rs) at r is) ∙ first_other key (r ∷ rs) unique

pub found_goes : (key : List ℕ) (rs : List Record) → IsUnique rs → without_at (position (has_key key) rs) rs ≡ others key rs
found_goes key rs unique = other_by key rs unique (position (has_key key) rs) refl

pub found_within : (key : List ℕ) (rs : List Record) (at : Option ℕ) → at ≡ position (has_key key) rs → IfSome at (λ i. i < length rs)
found_within key rs None is = tt
found_within key [] (Some at) is = cc
found_within key (r ∷ rs) (Some at) is = (position-Some (has_key key) (r ∷ rs) at r (sym is)).0
