-- Records in a log: each ends where or before the next begins, and no two are of one key.
use Rattle.std.proofs.Common.{◌≡◌, ℕ, ◌+◌, ◌≤◌, ◌⊎◌, List, [], ◌∷◌, ◌++◌, Some, None, Bool, true, false, cond, refl, ap, arith, ◌≢◌}
use Rattle.std.specs.List.{find, filter}
use Rattle.std.specs.Prelude.{map}
use Rattle.std.proofs.lemmas.Bool.{true≢false, false_from_ne_true}
use Rattle.std.proofs.lemmas.Option.{same_Some}
use Rattle.std.proofs.lemmas.Slice.Eq.{bytes_eq-Decides}
use Rattle.std.proofs.lemmas.Grind.{common_steps}
use Rattle.partition_model.specs.Cache.{Record, has_key}
use Rattle.partition_model.specs.Records.{IsUnique}
use Rattle.partition_model.specs.CacheStep.{without_first}
use Rattle.partition_model.proofs.Found.{missed_filter, missed_without_first, found_passes}

pub key_is : (key : List ℕ) (r : Record) → has_key key r ≡ true → r.key ≡ key
key_is key r is = (bytes_eq-Decides r.key key).0 is

pub has_its_key : (key : List ℕ) (r : Record) → r.key ≡ key → has_key key r ≡ true
has_its_key key r is = (bytes_eq-Decides r.key key).1 is

pub has_other_key : (key : List ℕ) (r : Record) → r.key ≢ key → has_key key r ≡ false
has_other_key key r other = false_from_ne_true (has_key key r) (λ is. other (key_is key r is))

pub found_key : (key : List ℕ) (rs : List Record) (r : Record) → find (has_key key) rs ≡ Some r → r.key ≡ key
found_key key rs r is = key_is key r (found_passes (has_key key) rs r is)

-- the records lie one after another, from a place on up to another
abbrev pub IsLaid : ℕ → ℕ → List Record → Type 0
IsLaid from upto [] = from ≤ upto
IsLaid from upto (r ∷ rs) = (from ≤ r.offset) × IsLaid (r.offset + r.room) upto rs

pub laid_within : (from upto : ℕ) (rs : List Record) → IsLaid from upto rs → from ≤ upto
laid_within from upto [] laid = laid
laid_within from upto (r ∷ rs) laid = let rest = laid_within (r.offset + r.room) upto rs laid.1 in omega arith

pub laid_from : (from from' upto : ℕ) (rs : List Record) → from' ≤ from → IsLaid from upto rs → IsLaid from' upto rs
laid_from from from' upto [] less laid = omega arith
laid_from from from' upto (r ∷ rs) less laid = (let first = laid.0 in omega arith, laid.1)

pub laid_filter : (q : Record → Bool) (from upto : ℕ) (rs : List Record) → IsLaid from upto rs → IsLaid from upto (filter q rs)
laid_filter q from upto [] laid = laid
laid_filter q from upto (r ∷ rs) laid = grind (arith, laid_filter q (r.offset + r.room) upto rs laid.1, laid_from (r.offset + r.room) from upto (filter q rs))

pub laid_without_first : (here : Record → Bool) (from upto : ℕ) (rs : List Record) → IsLaid from upto rs → IsLaid from upto (without_first here rs)
laid_without_first here from upto [] laid = laid
laid_without_first here from upto (r ∷ rs) laid = grind (arith, laid_from (r.offset + r.room) from upto rs, laid_without_first here (r.offset + r.room) upto rs laid.1)

pub laid_push : (from upto : ℕ) (rs : List Record) (r : Record) → r.offset ≡ upto → IsLaid from upto rs → IsLaid from (upto + r.room) (rs ++ r ∷ [])
laid_push from upto [] r at laid = (omega arith, omega arith)
laid_push from upto (x ∷ rs) r at laid = (laid.0, laid_push (x.offset + x.room) upto rs r at laid.1)

-- a change of values alone moves nothing
pub laid_map : (f : Record → Record) → ((r : Record) → (f r).offset ≡ r.offset) → ((r : Record) → (f r).room ≡ r.room)
    → (from upto : ℕ) (rs : List Record) → IsLaid from upto rs → IsLaid from upto (map f rs)
laid_map f offsets rooms from upto [] laid = laid
laid_map f offsets rooms from upto (r ∷ rs) laid = grind (arith, common_steps, laid_map f offsets rooms (r.offset + r.room) upto rs laid.1)

pub laid_later : (from upto upto' : ℕ) (rs : List Record) → upto ≤ upto' → IsLaid from upto rs → IsLaid from upto' rs
laid_later from upto upto' [] more laid = omega arith
laid_later from upto upto' (r ∷ rs) more laid = (laid.0, laid_later (r.offset + r.room) upto upto' rs more laid.1)

pub laid_found : (p : Record → Bool) (from upto : ℕ) (rs : List Record) (r : Record) → IsLaid from upto rs → find p rs ≡ Some r
    → (from ≤ r.offset) × (r.offset + r.room ≤ upto)
laid_found p from upto [] r laid is = cc
laid_found p from upto (x ∷ rs) r laid is = grind (arith, laid_within (x.offset + x.room) upto rs laid.1, laid_found p (x.offset + x.room) upto rs r laid.1)

-- of two records that two searches find, one ends where or before the other begins
pub laid_apart : (p q : Record → Bool) → ((r : Record) → p r ≡ true → q r ≡ false) → (from upto : ℕ) (rs : List Record) (r r' : Record) → IsLaid from upto rs
    → find p rs ≡ Some r → find q rs ≡ Some r' → (r.offset + r.room ≤ r'.offset) ⊎ (r'.offset + r'.room ≤ r.offset)
laid_apart p q differ from upto [] r r' laid is is' = cc
laid_apart p q differ from upto (x ∷ rs) r r' laid is is' =
    grind (arith, laid_found q (x.offset + x.room) upto rs r' laid.1, same_Some x r, laid_found p (x.offset + x.room) upto rs r laid.1, laid_apart p q differ (x.offset + x.room) upto rs r r' laid.1)

pub unique_filter : (q : Record → Bool) (rs : List Record) → IsUnique rs → IsUnique (filter q rs)
unique_filter q [] unique = tt
unique_filter q (r ∷ rs) unique = grind (arith, common_steps, missed_filter (has_key r.key) q rs unique.0, unique_filter q rs unique.1)

pub unique_without_first : (here : Record → Bool) (rs : List Record) → IsUnique rs → IsUnique (without_first here rs)
unique_without_first here [] unique = tt
unique_without_first here (r ∷ rs) unique = grind (arith, common_steps, missed_without_first (has_key r.key) here rs unique.0, unique_without_first here rs unique.1)

missed_push : (p : Record → Bool) (rs : List Record) (r : Record) → p r ≡ false → find p rs ≡ None → find p (rs ++ r ∷ []) ≡ None
missed_push p [] r other is = ap (λ b. cond b (Some r) None) other
missed_push p (x ∷ rs) r other is = grind (arith, common_steps, missed_push p rs r other)

pub unique_push : (rs : List Record) (r : Record) → find (has_key r.key) rs ≡ None → IsUnique rs → IsUnique (rs ++ r ∷ [])
unique_push [] r new unique = (refl, tt)
unique_push (x ∷ rs) r new unique = grind (arith, has_other_key x.key r, true≢false, missed_push (has_key x.key) rs r, unique_push rs r)

module _ (f : Record → Record) (keys : (r : Record) → (f r).key ≡ r.key) where
  pub missed_map : (key : List ℕ) (rs : List Record) → find (has_key key) rs ≡ None → find (has_key key) (map f rs) ≡ None
  missed_map key [] is = refl
  missed_map key (r ∷ rs) is = grind (arith, common_steps, missed_map key rs)

  pub found_map : (key : List ℕ) (rs : List Record) (r : Record) → find (has_key key) rs ≡ Some r → find (has_key key) (map f rs) ≡ Some (f r)
  found_map key [] r is = cc
  found_map key (x ∷ rs) r is = grind (arith, common_steps, found_map key rs r)

  pub unique_map : (rs : List Record) → IsUnique rs → IsUnique (map f rs)
  unique_map [] unique = tt
  unique_map (r ∷ rs) unique = grind (arith, common_steps, missed_map r.key rs unique.0, unique_map rs unique.1)

-- of unique records, a filter keeps the one that was found or leaves none of its key
pub found_before_filter : (key : List ℕ) (q : Record → Bool) (rs : List Record) (r : Record) → IsUnique rs → find (has_key key) (filter q rs) ≡ Some r
    → (find (has_key key) rs ≡ Some r) × (q r ≡ true)
found_before_filter key q [] r unique is = cc
found_before_filter key q (x ∷ rs) r unique is = grind (arith, found_before_filter key q rs r unique.1, key_is key x)
