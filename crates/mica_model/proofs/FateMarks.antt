-- The fates that marking gives, against those of a step.
use Rattle.std.proofs.Common.{◌+◌, ◌≡◌, ℕ, List, [], ◌∷◌, Option, Some, None, Bool, true, false, cond, not, ◌&&◌, refl, sym, ap, ◌∙◌, is_some, ◌≢◌, eqb, arith}
use Rattle.std.specs.List.{find, filter, count_by}
use Rattle.std.specs.Str.{bytes_eq}
use Rattle.std.specs.Prelude.{unwrap_or}
use Rattle.std.proofs.lemmas.Option.{same_Some}
use Rattle.std.proofs.lemmas.Bool.{true≢false, false_from_ne_true}
use Rattle.std.proofs.lemmas.Slice.Eq.{bytes_eq-Decides}
use Rattle.std.proofs.lemmas.Grind.{common_steps}
use Rattle.mica_words.specs.declared.entry.TheConstants.{SLOTS}
use Rattle.mica_words.specs.Hash.{bucket_of}
use Rattle.partition_model.specs.declared.options.Options.{Options}
use Rattle.partition_model.specs.declared.fate.Fate.{Fate}
use Rattle.partition_model.specs.declared.fate.Fate.TheVariants.{Never, Held}
use Rattle.partition_model.specs.Cache.{Record, has_key, is_live}
use Rattle.partition_model.specs.CacheStep.{without_first, is_in_bucket}
use Rattle.partition_model.specs.Records.{IsUnique}
use Rattle.mica_model.specs.CacheFields.{Notes, fate_in, marked, marked_passed, marked_displaced, displaced_record}
use Rattle.partition_model.proofs.Found as found
use Rattle.partition_model.proofs.Laid as laid

abbrev pub has_note : Notes → List ℕ → Bool
has_note notes key = is_some (notes key)

abbrev pub has : List Record → List ℕ → Bool
has rs key = is_some (find (has_key key) rs)

-- one mark

same_bytes : (key k : List ℕ) → bytes_eq key k ≡ true → key ≡ k
same_bytes key k is = (bytes_eq-Decides key k).0 is

module _ (key : List ℕ) (fate : Fate) where
  pub marked_same : (notes : Notes) → has_note notes key ≡ true → fate_in (marked key fate notes) key ≡ fate
  marked_same notes some = grind (arith, common_steps, bytes_eq-Decides key key)

  pub marked_other : (k : List ℕ) → key ≢ k → (notes : Notes) → fate_in (marked key fate notes) k ≡ fate_in notes k
  marked_other k other notes = grind (arith, common_steps, false_from_ne_true (bytes_eq key k), same_bytes key k)

and_not : (b : Bool) → (b && not b) ≡ false
and_not true = refl
and_not false = refl

-- a note is there where the fate is one that only a note gives
pub held_has : (notes : Notes) (key : List ℕ) → fate_in notes key ≡ Held → has_note notes key ≡ true
held_has notes key is = elim (notes key) as (λ o. unwrap_or o Never ≡ Held → is_some o ≡ true) [ None ↦ λ e. cc | Some f ↦ λ e. refl ] is

-- a written key is marked, where it has a note
pub written_fates : (key : List ℕ) (fate : Fate) (notes : Notes) → has_note notes key ≡ true → (k : List ℕ) → fate_in (marked key fate notes) k ≡ cond (bytes_eq key k) fate (fate_in notes k)
written_fates key fate notes some k =
    grind (arith, common_steps, same_bytes key k, marked_same key fate notes some, marked_other key fate k, true≢false, bytes_eq-Decides key k)

-- what the log has passed

module _ (fate : Fate) (words stamp : ℕ) where
  abbrev live : Record → Bool
  live held = is_live words stamp held.offset

  pub passed_has : (rs : List Record) (log : Notes) (k : List ℕ) → has_note (marked_passed fate words stamp rs log) k ≡ has_note log k
  passed_has [] log k = refl
  passed_has (r ∷ rs) log k = grind (arith, common_steps, passed_has rs log k, passed_has rs (marked r.key fate log) k)

  pub passed_fate : (rs : List Record) (log : Notes) (k : List ℕ) → IsUnique rs → (has rs k ≡ true → has_note log k ≡ true)
      → fate_in (marked_passed fate words stamp rs log) k ≡ cond (has rs k && not (has (filter (λ held. is_live words stamp held.offset) rs) k)) fate (fate_in log k)
  passed_fate [] log k unique there = refl
  passed_fate (r ∷ rs) log k unique there =
      elim (has_key k r) as (λ h. has_key k r ≡ h → (is_some (cond h (Some r) (find (has_key k) rs)) ≡ true → has_note log k ≡ true)
      → fate_in (marked_passed fate words stamp (r ∷ rs) log) k ≡ cond (is_some (cond h (Some r) (find (has_key k) rs)) && not (has (filter live (r ∷ rs)) k)) fate (fate_in log k)) [
        | true ↦ λ here some.
            grind (arith, common_steps, laid.key_is k r here, found.missed_filter (has_key k) live rs, passed_fate rs, true≢false, marked_same k fate log (some refl))
        | false ↦ λ here some. grind (arith, common_steps, passed_fate rs log k unique.1 some, passed_fate rs (marked r.key fate log) k unique.1)
      ] refl there

-- what the index has displaced

module _ (here : Record → Bool) where
  all_stay : (rs : List Record) → find here rs ≡ None → without_first here rs ≡ rs
  all_stay [] is = refl
  all_stay (r ∷ rs) is = grind (arith, common_steps, all_stay rs)

  -- the first goes, and its key has no other
  first_goes : (rs : List Record) (first : Record) → IsUnique rs → find here rs ≡ Some first → (find (has_key first.key) (without_first here rs) ≡ None) × (has rs first.key ≡ true)
  first_goes [] first unique is = cc
  first_goes (r ∷ rs) first unique is =
      elim (here r) as (λ b. cond b (Some r) (find here rs) ≡ Some first → (find (has_key first.key) (cond b rs (r ∷ without_first here rs)) ≡ None) × (has (r ∷ rs) first.key ≡ true)) [
        | true ↦ λ e. grind (arith, common_steps, same_Some r first e, laid.has_its_key)
        | false ↦ λ e.
            let rest = first_goes rs first unique.1 e in
            let other : has_key first.key r ≡ false = false_from_ne_true (has_key first.key r) (λ yes.
            let key = laid.key_is first.key r yes in
            let none : has rs first.key ≡ false = ap is_some (ap (λ k. find (has_key k) rs) (sym key) ∙ unique.0) in
            true≢false (sym rest.1 ∙ none)) in
            (ap (λ b. cond b (Some r) (find (has_key first.key) (without_first here rs))) other ∙ rest.0, ap (λ b. is_some (cond b (Some r) (find (has_key first.key) rs))) other ∙ rest.1)
      ] is

  -- and each other key has what it had
  others_stay : (rs : List Record) (first : Record) (k : List ℕ) → find here rs ≡ Some first → first.key ≢ k → find (has_key k) (without_first here rs) ≡ find (has_key k) rs
  others_stay [] first k is other = refl
  others_stay (r ∷ rs) first k is other = grind (arith, common_steps, laid.has_other_key k r, same_Some r first, others_stay rs first k)

  first_fate : (fate : Fate) (rs : List Record) (o : Option Record) → find here rs ≡ o → (log : Notes) (k : List ℕ) → IsUnique rs → (has rs k ≡ true → has_note log k ≡ true)
      → fate_in (marked_displaced fate o log) k ≡ cond (has rs k && not (has (without_first here rs) k)) fate (fate_in log k)
  first_fate fate rs None is log k unique there = grind (arith, common_steps, all_stay rs is, and_not (has rs k))
  first_fate fate rs (Some first) is log k unique there =
      grind (arith, common_steps, same_bytes, first_goes rs first unique is, marked_same k fate log, true≢false, bytes_eq-Decides, marked_other, others_stay rs first k is, and_not (has rs k))

module _ (options : Options) (key : List ℕ) (fate : Fate) (rs : List Record) where
  abbrev in_bucket : Record → Bool
  in_bucket = is_in_bucket options (bucket_of options.hashing key options.buckets)

  pub displaced_fate : (log : Notes) (k : List ℕ) → IsUnique rs → (has rs k ≡ true → has_note log k ≡ true)
      → fate_in (marked_displaced fate (displaced_record options key rs) log) k
      ≡ cond (has rs k && not (has (cond (eqb (count_by (is_in_bucket options (bucket_of options.hashing key options.buckets)) rs) (SLOTS + 1)) (without_first (is_in_bucket options (bucket_of options.hashing key options.buckets)) rs) rs) k)) fate (fate_in log k)
  displaced_fate log k unique there = grind (arith, common_steps, first_fate in_bucket fate rs (find in_bucket rs) refl log k unique there, and_not (has rs k))
