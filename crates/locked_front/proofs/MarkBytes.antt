-- Marks of flushes.
use Rattle.std.proofs.Common.{◌≡◌, ◌<◌, ◌^◌, ℕ, true, false, List, [], ◌∷◌, ◌++◌, length, drop, nat_lt, slice_index, refl, sym, ap, subst, ◌∙◌, arith}
use Rattle.std.specs.Int.{w64, to_le_bytes, from_le_bytes}
use Rattle.std.proofs.lemmas.Bool.{le-ltb}
use Rattle.std.proofs.lemmas.Nat.{from_le_bytes-to_le_bytes_8}
use Rattle.mica_words.specs.Hash.{partition_of, bucket_of}
use Rattle.mica_words.specs.Mark.{has_marks, is_mark}
use Rattle.mica_words.proofs.Marks.{marks_lie}
use Rattle.partition_model.specs.declared.options.Options.{Options}
use Rattle.partition_model.specs.Options.{IsPossible}
use Rattle.fronts.specs.declared.flushes.TheConstants.{FLUSH_LEN}
use Rattle.fronts.specs.Flushes.{flush_in}

-- what a mark says
mark_says : (partition due asked : ℕ) (rest : List ℕ) → due < 2 ^ 64 → asked < 2 ^ 64
    → flush_in (partition ∷ to_le_bytes w64 due ++ to_le_bytes w64 asked ++ rest) ≡ record { due = due; asked = asked }
unfolding flush_in
mark_says partition due asked rest due_low asked_low =
    let key : List ℕ = partition ∷ to_le_bytes w64 due ++ to_le_bytes w64 asked ++ rest in
    let at : from_le_bytes w64 (drop 1 key) ≡ due = from_le_bytes-to_le_bytes_8 due due_low in
    let from : from_le_bytes w64 (drop 9 key) ≡ asked = from_le_bytes-to_le_bytes_8 asked asked_low in
    let long : nat_lt (length key) FLUSH_LEN ≡ false = le-ltb _ _ (omega arith) in
    rw (long, at, from) refl

-- of one that is made piece by piece
module _ (none first with_due with_both key rest : List ℕ) (partition due asked : ℕ) (none_is : none ≡ []) (first_is : first ≡ none ++ partition ∷ [])
    (due_is : with_due ≡ first ++ to_le_bytes w64 due) (both_is : with_both ≡ with_due ++ to_le_bytes w64 asked) (key_is : key ≡ with_both ++ rest) where
  pub made : key ≡ partition ∷ to_le_bytes w64 due ++ to_le_bytes w64 asked ++ rest
  made = key_is ∙ ap (λ b. b ++ rest) (both_is ∙ ap (λ d. d ++ to_le_bytes w64 asked) (due_is ∙ ap (λ f. f ++ to_le_bytes w64 due) (first_is ∙ ap (λ n. n ++ partition ∷ []) none_is)))

  pub made_says : due < 2 ^ 64 → asked < 2 ^ 64 → flush_in key ≡ record { due = due; asked = asked }
  made_says due_low asked_low = ap flush_in made ∙ mark_says partition due asked rest due_low asked_low

-- where one lies
pub lies_there : (options : Options) → IsPossible options → (key : List ℕ) (partition : ℕ) → has_marks options.hashing ≡ true → is_mark key ≡ true → slice_index key 0 ≡ partition
    → partition < options.partitions → (partition_of options.hashing key options.partitions ≡ partition) × (bucket_of options.hashing key options.buckets ≡ 0)
lies_there options valid key partition has is first low =
    let few = valid.buckets.1 in
    let lie = marks_lie options.hashing key options.partitions valid.buckets.0 has is (subst (λ (n : ℕ). n < options.partitions) (sym first) low) (omega arith) in
    (lie.0 ∙ first, ap (bucket_of options.hashing key) valid.buckets.2 ∙ lie.1)
