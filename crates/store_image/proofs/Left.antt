-- What partitions answer to the keys that a trace puts, once they have answered its lines.
use Rattle.std.proofs.Common.{rules}
use Rattle.std.proofs.lemmas.Grind.{common_steps}
use Rattle.std.proofs.Common.{◌≡◌, ℕ, zero, suc, ◌+◌, ◌<◌, ◌≤◌, ◌^◌, List, [], ◌∷◌, length, map, drop, get_or, Option, Some, None, refl, sym, ap, ◌∙◌, arith, add-one, slice_get}
use Rattle.std.specs.Prelude.{option_map, option_and_then}
use Rattle.std.specs.List.{AllByRecursion, cons_option, filter_map}
use Rattle.std.specs.List.Sorted.{IsStrictlySortedBy}
use Rattle.std.specs.Ordering.{nat_cmp}
use Rattle.std.specs.Cmp.Lexicographic.{slice_cmp}
use Rattle.std.proofs.Math.Seq.{drop-cons}
use Rattle.std.proofs.lemmas.Option.{slice_get-map, slice_get-get_or}
use Rattle.mica_words.specs.declared.hashing.Hashing.{Hashing}
use Rattle.mica_words.specs.Hash.{hash_of, hash_partition, partition_of}
use Rattle.mica_words.proofs.Hashes.{partition_of_hash, partition_of-below}
use Rattle.partition_model.specs.declared.options.Options.{Options}
use Rattle.partition_model.specs.declared.options.Mode.TheVariants.{Store}
use Rattle.partition_model.specs.Options.{IsValid}
use Rattle.partition_model.specs.History.{answer_of, stamp_of, value_in as value_by, State}
use Rattle.mica_trace.specs.declared.line.TraceLine.{TraceLine}
use Rattle.mica_trace.specs.declared.report.Line.{Line}
use Rattle.mica_trace.specs.declared.report.Line.TheVariants.{Hit}
use Rattle.mica_trace.specs.TraceGrammar.{IsKey, IsValue, IsTraceLine}
use Rattle.mica_trace.specs.RoundReport.{history_in}
use Rattle.mica_trace.proofs.Standing.{answer_stands, stored}
use Rattle.partition_words.specs.declared.state.OwnerState.{OwnerState}
use Rattle.partition_words.specs.Shape.{shape_of, options_of}
use Rattle.partition_words.proofs.SameMachine.{same_state}
use Rattle.line_replies.specs.Answered.{AreAnswered}
use Rattle.store_image.specs.ImageGrammar.{IsPair, IsImage}
use Rattle.store_image.specs.PutKeys.{put_keys, has_key, pair_by, pairs_by}
use Rattle.store_image.specs.Answers.{answer_in, value_at}
use Rattle.store_image.specs.ImageOf.{value_after, HasPairsOf}
use Rattle.store_image.proofs.ImagePairs.{exactly, rising, each_pair}
use Rattle.store_image.proofs.PutOnly.{none_left, none_written, not_put}

-- the answer of a key's partition
answered_at : {P : Type 0} (owner : P → OwnerState) (parts : List P) (at : ℕ) (part : P) (hashing : Hashing) (partitions : ℕ) (key : List ℕ) → at ≡ partition_of hashing key partitions → at < length parts → part ≡ get_or parts at part
    → value_at (map owner parts) hashing partitions key ≡ answer_in key (owner part)
answered_at owner parts at part hashing partitions key number less is =
    search (rules, option_and_then, number, slice_get-map, option_map, slice_get-get_or, answer_in, is, slice_get, map, owner)

module _ {P : Type 0} (owner : P → OwnerState) (initial parts : List P) (hashing : Hashing) (partitions at hash : ℕ) (key : List ℕ) (some : 0 < partitions) (many : length initial ≡ partitions) (same : map owner parts ≡ map owner initial)
    (hashed : hash ≡ hash_of hashing key) (chosen : at ≡ hash_partition hash partitions) where
  number : at ≡ partition_of hashing key partitions
  number = chosen ∙ ap (λ h. hash_partition h partitions) hashed ∙ sym (partition_of_hash hashing key partitions)

  pub part_there : at < length parts
  part_there = grind (arith, common_steps)

  -- the answer of the partition that a key chooses
  pub part_answers : (part : P) → part ≡ get_or parts at part → value_at (map owner initial) hashing partitions key ≡ answer_in key (owner part)
  part_answers part is = ap (λ os. value_at os hashing partitions key) (sym same) ∙ answered_at owner parts at part hashing partitions key number part_there is

no_none : {X : Type 0} (xs : List X) (n : ℕ) → n < length xs → slice_get xs n ≡ None → ⊥
no_none [] n less is = absurd (omega arith)
no_none (x ∷ xs) zero less is = cc
no_none (x ∷ xs) (suc n) less is = no_none xs n (omega arith) is

-- the pairs of what is left of keys
pub pairs_left : {X : Type 0} (value_of : List ℕ → Option (List ℕ)) (text : X → List ℕ) (xs : List X) (i : ℕ) (d : X) → i < length xs
    → pairs_by value_of (map text (drop i xs)) ≡ cons_option (pair_by value_of (text (get_or xs i d))) (pairs_by value_of (map text (drop (i + 1) xs)))
pairs_left value_of text xs i d less = rw (add-one, drop-cons xs i d) refl

few_pairs : {X Y : Type 0} (h : X → Option Y) (xs : List X) → length (filter_map h xs) ≤ length xs
few_pairs h [] = omega arith
few_pairs h (x ∷ xs) = grind (arith, h x, few_pairs h xs)

module _ (options : Options) (valid : IsValid options) (lines : List TraceLine) (report : List Line) (owners : List OwnerState) (answered : AreAnswered options lines report owners) where
  -- what a partition answers to a key is what its machine has after the trace
  pub answers_after : (key : List ℕ) → value_at owners options.hashing options.partitions key ≡ value_after options lines report key
  answers_after key =
      let p = partition_of options.hashing key options.partitions in
      let low = partition_of-below options.hashing key options.partitions valid.partitions.0 in
      let many = answered.many in
      let less : p < length owners = omega arith in
      by (slice_get owners p) refl less
    where
      by : (found : Option OwnerState) → slice_get owners (partition_of options.hashing key options.partitions) ≡ found → partition_of options.hashing key options.partitions < length owners
          → option_and_then (answer_in key) (slice_get owners (partition_of options.hashing key options.partitions)) ≡ value_after options lines report key
      by None is less = absurd (no_none owners (partition_of options.hashing key options.partitions) less is)
      by (Some owner) is less =
          let own = answered.each (partition_of options.hashing key options.partitions) owner is in
          ap (option_and_then (answer_in key)) is
          ∙ ap (λ s. answer_of (options_of s) owner.history key) own.shape
          ∙ ap (λ h. answer_of (options_of (shape_of options)) h key) own.history
          ∙ ap (λ (s : State). value_by s key) (same_state options (history_in options (partition_of options.hashing key options.partitions) lines report))

  module _ (all : AllByRecursion IsTraceLine lines) where
    -- a value that is answered is one of a trace
    pub value_stands : (key value : List ℕ) → value_at owners options.hashing options.partitions key ≡ Some value → IsValue value
    value_stands key value is =
        let p = partition_of options.hashing key options.partitions in
        let history = history_in options p lines report in
        answer_stands options history key (Hit (stamp_of options history) value) (stored options p lines report all) (refl, sym is ∙ answers_after key)

    pairs_each : (keys : List (List ℕ)) → AllByRecursion IsKey keys → AllByRecursion (λ k. (v : List ℕ) → value_at owners options.hashing options.partitions k ≡ Some v → IsPair (record { key = k; value = v })) keys
    pairs_each [] are = tt
    pairs_each (k ∷ keys) are = ((λ v is. (are.0, value_stands k v is)), pairs_each keys are.1)

    pub left_image : (keys : List (List ℕ)) → AllByRecursion IsKey keys → IsStrictlySortedBy (slice_cmp nat_cmp) keys → length keys < 2 ^ 32 → IsImage (pairs_by (value_at owners options.hashing options.partitions) keys)
    left_image keys are rise few = search (rules, each_pair, rising, few_pairs, value_at, pairs_each, pair_by)

  pub left_pairs : options.mode ≡ Store → (keys : List (List ℕ)) → ((key : List ℕ) → has_key keys key ≡ has_key (put_keys lines) key)
      → HasPairsOf options lines report (pairs_by (value_at owners options.hashing options.partitions) keys)
  left_pairs mode keys same = λ key.
      exactly (value_at owners options.hashing options.partitions) keys
      (λ k lacks.
      let p = partition_of options.hashing k options.partitions in
      answers_after k ∙ none_left options k mode (history_in options p lines report) (none_written options k p lines report (not_put options k lines (sym (same k) ∙ lacks))))
      key
      ∙ answers_after key
