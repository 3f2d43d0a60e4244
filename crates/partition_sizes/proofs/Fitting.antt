-- The sizes for some memory are possible, and fit it.
use Rattle.std.proofs.Common.{◌≡◌, ℕ, ◌+◌, ◌-◌, ◌*◌, ◌/◌, ◌≤◌, min, true, false, nat_le, if◌then◌else◌, refl, arith}
use Rattle.std.specs.Int.{div_ceil}
use Rattle.std.proofs.Math.Pow.{pow_mono}
use Rattle.std.proofs.Math.Nat.{mul-le-mul_left, mul-div-le, div-le_of_le-mul}
use Rattle.std.proofs.lemmas.Nat.{le-div}
use Rattle.std.proofs.lemmas.Bool.{leb-true, leb-false}
use Rattle.partition_model.specs.declared.options.Mode.{Mode}
use Rattle.partition_model.specs.declared.options.Mode.TheVariants.{Cache, Store}
use Rattle.partition_model.specs.declared.options.Options.{Options}
use Rattle.partition_model.specs.declared.options.TheConstants.{MOST_WORDS}
use Rattle.partition_model.specs.Options.{InRange, IsPossible, IsPowerUpTo}
use Rattle.partition_model.specs.declared.log_end.TheConstants.{LARGEST_STORED_ITEM}
use Rattle.partition_words.specs.Shape.{shape_of}
use Rattle.partition_sizes.specs.declared.sizes.TheConstants.{LEAST_MEMORY, MOST_MEMORY, FEW_PARTITIONS_MEMORY, PARTITION_MEMORY, PROGRAM_BYTES, ITEM_WORDS}
use Rattle.partition_sizes.specs.Bytes.{partition_bytes, bytes_of}
use Rattle.partition_sizes.specs.Sizes.{with_sizes, partitions_for, share_of, items_for, buckets_for, spares_for, without_words, words_for, sizes_for}
use Rattle.partition_sizes.proofs.Doubling.{power_of_doubles, least_of_doubles, enough_doubles}

pub buckets_power : (items : ℕ) → IsPowerUpTo 24 (buckets_for items)
buckets_power items = power_of_doubles 24 0 (div_ceil items 10)

pub buckets_few : (items : ℕ) → 5 * buckets_for items ≤ items + 14
buckets_few items = let least = least_of_doubles 24 1 (div_ceil items 10) in omega arith

-- of a partition with so many buckets and spares: there is room for words, and with them it has no more bytes than it may
pub record HasRoom (mode : Mode) (bytes buckets : ℕ) : Type 0 where
  pub empty : partition_bytes (without_words mode buckets (spares_for mode buckets)) ≤ bytes
  pub spares : spares_for mode buckets ≤ buckets
  pub words : InRange 256 MOST_WORDS (words_for mode bytes buckets (spares_for mode buckets))
  pub items : ITEM_WORDS * items_for mode bytes ≤ words_for mode bytes buckets (spares_for mode buckets)
  pub longest : 12 * LARGEST_STORED_ITEM ≤ words_for mode bytes buckets (spares_for mode buckets)
  pub within : (options : Options) → options.mode ≡ mode → options.buckets ≡ buckets → options.spares ≡ spares_for mode buckets
      → options.words ≡ words_for mode bytes buckets (spares_for mode buckets) → partition_bytes (shape_of options) ≤ bytes

room : (mode : Mode) (bytes buckets : ℕ) → InRange 25165824 8589934592 bytes → 5 * buckets ≤ items_for mode bytes + 14 → HasRoom mode bytes buckets
room Cache bytes buckets some few = record {
  empty = omega arith;
  spares = omega arith;
  words = (omega arith, omega arith);
  items = omega arith;
  longest = omega arith;
  within = λ options m b s w. rw (m, b, w) (omega (arith, s));
}
room Store bytes buckets some few = record {
  empty = omega arith;
  spares = omega arith;
  words = (omega arith, omega arith);
  items = omega arith;
  longest = omega arith;
  within = λ options m b s w. rw (m, b, s, w) (omega arith);
}

pub has_room : (mode : Mode) (bytes : ℕ) → InRange 25165824 8589934592 bytes → HasRoom mode bytes (buckets_for (items_for mode bytes))
has_room mode bytes some = room mode bytes _ some (buckets_few (items_for mode bytes))

-- how the memory is shared out
pub record IsShare (memory partitions share : ℕ) : Type 0 where
  pub count : InRange 1 64 partitions
  pub range : InRange 25165824 8589934592 share
  pub within : partitions * share + PROGRAM_BYTES ≤ memory

-- by two partitions or more, each with a part of 32 MiB or more of the memory, and of 8 GiB or less
shared : (memory partitions : ℕ) → LEAST_MEMORY ≤ memory → InRange 2 64 partitions → partitions * PARTITION_MEMORY ≤ memory → memory ≤ partitions * 8589934592
    → IsShare memory partitions ((memory - PROGRAM_BYTES) / partitions)
shared memory partitions least some large small =
    let each = mul-div-le (memory - PROGRAM_BYTES) partitions in record {
      count = (omega (arith, some.0), some.1);
      range = (le-div 25165824 (memory - PROGRAM_BYTES) partitions (omega (arith, some.0)) (omega (arith, some.0)), div-le_of_le-mul partitions (omega arith));
      within = omega arith;
    }

pub is_share : (memory : ℕ) → InRange LEAST_MEMORY MOST_MEMORY memory → IsShare memory (partitions_for memory) (share_of memory)
is_share memory between =
    elim (nat_le memory FEW_PARTITIONS_MEMORY) as (λ b. nat_le memory FEW_PARTITIONS_MEMORY ≡ b
    → let partitions = if b then min (memory / PARTITION_MEMORY) 16 else 64 in IsShare memory partitions ((memory - PROGRAM_BYTES) / partitions)) [
      | true ↦ λ is. let few = leb-true memory FEW_PARTITIONS_MEMORY is in shared memory _ between.0 (omega arith, omega arith) (omega arith) (omega arith)
      | false ↦ λ is. let many = leb-false memory FEW_PARTITIONS_MEMORY is in shared memory 64 between.0 (omega arith, omega arith) (omega arith) (omega arith)
    ] refl

pub possible : (options : Options) (memory : ℕ) → InRange LEAST_MEMORY MOST_MEMORY memory → IsPossible options → IsPossible (with_sizes (sizes_for options.mode memory) options)
possible options memory between is =
    let share = is_share memory between in
    let room = has_room options.mode (share_of memory) share.range in
    let power = buckets_power (items_for options.mode (share_of memory)) in
    let most = pow_mono {i = power.0} {j = 24} power.1 in
    record {
      partitions = share.count;
      buckets = power;
      spares = (omega arith, omega (arith, room.spares, power.2));
      words = room.words;
      readers = is.readers;
      tries = is.tries;
      wear = is.wear;
    }

pub within : (options : Options) (memory : ℕ) → InRange LEAST_MEMORY MOST_MEMORY memory → bytes_of (with_sizes (sizes_for options.mode memory) options) + PROGRAM_BYTES ≤ memory
within options memory between =
    let share = is_share memory between in
    let room = has_room options.mode (share_of memory) share.range in
    let each = room.within (with_sizes (sizes_for options.mode memory) options) refl refl refl refl in
    let all = mul-le-mul_left (partitions_for memory) each in
    omega (arith, all, share.within)

pub words_enough : (mode : Mode) (memory : ℕ) → InRange LEAST_MEMORY MOST_MEMORY memory → ITEM_WORDS * items_for mode (share_of memory) ≤ (sizes_for mode memory).words
words_enough mode memory between = (has_room mode (share_of memory) (is_share memory between).range).items

pub longest_enough : (mode : Mode) (memory : ℕ) → InRange LEAST_MEMORY MOST_MEMORY memory → 12 * LARGEST_STORED_ITEM ≤ (sizes_for mode memory).words
longest_enough mode memory between = (has_room mode (share_of memory) (is_share memory between).range).longest

few_items : (mode : Mode) (bytes : ℕ) → bytes ≤ 8589934592 → items_for mode bytes ≤ 167772160
few_items Cache bytes few = omega arith
few_items Store bytes few = omega arith

pub buckets_enough : (mode : Mode) (memory : ℕ) → InRange LEAST_MEMORY MOST_MEMORY memory → items_for mode (share_of memory) ≤ 10 * (sizes_for mode memory).buckets
buckets_enough mode memory between =
    let items = items_for mode (share_of memory) in
    let few = few_items mode (share_of memory) (is_share memory between).range.1 in
    let enough = enough_doubles 24 1 (div_ceil items 10) (omega arith) in
    omega arith
