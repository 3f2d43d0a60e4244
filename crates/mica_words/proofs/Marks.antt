-- Where marks lie.
use Rattle.std.proofs.Common.{◌≡◌, ℕ, ◌*◌, ◌+◌, ◌-◌, ◌/◌, ◌%◌, ◌^◌, ◌<◌, ◌≤◌, List, true, cond, slice_index, sym, ap, ◌∙◌, arith}
use Rattle.std.proofs.lemmas.Nat.{pow-add}
use Rattle.std.proofs.Math.Nat.{mul_assoc, mul-mod_left, mul-div_cancel, mod-eq_of_lt}
use Rattle.mica_words.specs.declared.hashing.Hashing.{Hashing}
use Rattle.mica_words.specs.declared.hashing.Hashing.TheVariants.{Fnv1a, SipHash}
use Rattle.keyed_hash.specs.SipHash.{siphash}
use Rattle.mica_words.specs.Mark.{has_marks, is_mark, mark_hash}
use Rattle.mica_words.specs.Hash.{MarksLie, hash_of, partition_of, bucket_of, hash_partition, hash_bucket}
use Rattle.mica_words.proofs.Hashes.{partition_of_hash, bucket_of_hash}

pub hash_of_mark : (hashing : Hashing) (key : List ℕ) → has_marks hashing ≡ true → is_mark key ≡ true → hash_of hashing key ≡ mark_hash key
unfolding hash_of
hash_of_mark Fnv1a key has is = cc
hash_of_mark (SipHash k0 k1) key has is = ap (λ b. cond b (mark_hash key) (siphash k0 k1 key)) is

chosen : (b partitions : ℕ) → b < partitions → b * 2 ^ 48 / 2 ^ 48 % partitions ≡ b
chosen b partitions low = ap (λ n. n % partitions) (mul-div_cancel b {n = 2 ^ 48} (omega arith)) ∙ mod-eq_of_lt low

lowest : (b k : ℕ) → k ≤ 48 → b * 2 ^ 48 % 2 ^ k ≡ 0
lowest b k few =
    let parts : 2 ^ 48 ≡ 2 ^ (48 - k) * 2 ^ k = ap (λ n. 2 ^ n) (let whole : 48 ≡ 48 - k + k = omega arith in whole) ∙ pow-add 2 (48 - k) k in
    ap (λ n. b * n % 2 ^ k) parts ∙ ap (λ n. n % 2 ^ k) (sym (mul_assoc b (2 ^ (48 - k)) (2 ^ k))) ∙ mul-mod_left (b * 2 ^ (48 - k)) (2 ^ k)

pub marks_lie : MarksLie
marks_lie hashing key partitions k has is low few =
    let hash = hash_of_mark hashing key has is in (
      partition_of_hash hashing key partitions ∙ ap (λ h. hash_partition h partitions) hash ∙ chosen (slice_index key 0) partitions low,
      bucket_of_hash hashing key (2 ^ k) ∙ ap (λ h. hash_bucket h (2 ^ k)) hash ∙ lowest (slice_index key 0) k few,
    )
