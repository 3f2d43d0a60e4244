-- The ranges of a hash and of what it chooses, and a key's choices by its hash.
use Rattle.std.proofs.Common.{◌≡◌, ℕ, ◌^◌, ◌<◌, ◌≤◌, List, refl, arith}
use Rattle.std.proofs.Math.Nat.{mod-lt}
use Rattle.std.proofs.lemmas.Bool.Decides.{nat_tests}
use Rattle.mica_words.specs.declared.hashing.Hashing.{Hashing}
use Rattle.mica_words.specs.Hash.{hash_of, hash_partition, hash_bucket, hash_tag, partition_of, bucket_of, tag_of}

pub hash_partition-below : (hash partitions : ℕ) → 1 ≤ partitions → hash_partition hash partitions < partitions
hash_partition-below hash partitions some = omega arith

pub hash_bucket-below : (hash buckets : ℕ) → 1 ≤ buckets → hash_bucket hash buckets < buckets
hash_bucket-below hash buckets some = mod-lt hash some

-- a tag is 1 to 65,535
pub hash_tag-range : (hash : ℕ) → (1 ≤ hash_tag hash) × (hash_tag hash < 2 ^ 16)
hash_tag-range hash = (grind (arith, nat_tests), grind (arith, nat_tests))

pub partition_of_hash : (hashing : Hashing) (key : List ℕ) (partitions : ℕ) → partition_of hashing key partitions ≡ hash_partition (hash_of hashing key) partitions
unfolding partition_of
partition_of_hash hashing key partitions = refl

pub bucket_of_hash : (hashing : Hashing) (key : List ℕ) (buckets : ℕ) → bucket_of hashing key buckets ≡ hash_bucket (hash_of hashing key) buckets
unfolding bucket_of
bucket_of_hash hashing key buckets = refl

pub tag_of_hash : (hashing : Hashing) (key : List ℕ) → tag_of hashing key ≡ hash_tag (hash_of hashing key)
unfolding tag_of
tag_of_hash hashing key = refl

pub partition_of-below : (hashing : Hashing) (key : List ℕ) (partitions : ℕ) → 1 ≤ partitions → partition_of hashing key partitions < partitions
unfolding partition_of
partition_of-below hashing key partitions some = hash_partition-below (hash_of hashing key) partitions some

pub bucket_of-below : (hashing : Hashing) (key : List ℕ) (buckets : ℕ) → 1 ≤ buckets → bucket_of hashing key buckets < buckets
unfolding bucket_of
bucket_of-below hashing key buckets some = hash_bucket-below (hash_of hashing key) buckets some

pub tag_of-range : (hashing : Hashing) (key : List ℕ) → (1 ≤ tag_of hashing key) × (tag_of hashing key < 2 ^ 16)
unfolding tag_of
tag_of-range hashing key = hash_tag-range (hash_of hashing key)
