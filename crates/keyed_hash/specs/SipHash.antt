-- SipHash-1-3 of a key under a secret of two words.
use Rattle.std.specs.Prelude.{◌≡◌, ℕ, ◌+◌, ◌%◌, ◌^◌, ◌<◌, List, length}
use Rattle.std.specs.List.{range_with_len}
use Rattle.std.specs.declared.hash.DefaultHasher.{DefaultHasher}
use Rattle.std.specs.Hash.DefaultHasher.{with_keys, write, finish}
use Rattle.keyed_hash.specs.declared.mixed.Mixed.{Mixed}

-- what the library's hasher ends with, if the secret begins it and the key is written to it
unfoldable pub siphash : ℕ → ℕ → List ℕ → ℕ
siphash k0 k1 key = finish (write (with_keys k0 k1) key)

-- the library's hasher with these four words, what it has of the next word, and how many bytes went in
abbrev pub hasher_of : Mixed → ℕ → ℕ → DefaultHasher
hasher_of mixed tail count = record { v0 = mixed.v0; v1 = mixed.v1; v2 = mixed.v2; v3 = mixed.v3; tail = tail; length = count }

-- behind whole words, these bytes make this of the next word, and fill none
abbrev pub IsTail : List ℕ → ℕ → Type 0
IsTail bytes tail = (mixed : Mixed) (count : ℕ) → count % 8 ≡ 0 → count + length bytes < 2 ^ 64
    → write (hasher_of mixed 0 count) bytes ≡ hasher_of mixed tail (count + length bytes)

-- the secret of the published vectors, 00 01 .. 0f, and their inputs, 00 01 .. of each length
abbrev pub vector : ℕ → ℕ
vector len = siphash 0x0706050403020100 0x0f0e0d0c0b0a0908 (range_with_len 0 len)
