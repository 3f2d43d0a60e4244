-- What is stored of an item is read as it, with its marks.
use Rattle.std.proofs.Common.{◌≡◌, ◌<◌, ◌+◌, ◌%◌, ◌^◌, ℕ, Bool, true, false, cond, List, [], ◌++◌, length, drop, nat_lt, nat_le, refl, arith}
use Rattle.std.specs.Int.{w32, w64, to_le_bytes, from_le_bytes}
use Rattle.std.proofs.lemmas.Bool.{le-ltb, le-leb, lt-leb}
use Rattle.std.proofs.lemmas.List.{append-nil}
use Rattle.std.proofs.lemmas.Nat.{from_le_bytes-to_le_bytes_4, from_le_bytes-to_le_bytes_8}
use Rattle.memcached_text.specs.declared.limits.TheConstants.{HEADER_LEN}
use Rattle.memcached_text.specs.declared.item.Item.{Item}
use Rattle.memcached_text.specs.Item.{marked, item_text, item_in, IsOneItem}

-- a word of 64 bits with the number and the marks of an item
pub record Reads (word unique : ℕ) (stale won : Bool) : Type 0 where
  pub fits : word < 2 ^ 64
  pub number_is : word % 2 ^ 62 ≡ unique
  pub stale_is : nat_le (2 ^ 62) (word % 2 ^ 63) ≡ stale
  pub won_is : nat_le (2 ^ 63) word ≡ won

pub reads : (unique : ℕ) (stale won : Bool) → unique < 2 ^ 62 → Reads (unique % 2 ^ 62 + cond stale (2 ^ 62) 0 + cond won (2 ^ 63) 0) unique stale won
reads unique false false small = record { fits = omega arith; number_is = omega arith; stale_is = lt-leb _ _ (omega arith); won_is = lt-leb _ _ (omega arith) }
reads unique true false small = record { fits = omega arith; number_is = omega arith; stale_is = le-leb _ _ (omega arith); won_is = lt-leb _ _ (omega arith) }
reads unique false true small = record { fits = omega arith; number_is = omega arith; stale_is = lt-leb _ _ (omega arith); won_is = le-leb _ _ (omega arith) }
reads unique true true small = record { fits = omega arith; number_is = omega arith; stale_is = le-leb _ _ (omega arith); won_is = le-leb _ _ (omega arith) }

pub one_item : IsOneItem
unfolding item_text item_in
one_item item is =
    let all = reads item.unique item.stale item.won is.unique in
    let flags : from_le_bytes w32 (item_text item) ≡ item.flags = from_le_bytes-to_le_bytes_4 item.flags is.flags in
    let expires : from_le_bytes w32 (drop 4 (item_text item)) ≡ item.expires = from_le_bytes-to_le_bytes_4 item.expires is.expires in
    let word : from_le_bytes w64 (drop 8 (item_text item)) ≡ marked item = from_le_bytes-to_le_bytes_8 (marked item) all.fits in
    let long : nat_lt (length (item_text item)) HEADER_LEN ≡ false = le-ltb _ _ (omega arith) in
    rw (long, flags, expires, word, all.number_is, all.stale_is, all.won_is) refl

-- the parts of what is stored, one behind another
pub item_parts : (item : Item) (f e u v : List ℕ) → f ≡ to_le_bytes w32 item.flags → e ≡ to_le_bytes w32 item.expires → u ≡ to_le_bytes w64 (marked item) → v ≡ item.value → f ++ (e ++ (u ++ (v ++ []))) ≡ item_text item
unfolding item_text
item_parts item f e u v f_is e_is u_is v_is = rw (f_is, e_is, u_is, v_is, append-nil item.value) refl
