-- The locks of partitions, as contracts see them.
use Rattle.std.specs.Prelude.{◌≡◌, ℕ, List, slice_get, Some}
use Rattle.numbered_lock.specs.Lock.{LockView}

-- each has the number of its place
abbrev pub AreInOrder : List LockView → Type 0
AreInOrder locks = (p : ℕ) (lock : LockView) → slice_get locks p ≡ Some lock → lock.number ≡ p
