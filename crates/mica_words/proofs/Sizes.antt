-- How many words bytes and items take.
use Rattle.std.proofs.Common.{ℕ, ◌+◌, ◌≤◌, List, arith}
use Rattle.mica_words.specs.declared.item.TheConstants.{MAX_KEY_LEN, MAX_STORED_LEN}
use Rattle.mica_words.specs.Item.{KeyFits, ValueFits, StoredFits, words_for, item_size}

-- the largest has the longest key and the longest value
pub item_size-most : (key value : List ℕ) → KeyFits key → StoredFits value → item_size key value ≤ 2 + words_for MAX_KEY_LEN + words_for MAX_STORED_LEN
item_size-most key value fits few = omega arith

-- what a trace, a datagram or an image may have as a value is one that is stored
pub short_stored : (value : List ℕ) → ValueFits value → StoredFits value
short_stored value short = omega arith
