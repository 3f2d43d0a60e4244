-- Different words stand at different places.
use Rattle.partition_words.proofs.Vocabulary.{IsBucket, IsMain, Shape, arith, bucket_words, entries_at, epoch_at, item_at, stamp_at, ℕ, ◌+◌, ◌<◌, ◌≡◌, ◌≢◌}

-- the words of buckets: their entries, and the link
pub same_bucket : (shape : Shape) (b c s t : ℕ) → s < bucket_words → t < bucket_words → entries_at shape b + s ≡ entries_at shape c + t → b ≡ c
same_bucket shape b c s t x y e = omega arith

pub no_epoch : (shape : Shape) (b c s : ℕ) → IsMain shape b → s < bucket_words → entries_at shape c + s ≢ epoch_at b
no_epoch shape b c s l x e = omega arith

pub no_stamp : (shape : Shape) (c s : ℕ) → entries_at shape c + s ≢ stamp_at
no_stamp shape c s e = omega arith

pub no_item : (shape : Shape) (c s p : ℕ) → IsBucket shape c → s < bucket_words → entries_at shape c + s ≢ item_at shape p
no_item shape c s p l x e = omega arith

pub item_no_epoch : (shape : Shape) (b p : ℕ) → IsMain shape b → item_at shape p ≢ epoch_at b
item_no_epoch shape b p l e = omega arith
