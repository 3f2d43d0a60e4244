-- What is answered to a flush of all partitions.
use Rattle.std.specs.Prelude.{◌≡◌, ⊤, ℕ, ◌+◌, suc, true, List, [], ◌∷◌, min}
use Rattle.partition_model.specs.declared.options.Options.{Options}
use Rattle.memcached_text.specs.declared.lifetime.Due.{Due}
use Rattle.memcached_text.specs.declared.lifetime.Due.TheVariants.{Now, After, At}
use Rattle.fronts.specs.declared.flushes.Flush.{Flush}
use Rattle.fronts.specs.Answered.{Answered, wrote, partition_in}
use Rattle.fronts.specs.Flushes.{is_flush, flush_in}

-- the flush that is asked for at a second; one at once is asked for at none
abbrev pub flush_at : ℕ → Due → Flush
flush_at second Now = record { due = 0; asked = 0 }
flush_at second (After seconds) = record { due = min (second + seconds) 18446744073709551615; asked = second }
flush_at second (At due) = record { due = due; asked = second }

-- a write that flushes a partition so, where it is accepted
abbrev pub FlushesOne : Options → Flush → ℕ → Answered → Type 0
FlushesOne options flush partition (wrote step) =
    (is_flush options.hashing options.buckets step.write ≡ true) × (flush_in step.write.key ≡ flush) × (partition_in options (wrote step) ≡ partition)
FlushesOne options flush partition _ = ⊥

-- each partition from this one on, in order, as far as it went
abbrev pub FlushesFrom : Options → Flush → ℕ → List Answered → Type 0
FlushesFrom options flush partition [] = ⊤
FlushesFrom options flush partition (answered ∷ later) =
    FlushesOne options flush partition answered × FlushesFrom options flush (suc partition) later
