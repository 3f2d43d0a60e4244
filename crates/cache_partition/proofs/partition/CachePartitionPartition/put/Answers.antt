use Rattle.cache_partition.proofs.Words.{FullBlock, Put, Stored, ap, had_record, is_accepted, refl, sym, write_of, ◌∙◌}
use Rattle.cache_partition.proofs.Writes.{gained_step, left_step, may_write, put_refused, put_stored, worn_step}
use Rattle.cache_partition.proofs.partition.CachePartitionPartition.put.Goals as goal

pub returns-then-is_worn-clause-step : goal.returns-then-is_worn-clause-step
returns-then-is_worn-clause-step g c =
    let o = g.W.OwnerWords.owner c.args.self.now.words in
    worn_step o c.args.self.now.idle c.args.self.now.cached (sym c.is_worn.ensures.worn ∙ c.if-is_worn.true) (write_of Put c.args.key.now c.args.value.now)

pub returns-clause-step : goal.returns-clause-step
returns-clause-step g c =
    let owner = g.W.OwnerWords.owner in
    let o = owner c.args.self.now.words in
    let may = may_write o c.args.self.now.idle c.args.self.now.cached (sym c.is_worn.ensures.worn ∙ c.if-is_worn.false) in
    gained_step o (owner c.put-self.new.words) may (write_of Put c.args.key.now c.args.value.now) Stored refl c.put-self.ensures.gains
    (sym (put_stored o (write_of Put c.args.key.now c.args.value.now) (sym c.fits_log.ensures ∙ c.if-not-fits_log.false) (had_record o c.args.key.now)))

pub put-self-requires-clause-taken : goal.put-self-requires-clause-taken
put-self-requires-clause-taken g c =
    let o = g.W.OwnerWords.owner c.args.self.now.words in
    ap is_accepted (put_stored o (write_of Put c.args.key.now c.args.value.now) (sym c.fits_log.ensures ∙ c.if-not-fits_log.false) (had_record o c.args.key.now))

pub returns-then-not-fits_log-clause-step : goal.returns-then-not-fits_log-clause-step
returns-then-not-fits_log-clause-step g c =
    let o = g.W.OwnerWords.owner c.args.self.now.words in
    let may = may_write o c.args.self.now.idle c.args.self.now.cached (sym c.is_worn.ensures.worn ∙ c.if-is_worn.false) in
    left_step o may (write_of Put c.args.key.now c.args.value.now) FullBlock refl
    (sym (put_refused o (write_of Put c.args.key.now c.args.value.now) (sym c.fits_log.ensures ∙ c.if-not-fits_log.true) (had_record o c.args.key.now)))
