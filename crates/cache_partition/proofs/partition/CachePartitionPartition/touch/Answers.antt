use Rattle.cache_partition.proofs.Words.{Absent, Touch, Touched, [], ap, options_in, refl, reply_of, sym, write_of, ◌∙◌}
use Rattle.cache_partition.proofs.Writes.{gained_step, may_write, worn_step}
use Rattle.cache_partition.proofs.partition.CachePartitionPartition.touch.Goals as goal

pub returns-then-is_worn-clause-step : goal.returns-then-is_worn-clause-step
returns-then-is_worn-clause-step g c =
    let o = g.W.OwnerWords.owner c.args.self.now.words in
    worn_step o c.args.self.now.idle c.args.self.now.cached (sym c.is_worn.ensures.worn ∙ c.if-is_worn.true) (write_of Touch c.args.key.now [])

pub returns-then-touched-clause-step : goal.returns-then-touched-clause-step
returns-then-touched-clause-step g c =
    let owner = g.W.OwnerWords.owner in
    let o = owner c.args.self.now.words in
    let may = may_write o c.args.self.now.idle c.args.self.now.cached (sym c.is_worn.ensures.worn ∙ c.if-is_worn.false) in
    gained_step o (owner c.touch-touched.new.words) may (write_of Touch c.args.key.now []) Touched refl c.touch-touched.ensures.gains
    (ap (reply_of Touch (options_in o) (write_of Touch c.args.key.now [])) (sym c.if-touched.true ∙ c.touch-touched.ensures.found))

pub returns-else-touched-clause-step : goal.returns-else-touched-clause-step
returns-else-touched-clause-step g c =
    let owner = g.W.OwnerWords.owner in
    let o = owner c.args.self.now.words in
    let may = may_write o c.args.self.now.idle c.args.self.now.cached (sym c.is_worn.ensures.worn ∙ c.if-is_worn.false) in
    gained_step o (owner c.touch-touched.new.words) may (write_of Touch c.args.key.now []) Absent refl c.touch-touched.ensures.gains
    (ap (reply_of Touch (options_in o) (write_of Touch c.args.key.now [])) (sym c.if-touched.false ∙ c.touch-touched.ensures.found))
