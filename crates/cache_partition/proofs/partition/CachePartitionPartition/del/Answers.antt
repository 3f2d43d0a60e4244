use Rattle.cache_partition.proofs.Words.{Absent, Del, Deleted, [], ap, options_in, refl, reply_of, sym, write_of, ◌∙◌}
use Rattle.cache_partition.proofs.Writes.{gained_step, may_write, worn_step}
use Rattle.cache_partition.proofs.partition.CachePartitionPartition.del.Goals as goal

pub returns-then-is_worn-clause-step : goal.returns-then-is_worn-clause-step
returns-then-is_worn-clause-step g c =
    let o = g.W.OwnerWords.owner c.args.self.now.words in
    worn_step o c.args.self.now.idle c.args.self.now.cached (sym c.is_worn.ensures.worn ∙ c.if-is_worn.true) (write_of Del c.args.key.now [])

pub returns-then-removed-clause-step : goal.returns-then-removed-clause-step
returns-then-removed-clause-step g c =
    let owner = g.W.OwnerWords.owner in
    let o = owner c.args.self.now.words in
    let may = may_write o c.args.self.now.idle c.args.self.now.cached (sym c.is_worn.ensures.worn ∙ c.if-is_worn.false) in
    gained_step o (owner c.remove-removed.new.words) may (write_of Del c.args.key.now []) Deleted refl c.remove-removed.ensures.gains
    (ap (reply_of Del (options_in o) (write_of Del c.args.key.now [])) (sym c.if-removed.true ∙ c.remove-removed.ensures.found))

pub returns-else-removed-clause-step : goal.returns-else-removed-clause-step
returns-else-removed-clause-step g c =
    let owner = g.W.OwnerWords.owner in
    let o = owner c.args.self.now.words in
    let may = may_write o c.args.self.now.idle c.args.self.now.cached (sym c.is_worn.ensures.worn ∙ c.if-is_worn.false) in
    gained_step o (owner c.remove-removed.new.words) may (write_of Del c.args.key.now []) Absent refl c.remove-removed.ensures.gains
    (ap (reply_of Del (options_in o) (write_of Del c.args.key.now [])) (sym c.if-removed.false ∙ c.remove-removed.ensures.found))
