use Rattle.std.proofs.Common.{arith}
use Rattle.std.proofs.lemmas.Grind.{common_steps}
use Rattle.report_check.proofs.Buckets.{first_buckets}
use Rattle.report_check.proofs.cache_buckets.CacheBuckets.new.Goals as goal

pub returns-clause-buckets : goal.returns-clause-buckets
returns-clause-buckets c = grind (arith, common_steps, first_buckets c.args.options.now c.loop.buckets c.requires.valid c.requires.mode)
