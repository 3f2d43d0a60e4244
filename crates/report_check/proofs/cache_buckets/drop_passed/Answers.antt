use Rattle.std.proofs.Common.{arith}
use Rattle.std.proofs.lemmas.Grind.{common_steps}
use Rattle.mica_model.proofs.Passed.{passed_dropped}
use Rattle.report_check.proofs.Buckets.{front_within}
use Rattle.report_check.proofs.cache_buckets.drop_passed.Goals as goal

pub drop_first-requires : goal.drop_first-requires
drop_first-requires c = grind (arith, common_steps, front_within c.args.options.now.words c.args.bucket.now.stamp c.args.bucket.now.records)

pub returns : goal.returns
returns c = grind (arith, common_steps, passed_dropped c.args.options.now.words c.args.bucket.now.stamp c.args.bucket.now.records c.requires)
