use Rattle.std.proofs.Common.{◌≡◌, true≢false, ap}
use Rattle.std.specs.Prelude.{is_some}
use Rattle.partition_model.specs.declared.options.Mode.TheVariants.{Cache, Store}
use Rattle.memcached_commands.specs.Decide.{decide}
use Rattle.memcached_commands.specs.Moments.{end_of}
use Rattle.memcached_page.proofs.examples.store_keeps.Goals as goal

no_cache : Store ≡ Cache → ⊥
no_cache same = absurd (cc)

pub returns-clause-there : goal.returns-clause-there
unfolding decide end_of
returns-clause-there c = λ mode left course. true≢false (ap is_some course.1.0)

pub returns-clause-none : goal.returns-clause-none
returns-clause-none c = λ left course. no_cache course.1.0
