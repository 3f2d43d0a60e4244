use Rattle.std.proofs.Common.{◌≤◌, Option, length, subst, option_copied}
use Rattle.std.specs.Option.{IfSome}
use Rattle.memcached_text.specs.declared.limits.TheConstants.{MAX_TEXT_LEN}
use Rattle.memcached_text.specs.declared.item.Item.{Item}
use Rattle.memcached_commands.proofs.DecideLaws.{found_fits}
use Rattle.memcached_commands.proofs.change.change_stored.Goals as goal

pub change_found-requires-clause-found : goal.change_found-requires-clause-found
change_found-requires-clause-found c =
    subst (λ (found : Option Item). IfSome found (λ item. length item.value ≤ MAX_TEXT_LEN)) (cc)
    (found_fits c.args.at.now (option_copied c.args.stored) c.requires.stored)
