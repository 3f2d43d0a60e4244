use Rattle.std.proofs.Common.{◌≡◌, ◌≤◌, length, sym, subst}
use Rattle.memcached_text.specs.declared.limits.TheConstants.{MAX_TEXT_LEN}
use Rattle.memcached_commands.specs.declared.ask.Ask.TheVariants.{Leased}
use Rattle.memcached_commands.specs.Fit.{IsFitAsk}
use Rattle.memcached_meta.specs.declared.line.Verb.TheVariants.{Get, Store, Delete, Count}
use Rattle.memcached_meta.proofs.AskLaws.{ask_fits}
use Rattle.memcached_meta.proofs.ask.meta_ask.Goals as goal

pub returns-in-Get-clause-fit : goal.returns-in-Get-clause-fit
returns-in-Get-clause-fit c = λ short. subst (λ lease. IsFitAsk (Leased lease)) (sym c.lease_of.ensures) (ask_fits Get c.args.meta.now.flags c.args.meta.now.value short)

pub returns-in-Store-clause-fit : goal.returns-in-Store-clause-fit
returns-in-Store-clause-fit c = λ short.
    let same : c.into.result ≡ c.args.meta.now.value = cc in
    subst IsFitAsk (sym c.store_of.ensures) (ask_fits Store c.args.meta.now.flags c.into.result (subst (λ value. length value ≤ MAX_TEXT_LEN) (sym same) short))

pub returns-in-Delete-clause-fit : goal.returns-in-Delete-clause-fit
returns-in-Delete-clause-fit c = λ short. subst IsFitAsk (sym c.delete_of.ensures) (ask_fits Delete c.args.meta.now.flags c.args.meta.now.value short)

pub returns-in-Count-clause-fit : goal.returns-in-Count-clause-fit
returns-in-Count-clause-fit c = λ short. subst IsFitAsk (sym c.count_of.ensures) (ask_fits Count c.args.meta.now.flags c.args.meta.now.value short)
