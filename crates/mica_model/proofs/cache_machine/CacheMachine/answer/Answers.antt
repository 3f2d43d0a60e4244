use Rattle.std.proofs.Common.{◌≡◌, ap, sym, ◌∙◌, Some, None, refl}
use Rattle.partition_model.specs.Cache.{value_in}
use Rattle.partition_model.specs.Fate.{fate_of}
use Rattle.partition_model.specs.History.{value_in as value_of}
use Rattle.mica_model.specs.Logged.{Logged}
use Rattle.partition_model.proofs.CacheLaws.{kept_in, value_kept}
use Rattle.partition_model.proofs.FateLaws.{hit_is_held, miss_is_not_held}
use Rattle.mica_model.proofs.cache_machine.CacheMachine.answer.Goals as goal

pub set-requires : goal.set-requires
set-requires c =
    let a = c.self.inside in
    let i = c.self.invariant in
    let is : value_in a.state c.args.key.now ≡ Some c.in-Some.value.now = sym c.in-Some.ensures in
    value_kept a.options a.state (kept_in a.options a.log.items i.writes a.state i.state) c.args.key.now c.in-Some.value.now is

pub returns-in-Some-clause-fate : goal.returns-in-Some-clause-fate
returns-in-Some-clause-fate c =
    let a = c.self.inside in
    let i = c.self.invariant in
    let is : value_in a.state c.args.key.now ≡ Some c.in-Some.value.now = sym c.in-Some.ensures in
    let held = hit_is_held a.options i.mode a.log.items c.args.key.now c.in-Some.value.now (ap (λ s. value_of s c.args.key.now) i.state ∙ is) in
    (λ hit. sym (ap (λ (m : Logged). fate_of m.options m.history c.args.key.now) c.self.view_is) ∙ held, λ yes. refl)

pub returns-in-None-clause-fate : goal.returns-in-None-clause-fate
returns-in-None-clause-fate c =
    let a = c.self.inside in
    let i = c.self.invariant in
    let is : value_in a.state c.args.key.now ≡ None = sym c.in-None.ensures in
    let not_held = miss_is_not_held a.options i.mode a.log.items c.args.key.now (ap (λ s. value_of s c.args.key.now) i.state ∙ is) in
    (λ hit. cc, λ held. absurd (not_held (ap (λ (m : Logged). fate_of m.options m.history c.args.key.now) c.self.view_is ∙ held)))
