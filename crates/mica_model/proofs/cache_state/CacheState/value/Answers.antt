use Rattle.std.proofs.Common.{◌≡◌, ap, sym, ◌∙◌, Some, None, position}
use Rattle.partition_model.specs.Cache.{Cache, has_key, value_in}
use Rattle.mica_model.proofs.CacheSteps.{value_at, no_value}
use Rattle.mica_model.proofs.cache_state.CacheState.value.Goals as goal

pub returns-in-Some : goal.returns-in-Some
returns-in-Some c =
    let a = c.self.inside in
    let s : Cache = record { records = a.records.items; stamp = a.stamp; accepted = a.accepted } in
    let place : position (has_key c.args.key.now) a.records.items ≡ Some c.in-Some.at = sym (rw c.deref.ensures.value at c.find_record.ensures) ∙ c.in-Some.is in
    ap Some c.value.ensures ∙ value_at s c.args.key.now c.in-Some.at place c.index-record.result.now c.index-record.ensures
    ∙ ap (λ (t : Cache). value_in t c.args.key.now) c.self.view_is

pub returns-in-None : goal.returns-in-None
returns-in-None c =
    let a = c.self.inside in
    let s : Cache = record { records = a.records.items; stamp = a.stamp; accepted = a.accepted } in
    let none : position (has_key c.args.key.now) a.records.items ≡ None = sym (rw c.deref.ensures.value at c.find_record.ensures) ∙ c.in-None.is in
    no_value s c.args.key.now none ∙ ap (λ (t : Cache). value_in t c.args.key.now) c.self.view_is
