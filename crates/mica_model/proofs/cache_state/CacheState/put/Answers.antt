use Rattle.std.proofs.Common.{◌≡◌, ◌+◌, ap, sym, ◌∙◌, subst, Some, None, slice_set}
use Rattle.partition_model.specs.declared.write.Op.TheVariants.{Put}
use Rattle.partition_model.specs.Cache.{Record, Cache}
use Rattle.partition_model.specs.Records.{IsUnique}
use Rattle.mica_model.specs.CacheFields.{kept_place}
use Rattle.partition_model.specs.CacheStep.{after_put, kept_record}
use Rattle.partition_model.specs.Write.{write_of}
use Rattle.mica_model.proofs.CacheSteps.{appends, rewritten_is}
use Rattle.mica_model.proofs.cache_state.CacheState.put.Goals as goal

pub returns-in_default-clause-ok : goal.returns-in_default-clause-ok
returns-in_default-clause-ok c =
    let write = write_of Put c.args.key.now c.args.value.now in
    let none : kept_place c.args.options.now c.args.self.now write ≡ None = sym c.kept_at.ensures ∙ c.in_default.is in
    rw (← (appends c.args.options.now c.args.self.now write none)) c.append.ensures.ok

pub returns-clause-ok : goal.returns-clause-ok
returns-clause-ok c =
    let a = c.self.inside in
    let s : Cache = record { records = a.records.items; stamp = a.stamp; accepted = a.accepted } in
    let write = write_of Put c.args.key.now c.args.value.now in
    let held = c.index_mut-record.result.now in
    let value : c.in_ok-value.value ≡ c.args.value.now = c.in_ok-value.ensures in
    let new : c.rewrite.new.self ≡ record held { value = c.args.value.now } = c.rewrite.ensures ∙ λ i. record held { value = value i } in
    let place : kept_place c.args.options.now s write ≡ Some c.in-Some.at = ap (λ (t : Cache). kept_place c.args.options.now t write) c.self.view_is ∙ sym c.kept_at.ensures ∙ c.in-Some.is in
    let unique : IsUnique s.records = subst (λ (t : Cache). IsUnique t.records) (sym c.self.view_is) c.requires.unique in
    ap (λ (r : Record). record s { records = slice_set a.records.items c.in-Some.at r; stamp = a.stamp + 1 }) new
    ∙ rewritten_is c.args.options.now s write unique c.in-Some.at place held c.index_mut-record.ensures.value
    ∙ ap (λ (t : Cache). after_put (kept_record c.args.options.now t write) t write) c.self.view_is
