use Rattle.std.proofs.Common.{◌≡◌, ◌++◌, ◌∷◌, [], ap, sym, ◌∙◌, subst, position}
use Rattle.mica_words.specs.Stamp.{tail_of}
use Rattle.partition_model.specs.declared.write.Op.TheVariants.{Put}
use Rattle.partition_model.specs.Cache.{Cache, has_key}
use Rattle.partition_model.specs.Records.{IsUnique}
use Rattle.mica_model.specs.CacheFields.{without_at}
use Rattle.partition_model.specs.CacheStep.{after_append, new_record}
use Rattle.partition_model.specs.Write.{write_of, size_of}
use Rattle.mica_model.proofs.CacheSteps.{appended_is}
use Rattle.mica_model.proofs.Passed.{found_goes, found_within}
use Rattle.mica_model.proofs.cache_state.CacheState.append.Goals as goal

pub remove_at-requires : goal.remove_at-requires
remove_at-requires c =
    found_within c.args.key.now c.reserve.new.self.items c.args.found
    (c.requires.found ∙ sym (ap (λ (t : Cache). position (has_key c.args.key.now) t.records) c.self.view_is) ∙ ap (position (has_key c.args.key.now)) (sym c.in_ok-reserve.ensures.items))

pub returns-clause-ok : goal.returns-clause-ok
returns-clause-ok c =
    let a = c.self.inside in
    let s : Cache = record { records = a.records.items; stamp = a.stamp; accepted = a.accepted } in
    let write = write_of Put c.args.key.now c.args.value.now in
    let unique : IsUnique a.records.items = subst (λ (t : Cache). IsUnique t.records) (sym c.self.view_is) c.requires.unique in
    let found : c.args.found ≡ position (has_key c.args.key.now) a.records.items = c.requires.found ∙ sym (ap (λ (t : Cache). position (has_key c.args.key.now) t.records) c.self.view_is) in
    let kept = c.remove_at.ensures.items ∙ ap (without_at c.args.found) c.in_ok-reserve.ensures.items ∙ ap (λ o. without_at o a.records.items) found ∙ found_goes c.args.key.now a.records.items unique in
    let key : c.in_ok-copy.field-0 ≡ c.args.key.now = c.in_ok-copy.ensures in
    let value : c.in_ok-copy-2.field-0 ≡ c.args.value.now = c.in_ok-copy-2.ensures in
    let offset : c.tail_of-offset.result ≡ tail_of a.stamp = c.tail_of-offset.ensures in
    let size : c.item_size-size.result ≡ size_of write = c.item_size-size.ensures in
    appended_is s write c.push_reserved.new.self.items c.new-record.result c.from.result
    (c.push_reserved.ensures.items ∙ ap (λ rs. rs ++ c.new-record.result ∷ []) kept)
    (c.new-record.ensures ∙ λ i. record { key = key i; value = value i; offset = offset i; room = size i })
    (c.from.ensures ∙ size)
    ∙ ap (λ (t : Cache). after_append t (new_record t write.key write.value)) c.self.view_is
