use Rattle.std.proofs.Common.{◌≡◌, ◌++◌, ◌∷◌, [], ap, sym, ◌∙◌, subst, arith, length, Some, None, position}
use Rattle.mica_words.specs.Item.{item_size}
use Rattle.mica_words.specs.Stamp.{tail_of}
use Rattle.partition_model.specs.declared.write.Op.TheVariants.{Touch}
use Rattle.partition_model.specs.Cache.{Cache, Record, has_key, record_of}
use Rattle.partition_model.specs.Records.{IsUnique}
use Rattle.mica_model.specs.CacheFields.{without_at}
use Rattle.partition_model.specs.CacheStep.{after_touch, others}
use Rattle.partition_model.specs.Write.{write_of}
use Rattle.mica_model.proofs.CacheSteps.{touched_is, untouched_is}
use Rattle.mica_model.proofs.Passed.{found_goes}
use Rattle.mica_model.proofs.Places.{found_at}
use Rattle.mica_model.proofs.cache_state.CacheState.touch.Goals as goal

pub returns-in_default : goal.returns-in_default
returns-in_default c =
    let a = c.self.inside in
    let s : Cache = record { records = a.records.items; stamp = a.stamp; accepted = a.accepted } in
    let write = write_of Touch c.args.key.now [] in
    let none : position (has_key c.args.key.now) a.records.items ≡ None = sym (rw c.deref.ensures.value at c.find_record.ensures) ∙ c.in_default.is in
    untouched_is s write none ∙ ap (λ (t : Cache). after_touch (record_of t c.args.key.now) t write) c.self.view_is

pub returns : goal.returns
returns c =
    let a = c.self.inside in
    let s : Cache = record { records = a.records.items; stamp = a.stamp; accepted = a.accepted } in
    let write = write_of Touch c.args.key.now [] in
    let unique : IsUnique a.records.items = subst (λ (t : Cache). IsUnique t.records) (sym c.self.view_is) c.requires.unique in
    let place : position (has_key c.args.key.now) a.records.items ≡ Some c.in-Some.at = sym (rw c.deref.ensures.value at c.find_record.ensures) ∙ c.in-Some.is in
    let held : Record = c.remove-record.result in
    let found : record_of s c.args.key.now ≡ Some held = found_at (has_key c.args.key.now) a.records.items c.in-Some.at place held ∙ ap Some (sym c.remove-record.ensures.value) in
    let left : c.remove-record.new.self.items ≡ others c.args.key.now a.records.items =
    c.remove-record.ensures.items ∙ ap (λ o. without_at o a.records.items) (sym place) ∙ found_goes c.args.key.now a.records.items unique in
    let offset : c.tail_of.result ≡ tail_of a.stamp = c.tail_of.ensures in
    let new : c.renew.new.self ≡ record held { offset = tail_of a.stamp; room = c.from.result } = c.renew.ensures ∙ λ i. record held { offset = offset i; room = sym c.from.ensures i } in
    let size : c.from.result ≡ item_size c.args.key.now held.value = omega (arith, c.from.ensures, c.item_size-size.ensures, ap length c.value.ensures) in
    touched_is s write c.push_reserved.new.self.items held c.renew.new.self c.from.result found
    (c.push_reserved.ensures.items ∙ ap (λ rs. rs ++ c.renew.new.self ∷ []) left) new size
    ∙ ap (λ (t : Cache). after_touch (record_of t c.args.key.now) t write) c.self.view_is
