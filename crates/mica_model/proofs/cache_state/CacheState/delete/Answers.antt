use Rattle.std.proofs.Common.{◌≡◌, ◌+◌, ap, sym, ◌∙◌, subst, [], position}
use Rattle.partition_model.specs.declared.write.Op.TheVariants.{Del}
use Rattle.partition_model.specs.Cache.{Cache, has_key}
use Rattle.partition_model.specs.Records.{IsUnique}
use Rattle.mica_model.specs.CacheFields.{without_at}
use Rattle.partition_model.specs.CacheStep.{after_delete}
use Rattle.partition_model.specs.Write.{write_of}
use Rattle.mica_model.proofs.Passed.{found_goes, found_within}
use Rattle.mica_model.proofs.cache_state.CacheState.delete.Goals as goal

pub remove_at-requires : goal.remove_at-requires
remove_at-requires c = found_within c.args.key.now c.self.inside.records.items c.find_record-found.result (rw c.deref.ensures.value at c.find_record-found.ensures)

pub returns : goal.returns
returns c =
    let a = c.self.inside in
    let unique : IsUnique a.records.items = subst (λ (t : Cache). IsUnique t.records) (sym c.self.view_is) c.requires.unique in
    let found : c.find_record-found.result ≡ position (has_key c.args.key.now) a.records.items = rw c.deref.ensures.value at c.find_record-found.ensures in
    ap (λ records. record { records = records; stamp = a.stamp + 1; accepted = a.accepted })
    (c.remove_at.ensures.items ∙ ap (λ o. without_at o a.records.items) found ∙ found_goes c.args.key.now a.records.items unique)
    ∙ ap (λ (s : Cache). after_delete s (write_of Del c.args.key.now [])) c.self.view_is
