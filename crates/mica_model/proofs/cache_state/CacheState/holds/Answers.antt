use Rattle.std.proofs.Common.{ap, ◌∙◌, is_some}
use Rattle.partition_model.specs.Cache.{Cache, has_key, record_of}
use Rattle.mica_model.proofs.Places.{is_some_position}
use Rattle.mica_model.proofs.cache_state.CacheState.holds.Goals as goal

pub returns : goal.returns
returns c =
    c.is_some.ensures ∙ ap is_some (rw c.deref.ensures.value at c.find_record.ensures) ∙ is_some_position (has_key c.args.key.now) c.self.inside.records.items
    ∙ ap (λ (s : Cache). is_some (record_of s c.args.key.now)) c.self.view_is
