use Rattle.std.proofs.Common.{ap, sym, ◌∙◌, length}
use Rattle.partition_model.specs.Cache.{Cache, Record, is_live}
use Rattle.mica_model.specs.CacheFields.{passed_front}
use Rattle.mica_model.proofs.Places.{front_of_place, front_of_none}
use Rattle.mica_model.proofs.cache_state.CacheState.passed.Goals as goal

pub returns-in-Some : goal.returns-in-Some
returns-in-Some c =
    let a = c.self.inside in
    front_of_place (λ (held : Record). is_live c.args.options.now.words a.stamp held.offset) a.records.items c.in-Some.at (sym (rw c.deref.ensures.value at c.first_live.ensures) ∙ c.in-Some.is)
    ∙ ap (λ (s : Cache). passed_front c.args.options.now.words s.stamp s.records) c.self.view_is

pub returns-in-None : goal.returns-in-None
returns-in-None c =
    let a = c.self.inside in
    c.len.ensures ∙ sym c.deref.ensures.len ∙ ap length c.deref.ensures.value ∙ front_of_none (λ (held : Record). is_live c.args.options.now.words a.stamp held.offset) a.records.items (sym (rw c.deref.ensures.value at c.first_live.ensures) ∙ c.in-None.is)
    ∙ ap (λ (s : Cache). passed_front c.args.options.now.words s.stamp s.records) c.self.view_is
