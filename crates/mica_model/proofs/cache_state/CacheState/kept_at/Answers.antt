use Rattle.std.proofs.Common.{◌≡◌, true, false, ap, sym, ◌∙◌, Some, position, arith}
use Rattle.partition_model.specs.declared.write.Op.TheVariants.{Put}
use Rattle.partition_model.specs.Cache.{Cache, has_key}
use Rattle.partition_model.specs.Rooms.{keeps}
use Rattle.mica_model.specs.CacheFields.{kept_place}
use Rattle.partition_model.specs.Write.{write_of, size_of}
use Rattle.mica_model.proofs.CacheSteps.{kept_yes, kept_no, may_true, may_not, may_passed}
use Rattle.mica_model.proofs.cache_state.CacheState.kept_at.Goals as goal
use Rattle.mica_model.proofs.cache_state.CacheState.kept_at.Goals.{else-keeps-via-then-keeps+else-is_live, else-keeps-via-else-keeps}

pub returns-then-is_live : goal.returns-then-is_live
returns-then-is_live c =
    let a = c.self.inside in
    let s : Cache = record { records = a.records.items; stamp = a.stamp; accepted = a.accepted } in
    let write = write_of Put c.args.key.now c.args.value.now in
    let held = c.index-record.result.now in
    let place : position (has_key c.args.key.now) a.records.items ≡ Some c.in_ok-at.at = ap (λ (t : Cache). position (has_key c.args.key.now) t.records) c.self.view_is ∙ sym c.requires.found ∙ c.in_ok-at.was in
    let fits : keeps (size_of write) held.room ≡ true = grind arith in
    sym (kept_yes c.args.options.now s write c.in_ok-at.at place held c.index-record.ensures (may_true c.args.options.now s write held fits (sym c.is_live.ensures ∙ c.if-is_live.true)))
    ∙ ap (λ (t : Cache). kept_place c.args.options.now t write) c.self.view_is

pub returns-else-keeps : goal.returns-else-keeps
returns-else-keeps c =
    let a = c.self.inside in
    let s : Cache = record { records = a.records.items; stamp = a.stamp; accepted = a.accepted } in
    let write = write_of Put c.args.key.now c.args.value.now in
    let held = c.index-record.result.now in
    let place : position (has_key c.args.key.now) a.records.items ≡ Some c.in_ok-at.at = ap (λ (t : Cache). position (has_key c.args.key.now) t.records) c.self.view_is ∙ sym c.requires.found ∙ c.in_ok-at.was in
    sym (kept_no c.args.options.now s write c.in_ok-at.at place held c.index-record.ensures
    (elim c.else-keeps.branch [
      | else-keeps-via-then-keeps+else-is_live w ↦ may_passed c.args.options.now s write held (sym w.is_live.ensures ∙ w.if-is_live.false)
      | else-keeps-via-else-keeps w ↦ let not : keeps (size_of write) held.room ≡ false = grind arith in may_not c.args.options.now s write held not
    ]))
    ∙ ap (λ (t : Cache). kept_place c.args.options.now t write) c.self.view_is
