use Rattle.std.proofs.Common.{◌≡◌, take}
use Rattle.mica_model.specs.CacheFields.{marked_passed, notes_of}
use Rattle.mica_model.proofs.fates.mark_passed.Given as goal

abbrev pub invariant-loop-record : goal.invariant-loop-record
invariant-loop-record l = notes_of l.fates ≡ marked_passed l.fate l.words l.stamp (take l.record-index l.records) (notes_of l.initial.fates)
