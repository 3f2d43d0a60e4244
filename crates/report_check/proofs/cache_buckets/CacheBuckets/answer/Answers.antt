use Rattle.std.proofs.Common.{arith}
use Rattle.std.proofs.Common.{◌≡◌, ◌&&◌, Bool, List, ℕ, Some, option_map, sym, ap, ◌∙◌, subst}
use Rattle.mica_words.specs.Item.{StoredFits}
use Rattle.partition_model.specs.Cache.{Record, has_key, is_live, record_of}
use Rattle.partition_model.proofs.CacheKept.{IsRecord}
use Rattle.partition_model.proofs.Found.{found_has}
use Rattle.mica_model.proofs.Places.{found_at, missed_all}
use Rattle.report_check.specs.declared.cache_buckets.CacheBuckets.{CacheBuckets}
use Rattle.report_check.proofs.Buckets.{found_in, reached_kept}
use Rattle.report_check.proofs.cache_buckets.CacheBuckets.answer.Goals as goal

abbrev wanted : CacheBuckets → List ℕ → Record → Bool
wanted m key r = has_key key r && is_live m.options.words m.stamp r.offset

pub set-requires : goal.set-requires
set-requires c =
    let m = c.args.self.now in
    let key = c.args.key.now in
    let s = c.requires.0 in
    let are = c.requires.1 in
    let held = c.index-records-at.result in
    let here = found_in m s are c.bucket_number-bucket.result c.index.result.now c.bucket_number-bucket.ensures.within c.index.ensures key c.records-records.result.now c.bucket_number-bucket.ensures.value c.records-records.ensures in
    let found : record_of s key ≡ Some held = sym here ∙ found_at (wanted m key) c.records-records.result.now c.in-Some.at (sym c.find_live.ensures ∙ c.in-Some.is) held ∙ ap Some (sym c.index-records-at.is) in
    subst StoredFits (sym c.value.ensures) (found_has IsRecord (has_key key) s.records held (reached_kept m.options s are.reached).are found).value

pub returns-in-Some : goal.returns-in-Some
returns-in-Some c =
    grind (arith, c.args.self.now, c.args.key.now, c.index-records-at.result, found_in c.args.self.now, found_at (wanted c.args.self.now c.args.key.now) c.records-records.result.now c.in-Some.at (sym c.find_live.ensures ∙ c.in-Some.is) c.index-records-at.result, c.index-records-at.is, option_map, c.set.ensures, c.value.ensures)

pub returns-in-None : goal.returns-in-None
returns-in-None c =
    grind (arith, c.args.self.now, c.args.key.now, found_in c.args.self.now, option_map, missed_all (wanted c.args.self.now c.args.key.now) c.records-records.result.now (sym c.find_live.ensures ∙ c.in-None.is), c.clear.ensures)
