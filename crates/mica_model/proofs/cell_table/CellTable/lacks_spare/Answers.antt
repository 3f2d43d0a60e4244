use Rattle.std.proofs.Common.{◌≡◌, ◌<◌, ◌%◌, sym, ap, ◌∙◌, subst}
use Rattle.std.proofs.lemmas.Bool.{false≢true}
use Rattle.mica_words.specs.declared.entry.TheConstants.{SLOTS}
use Rattle.mica_words.specs.Hash.{bucket_of}
use Rattle.partition_model.specs.Store.{keys_in}
use Rattle.mica_model.specs.CellTable.{LacksSpare}
use Rattle.mica_model.specs.CellTableFields.{cells_of}
use Rattle.mica_model.proofs.TableLemmas.{in_bucket, count_is, read_count}
use Rattle.mica_model.proofs.cell_table.CellTable.lacks_spare.Goals as goal

pub returns-else-is_full : goal.returns-else-is_full
returns-else-is_full c =
    let a = c.self.inside in
    let t = c.self.invariant in
    let key = c.args.key.now in
    let bucket = c.bucket_of.result in
    let here = in_bucket a key bucket _ c.self.view_is c.bucket_of.ensures.within c.bucket_of.ensures.value in
    let count : c.index-keys.result.now ≡ keys_in a.hashing a.buckets (bucket_of a.hashing key a.buckets) (cells_of a) =
    read_count a t key bucket here c.index-keys.result.now c.index-keys.ensures ∙ count_is a t key bucket here ∙ ap (λ b. keys_in a.hashing a.buckets b (cells_of a)) here.is in (
      λ full. absurd (false≢true (sym c.if-is_full.false ∙ full)),
      λ lacks. let lacking = subst (λ u. LacksSpare u key c.args.spares) (sym c.self.view_is) lacks in
          c.is_full.ensures.1 (subst (λ n. 0 < n) (sym count) lacking.some, ap (λ n. n % SLOTS) count ∙ lacking.full),
    )
