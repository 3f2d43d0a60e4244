-- A step of cache mode, bucket by bucket: in the bucket of its key it is the step of that bucket alone, and in another it is what the log passes.
use Rattle.std.proofs.Common.{◌≡◌, ◌≢◌, ℕ, ◌+◌, List, Option, Bool, true, false, cond, not, refl, sym, ap, ◌∙◌, arith, eqb, eqb-true, leb-true, rules}
use Rattle.std.specs.List.{filter, count_by}
use Rattle.std.specs.Prelude.{is_some}
use Rattle.std.proofs.lemmas.Bool.{eq-eqb, ne_eqb, le-leb, true≢false}
use Rattle.std.proofs.lemmas.List.Elements.{filter-append}
use Rattle.std.proofs.lemmas.Grind.{common_steps}
use Rattle.mica_words.specs.declared.entry.TheConstants.{SLOTS}
use Rattle.mica_words.specs.Hash.{bucket_of}
use Rattle.mica_words.specs.Stamp.{tail_of}
use Rattle.partition_model.specs.declared.options.Options.{Options}
use Rattle.partition_model.specs.declared.write.Write.{Write}
use Rattle.partition_model.specs.declared.write.Op.{Op}
use Rattle.partition_model.specs.declared.write.Op.TheVariants.{Put, Add, Touch, Del}
use Rattle.partition_model.specs.declared.write.Outcome.TheVariants.{Worn}
use Rattle.partition_model.specs.Cache.{Record, Cache, has_key, is_live, record_of}
use Rattle.partition_model.specs.CacheStep as cs
use Rattle.partition_model.specs.CacheStep.{is_in_bucket, kept_if, kept_record, new_record, others, without_first}
use Rattle.partition_model.proofs.CacheKept.{rewritten, rewritten_key}
use Rattle.partition_model.proofs.CacheLaws.{tail_rises}
use Rattle.partition_model.proofs.Found.{found_filter_all}
use Rattle.partition_model.proofs.Laid.{key_is}
use Rattle.report_check.specs.Machines.{bucket_part}
use Rattle.report_check.proofs.Filters.{filter_swap, filter_weaker, filter_map_same, filter_map_none, count_filtered, first_filtered, first_of_others}

module _ (options : Options) (s : Cache) (write : Write) where
  abbrev own : ℕ
  own = bucket_of options.hashing write.key options.buckets

  abbrev here : Record → Bool
  here = is_in_bucket options own

  abbrev part : Cache
  part = bucket_part options own s

  own_key : (r : Record) → has_key write.key r ≡ true → here r ≡ true
  own_key r is = eq-eqb (bucket_of options.hashing r.key options.buckets) own (ap (λ k. bucket_of options.hashing k options.buckets) (key_is write.key r is))

  pub own_record : record_of part write.key ≡ record_of s write.key
  own_record = found_filter_all (has_key write.key) here own_key s.records

  pub own_reply : cs.reply options part write ≡ cs.reply options s write
  unfolding cs.reply
  own_reply = ap (λ o. cond (cs.is_worn options s) Worn (cs.reply_of write.op options write (is_some o))) own_record

  -- the write itself

  own_append : (value : List ℕ) → cs.after_append part (new_record part write.key value) ≡ bucket_part options own (cs.after_append s (new_record s write.key value))
  own_append value = grind (arith, common_steps, filter_swap, eq-eqb own own refl, filter-append here (others write.key s.records))

  own_rewrite : cs.after_rewrite part write ≡ bucket_part options own (cs.after_rewrite s write)
  own_rewrite = grind (arith, common_steps, filter_map_same here (rewritten write), rewritten write, rewritten_key write)

  own_delete : cs.after_delete part write ≡ bucket_part options own (cs.after_delete s write)
  own_delete = ap (λ (rs : List Record). record (cs.after_delete s write) { records = rs }) (filter_swap (λ r. not (has_key write.key r)) here s.records)

  same_kept : (o : Option Record) → kept_if options part write o ≡ kept_if options s write o
  same_kept o = grind (arith, common_steps)

  own_kept : kept_record options part write ≡ kept_record options s write
  own_kept = ap (kept_if options part write) own_record ∙ same_kept (record_of s write.key)

  own_put : (o : Option Record) → cs.after_put o part write ≡ bucket_part options own (cs.after_put o s write)
  own_put o = grind (arith, own_append write.value, own_rewrite)

  own_touch : (o : Option Record) → cs.after_touch o part write ≡ bucket_part options own (cs.after_touch o s write)
  own_touch o = grind (arith, own_append)

  own_op : (op : Op) → cs.after_op op options part write ≡ bucket_part options own (cs.after_op op options s write)
  own_op Put = ap (λ o. cs.after_put o part write) own_kept ∙ own_put (kept_record options s write)
  own_op Add = own_append write.value
  own_op Touch = ap (λ o. cs.after_touch o part write) own_record ∙ own_touch (record_of s write.key)
  own_op Del = own_delete

  -- what the log passes, and what is displaced

  abbrev live : List Record
  live = filter (λ held. is_live options.words (cs.after_write options s write).stamp held.offset) (cs.after_write options s write).records

  abbrev left : List Record → List Record
  left rs = cond (eqb (count_by here rs) (SLOTS + 1)) (without_first here rs) rs

  own_left : (rs : List Record) → left (filter here rs) ≡ filter here (left rs)
  own_left rs = grind (arith, common_steps, count_filtered here rs, first_filtered here rs)

  pub own_after : cs.after options part write ≡ bucket_part options own (cs.after options s write)
  unfolding cs.after
  own_after = search (rules, own_op write.op, filter_swap, own_left live)

  -- in another bucket

  module _ (bucket : ℕ) (other : own ≢ bucket) where
    abbrev there : Record → Bool
    there = is_in_bucket options bucket

    apart : (r : Record) → there r ≡ true → here r ≡ false
    apart r is = ne_eqb (bucket_of options.hashing r.key options.buckets) own (λ e. other (sym e ∙ eqb-true (bucket_of options.hashing r.key options.buckets) bucket is))

    other_key : (r : Record) → there r ≡ true → has_key write.key r ≡ false
    other_key r is = grind (arith, common_steps, true≢false, own_key r, apart r is)

    other_others : filter there (others write.key s.records) ≡ filter there s.records
    other_others = filter_weaker (λ r. not (has_key write.key r)) there (λ r is. ap not (other_key r is)) s.records

    other_append : (value : List ℕ) → filter there (cs.after_append s (new_record s write.key value)).records ≡ filter there s.records
    other_append value = search (rules, new_record, filter-append, ne_eqb, other_others, others, filter)

    other_rewrite : filter there (cs.after_rewrite s write).records ≡ filter there s.records
    other_rewrite = search (rules, filter_map_same, rewritten, rewritten_key, filter_map_none, other_key)

    other_put : (o : Option Record) → filter there (cs.after_put o s write).records ≡ filter there s.records
    other_put o = grind (arith, other_append write.value, other_rewrite)

    other_touch : (o : Option Record) → filter there (cs.after_touch o s write).records ≡ filter there s.records
    other_touch o = grind (arith, other_append)

    other_op : (op : Op) → filter there (cs.after_op op options s write).records ≡ filter there s.records
    other_op op = grind (arith, other_put (kept_record options s write), other_append write.value, other_touch (record_of s write.key), other_others)

    other_left : (rs : List Record) → filter there (left rs) ≡ filter there rs
    other_left rs = search (rules, eqb, first_of_others, count_by)

    pub other_after : filter there (cs.after options s write).records ≡ filter (λ held. is_live options.words (cs.after options s write).stamp held.offset) (filter there s.records)
    unfolding cs.after
    other_after = grind (arith, common_steps, other_left live, filter_swap there, other_op write.op)

  -- what the log has not passed after the write, it had not before
  pub live_before : (r : Record) → is_live options.words (cs.after options s write).stamp r.offset ≡ true → is_live options.words s.stamp r.offset ≡ true
  live_before r is = search (rules, leb-true, tail_rises, le-leb, tail_of)
