-- What every state of the cache machine has, and that each accepted write keeps it.
use Rattle.std.proofs.Common.{◌≡◌, ℕ, ◌+◌, ◌*◌, ◌≤◌, ◌<◌, List, [], ◌∷◌, ◌++◌, Option, Some, None, Bool, true, false, cond, not, refl, sym, ap, subst, arith, ◌≢◌, eqb, ⊎_elim, rules}
use Rattle.std.specs.List.{find, filter, AllByRecursion as AllOf, count_by}
use Rattle.std.specs.Prelude.{map}
use Rattle.std.proofs.lemmas.Bool.{not-true, true≢false, leb-true, eqb-true, eqb-false, ne_eqb, cases_eq}
use Rattle.std.proofs.lemmas.List.Sums.{sum_by_push}
use Rattle.std.proofs.lemmas.Grind.{common_steps}
use Rattle.mica_words.specs.declared.entry.TheConstants.{SLOTS}
use Rattle.mica_words.specs.Hash.{bucket_of}
use Rattle.mica_words.specs.Item.{KeyFits, StoredFits, item_size, largest_stored_item}
use Rattle.mica_words.specs.Packing.{AreBytes}
use Rattle.mica_words.specs.Stamp.{tail_of}
use Rattle.partition_model.specs.declared.options.Options.{Options}
use Rattle.partition_model.specs.declared.write.Write.{Write}
use Rattle.partition_model.specs.declared.write.Op.{Op}
use Rattle.partition_model.specs.declared.write.Op.TheVariants.{Put, Add, Touch, Del}
use Rattle.partition_model.specs.Limits.{most_added}
use Rattle.partition_model.specs.Write.{IsWrite, HasValueOf, size_of}
use Rattle.partition_model.specs.Cache as cache
use Rattle.partition_model.specs.Cache.{Record, Cache, has_key, record_of, is_live}
use Rattle.partition_model.specs.CacheStep as cs
use Rattle.partition_model.specs.CacheStep.{others, new_record, kept_record, may_keep, without_first, is_in_bucket}
use Rattle.partition_model.proofs.Found as found
use Rattle.partition_model.proofs.Laid as laid
use Rattle.partition_model.specs.Records.{IsUnique}
use Rattle.partition_model.proofs.Laid.{IsLaid}

-- a record whose key and value fit, in a room of the item's size or more
pub record IsRecord (held : Record) : Type 0 where
  pub key : KeyFits held.key
  pub key_bytes : AreBytes held.key
  pub value : StoredFits held.value
  pub value_bytes : AreBytes held.value
  pub size : item_size held.key held.value ≤ held.room
  pub room : held.room ≤ largest_stored_item

abbrev pub AreLive : ℕ → ℕ → List Record → Type 0
AreLive words stamp records = AllOf (λ held. tail_of stamp ≤ held.offset + words) records

-- what every state of the machine has
pub record IsKept (options : Options) (s : Cache) : Type 0 where
  pub laid : IsLaid 0 (tail_of s.stamp) s.records
  pub unique : IsUnique s.records
  pub live : AreLive options.words s.stamp s.records
  pub are : AllOf IsRecord s.records
  pub buckets : (bucket : ℕ) → count_by (is_in_bucket options bucket) s.records ≤ SLOTS
  pub stamp : s.stamp ≤ s.accepted * most_added

pub start_kept : (options : Options) → IsKept options cache.start
unfolding cache.start
start_kept options = grind (arith, common_steps)

-- a value that an operation has fits, and no value does

pub fits_by : (op : Op) (value : List ℕ) → HasValueOf op value → StoredFits value
fits_by op value fits = grind (arith, common_steps)

-- the largest item has the most words
pub item_at_most : (key value : List ℕ) → KeyFits key → StoredFits value → item_size key value ≤ largest_stored_item
item_at_most key value key_fits fits = let short = key_fits.1 in omega arith

pub size_at_most : (write : Write) → IsWrite write → size_of write ≤ largest_stored_item
size_at_most write is = item_at_most write.key write.value is.key (fits_by write.op write.value is.value)

-- a room of an append moves the tail on by as many words
pub tail_past : (stamp size : ℕ) → tail_of (stamp + 65536 * size) ≡ tail_of stamp + size
tail_past stamp size = omega arith

-- two lists' worth of facts, at each record of a changed list
all_map_both : (P Q R : Record → Type 0) (f : Record → Record) → ((r : Record) → P r → Q r → R (f r)) → (rs : List Record) → AllOf P rs → AllOf Q rs → AllOf R (map f rs)
all_map_both P Q R f gives [] ps qs = tt
all_map_both P Q R f gives (r ∷ rs) ps qs = (gives r ps.0 qs.0, all_map_both P Q R f gives rs ps.1 qs.1)

pub count_map : (p : Record → Bool) (f : Record → Record) → ((r : Record) → p (f r) ≡ p r) → (rs : List Record) → count_by p (map f rs) ≡ count_by p rs
count_map p f same rs = grind (arith, common_steps)

-- a record that is found by its key is the only one of that key
only_found : (key : List ℕ) (held : Record) (rs : List Record) → IsUnique rs → find (has_key key) rs ≡ Some held → AllOf (λ r. has_key key r ≡ true → r ≡ held) rs
only_found key held [] unique is = tt
only_found key held (x ∷ rs) unique is =
    grind (arith, common_steps, laid.key_is key x, found.all_weaker, true≢false, found.missed_all (has_key key) rs, only_found key held rs unique.1)

-- the record that keeps a put is the key's, its room suffices, and it is live at the next stamp
pub record KeepsPut (options : Options) (s : Cache) (write : Write) (held : Record) : Type 0 where
  pub is : record_of s write.key ≡ Some held
  pub fits : size_of write ≤ held.room
  pub live : tail_of (s.stamp + 1) ≤ held.offset + options.words

keeps_by : (options : Options) (s : Cache) (write : Write) (o : Option Record) → record_of s write.key ≡ o → (held : Record) → cs.kept_if options s write o ≡ Some held → KeepsPut options s write held
keeps_by options s write o at held is = grind (arith, common_steps)

pub keeps_put : (options : Options) (s : Cache) (write : Write) (held : Record) → kept_record options s write ≡ Some held → KeepsPut options s write held
keeps_put options s write held is = keeps_by options s write (record_of s write.key) refl held is

-- where the item of a put begins: in the room that keeps it, else at the tail
abbrev pub begin_of : Option Record → Cache → ℕ
begin_of None s = tail_of s.stamp
begin_of (Some held) s = held.offset

abbrev pub offset_of : Options → Cache → Write → ℕ
offset_of options s write = begin_of (kept_record options s write) s

-- what a put that is kept makes of each record
abbrev pub rewritten : Write → Record → Record
rewritten write held = cond (has_key write.key held) (record held { value = write.value }) held

module _ (write : Write) where
  pub rewritten_key : (held : Record) → (rewritten write held).key ≡ held.key
  rewritten_key held = elim (has_key write.key held) as (λ b. (cond b (record held { value = write.value }) held).key ≡ held.key) [ true ↦ refl | false ↦ refl ]

  pub rewritten_offset : (held : Record) → (rewritten write held).offset ≡ held.offset
  rewritten_offset held = elim (has_key write.key held) as (λ b. (cond b (record held { value = write.value }) held).offset ≡ held.offset) [ true ↦ refl | false ↦ refl ]

  pub rewritten_room : (held : Record) → (rewritten write held).room ≡ held.room
  rewritten_room held = elim (has_key write.key held) as (λ b. (cond b (record held { value = write.value }) held).room ≡ held.room) [ true ↦ refl | false ↦ refl ]

-- what the write itself leaves, before the log passes and the index displaces
pub record IsWritten (options : Options) (s : Cache) (write : Write) (t : Cache) : Type 0 where
  pub laid : IsLaid 0 (tail_of t.stamp) t.records
  pub unique : IsUnique t.records
  pub are : AllOf IsRecord t.records
  pub here : count_by (is_in_bucket options (bucket_of options.hashing write.key options.buckets)) t.records ≤ SLOTS + 1
  pub there : (bucket : ℕ) → bucket_of options.hashing write.key options.buckets ≢ bucket → count_by (is_in_bucket options bucket) t.records ≤ SLOTS
  pub least : s.stamp < t.stamp
  pub most : t.stamp ≤ s.stamp + most_added

-- the records of other keys have none of the key
pub others_lack : (key : List ℕ) (records : List Record) → find (has_key key) (others key records) ≡ None
others_lack key records = grind (arith, common_steps, found.missed (has_key key) (others key records), found.all_weaker, not-true, found.all_passes)

module _ (options : Options) (s : Cache) (kept : IsKept options s) (write : Write) (is : IsWrite write) where
  fewer : (bucket : ℕ) → count_by (is_in_bucket options bucket) (others write.key s.records) ≤ SLOTS
  fewer bucket = let less = found.count_filter (is_in_bucket options bucket) (λ r. not (has_key write.key r)) s.records in let few = kept.buckets bucket in omega arith

  pub others_laid : IsLaid 0 (tail_of s.stamp) (others write.key s.records)
  others_laid = laid.laid_filter (λ r. not (has_key write.key r)) 0 (tail_of s.stamp) s.records kept.laid

  appended : (value : List ℕ) → StoredFits value → AreBytes value → IsWritten options s write (cs.after_append s (new_record s write.key value))
  appended value fits bytes =
      let size : item_size write.key value ≤ largest_stored_item = item_at_most write.key value is.key fits in
      let some : 0 < item_size write.key value = omega arith in
      let count = λ (bucket : ℕ). sum_by_push (λ (r : Record). cond (is_in_bucket options bucket r) 1 0) (others write.key s.records) (new_record s write.key value) in
      record {
        laid = subst (λ (n : ℕ). IsLaid 0 n (others write.key s.records ++ new_record s write.key value ∷ [])) (sym (tail_past s.stamp (item_size write.key value))) (laid.laid_push 0 (tail_of s.stamp) (others write.key s.records) (new_record s write.key value) refl others_laid);
        unique = laid.unique_push (others write.key s.records) (new_record s write.key value) (others_lack write.key s.records) (laid.unique_filter (λ r. not (has_key write.key r)) s.records kept.unique);
        are = grind (arith, found.all_push IsRecord (others write.key s.records) (new_record s write.key value) (found.all_filter IsRecord (λ r. not (has_key write.key r)) s.records kept.are) (record { key = is.key; key_bytes = is.key_bytes; value = fits; value_bytes = bytes; size = omega arith; room = size }));
        here =
            grind (arith, count (bucket_of options.hashing write.key options.buckets), fewer (bucket_of options.hashing write.key options.buckets), is_in_bucket options (bucket_of options.hashing write.key options.buckets) (new_record s write.key value));
        there = λ bucket other. grind (arith, count bucket, fewer bucket, cond {A = ℕ}, ne_eqb (bucket_of options.hashing write.key options.buckets) bucket other);
        least = omega arith;
        most = omega arith;
      }

  deleted : IsWritten options s write (cs.after_delete s write)
  deleted =
      search (
        rules,
        laid.laid_later 0 (tail_of s.stamp) (tail_of (s.stamp + 1)) (others write.key s.records) (omega arith) others_laid,
        others_laid,
        laid.unique_filter,
        found.all_filter IsRecord,
        fewer (bucket_of options.hashing write.key options.buckets),
        fewer,
      )

  rewrites : StoredFits write.value → (held : Record) → KeepsPut options s write held → IsWritten options s write (cs.after_rewrite s write)
  rewrites value held keeps =
      let same = λ (bucket : ℕ). count_map (is_in_bucket options bucket) (rewritten write) (λ r. ap (λ k. eqb (bucket_of options.hashing k options.buckets) bucket) (rewritten_key write r)) s.records in
      record {
        laid = laid.laid_later 0 (tail_of s.stamp) (tail_of (s.stamp + 1)) (map (rewritten write) s.records) (omega arith) (laid.laid_map (rewritten write) (rewritten_offset write) (rewritten_room write) 0 (tail_of s.stamp) s.records kept.laid);
        unique = laid.unique_map (rewritten write) (rewritten_key write) s.records kept.unique;
        are = all_map_both IsRecord (λ r. has_key write.key r ≡ true → r ≡ held) IsRecord (rewritten write)
            (λ r fine only. elim (has_key write.key r) as (λ b. has_key write.key r ≡ b → IsRecord (cond b (record r { value = write.value }) r)) [
              | true ↦ grind (arith, common_steps)
              | false ↦ λ here. fine
            ] refl)
            s.records kept.are (only_found write.key held s.records kept.unique keeps.is);
        here = let few = kept.buckets (bucket_of options.hashing write.key options.buckets) in let all = same (bucket_of options.hashing write.key options.buckets) in omega arith;
        there = λ bucket other. let few = kept.buckets bucket in let all = same bucket in omega arith;
        least = omega arith;
        most = omega arith;
      }

  put : StoredFits write.value → (o : Option Record) → kept_record options s write ≡ o → IsWritten options s write (cs.after_put o s write)
  put value None at = appended write.value value is.value_bytes
  put value (Some held) at = rewrites value held (keeps_put options s write held at)

  -- a touch appends the value that its key has
  touched : (o : Option Record) → record_of s write.key ≡ o → IsWritten options s write (cs.after_touch o s write)
  touched None at = search (rules, laid.laid_later 0 (tail_of s.stamp) (tail_of (s.stamp + 1)) s.records (omega arith) kept.laid)
  touched (Some held) at = let fine = found.found_has IsRecord (has_key write.key) s.records held kept.are at in appended held.value fine.value fine.value_bytes

  by_op : (op : Op) → HasValueOf op write.value → IsWritten options s write (cs.after_op op options s write)
  by_op Put value = put value (kept_record options s write) refl
  by_op Add value = appended write.value value is.value_bytes
  by_op Touch none = touched (record_of s write.key) refl
  by_op Del none = deleted

  pub after_write_is : IsWritten options s write (cs.after_write options s write)
  after_write_is = by_op write.op is.value

-- The whole step: what the log has passed goes, and then, where the bucket is full, its first record.

abbrev pub here_of : Options → Write → Record → Bool
here_of options write = is_in_bucket options (bucket_of options.hashing write.key options.buckets)

abbrev pub live_of : Options → Cache → List Record
live_of options t = filter (λ held. is_live options.words t.stamp held.offset) t.records

abbrev pub left_of : Options → Write → List Record → List Record
left_of options write rs = cond (eqb (count_by (here_of options write) rs) (SLOTS + 1)) (without_first (here_of options write) rs) rs

-- what holds of a list, and of it without the first record of the bucket, holds of what is left
by_left : (P : List Record → Type 0) (options : Options) (write : Write) (rs : List Record) → (P rs → P (without_first (here_of options write) rs)) → P rs → P (left_of options write rs)
by_left P options write rs less all = elim (eqb (count_by (here_of options write) rs) (SLOTS + 1)) as (λ b. P (cond b (without_first (here_of options write) rs) rs)) [ true ↦ less all | false ↦ all ]

module _ (options : Options) (s : Cache) (kept : IsKept options s) (write : Write) (t : Cache) (written : IsWritten options s write t) where
  few_left : (bucket : ℕ) → count_by (is_in_bucket options bucket) (left_of options write (live_of options t)) ≤ SLOTS
  few_left bucket =
      let live = live_of options t in
      ⊎_elim
      (λ (same : bucket_of options.hashing write.key options.buckets ≡ bucket). subst (λ (b : ℕ). count_by (is_in_bucket options b) (left_of options write live) ≤ SLOTS) same
      (elim (eqb (count_by (here_of options write) live) (SLOTS + 1)) as (λ b. eqb (count_by (here_of options write) live) (SLOTS + 1) ≡ b → count_by (here_of options write) (cond b (without_first (here_of options write) live) live) ≤ SLOTS) [
        | true ↦ grind (arith, eqb-true (count_by (here_of options write) live) (SLOTS + 1), found.count_without_first (here_of options write) live)
        | false ↦ grind (arith, eqb-false (count_by (here_of options write) live) (SLOTS + 1), found.count_filter (here_of options write) (λ held. is_live options.words t.stamp held.offset) t.records, written.here)
      ] refl))
      (λ (other : bucket_of options.hashing write.key options.buckets ≢ bucket).
      let fewer = found.count_filter (is_in_bucket options bucket) (λ held. is_live options.words t.stamp held.offset) t.records in
      let few = written.there bucket other in
      by_left (λ rs. count_by (is_in_bucket options bucket) rs ≤ SLOTS) options write live (λ le. let less = found.count_without_first_le (is_in_bucket options bucket) (here_of options write) live in omega arith) (omega arith))
      (cases_eq (bucket_of options.hashing write.key options.buckets) bucket)

  pub step_kept : IsKept options (record { records = left_of options write (live_of options t); stamp = t.stamp; accepted = s.accepted + 1 })
  step_kept =
      let here = here_of options write in
      let live = live_of options t in
      record {
        laid = by_left (IsLaid 0 (tail_of t.stamp)) options write live (laid.laid_without_first here 0 (tail_of t.stamp) live) (laid.laid_filter _ 0 (tail_of t.stamp) t.records written.laid);
        unique = by_left IsUnique options write live (laid.unique_without_first here live) (laid.unique_filter _ t.records written.unique);
        live = grind (arith, by_left (AreLive options.words t.stamp) options write live (found.all_without_first _ here live) (found.all_weaker (λ held. is_live options.words t.stamp held.offset ≡ true) (λ held. tail_of t.stamp ≤ held.offset + options.words) (λ held is. leb-true _ _ is) live (found.all_passes _ t.records)));
        are = by_left (AllOf IsRecord) options write live (found.all_without_first IsRecord here live) (found.all_filter IsRecord _ t.records written.are);
        buckets = few_left;
        stamp = let most = written.most in let before = kept.stamp in omega arith;
      }

pub after_kept : (options : Options) (s : Cache) (write : Write) → IsWrite write → IsKept options s → IsKept options (cs.after options s write)
unfolding cs.after
after_kept options s write is kept = step_kept options s kept write (cs.after_write options s write) (after_write_is options s kept write is)
