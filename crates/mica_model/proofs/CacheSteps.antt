-- The methods of the cache machine's state against the rules of its step.
use Rattle.std.proofs.Common.{◌≡◌, ℕ, zero, suc, ◌+◌, ◌*◌, ◌<◌, List, [], ◌∷◌, ◌++◌, length, get_or, Option, Some, None, Bool, true, false, cond, refl, sym, ap, ◌∙◌, arith, eqb, slice_set, is_some}
use Rattle.std.specs.List.{position, count_by, AllByRecursion as AllOf}
use Rattle.std.proofs.lemmas.List.Quantifiers.{position-Some}
use Rattle.std.specs.Prelude.{map, option_map}
use Rattle.std.proofs.lemmas.Bool.{and_from, and_left, and_right}
use Rattle.std.proofs.lemmas.Option.{none-some}
use Rattle.std.proofs.lemmas.Grind.{common_steps}
use Rattle.mica_words.specs.declared.entry.TheConstants.{SLOTS}
use Rattle.mica_words.specs.Hash.{bucket_of}
use Rattle.mica_words.specs.Item.{item_size}
use Rattle.mica_words.specs.Stamp.{tail_of}
use Rattle.partition_model.specs.declared.options.Options.{Options}
use Rattle.partition_model.specs.declared.write.Write.{Write}
use Rattle.partition_model.specs.Write.{size_of}
use Rattle.partition_model.specs.Cache.{Record, Cache, has_key, record_of, is_live, value_in}
use Rattle.partition_model.specs.CacheStep as cs
use Rattle.partition_model.specs.CacheStep.{is_in_bucket, without_first, kept_record, may_keep, kept_if}
use Rattle.partition_model.specs.Rooms.{keeps}
use Rattle.mica_model.specs.CacheFields.{displaced_at, displaced_record, kept_place, without_at}
use Rattle.partition_model.specs.Records.{IsUnique}
use Rattle.mica_model.proofs.Places.{removed_at, kept_all, found_at, missed_all}
use Rattle.partition_model.proofs.CacheKept.{rewritten}
use Rattle.partition_model.proofs.Found.{missed_all as missed_each}
use Rattle.partition_model.proofs.Laid.{found_key, key_is}

-- the record that is displaced goes

module _ (options : Options) (key : List ℕ) (records : List Record) where
  abbrev here : Record → Bool
  here = is_in_bucket options (bucket_of options.hashing key options.buckets)

  abbrev left : List Record
  left = cond (eqb (count_by here records) (SLOTS + 1)) (without_first here records) records

  leaves_by : (at : Option ℕ) (d : Record) → displaced_at options key records ≡ at → without_at at records ≡ left
  leaves_by None d is = grind (arith, common_steps, kept_all here records)
  leaves_by (Some at) d is = grind (arith, common_steps, removed_at here records at d, none-some at)

  pub displaced_goes : without_at (displaced_at options key records) records
      ≡ cond (eqb (count_by (is_in_bucket options (bucket_of options.hashing key options.buckets)) records) (SLOTS + 1)) (without_first (is_in_bucket options (bucket_of options.hashing key options.buckets)) records) records
  displaced_goes = leaves_by (displaced_at options key records) (record { key = key; value = []; offset = 0; room = 0 }) refl

  module _ (bucket : ℕ) (is : bucket ≡ bucket_of options.hashing key options.buckets) where
    pub displaced_full : count_by (is_in_bucket options bucket) records ≡ SLOTS + 1 → position (is_in_bucket options bucket) records ≡ displaced_at options key records
    displaced_full full = grind (arith, common_steps)

    pub displaced_not_full : (count_by (is_in_bucket options bucket) records ≡ SLOTS + 1 → ⊥) → None ≡ displaced_at options key records
    displaced_not_full other = grind (arith, common_steps)

  pub displaced_found : (at : ℕ) → displaced_at options key records ≡ Some at → (held : Record) → held ≡ get_or records at held → displaced_record options key records ≡ Some held
  displaced_found at is held read = grind (arith, common_steps, found_at here records at, none-some at)

  pub displaced_missed : displaced_at options key records ≡ None → displaced_record options key records ≡ None
  displaced_missed is = grind (arith, common_steps, missed_all here records)

-- whether a put may be kept in a record's room

module _ (options : Options) (s : Cache) (write : Write) (held : Record) where
  pub may_true : keeps (size_of write) held.room ≡ true → is_live options.words (s.stamp + 1) held.offset ≡ true → may_keep options s write held ≡ true
  may_true fits live = and_from (keeps (size_of write) held.room) (is_live options.words (s.stamp + 1) held.offset) fits live

  pub may_not : keeps (size_of write) held.room ≡ false → may_keep options s write held ≡ false
  may_not not = and_left (keeps (size_of write) held.room) (is_live options.words (s.stamp + 1) held.offset) not

  pub may_passed : is_live options.words (s.stamp + 1) held.offset ≡ false → may_keep options s write held ≡ false
  may_passed passed = and_right (keeps (size_of write) held.room) (is_live options.words (s.stamp + 1) held.offset) passed

-- the place of the record that keeps a put

module _ (options : Options) (s : Cache) (write : Write) where
  abbrev place_if : Option Record → Option ℕ
  place_if o = cond (is_some o) (position (has_key write.key) s.records) None

  found_place : (at : ℕ) → position (has_key write.key) s.records ≡ Some at → (held : Record) → held ≡ get_or s.records at held → kept_record options s write ≡ cond (may_keep options s write held) (Some held) None
  found_place at is held read = ap (kept_if options s write) (found_at (has_key write.key) s.records at is held ∙ ap Some (sym read))

  pub kept_yes : (at : ℕ) → position (has_key write.key) s.records ≡ Some at → (held : Record) → held ≡ get_or s.records at held → may_keep options s write held ≡ true → kept_place options s write ≡ Some at
  kept_yes at is held read may = ap place_if (found_place at is held read ∙ ap (λ b. cond b (Some held) None) may) ∙ is

  pub kept_no : (at : ℕ) → position (has_key write.key) s.records ≡ Some at → (held : Record) → held ≡ get_or s.records at held → may_keep options s write held ≡ false → kept_place options s write ≡ None
  kept_no at is held read may = ap place_if (found_place at is held read ∙ ap (λ b. cond b (Some held) None) may)

-- a put that appends
pub appended_is : (s : Cache) (write : Write) (records : List Record) (new : Record) (size : ℕ) → records ≡ cs.others write.key s.records ++ new ∷ [] → new ≡ cs.new_record s write.key write.value → size ≡ size_of write
    → record s { records = records; stamp = s.stamp + 65536 * size } ≡ cs.after_append s (cs.new_record s write.key write.value)
appended_is s write records new size is new_is size_is = grind (arith, common_steps)

-- a touch, by the key's record

pub touched_is : (s : Cache) (write : Write) (records : List Record) (held new : Record) (size : ℕ) → record_of s write.key ≡ Some held → records ≡ cs.others write.key s.records ++ new ∷ []
    → new ≡ record held { offset = tail_of s.stamp; room = size } → size ≡ item_size write.key held.value
    → record s { records = records; stamp = s.stamp + 65536 * size } ≡ cs.after_touch (record_of s write.key) s write
touched_is s write records held new size found is new_is size_is = grind (arith, common_steps, found_key write.key s.records held found)

pub untouched_is : (s : Cache) (write : Write) → position (has_key write.key) s.records ≡ None → record s { stamp = s.stamp + 1 } ≡ cs.after_touch (record_of s write.key) s write
untouched_is s write none = sym (ap (λ o. cs.after_touch o s write) (missed_all (has_key write.key) s.records none))

-- a put that is kept at a place

module _ (options : Options) (s : Cache) (write : Write) where
  place_kept : (o : Option Record) (at : ℕ) → place_if options s write o ≡ Some at → position (has_key write.key) s.records ≡ Some at
  place_kept None at is = absurd (none-some at is)
  place_kept (Some held) at is = is

  put_kept : (o : Option Record) (at : ℕ) → place_if options s write o ≡ Some at → cs.after_put o s write ≡ cs.after_rewrite s write
  put_kept None at is = absurd (none-some at is)
  put_kept (Some held) at is = refl

none_rewritten : (write : Write) (rs : List Record) → AllOf (λ r. has_key write.key r ≡ false) rs → map (rewritten write) rs ≡ rs
none_rewritten write [] none = refl
none_rewritten write (r ∷ rs) none = ap (λ b. cond b (record r { value = write.value }) r ∷ map (rewritten write) rs) none.0 ∙ ap (λ zs. r ∷ zs) (none_rewritten write rs none.1)

-- to change the first record of a key is to change each, where there is one
set_first : (write : Write) (rs : List Record) (at : ℕ) (held : Record) → IsUnique rs → at < length rs → has_key write.key (get_or rs at held) ≡ true
    → ((k : ℕ) → k < at → has_key write.key (get_or rs k held) ≡ false)
    → slice_set rs at (record (get_or rs at held) { value = write.value }) ≡ map (rewritten write) rs
set_first write [] at held unique within here before = absurd (omega arith)
set_first write (r ∷ rs) zero held unique within here before =
    grind (arith, common_steps, key_is write.key r here, rewritten write r, none_rewritten write rs, missed_each (has_key write.key) rs)
set_first write (r ∷ rs) (suc at) held unique within here before =
    ap (λ zs. r ∷ zs) (set_first write rs at held unique.1 (omega arith) here (λ k less. before (suc k) (omega arith)))
    ∙ ap (λ b. cond b (record r { value = write.value }) r ∷ map (rewritten write) rs) (sym (before 0 (omega arith)))

module _ (options : Options) (s : Cache) (write : Write) (unique : IsUnique s.records) where
  pub rewritten_is : (at : ℕ) → kept_place options s write ≡ Some at → (held : Record) → held ≡ get_or s.records at held
      → record s { records = slice_set s.records at (record held { value = write.value }); stamp = s.stamp + 1 } ≡ cs.after_put (kept_record options s write) s write
  rewritten_is at is held read =
      let first = position-Some (has_key write.key) s.records at held (place_kept options s write (kept_record options s write) at is) in
      grind (arith, common_steps, set_first write s.records at held unique first.0 first.1 first.2, put_kept options s write (kept_record options s write) at is)

-- a put that is not kept appends
appends_by : (options : Options) (s : Cache) (write : Write) (o : Option Record) → record_of s write.key ≡ o → place_if options s write (kept_if options s write o) ≡ None → kept_if options s write o ≡ None
appends_by options s write None at is = refl
appends_by options s write (Some held) at is = grind (arith, common_steps, missed_all (has_key write.key) s.records)

pub appends : (options : Options) (s : Cache) (write : Write) → kept_place options s write ≡ None → cs.after_append s (cs.new_record s write.key write.value) ≡ cs.after_put (kept_record options s write) s write
appends options s write is = sym (ap (λ o. cs.after_put o s write) (appends_by options s write (record_of s write.key) refl is))

-- the value of a key, by the place of its record
pub value_at : (s : Cache) (key : List ℕ) (at : ℕ) → position (has_key key) s.records ≡ Some at → (held : Record) → held ≡ get_or s.records at held → Some held.value ≡ value_in s key
value_at s key at is held read = sym (ap (option_map (λ (r : Record). r.value)) (found_at (has_key key) s.records at is held ∙ ap Some (sym read)))

pub no_value : (s : Cache) (key : List ℕ) → position (has_key key) s.records ≡ None → None ≡ value_in s key
no_value s key is = sym (ap (option_map (λ (r : Record). r.value)) (missed_all (has_key key) s.records is))
