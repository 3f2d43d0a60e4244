-- The laws of the cache machine's states, over lawful histories.
use Rattle.std.proofs.Common.{is_some, ◌≡◌, ℕ, ◌+◌, ◌*◌, ◌≤◌, ◌<◌, ◌⊎◌, List, [], ◌∷◌, ◌++◌, length, Option, Some, None, Bool, true, false, cond, not, refl, sym, ap, ◌∙◌, subst, arith, ◌≢◌, eqb, rules}
use Rattle.std.specs.List.{find, filter, fold, AllByRecursion as AllOf, count_by}
use Rattle.std.specs.Prelude.{map, option_map}
use Rattle.std.proofs.lemmas.Option.{same_Some}
use Rattle.std.proofs.lemmas.Bool.{leb-true, le-leb, eqb-true, ne_eqb}
use Rattle.std.proofs.lemmas.List.Sums.{sum_by_push}
use Rattle.std.proofs.lemmas.Grind.{common_steps}
use Rattle.mica_words.specs.declared.entry.TheConstants.{SLOTS}
use Rattle.mica_words.specs.Hash.{bucket_of}
use Rattle.mica_words.specs.Item.{KeyFits, StoredFits, item_size}
use Rattle.mica_words.specs.Packing.{AreBytes}
use Rattle.mica_words.specs.Stamp.{tail_of}
use Rattle.partition_model.specs.declared.options.Options.{Options}
use Rattle.partition_model.specs.declared.options.Mode.{Mode}
use Rattle.partition_model.specs.declared.write.Write.{Write}
use Rattle.partition_model.specs.declared.write.Op.{Op}
use Rattle.partition_model.specs.declared.write.Op.TheVariants.{Put, Add, Touch, Del}
use Rattle.partition_model.specs.declared.write.Outcome.{Outcome}
use Rattle.partition_model.specs.Write.{GivesValue, IsWrite, is_accepted, size_of}
use Rattle.partition_model.specs.Cache.{Record, Cache, has_key, record_of, value_in, is_live}
use Rattle.partition_model.specs.CacheStep as cs
use Rattle.partition_model.specs.CacheStep.{others, new_record, kept_record, without_first, is_in_bucket}
use Rattle.partition_model.specs.History.{Allows, History, State, cache_state, store_state, after, start, state_of}
use Rattle.partition_model.proofs.Found as found
use Rattle.partition_model.proofs.Laid as laid
use Rattle.partition_model.proofs.CacheKept.{others_lack, count_map, IsRecord, IsKept, KeepsPut, keeps_put, start_kept, after_kept, after_write_is, begin_of, offset_of, rewritten, rewritten_key, left_of, live_of, here_of}
use Rattle.partition_model.proofs.Rises.{after_rises}

-- Every state of a lawful history is kept.

abbrev IsKeptState : Options → State → Type 0
IsKeptState options (cache_state s) = IsKept options s
IsKeptState options (store_state s) = Unit {0}

kept_start : (options : Options) (mode : Mode) → IsKeptState options (start mode)
kept_start options mode = grind (arith, start_kept options)

kept_after : (options : Options) (now : State) (write : Write) → IsWrite write → IsKeptState options now → IsKeptState options (after options now write)
kept_after options now write is kept = grind (arith, after_kept options)

kept_from : (options : Options) (now : State) (history : History) → AllOf IsWrite history → IsKeptState options now → IsKeptState options (fold (after options) now history)
kept_from options now [] writes kept = kept
kept_from options now (write ∷ history) writes kept = kept_from options (after options now write) history writes.1 (kept_after options now write writes.0 kept)

pub kept_in : (options : Options) (history : History) → AllOf IsWrite history → (s : Cache) → state_of options history ≡ cache_state s → IsKept options s
kept_in options history writes s at = subst (IsKeptState options) at (kept_from options (start options.mode) history writes (kept_start options options.mode))

-- Laws of one state.
module _ (options : Options) (s : Cache) (kept : IsKept options s) where
  -- what the machine has fits
  record_is : (key : List ℕ) (r : Record) → record_of s key ≡ Some r → IsRecord r
  record_is key r is = found.found_has IsRecord (has_key key) s.records r kept.are is

  pub fits_kept : (key : List ℕ) (r : Record) → record_of s key ≡ Some r
      → KeyFits key × AreBytes key × StoredFits r.value × AreBytes r.value × (item_size key r.value ≤ r.room) × (r.room < 16777216)
  fits_kept key r is = grind (arith, common_steps, laid.found_key key s.records r is, record_is key r is)

  value_by : (key value : List ℕ) (o : Option Record) → record_of s key ≡ o → option_map (λ held. held.value) o ≡ Some value → StoredFits value
  value_by key value None at is = cc
  value_by key value (Some r) at is = subst StoredFits (same_Some r.value value is) (record_is key r at).value

  pub value_kept : (key value : List ℕ) → value_in s key ≡ Some value → StoredFits value
  value_kept key value is = value_by key value (record_of s key) refl is

  -- the log's window
  pub window_kept : (key : List ℕ) (r : Record) → record_of s key ≡ Some r → (tail_of s.stamp ≤ r.offset + options.words) × (r.offset + r.room ≤ tail_of s.stamp)
  window_kept key r is = grind (arith, common_steps, found.found_has, laid.laid_found (has_key key) 0 (tail_of s.stamp) s.records r kept.laid is)

  -- the rooms of two keys are apart
  pub apart_kept : (key key' : List ℕ) (r r' : Record) → record_of s key ≡ Some r → record_of s key' ≡ Some r' → key ≢ key'
      → (r.offset + r.room ≤ r'.offset) ⊎ (r'.offset + r'.room ≤ r.offset)
  apart_kept key key' r r' is is' differ = grind (arith, common_steps, laid.laid_apart (has_key key) (has_key key'), laid.has_other_key key', laid.key_is key)

-- Laws of a step.

find_map : (p : Record → Bool) (f : Record → Record) → ((r : Record) → p (f r) ≡ p r) → ((r : Record) → p r ≡ true → f r ≡ r) → (rs : List Record) → find p (map f rs) ≡ find p rs
find_map p f same stays [] = refl
find_map p f same stays (r ∷ rs) = grind (arith, common_steps, find_map p f same stays rs)

module _ (options : Options) (s : Cache) (write : Write) (key : List ℕ) (other : key ≢ write.key) where
  not_written : (r : Record) → has_key key r ≡ true → has_key write.key r ≡ false
  not_written r here = laid.has_other_key write.key r (λ there. other (sym (laid.key_is key r here) ∙ there))

  others_same : find (has_key key) (others write.key s.records) ≡ record_of s key
  others_same = found.found_filter_all (has_key key) (λ r. not (has_key write.key r)) (λ r here. ap not (not_written r here)) s.records

  append_same : (value : List ℕ) → record_of (cs.after_append s (new_record s write.key value)) key ≡ record_of s key
  append_same value = found.found_push_other (has_key key) (others write.key s.records) (new_record s write.key value) (laid.has_other_key key (new_record s write.key value) (λ same. other (sym same))) ∙ others_same

  put_same : (o : Option Record) → record_of (cs.after_put o s write) key ≡ record_of s key
  put_same o = grind (arith, append_same write.value, find_map (has_key key) (rewritten write), rewritten write, rewritten_key write, not_written)

  touch_same : (o : Option Record) → record_of (cs.after_touch o s write) key ≡ record_of s key
  touch_same o = grind (arith, append_same)

  op_same : (op : Op) → record_of (cs.after_op op options s write) key ≡ record_of s key
  op_same op = grind (arith, put_same (kept_record options s write), append_same write.value, touch_same (record_of s write.key), others_same)

  -- the write itself touches the written key alone
  pub written_same : record_of (cs.after_write options s write) key ≡ record_of s key
  written_same = op_same write.op

abbrev live_test : Options → Cache → Record → Bool
live_test options t held = is_live options.words t.stamp held.offset

module _ (options : Options) (s : Cache) (kept : IsKept options s) (write : Write) (is : IsWrite write) (key : List ℕ) (apart : bucket_of options.hashing key options.buckets ≢ bucket_of options.hashing write.key options.buckets) where
  abbrev written : Cache
  written = cs.after_write options s write

  other_key : key ≢ write.key
  other_key same = apart (ap (λ (k : List ℕ). bucket_of options.hashing k options.buckets) same)

  -- what is displaced is of the written bucket
  left_same : (rs : List Record) → find (has_key key) (left_of options write rs) ≡ find (has_key key) rs
  left_same rs = grind (arith, common_steps, found.found_without_first (has_key key) (here_of options write), ne_eqb, apart, laid.key_is key)

  pub back_kept : (r : Record) → record_of (cs.after options s write) key ≡ Some r → (record_of s key ≡ Some r) × (tail_of (cs.after options s write).stamp ≤ r.offset + options.words)
  unfolding cs.after
  back_kept r found_after =
      let found_live : find (has_key key) (live_of options written) ≡ Some r = sym (left_same (live_of options written)) ∙ found_after in
      let before = laid.found_before_filter key (live_test options written) written.records r (after_write_is options s kept write is).unique found_live in
      (sym (written_same options s write key other_key) ∙ before.0, leb-true (tail_of written.stamp) (r.offset + options.words) before.1)

  pub on_kept : (r : Record) → record_of s key ≡ Some r → tail_of (cs.after options s write).stamp ≤ r.offset + options.words → record_of (cs.after options s write) key ≡ Some r
  unfolding cs.after
  on_kept r found_before live =
      grind (arith, left_same (live_of options written), found.found_filter (has_key key) (live_test options written) written.records r (written_same options s write key other_key ∙ found_before) (le-leb (tail_of written.stamp) (r.offset + options.words) live))

-- What a write's key has after the write itself: its item.
module _ (options : Options) (s : Cache) (write : Write) where
  -- a record that is appended is its key's
  pub appended_own : (value : List ℕ) → record_of (cs.after_append s (new_record s write.key value)) write.key ≡ Some (new_record s write.key value)
  appended_own value =
      search (rules, found.found_append_none (has_key write.key) (others write.key s.records), others_lack write.key s.records, laid.has_its_key write.key)

  -- a touch appends the value that its key has
  pub touched_is : (held : Record) → write.op ≡ Touch → record_of s write.key ≡ Some held → cs.after_write options s write ≡ cs.after_append s (new_record s write.key held.value)
  touched_is held op at = ap (λ (z : Op). cs.after_op z options s write) op ∙ ap (λ (o : Option Record). cs.after_touch o s write) at

  pub written_own : (o : Option Record) → kept_record options s write ≡ o
      → (r : Record) × (record_of (cs.after_put o s write) write.key ≡ Some r) × (r.offset ≡ begin_of o s) × (item_size r.key r.value ≡ size_of write)
  written_own None at = (new_record s write.key write.value, appended_own write.value, refl, refl)
  written_own (Some held) at =
      grind (arith, keeps_put options s write held at, laid.found_map (rewritten write) (rewritten_key write) write.key s.records held, rewritten_key write, found.found_passes (has_key write.key) s.records held, laid.found_key write.key s.records held)

-- An item that the log is asked to store, and stores, has no more words than the log.
module _ (options : Options) (write : Write) where
  pub reply_fits : (op : Op) (found : Bool) → GivesValue op → is_accepted (cs.reply_of op options write found) ≡ true → size_of write ≤ options.words
  reply_fits op found gives accepted = grind (arith, common_steps)

  words_suffice : (s : Cache) → is_accepted (cs.reply options s write) ≡ true → GivesValue write.op → size_of write ≤ options.words
  unfolding cs.reply
  words_suffice s accepted gives = grind (arith, common_steps)

  pub accepted_fits : (s : Cache) (now : State) → now ≡ cache_state s → (outcome : Outcome) → is_accepted outcome ≡ true → Allows options now write outcome
      → GivesValue write.op → size_of write ≤ options.words
  accepted_fits s now at outcome accepted allowed = grind (arith, common_steps, words_suffice s)

-- The record of the written key survives its step.
module _ (options : Options) (s : Cache) (kept : IsKept options s) (write : Write) (is : IsWrite write)
    (few : GivesValue write.op → size_of write ≤ options.words) where
  abbrev put_of : Option Record → Cache
  put_of o = cs.after_put o s write

  -- a record that is appended

  module _ (value : List ℕ) (short : item_size write.key value ≤ options.words) where
    abbrev new : Record
    new = new_record s write.key value

    abbrev appended : Cache
    appended = cs.after_append s (new_record s write.key value)

    new_is : has_key write.key new ≡ true
    new_is = laid.has_its_key write.key new refl

    alone : find (has_key write.key) (new ∷ []) ≡ Some new
    alone = ap (λ b. cond b (Some new) None) new_is

    live_are : live_of options appended ≡ filter (live_test options appended) (others write.key s.records) ++ new ∷ []
    live_are = grind (arith, common_steps)

    few_others : count_by (here_of options write) (filter (live_test options appended) (others write.key s.records)) ≤ SLOTS
    few_others =
        search (rules, found.count_filter (here_of options write) (live_test options appended) (others write.key s.records), found.count_filter (here_of options write))

    found_left : (rs : List Record) → find (has_key write.key) rs ≡ None → count_by (here_of options write) rs ≤ SLOTS
        → find (has_key write.key) (left_of options write (rs ++ new ∷ [])) ≡ Some new
    found_left rs none few =
        elim (eqb (count_by (here_of options write) (rs ++ new ∷ [])) (SLOTS + 1)) as (λ b. eqb (count_by (here_of options write) (rs ++ new ∷ [])) (SLOTS + 1) ≡ b
        → find (has_key write.key) (cond b (without_first (here_of options write) (rs ++ new ∷ [])) (rs ++ new ∷ [])) ≡ Some new) [
          | true ↦ λ full.
              let is_full = eqb-true (count_by (here_of options write) (rs ++ new ∷ [])) (SLOTS + 1) full in
              let all = sum_by_push (λ (r : Record). cond {A = ℕ} (here_of options write r) 1 0) rs new in
              let one : cond {A = ℕ} (here_of options write new) 1 0 ≤ 1 = elim (here_of options write new) as (λ b. cond {A = ℕ} b 1 0 ≤ 1) [ true ↦ omega arith | false ↦ omega arith ] in
              let some : 0 < count_by (here_of options write) rs = omega arith in
              ap (find (has_key write.key)) (found.without_first_push (here_of options write) rs new some)
              ∙ found.found_append_none (has_key write.key) (without_first (here_of options write) rs) (new ∷ []) (found.missed_without_first (has_key write.key) (here_of options write) rs none)
              ∙ alone
          | false ↦ λ room. found.found_append_none (has_key write.key) rs (new ∷ []) none ∙ alone
        ] refl

    appended_stays : find (has_key write.key) (left_of options write (live_of options (cs.after_append s (new_record s write.key value)))) ≡ Some (new_record s write.key value)
    appended_stays =
        let rs = filter (live_test options appended) (others write.key s.records) in
        ap (λ all. find (has_key write.key) (left_of options write all)) live_are
        ∙ found_left rs (found.missed_filter (has_key write.key) (live_test options appended) (others write.key s.records) (others_lack write.key s.records)) few_others

    -- so it is the key's after the step
    appended_held : cs.after_write options s write ≡ cs.after_append s (new_record s write.key value)
        → record_of (cs.after options s write) write.key ≡ Some (new_record s write.key value)
    unfolding cs.after
    appended_held written = ap (λ (t : Cache). find (has_key write.key) (left_of options write (live_of options t))) written ∙ appended_stays

    -- and the words of its item are in its room
    own_appended : cs.after_write options s write ≡ cs.after_append s (new_record s write.key value) → (p : ℕ)
        → cs.IsInItem (record_of (cs.after_append s (new_record s write.key value)) write.key) p
        → (r : Record) × (record_of (cs.after options s write) write.key ≡ Some r) × (r.offset ≤ p) × (p < r.offset + r.room)
    own_appended written p item = grind (arith, common_steps, appended_own options s write value, appended_held written)

  -- a put that is kept

  module _ (held : Record) (keeps : KeepsPut options s write held) where
    abbrev now_held : Record
    now_held = record held { value = write.value }

    rewritten_held : rewritten write held ≡ record held { value = write.value }
    rewritten_held = ap (λ b. cond b (record held { value = write.value }) held) (found.found_passes (has_key write.key) s.records held keeps.is)

    rewritten_stays : find (has_key write.key) (left_of options write (live_of options (put_of (Some held)))) ≡ Some (record held { value = write.value })
    rewritten_stays =
        let t = put_of (Some held) in
        let live = live_of options t in
        let here = laid.found_map (rewritten write) (rewritten_key write) write.key s.records held keeps.is ∙ ap Some rewritten_held in
        let passes = found.found_filter (has_key write.key) (live_test options t) t.records now_held here (le-leb (tail_of (s.stamp + 1)) (held.offset + options.words) keeps.live) in
        let fewer = found.count_filter (here_of options write) (live_test options t) t.records in
        let same = count_map (here_of options write) (rewritten write) (λ r. ap (λ k. eqb (bucket_of options.hashing k options.buckets) (bucket_of options.hashing write.key options.buckets)) (rewritten_key write r)) s.records in
        let few = kept.buckets (bucket_of options.hashing write.key options.buckets) in
        let not_full : count_by (here_of options write) live ≡ SLOTS + 1 → ⊥ = λ full. omega arith in
        ap (λ b. find (has_key write.key) (cond b (without_first (here_of options write) live) live)) (ne_eqb (count_by (here_of options write) live) (SLOTS + 1) not_full) ∙ passes

  -- where the item of a put begins, and the room that it has
  pub record PutRecord (t : Cache) (o : Option Record) : Type 0 where
    pub held : Record
    pub stays : find (has_key write.key) (left_of options write (live_of options t)) ≡ Some held
    pub value : held.value ≡ write.value
    pub offset : held.offset ≡ begin_of o s
    pub size : size_of write ≤ held.room

  put_record_by : GivesValue write.op → (o : Option Record) → kept_record options s write ≡ o → PutRecord (put_of o) o
  put_record_by gives None at = grind (arith, common_steps, appended_stays write.value (few gives))
  put_record_by gives (Some held) at = grind (arith, rewritten_stays held (keeps_put options s write held at))

  put_record_of : GivesValue write.op → (op : Op) → op ≡ Put → PutRecord (cs.after_op op options s write) (kept_record options s write)
  put_record_of gives op at = grind (arith, put_record_by gives (kept_record options s write) refl)

  written_by : (op : Op) → GivesValue op → is_some (record_of (cs.after_op op options s write) write.key) ≡ true
  written_by op gives = grind (arith, (written_own options s write (kept_record options s write) refl).1, appended_own options s write write.value, gives)

  -- after a put, its key has a record of its value, whose room has the item
  pub put_held : write.op ≡ Put → (r : Record) × (record_of (cs.after options s write) write.key ≡ Some r) × (r.value ≡ write.value) × (r.offset ≡ offset_of options s write) × (size_of write ≤ r.room)
  unfolding cs.after
  put_held at = let p = put_record_of (subst GivesValue (sym at) tt) write.op at in (p.held, p.stays, p.value, p.offset, p.size)

  held_by : (op : Op) → write.op ≡ op → GivesValue op → (r : Record) × (record_of (cs.after options s write) write.key ≡ Some r)
  held_by Put at gives = let mine = put_held at in (mine.0, mine.1)
  held_by Add at gives = grind (arith, common_steps, appended_held write.value (few (subst GivesValue (sym at) gives)))
  held_by Touch at gives = absurd gives
  held_by Del at gives = absurd gives

  -- a write that gives a value leaves its key a record
  pub value_held : GivesValue write.op → (r : Record) × (record_of (cs.after options s write) write.key ≡ Some r)
  value_held gives = held_by write.op refl gives

  -- and so it has one after the write itself
  pub written_held : GivesValue write.op → is_some (record_of (cs.after_write options s write) write.key) ≡ true
  written_held gives = written_by write.op gives

  -- what a key has whose record is touched fits the log, since its room ends at the tail and the log has not passed where it begins
  touched_fits : (held : Record) → record_of s write.key ≡ Some held → item_size write.key held.value ≤ options.words
  touched_fits held at = let window = window_kept options s kept write.key held at in let fits = fits_kept options s kept write.key held at in omega (arith, window.0, window.1, fits.4)

  own_touched : (o : Option Record) → record_of s write.key ≡ o → cs.after_write options s write ≡ cs.after_touch o s write → (p : ℕ)
      → cs.IsInItem (record_of (cs.after_touch o s write) write.key) p
      → (r : Record) × (record_of (cs.after options s write) write.key ≡ Some r) × (r.offset ≤ p) × (p < r.offset + r.room)
  own_touched None at _ p item = absurd (subst (λ (o : Option Record). cs.IsInItem o p) at item)
  own_touched (Some held) at written p item = own_appended held.value (touched_fits held at) written p item

  own_by : (op : Op) → write.op ≡ op → (p : ℕ) → cs.IsInItem (record_of (cs.after_op op options s write) write.key) p
      → (r : Record) × (record_of (cs.after options s write) write.key ≡ Some r) × (r.offset ≤ p) × (p < r.offset + r.room)
  own_by Put at p item = grind (arith, common_steps, written_own options s write (kept_record options s write) refl, put_held at)
  own_by Add at p item = own_appended write.value (few (subst GivesValue (sym at) tt)) (ap (λ (op : Op). cs.after_op op options s write) at) p item
  own_by Touch at p item = own_touched (record_of s write.key) refl (ap (λ (op : Op). cs.after_op op options s write) at) p item
  own_by Del at p item = absurd (subst (λ (o : Option Record). cs.IsInItem o p) (others_lack write.key s.records) item)

  pub own_kept : (p : ℕ) → cs.IsOfItem options s write p → (r : Record) × (record_of (cs.after options s write) write.key ≡ Some r) × (r.offset ≤ p) × (p < r.offset + r.room)
  own_kept p item = own_by write.op refl p item

-- the tail never falls
pub tail_rises : (options : Options) (s : Cache) (write : Write) → tail_of s.stamp ≤ tail_of (cs.after options s write).stamp
tail_rises options s write = let more = after_rises options (cache_state s) write in omega arith
