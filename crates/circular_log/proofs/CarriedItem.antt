-- What is known of an item that is carried, and what copying its words makes of the state.
use Rattle.std.proofs.Common.{rules}
use Rattle.std.proofs.lemmas.Grind.{common_steps}
use Rattle.std.proofs.Common.{◌≡◌, ℕ, suc, ◌+◌, ◌<◌, ◌≤◌, List, ◌∷◌, ◌++◌, length, get_or, Some, refl, sym, ap, ◌∙◌, subst, arith}
use Rattle.std.specs.List.{AllByRecursion}
use Rattle.std.proofs.lemmas.Grind.{same_number_lists}
use Rattle.mica_words.specs.Hash.{hash_of}
use Rattle.mica_words.specs.Header.{header_of, header_key_len, header_value_len}
use Rattle.mica_words.specs.Item.{item_size, words_for}
use Rattle.mica_words.specs.Packing.{packed}
use Rattle.mica_words.specs.Spelling.{item_words}
use Rattle.mica_words.proofs.ItemWords.{item_words_are, length-item_words}
use Rattle.partition_model.specs.declared.write.Write.{Write}
use Rattle.partition_model.specs.Write.{IsWrite}
use Rattle.partition_model.specs.Cache.{Record, has_key, record_of}
use Rattle.partition_model.specs.CacheStep.{after_write}
use Rattle.partition_model.specs.History.{History, State, cache_state, store_state, state_of}
use Rattle.partition_model.proofs.CacheKept.{IsRecord}
use Rattle.partition_model.proofs.CacheLaws.{appended_own, kept_in, touched_is, window_kept}
use Rattle.partition_model.proofs.Found.{found_has}
use Rattle.partition_model.proofs.Laid.{found_key}
use Rattle.partition_words.specs.declared.event.Event.TheVariants.{PutsWord}
use Rattle.partition_words.specs.declared.state.OwnerState.{OwnerState}
use Rattle.partition_words.specs.declared.state.Phase.{Phase}
use Rattle.partition_words.specs.declared.state.Phase.TheVariants.{Marked}
use Rattle.partition_words.specs.Layout.{item_at}
use Rattle.partition_words.specs.OwnerState.{item_in, options_in}
use Rattle.partition_words.specs.Events.{WhenMarked, MayPutWord, CanPlay, after, plays, puts_from}
use Rattle.partition_words.specs.Kept.{PhaseFits, Kept}
use Rattle.partition_words.proofs.EventWords.{other}
use Rattle.partition_words.proofs.Log.{not_below}
use Rattle.partition_words.proofs.Machine.{all_parts}
use Rattle.circular_log.specs.LogItem.{IsItem, words_from}
use Rattle.circular_log.specs.LogWrite.{LeavesItem, with_item}
use Rattle.circular_log.specs.LogCarry.{Carries, IsTouchOf, StoresBehind}
use Rattle.circular_log.proofs.LoadedValue.{key_len_is, length-words_from, value_len_is, word_from}
use Rattle.circular_log.proofs.MarkedItem.{can_store}

-- The item of the touched key's record stands there still, in the log's window, and the touch leaves its key this item at the tail.
pub record CarriedItem (o : OwnerState) (from to : ℕ) (held : Record) : Type 0 where
  pub item : IsItem o from held.key (record { value = held.value; room = held.room })
  pub size : item_size held.key held.value ≤ held.room
  pub behind : from + held.room ≤ to
  pub near : to ≤ from + o.shape.words
  pub leaves : LeavesItem o to (item_size held.key held.value) held.key held.value

module _ (o : OwnerState) (s : Kept o) (from to : ℕ) (held : Record) (c : Carries o from to held) where
  by_state : (b : ℕ) (write : Write) (before : History) → o.phase ≡ Marked b write before → AllByRecursion IsWrite before → (now : State) → state_of (options_in o) before ≡ now
      → IsTouchOf now write from to held → CarriedItem o from to held
  by_state b write before is writes (cache_state m) at touched =
      let kept = kept_in (options_in o) before writes m at in
      let fine = found_has IsRecord (has_key write.key) m.records held kept.are touched.1 in
      let window = window_kept (options_in o) m kept write.key held touched.1 in
      let key : write.key ≡ held.key = sym (found_key write.key m.records held touched.1) in
      let left : record_of (after_write (options_in o) m write) write.key ≡ Some (record { key = held.key; value = held.value; offset = to; room = item_size held.key held.value }) =
      search (rules, touched_is, appended_own, Some, options_in, key, item_size) in
      record {
        item = record { key_fits = fine.key; value_fits = fine.value; value_bytes = fine.value_bytes; room_fits = (let room = fine.room in omega arith); spelt = c.there };
        size = fine.size;
        behind = omega (arith, window.1, touched.2, touched.3);
        near = omega (arith, window.0, touched.2, touched.3);
        leaves = grind (arith, common_steps);
      }
  by_state b write before is writes (store_state m) at touched = absurd touched

  by_phase : (phase : Phase) → o.phase ≡ phase → WhenMarked phase (λ b write before. IsTouchOf (state_of (options_in o) before) write from to held) → CarriedItem o from to held
  by_phase phase is touched = grind (arith, PhaseFits o, is, s.phase, all_parts IsWrite, by_state)

  pub carried_item : CarriedItem o from to held
  carried_item = by_phase o.phase refl c.touched

  abbrev size : ℕ
  size = item_size held.key held.value

  abbrev header : ℕ
  header = header_of (item_size held.key held.value) (length held.key) (length held.value)

  -- the words behind the header
  abbrev rest : List ℕ
  rest = hash_of o.shape.hashing held.key ∷ (packed held.key ++ packed held.value)

  -- the state once the header is stored
  abbrev pub begun : OwnerState
  begun = after (PutsWord to (header_of (item_size held.key held.value) (length held.key) (length held.value))) o

  words_of : (room : ℕ) → item_words o.shape.hashing room held.key held.value ≡ header_of room (length held.key) (length held.value) ∷ rest
  words_of room = item_words_are o.shape.hashing room held.key held.value

  length-rest : length rest + 1 ≡ size
  length-rest = omega (arith, ap length (words_of size), length-item_words o.shape.hashing size held.key held.value)

  can : CanPlay (puts_from to (header ∷ rest)) o
  can = subst (λ (xs : List ℕ). CanPlay (puts_from to xs) o) (words_of size) (can_store o s to size held.key held.value carried_item.leaves size)

  pub may_begin : MayPutWord o to
  may_begin = can.0

  -- The header that stands there tells the item's size

  pub key_len : (word n : ℕ) → word ≡ item_in o from → n ≡ header_key_len word → n ≡ length held.key
  key_len word n at is = is ∙ key_len_is o from held.key (record { value = held.value; room = held.room }) carried_item.item word at

  pub value_len : (word n : ℕ) → word ≡ item_in o from → n ≡ header_value_len word → n ≡ length held.value
  value_len word n at is = is ∙ value_len_is o from held.key (record { value = held.value; room = held.room }) carried_item.item word at

  -- so this is the header of the carried item
  pub begun_is : (word keys values size header : ℕ) → word ≡ item_in o from → keys ≡ header_key_len word → values ≡ header_value_len word → size ≡ 2 + words_for keys + words_for values
      → header ≡ header_of size keys values → (now new : OwnerState) → now ≡ o → new ≡ after (PutsWord to header) now → (new ≡ begun) × (size ≡ item_size held.key held.value)
  begun_is word keys values size header at keys_are values_are size_is header_is now new same stored =
      grind (arith, key_len word keys at keys_are, value_len word values at values_are)

  -- each word behind the header stands where it stood
  rest_word : (k : ℕ) → k < length rest → item_in begun (from + 1 + k) ≡ get_or rest k 0
  rest_word k low =
      let place : from + 1 + k ≡ from + suc k = omega arith in
      let far = carried_item.behind in
      let near = carried_item.near in
      let long = carried_item.size in
      other o (PutsWord to header) (item_at o.shape (from + 1 + k))
      (λ same. not_below o.shape.words (from + 1 + k) to (omega arith) (omega (arith, length-rest)) (omega arith))
      ∙ (ap (item_in o) place ∙ (c.there (suc k) (omega (arith, length-rest)) ∙ ap (λ (xs : List ℕ). get_or xs (suc k) 0) (words_of held.room)))

  module _ (count : ℕ) (all : count + 1 ≡ size) where
    words_are : words_from begun (from + 1) count ≡ rest
    words_are = same_number_lists (words_from begun (from + 1) count) rest (omega (arith, length-words_from begun (from + 1) count, length-rest))
        (λ i low. let less : i < count = omega (arith, length-words_from begun (from + 1) count) in
        word_from begun (from + 1) count i less ∙ rest_word i (omega (arith, length-rest)))

    pub stores_behind : StoresBehind o.shape (from + 1) (to + 1) count
    stores_behind i j less low same = omega (arith, carried_item.behind, carried_item.near, carried_item.size, not_below o.shape.words (from + 1 + j) (to + 1 + i))

    pub can_copy : CanPlay (puts_from (to + 1) (words_from begun (from + 1) count)) begun
    can_copy = subst (λ (xs : List ℕ). CanPlay (puts_from (to + 1) xs) begun) (sym words_are) can.1

    pub copied_is : plays (puts_from (to + 1) (words_from begun (from + 1) count)) begun ≡ with_item o to size held.key held.value
    copied_is = ap (λ (xs : List ℕ). plays (puts_from (to + 1) xs) begun) words_are ∙ sym (ap (λ (xs : List ℕ). plays (puts_from to xs) o) (words_of size))
