-- What a try's loads spell, while its bucket's epoch has not moved, is the machine's answer.
use Rattle.std.proofs.lemmas.Grind.{common_steps}
use Rattle.partition_words.proofs.Vocabulary.{AreBytes, Cell, Contains, Has, HasChain, HasKey, HasLiveEntry, InChain, IsAmong, IsDense, IsLive, IsSpelt, Kept, List, Mode, None, Store}
use Rattle.partition_words.proofs.Vocabulary.{Option, OwnerState, Some, Spells, StandsFor, State, Try, TryKept, [], answer_of, ap, arith, bucket_in}
use Rattle.partition_words.proofs.Vocabulary.{by_entry, by_item, by_link, cache_state, cell_at, entry_at, entry_in, entry_offset, epoch_in, hash_of, get}
use Rattle.partition_words.proofs.Vocabulary.{header_key_len, header_value_len, inl, inr, item_at, item_in, item_size, length, link_at, link_in}
use Rattle.partition_words.proofs.Vocabulary.{option_map, options_in, packed, refl, same_value, slice_index, stamp_of, state_in, store_state, subst, suc}
use Rattle.partition_words.proofs.Vocabulary.{sym, unpacked, value_in, value_word, words_for, zero, ℕ, ◌+◌, ◌<◌, ◌∙◌, ◌∷◌, ◌≡◌, ◌≢◌}
use Rattle.partition_model.specs.Cache.{Record, record_of}
use Rattle.partition_words.specs.Spelt.{HasLinks, HasLoad, IsNoEntryOf, LinksTo, ShowsItem, ShowsOther, SpellsAnswer, by_hash, by_item as by_other, by_key_len}
use Rattle.partition_words.specs.Spelt.{by_key_word, by_offset, by_stamp, by_tag, by_value_len}
use Rattle.partition_words.proofs.Machine.{Fits, has_fits}
use Rattle.partition_words.proofs.Keys.{has_its_key, has_no_other, header_there}
use Rattle.partition_words.proofs.Failing.{in_cons, in_head, in_none, in_tail}
use Rattle.mica_words.proofs.Fields.{header_value_len-header_of}

-- what the machine has is its answer, and the other way round

value_has : (now : State) (key : List ℕ) (cell : Cell) (p : ℕ) → Has now key cell p → value_in now key ≡ Some cell.value
value_has (cache_state s) key cell p h = grind (arith, common_steps)
value_has (store_state s) key cell p h = ap (option_map (λ (z : Cell). z.value)) h

found_some : {X : Type 0} (value_of : X → List ℕ) (found : Option X) (value : List ℕ) → option_map value_of found ≡ Some value
    → (x : X) × (found ≡ Some x)
found_some value_of None value e = cc e
found_some value_of (Some x) value e = (x, refl)

has_value : (now : State) (key value : List ℕ) → value_in now key ≡ Some value → (cell : Cell) × (p : ℕ) × Has now key cell p
has_value (cache_state s) key value e =
    let r = found_some (λ (r : Record). r.value) (record_of s key) value e in
    (record { value = r.0.value; room = r.0.room }, r.0.offset, ap (option_map cell_at) r.1)
has_value (store_state s) key value e = let cell = found_some (λ (z : Cell). z.value) (get s.cells key) value e in (cell.0, 0, cell.1)

module _ (o : OwnerState) (s : Kept o) (t : Try) (k : TryKept o t) (still : epoch_in o t.bucket ≡ t.first) (f : StandsFor o t.bucket) where
  -- the walk over the links that were loaded is the chain

  link_now : (c n : ℕ) → InChain o t.bucket c → HasLoad t.loads (link_at o.shape c) n → link_in o c ≡ n
  link_now c n h load = k.loads still (link_at o.shape c) n load (by_link c h refl)

  entry_now : (c slot entry : ℕ) → InChain o t.bucket c → slot < 15 → HasLoad t.loads (entry_at o.shape c slot) entry → entry_in o c slot ≡ entry
  entry_now c slot entry h x load = k.loads still (entry_at o.shape c slot) entry load (by_entry c slot h x refl)

  among_more : (n b d : ℕ) → link_in o b ≡ d → d ≢ 0 → (e : ℕ) → IsAmong o n d e → IsAmong o (suc n) b e
  among_more n b d is some e among = inr (λ none. some (sym is ∙ none), subst (λ (z : ℕ). IsAmong o n z e) (sym is) among)

  walk : (n b : ℕ) (cs : List ℕ) → ((d : ℕ) → IsAmong o (suc n) b d → InChain o t.bucket d) → LinksTo o.shape t.loads n b cs
      → (c : ℕ) → Contains (b ∷ cs) c → IsAmong o (suc n) b c
  walk n b [] up h c i = elim (in_cons b c [] i) [ inl e ↦ inl e | inr none ↦ absurd (in_none c none) ]
  walk zero b (d ∷ cs) up h c i = absurd h
  walk (suc n) b (d ∷ cs) up h c i =
      let more = among_more (suc n) b d (link_now b d (up b (inl refl)) h.1) h.0 in
      elim (in_cons b c (d ∷ cs) i) [ inl e ↦ inl e | inr i' ↦ more c (walk n d cs (λ e among. up e (more e among)) h.2 c i') ]

  dense : o.shape.mode ≡ Store → IsDense o t.bucket
  dense store = (subst (λ (m : Mode). HasChain m o t.bucket) store f.chain).0

  meets : (n b : ℕ) (cs : List ℕ) → ((d : ℕ) → IsAmong o (suc n) b d → InChain o t.bucket d) → HasLinks o.shape t.loads n b cs
      → (c : ℕ) → IsAmong o (suc n) b c → Contains (b ∷ cs) c
  meets n b cs up h c (inl e) = subst (Contains (b ∷ cs)) e (in_head b cs)
  meets zero b cs up h c (inr i) = absurd i.1
  meets (suc n) b [] up h c (inr i) = absurd (i.0 (link_now b 0 (up b (inl refl)) h))
  meets (suc n) b (d ∷ cs) up h c (inr i) =
      let is = link_now b d (up b (inl refl)) h.1 in
      in_tail b c (d ∷ cs) (meets n d cs (λ e among. up e (among_more (suc n) b d is h.0 e among)) h.2 c
      (subst (λ (z : ℕ). IsAmong o (suc n) z c) is i.1))

  -- the words of a live entry's item that were loaded are the item's

  module _ (c slot entry : ℕ) (h : HasLiveEntry o t.bucket c slot entry) (key : List ℕ) (cell : Cell) (sp : Spells o t.bucket entry key cell) where
    fits : Fits key cell
    fits = has_fits (options_in o) o.history s.history.writes key cell (entry_offset entry) sp.has

    its_key : HasKey o (entry_offset entry) key
    its_key = has_its_key o s t.bucket entry key cell sp

    word_now : (i p x : ℕ) → p ≡ entry_offset entry + i → i < item_size key cell.value → HasLoad t.loads (item_at o.shape p) x → item_in o p ≡ x
    word_now i p x at l load =
        let room = sp.in_room in k.loads still (item_at o.shape p) x load (by_item c slot entry i h (omega arith) (ap (item_at o.shape) at))

    header_now : (x : ℕ) → HasLoad t.loads (item_at o.shape (entry_offset entry)) x → item_in o (entry_offset entry) ≡ x
    header_now x load = word_now 0 (entry_offset entry) x (omega arith) (omega arith) load

    value_len_is : (x : ℕ) → HasLoad t.loads (item_at o.shape (entry_offset entry)) x → header_value_len x ≡ length cell.value
    value_len_is x load =
        grind (arith, common_steps, header_now x load, header_there o (entry_offset entry) key cell sp.item, header_value_len-header_of cell.room (length key) (length cell.value) fits.5 (omega (arith, fits.0)))

    value_word_is : (i x n : ℕ) → n ≡ words_for (length key) → i < words_for (length cell.value)
        → HasLoad t.loads (item_at o.shape (entry_offset entry + 2 + n + i)) x → slice_index (packed cell.value) i ≡ x
    value_word_is i x n same l load =
        let at = 2 + words_for (length key) + i in
        let place : entry_offset entry + 2 + n + i ≡ entry_offset entry + at = omega arith in
        sym (value_word o.shape.hashing cell.room key cell.value i l) ∙ sym (sp.item at (omega arith)) ∙ rw (sym place) (word_now at _ x place (omega arith) load)

    -- they do not tell that it is another key's
    not_other : ¬ (ShowsOther o.shape t.loads (entry_offset entry) key)
    not_other (by_offset out) = out sp.offset
    not_other (by_key_len x load other) = other (ap header_key_len (sym (header_now x load)) ∙ its_key.len)
    not_other (by_value_len x load long) = omega (arith, fits.2, value_len_is x load)
    not_other (by_hash x load other) = other (sym (word_now 1 (entry_offset entry + 1) x refl (omega arith) load) ∙ its_key.hash)
    not_other (by_key_word i x l load other) = other (sym (word_now (2 + i) _ x (omega arith) (omega arith) load) ∙ its_key.words i l)

    -- where they tell that it is a key's, it is, with that value
    is_item : (key' value : List ℕ) → AreBytes key' → ShowsItem o.shape t.loads (entry_offset entry) key' value → (key ≡ key') × (cell.value ≡ value)
    is_item key' value bytes shows =
        let len : header_key_len (item_in o (entry_offset entry)) ≡ length key' =
        ap header_key_len (header_now shows.header shows.header_load) ∙ shows.key_len in
        let one : length key ≡ length key' = sym its_key.len ∙ len in
        let two : length cell.value ≡ length value = sym (value_len_is shows.header shows.header_load) ∙ shows.value_len in
        let long : length shows.words ≡ words_for (length cell.value) = shows.words_len ∙ ap words_for (sym two) in
        let held : unpacked (length cell.value) shows.words ≡ cell.value = same_value cell.value shows.words fits.3 long
        (λ i l. sym (value_word_is i (slice_index shows.words i) (words_for (length key')) (ap words_for (sym one))
        (subst (λ (z : ℕ). i < z) long l) (shows.value_words i l))) in (
          has_no_other o s t.bucket entry key cell sp key' bytes record {
            len = len;
            hash = word_now 1 (entry_offset entry + 1) (hash_of o.shape.hashing key') refl (omega arith) shows.hash;
            words = λ i l. word_now (2 + i) _ (slice_index (packed key') i) (omega arith) (omega (arith, one, l)) (shows.key_words i l);
          },
          sym held ∙ (ap (λ (z : ℕ). unpacked z shows.words) two ∙ shows.held),
        )

  -- a live entry of the key's is not shows to be none
  is_one : (c slot entry : ℕ) (h : HasLiveEntry o t.bucket c slot entry) (key : List ℕ) (cell : Cell) → Spells o t.bucket entry key cell
      → ¬ (IsNoEntryOf o.shape t.loads (stamp_of (options_in o) o.history) key entry)
  is_one c slot entry h key cell sp (by_tag other) = other sp.tag
  is_one c slot entry h key cell sp (by_stamp dead) = dead (subst (λ (z : ℕ). IsLive o.shape z entry) s.stamp h.live)
  is_one c slot entry h key cell sp (by_other shows) = not_other c slot entry h key cell sp shows

  told_answer : (key : List ℕ) → AreBytes key → bucket_in o key ≡ t.bucket → (value : Option (List ℕ))
      → SpellsAnswer o.shape t.loads (stamp_of (options_in o) o.history) t.bucket key value
      → (now : Option (List ℕ)) → answer_of (options_in o) o.history key ≡ now → now ≡ value
  told_answer key bytes bucket None spell None is = refl
  told_answer key bytes bucket None spell (Some v) is =
      let has = has_value (state_in o) key v is in
      let at = f.each key has.0 has.1 bucket has.2 in
      let h = at.3 in
      elim (spell.slots at.0 at.1 (meets o.shape.spares t.bucket spell.behind (λ c h. h) spell.links at.0 h.in_chain) h.in_bucket) [
        | inl empty ↦
            absurd ((dense empty.0).in_order at.0 empty.1 at.1 h.in_chain empty.2 h.in_bucket (λ none. h.live.0 (sym h.found ∙ none))
            (entry_now at.0 empty.1 0 h.in_chain (omega (arith, empty.2, h.in_bucket)) empty.3))
        | inr shows ↦
            let same : shows.0 ≡ at.2 = sym (entry_now at.0 at.1 shows.0 h.in_chain h.in_bucket shows.1) ∙ h.found in
            absurd (is_one at.0 at.1 at.2 h key has.0 at.4 (rw same at shows.2))
      ]
  told_answer key bytes bucket (Some value) spell now is =
      let entry = spell.entry in
      let at = spell.of_key in
      let among = walk o.shape.spares t.bucket spell.behind (λ c h. h) spell.links at.bucket at.in_chain in
      let h : HasLiveEntry o t.bucket at.bucket at.slot entry = record {
        in_chain = among;
        in_bucket = at.in_bucket;
        found = entry_now at.bucket at.slot entry among at.in_bucket at.load;
        live = subst (λ (z : ℕ). IsLive o.shape z entry) (sym s.stamp) spell.live;
      } in
      let some = f.nothing_else at.bucket at.slot entry h in
      let same = is_item at.bucket at.slot entry h some.0 some.1 some.2 key value bytes spell.item in
      grind (arith, common_steps, value_has (state_in o) some.0 some.1 (entry_offset entry) some.2.has)

  pub spells : IsSpelt o.shape t.bucket record { history = o.history; loads = t.loads }
  spells key value bytes bucket spell = told_answer key bytes bucket value spell (answer_of (options_in o) o.history key) refl
