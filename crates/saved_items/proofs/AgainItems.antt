-- A head and entries that were written are read again.
use Rattle.std.proofs.Common.{◌≡◌, ℕ, ◌+◌, ◌*◌, ◌/◌, ◌%◌, ◌^◌, ◌<◌, ◌≤◌, Bool, true, false, ltb, eqb, List, [], ◌∷◌, ◌++◌, length, refl, ap, ◌∙◌, arith, append_assoc}
use Rattle.std.specs.Prelude.{Option, Some, Result, Ok}
use Rattle.std.specs.List.{AllByRecursion}
use Rattle.std.specs.Int.{w64, from_le_bytes}
use Rattle.std.proofs.lemmas.Bool.{lt-ltb, ne_eqb, eq-eqb}
use Rattle.std.proofs.lemmas.Nat.{from_le_bytes-to_le_bytes_8}
use Rattle.mica_words.specs.Item.{words_for}
use Rattle.mica_words.specs.Packing.{packed, packed_words, little}
use Rattle.mica_words.proofs.PackedBytes.{length-words}
use Rattle.word_sums.specs.Sum.{IsWord}
use Rattle.mica_words.specs.declared.item.TheConstants.{MAX_STORED_LEN}
use Rattle.saved_items.specs.declared.items.TheConstants.{MAX_SAVED_KEY_LEN}
use Rattle.saved_items.specs.declared.fault.SavedFault.{SavedFault}
use Rattle.saved_items.specs.declared.items.Head.{Head}
use Rattle.saved_items.specs.declared.items.Hashing.{Hashing}
use Rattle.saved_items.specs.declared.items.Hashing.TheVariants.{Papers, Secret}
use Rattle.saved_items.specs.declared.items.SavedMode.{SavedMode}
use Rattle.saved_items.specs.declared.items.SavedMode.TheVariants.{Cache, Store}
use Rattle.saved_items.specs.declared.items.Closing.{Closing}
use Rattle.saved_items.specs.declared.items.Lengths.{Lengths}
use Rattle.saved_items.specs.Items.{Pair, Entry, Keeps, Closes, HeadFits, HashingFits, ClosingFits, PairFits, EntryFits, close_after}
use Rattle.saved_items.specs.Spelling.{word_text, words_text, head_words, bit, pair_word, pair_text, entry_text}
use Rattle.saved_items.specs.Reading.{Stream, Stop, word_at, head_in, head_at, lengths_in, texts_at, closing_at, behind_word, entry_at, ◌>>=◌}
use Rattle.saved_items.proofs.Again.{bytes_again, word_again}

-- ---- words

pub little_eight : (a b c d e f g h : ℕ) → little (a ∷ b ∷ c ∷ d ∷ e ∷ f ∷ g ∷ h ∷ []) ≡ from_le_bytes w64 (a ∷ b ∷ c ∷ d ∷ e ∷ f ∷ g ∷ h ∷ [])
little_eight a b c d e f g h = omega arith

pub little_word : (word : ℕ) → IsWord word → little (word_text word) ≡ word
little_word word is = little_eight _ _ _ _ _ _ _ _ ∙ from_le_bytes-to_le_bytes_8 word is

packed_words_text : (words : List ℕ) → AllByRecursion IsWord words → packed_words (length words) (words_text words) ≡ words
packed_words_text [] are = refl
packed_words_text (word ∷ words) are =
    ap (λ (w : ℕ). w ∷ packed_words (length words) (words_text words)) (little_word word are.0)
    ∙ ap (λ (ws : List ℕ). word ∷ ws) (packed_words_text words are.1)

pub packed_text : (words : List ℕ) → AllByRecursion IsWord words → packed (words_text words) ≡ words
unfolding packed
packed_text words are =
    let count : words_for (length (words_text words)) ≡ length words = omega (arith, length-words words) in
    ap (λ (n : ℕ). packed_words n (words_text words)) count ∙ packed_words_text words are

-- ---- the head

in_range : (partitions : ℕ) → 1 ≤ partitions → partitions ≤ 65536 → (ltb 0 partitions ≡ true) × (ltb partitions 65537 ≡ true)
in_range partitions some few = (lt-ltb 0 partitions (omega arith), lt-ltb partitions 65537 (omega arith))

head_again_words : (second partitions : ℕ) (hashing : Hashing) (mode : SavedMode) → 1 ≤ partitions → partitions ≤ 65536
    → head_in (head_words (record { second = second; hashing = hashing; mode = mode; partitions = partitions }))
    ≡ Ok (record { second = second; hashing = hashing; mode = mode; partitions = partitions })
head_again_words second partitions Papers Cache some few = let t = in_range partitions some few in rw (t.0, t.1) refl
head_again_words second partitions Papers Store some few = let t = in_range partitions some few in rw (t.0, t.1) refl
head_again_words second partitions (Secret k0 k1) Cache some few = let t = in_range partitions some few in rw (t.0, t.1) refl
head_again_words second partitions (Secret k0 k1) Store some few = let t = in_range partitions some few in rw (t.0, t.1) refl

words_of_head : (head : Head) → HeadFits head → AllByRecursion IsWord (head_words head) × (length (words_text (head_words head)) ≡ 56)
words_of_head head fits = are head.hashing head.mode fits.hashing
  where
    are : (hashing : Hashing) (mode : SavedMode) → HashingFits hashing
        → AllByRecursion IsWord (head_words (record head { hashing = hashing; mode = mode })) × (length (words_text (head_words (record head { hashing = hashing; mode = mode }))) ≡ 56)
    are Papers Cache h = ((omega arith, (fits.second, (omega arith, (omega arith, (omega arith, (omega arith, (omega (arith, fits.partitions), tt))))))), refl)
    are Papers Store h = ((omega arith, (fits.second, (omega arith, (omega arith, (omega arith, (omega arith, (omega (arith, fits.partitions), tt))))))), refl)
    are (Secret k0 k1) Cache h = ((omega arith, (fits.second, (omega arith, (h.0, (h.1, (omega arith, (omega (arith, fits.partitions), tt))))))), refl)
    are (Secret k0 k1) Store h = ((omega arith, (fits.second, (omega arith, (h.0, (h.1, (omega arith, (omega (arith, fits.partitions), tt))))))), refl)

pub head_again : (head : Head) (rest : List ℕ) (stop : Stop) → HeadFits head
    → head_at (record { content = words_text (head_words head) ++ rest; stop = stop }) ≡ Ok (head, record { content = rest; stop = stop })
unfolding head_at
head_again head rest stop fits =
    let words = words_of_head head fits in
    let found : head_in (packed (words_text (head_words head))) ≡ Ok head =
    ap head_in (packed_text (head_words head) words.0) ∙ head_again_words head.second head.partitions head.hashing head.mode fits.some fits.partitions in
    rw (bytes_again (words_text (head_words head)) rest stop 56 words.1, found) refl

-- ---- the pairs

lengths_made : (w k v r : ℕ) (l : Bool) → w % 256 ≡ k → w / 2048 % 2097152 ≡ 0 → w / 4294967296 ≡ v → w / 256 % 4 ≡ r → eqb (w / 1024 % 2) 1 ≡ l
    → ltb k (MAX_SAVED_KEY_LEN + 1) ≡ true → ltb v (MAX_STORED_LEN + 1) ≡ true
    → lengths_in w ≡ Some (record { key_len = k; value_len = v; reads = r; is_long = l })
lengths_made w k v r l key zeros value reads long few short = rw (key, zeros, value, reads, long, few, short) refl

lengths_again : (k v r : ℕ) (l : Bool) → k ≤ MAX_SAVED_KEY_LEN → v ≤ MAX_STORED_LEN → r < 4
    → lengths_in (k + 2 ^ 8 * r + 2 ^ 10 * bit l + 2 ^ 32 * v) ≡ Some (record { key_len = k; value_len = v; reads = r; is_long = l })
lengths_again k v r true few short reads =
    lengths_made (k + 256 * r + 1024 * 1 + 4294967296 * v) k v r true (omega arith) (omega arith) (omega arith) (omega arith)
    (ap (λ (n : ℕ). eqb n 1) (let e : (k + 256 * r + 1024 * 1 + 4294967296 * v) / 1024 % 2 ≡ 1 = omega arith in e))
    (lt-ltb k (MAX_SAVED_KEY_LEN + 1) (omega arith)) (lt-ltb v (MAX_STORED_LEN + 1) (omega arith))
lengths_again k v r false few short reads =
    lengths_made (k + 256 * r + 1024 * 0 + 4294967296 * v) k v r false (omega arith) (omega arith) (omega arith) (omega arith)
    (ap (λ (n : ℕ). eqb n 1) (let e : (k + 256 * r + 1024 * 0 + 4294967296 * v) / 1024 % 2 ≡ 0 = omega arith in e))
    (lt-ltb k (MAX_SAVED_KEY_LEN + 1) (omega arith)) (lt-ltb v (MAX_STORED_LEN + 1) (omega arith))

word_of_pair : (k v r : ℕ) (l : Bool) → k ≤ MAX_SAVED_KEY_LEN → v ≤ MAX_STORED_LEN → r < 4 → IsWord (k + 2 ^ 8 * r + 2 ^ 10 * bit l + 2 ^ 32 * v)
word_of_pair k v r true few short reads = omega arith
word_of_pair k v r false few short reads = omega arith

pair_again : (pair : Pair) (rest : List ℕ) (stop : Stop) → PairFits pair → texts_at (lengths_in (pair_word pair)) (record { content = pair.key ++ (pair.value ++ rest); stop = stop }) ≡ Ok (pair, record { content = rest; stop = stop })
unfolding texts_at
pair_again pair rest stop fits =
    let lengths = lengths_again (length pair.key) (length pair.value) pair.reads pair.is_long fits.key fits.value fits.reads in
    let texts : texts_at (Some (record { key_len = length pair.key; value_len = length pair.value; reads = pair.reads; is_long = pair.is_long })) (record { content = pair.key ++ (pair.value ++ rest); stop = stop })
    ≡ Ok (pair, record { content = rest; stop = stop }) =
    rw (bytes_again pair.key (pair.value ++ rest) stop (length pair.key) refl, bytes_again pair.value rest stop (length pair.value) refl) refl in
    ap (λ (o : Option Lengths). texts_at o (record { content = pair.key ++ (pair.value ++ rest); stop = stop })) lengths ∙ texts

low_byte : (k v r : ℕ) (l : Bool) → 0 < k → k ≤ MAX_SAVED_KEY_LEN → eqb ((k + 2 ^ 8 * r + 2 ^ 10 * bit l + 2 ^ 32 * v) % 2 ^ 8) 0 ≡ false
low_byte k v r true some few = ne_eqb ((k + 256 * r + 1024 * 1 + 4294967296 * v) % 256) 0 (λ e. omega arith)
low_byte k v r false some few = ne_eqb ((k + 256 * r + 1024 * 0 + 4294967296 * v) % 256) 0 (λ e. omega arith)

-- ---- what closes a partition

closing_again : (closing : Closing) (rest : List ℕ) (stop : Stop) → ClosingFits closing
    → closing_at (record { content = words_text (closing.written ∷ closing.next ∷ closing.until ∷ []) ++ rest; stop = stop }) ≡ Ok (closing, record { content = rest; stop = stop })
unfolding closing_at
closing_again closing rest stop fits =
    let words : AllByRecursion IsWord (closing.written ∷ closing.next ∷ closing.until ∷ []) = (fits.written, (omega (arith, fits.next), (fits.until, tt))) in
    let some : ltb 0 closing.next ≡ true = lt-ltb 0 closing.next fits.some in
    let low : ltb closing.next (2 ^ 62) ≡ true = lt-ltb closing.next (2 ^ 62) fits.next in
    rw (bytes_again (words_text (closing.written ∷ closing.next ∷ closing.until ∷ [])) rest stop 24 refl, packed_text (closing.written ∷ closing.next ∷ closing.until ∷ []) words, some, low) refl

-- ---- an entry

-- 256 times a number of pairs
abbrev pub IsClose : ℕ → Type 0
IsClose close = (close < 2 ^ 64) × (close % 256 ≡ 0)

pub close_is : (close : ℕ) (entry : Entry) → IsClose close → IsClose (close_after close entry)
close_is close (Keeps pair) is = (omega arith, omega (arith, is.1))
close_is close (Closes closing) is = (omega arith, omega arith)

pub entry_again : (close : ℕ) (entry : Entry) (rest : List ℕ) (stop : Stop) → IsClose close → EntryFits entry
    → entry_at close (record { content = entry_text close entry ++ rest; stop = stop }) ≡ Ok (entry, record { content = rest; stop = stop })
unfolding entry_at
entry_again close (Keeps pair) rest stop is fits =
    let word = pair_word pair in
    let regrouped : pair_text pair ++ rest ≡ word_text word ++ (pair.key ++ (pair.value ++ rest)) =
    append_assoc (word_text word ++ pair.key) pair.value rest ∙ append_assoc (word_text word) pair.key (pair.value ++ rest) in
    let first = word_again word (pair.key ++ (pair.value ++ rest)) stop (word_of_pair (length pair.key) (length pair.value) pair.reads pair.is_long fits.key fits.value fits.reads) in
    let low = low_byte (length pair.key) (length pair.value) pair.reads pair.is_long fits.some fits.key in
    let at : List ℕ → Result (Entry × Stream) SavedFault = λ c. word_at (record { content = c; stop = stop }) >>= λ w. behind_word close w.0 w.1 in
    ap at regrouped ∙ rw first (rw low (rw (pair_again pair rest stop fits) refl))
entry_again close (Closes closing) rest stop is fits =
    let words = words_text (closing.written ∷ closing.next ∷ closing.until ∷ []) in
    let regrouped : entry_text close (Closes closing) ++ rest ≡ word_text close ++ (words ++ rest) = append_assoc (word_text close) words rest in
    let first = word_again close (words ++ rest) stop is.0 in
    let low : eqb (close % 256) 0 ≡ true = eq-eqb (close % 256) 0 is.1 in
    let same : eqb close close ≡ true = eq-eqb close close refl in
    let at : List ℕ → Result (Entry × Stream) SavedFault = λ c. word_at (record { content = c; stop = stop }) >>= λ w. behind_word close w.0 w.1 in
    ap at regrouped ∙ rw first (rw (low, same) (rw (closing_again closing rest stop fits) refl))
