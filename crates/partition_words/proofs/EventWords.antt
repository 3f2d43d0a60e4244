-- What each event makes of the words by their meaning.
use Rattle.partition_words.proofs.Vocabulary.{Begins, Event, IsBucket, IsMain, Marks, OwnerState, PutsEntry, PutsLink, PutsWord, Write, after, arith}
use Rattle.partition_words.proofs.Vocabulary.{entry_at, entry_in, get_or, get_or-set_other, get_or-set_same, item_at, item_in, length, link_at, link_in}
use Rattle.partition_words.proofs.Vocabulary.{place_of, stamp_in, word_after, word_count, ℕ, ◌<◌, ◌≡◌, ◌≢◌, ◌⊎◌}

-- a word at another place than the event's is as it was
pub other : (o : OwnerState) (e : Event) (i : ℕ) → i ≢ place_of o.shape e → get_or (after e o).words i 0 ≡ get_or o.words i 0
other o e i n = get_or-set_other o.words (place_of o.shape e) i (word_after e (get_or o.words (place_of o.shape e) 0)) 0 n

here : (o : OwnerState) (e : Event) → place_of o.shape e < length o.words
    → get_or (after e o).words (place_of o.shape e) 0 ≡ word_after e (get_or o.words (place_of o.shape e) 0)
here o e l = get_or-set_same o.words (place_of o.shape e) (word_after e (get_or o.words (place_of o.shape e) 0)) 0 l

module _ (o : OwnerState) (wide : length o.words ≡ word_count o.shape) where
  -- the stamp

  pub stamp_marks : (write : Write) (n : ℕ) → stamp_in (after (Marks write n) o) ≡ n
  stamp_marks write n = here o (Marks write n) (omega arith)

  -- entries

  pub entry_begins : (b c slot : ℕ) → IsMain o.shape b → slot < 15 → entry_in (after (Begins b) o) c slot ≡ entry_in o c slot
  entry_begins b c slot l x = other o (Begins b) (entry_at o.shape c slot) (λ is. omega arith)

  pub entry_marks : (write : Write) (n c slot : ℕ) → entry_in (after (Marks write n) o) c slot ≡ entry_in o c slot
  entry_marks write n c slot = other o (Marks write n) (entry_at o.shape c slot) (λ is. omega arith)

  pub entry_puts_word : (p x c slot : ℕ) → IsBucket o.shape c → slot < 15 → entry_in (after (PutsWord p x) o) c slot ≡ entry_in o c slot
  entry_puts_word p x c slot l y = other o (PutsWord p x) (entry_at o.shape c slot) (λ is. omega arith)

  pub entry_puts : (c slot x : ℕ) → IsBucket o.shape c → slot < 15 → entry_in (after (PutsEntry c slot x) o) c slot ≡ x
  entry_puts c slot x l y = here o (PutsEntry c slot x) (omega arith)

  pub entry_puts_other : (c slot x d t : ℕ) → slot < 15 → t < 15 → (d ≢ c) ⊎ (t ≢ slot) → entry_in (after (PutsEntry c slot x) o) d t ≡ entry_in o d t
  entry_puts_other c slot x d t y z n = other o (PutsEntry c slot x) (entry_at o.shape d t) (λ is. omega arith)

  pub entry_puts_link : (c next d t : ℕ) → t < 15 → entry_in (after (PutsLink c next) o) d t ≡ entry_in o d t
  entry_puts_link c next d t z = other o (PutsLink c next) (entry_at o.shape d t) (λ is. omega arith)

  -- links

  pub link_puts_entry : (c slot x d : ℕ) → slot < 15 → link_in (after (PutsEntry c slot x) o) d ≡ link_in o d
  link_puts_entry c slot x d y = other o (PutsEntry c slot x) (link_at o.shape d) (λ is. omega arith)

  pub link_puts : (c next : ℕ) → IsBucket o.shape c → link_in (after (PutsLink c next) o) c ≡ next
  link_puts c next l = here o (PutsLink c next) (omega arith)

  pub link_puts_other : (c next d : ℕ) → d ≢ c → link_in (after (PutsLink c next) o) d ≡ link_in o d
  link_puts_other c next d n = other o (PutsLink c next) (link_at o.shape d) (λ is. omega arith)

  -- item words

  pub item_puts_entry : (c slot x p : ℕ) → IsBucket o.shape c → slot < 15 → item_in (after (PutsEntry c slot x) o) p ≡ item_in o p
  item_puts_entry c slot x p l y = other o (PutsEntry c slot x) (item_at o.shape p) (λ is. omega arith)
