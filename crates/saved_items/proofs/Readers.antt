-- One reader behind another.
use Rattle.std.proofs.Common.{◌≡◌, ℕ, ◌%◌, true, false, eqb, List, refl, sym, ap, subst, ◌∙◌}
use Rattle.std.specs.Prelude.{Option, Some, None, Result, Ok, Err}
use Rattle.std.specs.Int.{w64, from_le_bytes}
use Rattle.std.proofs.lemmas.Bool.{eq-eqb, ne_eqb}
use Rattle.saved_items.specs.declared.fault.SavedFault.{SavedFault}
use Rattle.saved_items.specs.declared.fault.SavedFault.TheVariants as faults
use Rattle.saved_items.specs.declared.items.Head.{Head}
use Rattle.saved_items.specs.declared.items.Closing.{Closing}
use Rattle.saved_items.specs.declared.items.Lengths.{Lengths}
use Rattle.mica_words.specs.Packing.{packed}
use Rattle.saved_items.specs.Items.{Pair, Entry, entry_of}
use Rattle.saved_items.specs.Reading.{Stream, bytes_at, word_at, head_in, head_at, closing_in, closing_at, lengths_in, texts_at, behind_word, entry_at, with_rest, ◌>>=◌}
use Rattle.saved_items.specs.Moves.{Reads}

-- a head in the bytes that were read
pub reads_head : (old mid : Option Stream) (bytes : List ℕ) (result : Result Head SavedFault) → Reads (λ (_ : Unit {0}). bytes) old mid (let r : Result (Unit {0}) SavedFault = Ok tt in r) (bytes_at 56)
    → result ≡ head_in (packed bytes) → Reads (λ head. head) old mid result head_at
unfolding head_at
reads_head None mid bytes result one is = tt
reads_head (Some s) None bytes result one is = absurd one
reads_head (Some s) (Some m) bytes (Ok head) one is = ap (λ (r : Result (List ℕ × Stream) SavedFault). r >>= λ b. with_rest b.1 (head_in (packed b.0))) one ∙ ap (with_rest m) (sym is)
reads_head (Some s) (Some m) bytes (Err fault) one is = λ told. ap (λ (r : Result (List ℕ × Stream) SavedFault). r >>= λ b. with_rest b.1 (head_in (packed b.0))) one ∙ ap (with_rest m) (sym is)

-- what closes a partition, in the bytes that were read
pub reads_closing : (old mid : Option Stream) (bytes : List ℕ) (result : Result Closing SavedFault) → Reads (λ (_ : Unit {0}). bytes) old mid (let r : Result (Unit {0}) SavedFault = Ok tt in r) (bytes_at 24)
    → result ≡ closing_in (packed bytes) → Reads (λ closing. closing) old mid result closing_at
unfolding closing_at
reads_closing None mid bytes result one is = tt
reads_closing (Some s) None bytes result one is = absurd one
reads_closing (Some s) (Some m) bytes (Ok closing) one is = ap (λ (r : Result (List ℕ × Stream) SavedFault). r >>= λ b. with_rest b.1 (closing_in (packed b.0))) one ∙ ap (with_rest m) (sym is)
reads_closing (Some s) (Some m) bytes (Err fault) one is = λ told. ap (λ (r : Result (List ℕ × Stream) SavedFault). r >>= λ b. with_rest b.1 (closing_in (packed b.0))) one ∙ ap (with_rest m) (sym is)

-- ---- bytes that were not read

abbrev Got : (bytes : List ℕ) (n : ℕ) (old new : Option Stream) → Type 0
Got bytes n old new = Reads (λ (_ : Unit {0}). bytes) old new (let r : Result (Unit {0}) SavedFault = Ok tt in r) (bytes_at n)

abbrev Lost : (bytes : List ℕ) (n : ℕ) (fault : SavedFault) (old new : Option Stream) → Type 0
Lost bytes n fault old new = Reads (λ (_ : Unit {0}). bytes) old new (let r : Result (Unit {0}) SavedFault = Err fault in r) (bytes_at n)

abbrev Gives : {X Y : Type 0} → (X → Y) → X → Option Stream → Option Stream → (Stream → Result (Y × Stream) SavedFault) → Type 0
Gives {X} view x old new read = Reads view old new (let r : Result X SavedFault = Ok x in r) read

abbrev Stopped : {Y : Type 0} → (X : Type 0) → (X → Y) → SavedFault → Option Stream → Option Stream → (Stream → Result (Y × Stream) SavedFault) → Type 0
Stopped X view fault old new read = Reads view old new (let r : Result X SavedFault = Err fault in r) read

pub word_read : (bytes : List ℕ) (word : ℕ) (old new : Option Stream) → Got bytes 8 old new → word ≡ from_le_bytes w64 bytes → Gives (λ w. w) word old new word_at
word_read bytes word None new got is = tt
word_read bytes word (Some s) None got is = absurd got
word_read bytes word (Some s) (Some t) got is = ap (λ (r : Result (List ℕ × Stream) SavedFault). r >>= λ b. Ok (from_le_bytes w64 b.0, b.1)) got ∙ ap (λ (w : ℕ). let r : Result (ℕ × Stream) SavedFault = Ok (w, t) in r) (sym is)

pub word_lost : (bytes : List ℕ) (fault : SavedFault) (old mid new : Option Stream) → Lost bytes 8 fault old mid → Stopped ℕ (λ w. w) fault old new word_at
word_lost bytes fault None mid new lost = tt
word_lost bytes fault (Some s) mid new lost = λ told. ap (λ (r : Result (List ℕ × Stream) SavedFault). r >>= λ b. Ok (from_le_bytes w64 b.0, b.1)) (lost told)

pub head_lost : (bytes : List ℕ) (fault : SavedFault) (old mid new : Option Stream) → Lost bytes 56 fault old mid → Stopped Head (λ h. h) fault old new head_at
unfolding head_at
head_lost bytes fault None mid new lost = tt
head_lost bytes fault (Some s) mid new lost = λ told. ap (λ (r : Result (List ℕ × Stream) SavedFault). r >>= λ b. with_rest b.1 (head_in (packed b.0))) (lost told)

pub closing_lost : (bytes : List ℕ) (fault : SavedFault) (old mid new : Option Stream) → Lost bytes 24 fault old mid → Stopped Closing (λ c. c) fault old new closing_at
unfolding closing_at
closing_lost bytes fault None mid new lost = tt
closing_lost bytes fault (Some s) mid new lost = λ told. ap (λ (r : Result (List ℕ × Stream) SavedFault). r >>= λ b. with_rest b.1 (closing_in (packed b.0))) (lost told)

-- ---- an entry

module _ (close : ℕ) (pair : Pair) where
  abbrev on_word : ℕ × Stream → Result (Entry × Stream) SavedFault
  on_word word = behind_word close word.0 word.1

  abbrev view : Option Closing → Entry
  view closing = entry_of closing pair

  pub entry_lost : (fault : SavedFault) (old mid new : Option Stream) → Stopped ℕ (λ w. w) fault old mid word_at → Stopped (Option Closing) view fault old new (entry_at close)
  unfolding entry_at
  entry_lost fault None mid new lost = tt
  entry_lost fault (Some s) mid new lost = λ told. ap (λ (r : Result (ℕ × Stream) SavedFault). r >>= on_word) (lost told)

  module _ (word : ℕ) (old mid : Option Stream) (got : Gives (λ w. w) word old mid word_at) where
    pub pair_read : (o : Option Lengths) (new : Option Stream) → (word % 256 ≡ 0 → ⊥) → o ≡ lengths_in word → Gives (λ (_ : Unit {0}). pair) tt mid new (texts_at o) → Gives view None old new (entry_at close)
    unfolding entry_at
    pair_read o new some lengths texts = by old mid new got (subst (λ (l : Option Lengths). Gives (λ (_ : Unit {0}). pair) tt mid new (texts_at l)) lengths texts)
      where
        low : eqb (word % 256) 0 ≡ false
        low = ne_eqb (word % 256) 0 some

        by : (o m n : Option Stream) → Gives (λ w. w) word o m word_at → Gives (λ (_ : Unit {0}). pair) tt m n (texts_at (lengths_in word)) → Gives view None o n (entry_at close)
        by None m n g t = tt
        by (Some s) None n g t = absurd g
        by (Some s) (Some m) None g t = absurd t
        by (Some s) (Some m) (Some n) g t = ap (λ (r : Result (ℕ × Stream) SavedFault). r >>= on_word) g ∙ rw low (rw t refl)

    pub pair_lost : (o : Option Lengths) (fault : SavedFault) (last new : Option Stream) → (word % 256 ≡ 0 → ⊥) → o ≡ lengths_in word → Stopped (Unit {0}) (λ _. pair) fault mid last (texts_at o) → Stopped (Option Closing) view fault old new (entry_at close)
    unfolding entry_at
    pair_lost o fault last new some lengths texts = by old mid got (subst (λ (l : Option Lengths). Stopped (Unit {0}) (λ _. pair) fault mid last (texts_at l)) lengths texts)
      where
        low : eqb (word % 256) 0 ≡ false
        low = ne_eqb (word % 256) 0 some

        by : (o m : Option Stream) → Gives (λ w. w) word o m word_at → Stopped (Unit {0}) (λ _. pair) fault m last (texts_at (lengths_in word)) → Stopped (Option Closing) view fault o new (entry_at close)
        by None m g t = tt
        by (Some s) None g t = absurd g
        by (Some s) (Some m) g t = λ told. ap (λ (r : Result (ℕ × Stream) SavedFault). r >>= on_word) g ∙ rw low (rw (t told) refl)

    pub other_count : (new : Option Stream) → word % 256 ≡ 0 → (word ≡ close → ⊥) → Stopped (Option Closing) view faults.Count old new (entry_at close)
    unfolding entry_at
    other_count new none other = by old mid got
      where
        low : eqb (word % 256) 0 ≡ true
        low = eq-eqb (word % 256) 0 none

        same : eqb word close ≡ false
        same = ne_eqb word close other

        by : (o m : Option Stream) → Gives (λ w. w) word o m word_at → Stopped (Option Closing) view faults.Count o new (entry_at close)
        by None m g = tt
        by (Some s) None g = absurd g
        by (Some s) (Some m) g = λ told. ap (λ (r : Result (ℕ × Stream) SavedFault). r >>= on_word) g ∙ rw (low, same) refl

    module _ (none : word % 256 ≡ 0) (same : word ≡ close) where
      pub entry_closes : (closing : Closing) (new : Option Stream) → Gives (λ c. c) closing mid new closing_at → Gives view (Some closing) old new (entry_at close)
      unfolding entry_at
      entry_closes closing new closes = by old mid new got closes
        where
          low : eqb (word % 256) 0 ≡ true
          low = eq-eqb (word % 256) 0 none

          equal : eqb word close ≡ true
          equal = eq-eqb word close same

          by : (o m n : Option Stream) → Gives (λ w. w) word o m word_at → Gives (λ c. c) closing m n closing_at → Gives view (Some closing) o n (entry_at close)
          by None m n g t = tt
          by (Some s) None n g t = absurd g
          by (Some s) (Some m) None g t = absurd t
          by (Some s) (Some m) (Some n) g t = ap (λ (r : Result (ℕ × Stream) SavedFault). r >>= on_word) g ∙ rw (low, equal) (rw t refl)

      pub entry_open : (fault : SavedFault) (last new : Option Stream) → Stopped Closing (λ c. c) fault mid last closing_at → Stopped (Option Closing) view fault old new (entry_at close)
      unfolding entry_at
      entry_open fault last new closes = by old mid got closes
        where
          low : eqb (word % 256) 0 ≡ true
          low = eq-eqb (word % 256) 0 none

          equal : eqb word close ≡ true
          equal = eq-eqb word close same

          by : (o m : Option Stream) → Gives (λ w. w) word o m word_at → Stopped Closing (λ c. c) fault m last closing_at → Stopped (Option Closing) view fault o new (entry_at close)
          by None m g t = tt
          by (Some s) None g t = absurd g
          by (Some s) (Some m) g t = λ told. ap (λ (r : Result (ℕ × Stream) SavedFault). r >>= on_word) g ∙ rw (low, equal) (rw (t told) refl)
