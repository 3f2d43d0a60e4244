-- What was saved so far.
use Rattle.std.specs.Prelude.{◌≡◌, ℕ, List, [], ◌∷◌, ◌++◌, Option}
use Rattle.std.specs.Io.KnownBytes.{Appends}
use Rattle.saved_items.specs.declared.blocks.TheConstants.{FIRST_SUM}
use Rattle.saved_items.specs.declared.spiller.Spiller.{Spiller}
use Rattle.saved_items.specs.declared.items.Head.{Head}
use Rattle.saved_items.specs.Items.{Entry, SavedItems, SavedFits, close_after}
use Rattle.saved_items.specs.Spelling.{words_text, head_words, entries_text, SpellsSaved}
use Rattle.saved_items.specs.Moves.{HasPut, Puts}

-- nothing was put yet
pub record IsFresh (spiller : Spiller) : Type 0 where
  pub held : spiller.held.items ≡ []
  pub sum : spiller.sum ≡ FIRST_SUM
  pub close : spiller.close ≡ 0

-- what closes the pairs behind these entries
abbrev pub close_behind : ℕ → List Entry → ℕ
close_behind close [] = close
close_behind close (entry ∷ entries) = close_behind (close_after close entry) entries

-- What a sink took since it had before, with what is held back, is the beginning of a file with this head and these entries.
pub record HasSaved (before now : Option (List ℕ)) (spiller : Spiller) (head : Head) (entries : List Entry) : Type 0 where
  pub put : HasPut before now spiller.sum spiller.held.items (words_text (head_words head) ++ entries_text 0 entries)
  pub close : spiller.close ≡ close_behind 0 entries

-- the content goes on by these bytes, whatever it was
abbrev pub PutsBytes : Option (List ℕ) → Option (List ℕ) → Spiller → Spiller → List ℕ → Type 0
PutsBytes old new spiller spiller' bytes = Puts old new spiller.sum spiller'.sum spiller.held.items spiller'.held.items bytes

-- Whatever was saved so far, this entry stands behind it.
abbrev pub Saves : Option (List ℕ) → Option (List ℕ) → Spiller → Spiller → Entry → Type 0
Saves old new spiller spiller' entry = (before : Option (List ℕ)) (head : Head) (entries : List Entry) → HasSaved before old spiller head entries → HasSaved before new spiller' head (entries ++ entry ∷ [])

-- Whatever was saved, if it has a file, it is this one.
abbrev pub Finishes : Option (List ℕ) → Option (List ℕ) → Spiller → Type 0
Finishes old new spiller = (before : Option (List ℕ)) (saved : SavedItems) → HasSaved before old spiller saved.head saved.entries → SavedFits saved → (file : List ℕ) × Appends before new file × SpellsSaved file saved
