-- Laws of files of saved items.
use Rattle.std.specs.Prelude.{◌≡◌, ℕ, List, [], ◌∷◌, ◌++◌, Option, None}
use Rattle.std.specs.List.{AllByRecursion}
use Rattle.mica_words.specs.Packing.{packed}
use Rattle.word_sums.specs.Sum.{IsWord}
use Rattle.saved_items.specs.declared.fault.SavedFault.{SavedFault}
use Rattle.saved_items.specs.declared.items.Head.{Head}
use Rattle.saved_items.specs.Items.{SavedItems, Entry}
use Rattle.saved_items.specs.Spelling.{SpellsSaved}
use Rattle.saved_items.specs.Reading.{ReadsAs}

-- What was written is what is read, to the end and without a fault.
abbrev pub ReadsAll : Type 0
ReadsAll = (file : List ℕ) (saved : SavedItems) → SpellsSaved file saved → ReadsAs file saved.head saved.entries None

-- A file is read in one way.
abbrev pub OneReading : Type 0
OneReading = (file : List ℕ) (head head' : Head) (entries entries' : List Entry) (end end' : Option SavedFault) → ReadsAs file head entries end → ReadsAs file head' entries' end'
    → (head ≡ head') × (entries ≡ entries') × (end ≡ end')

-- Where one word of 8 bytes of a file was changed, wherever it stands, no more than one of both is read without a fault.
abbrev pub OneChangedWord : Type 0
OneChangedWord = (file changed before after : List ℕ) (a b : ℕ) (head head' : Head) (entries entries' : List Entry)
    → packed file ≡ before ++ a ∷ after → packed changed ≡ before ++ b ∷ after → AllByRecursion IsWord (before ++ a ∷ after) → AllByRecursion IsWord (before ++ b ∷ after)
    → ReadsAs file head entries None → ReadsAs changed head' entries' None → a ≡ b

-- What begins a file, and is not all of it, is not read without a fault.
abbrev pub NoBeginning : Type 0
NoBeginning = (file more : List ℕ) (head head' : Head) (entries entries' : List Entry) → ReadsAs file head entries None → ReadsAs (file ++ more) head' entries' None → more ≡ []
