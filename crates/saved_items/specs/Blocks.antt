-- Blocks of one length: content, and behind it the sum of the words of all content up to there.
use Rattle.std.specs.Prelude.{◌≡◌, ℕ, List, [], ◌∷◌, ◌++◌, length}
use Rattle.std.specs.Int.{w64, to_le_bytes}
use Rattle.word_sums.specs.Sum.{sum_of}
use Rattle.mica_words.specs.Packing.{packed}
use Rattle.saved_items.specs.declared.blocks.TheConstants.{CONTENT_LEN}

-- the sum behind this content
unfoldable pub content_sum : ℕ → List ℕ → ℕ
content_sum sum content = sum_of sum (packed content)

-- the sum behind all of these contents
abbrev pub sum_behind : ℕ → List (List ℕ) → ℕ
sum_behind sum [] = sum
sum_behind sum (content ∷ contents) = sum_behind (content_sum sum content) contents

-- a block, behind content with this sum
abbrev pub block_text : ℕ → List ℕ → List ℕ
block_text sum content = content ++ to_le_bytes w64 (content_sum sum content)

-- the blocks with these contents, one after another
abbrev pub blocks_text : ℕ → List (List ℕ) → List ℕ
blocks_text sum [] = []
blocks_text sum (content ∷ contents) = block_text sum content ++ blocks_text (content_sum sum content) contents

-- it fills a block
abbrev pub FillsBlock : List ℕ → Type 0
FillsBlock content = length content ≡ CONTENT_LEN

-- the contents, one after another
abbrev pub joined : List (List ℕ) → List ℕ
joined [] = []
joined (content ∷ contents) = content ++ joined contents
