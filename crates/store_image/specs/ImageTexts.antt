-- How an image is kept: as the texts of its pairs, and how many there are.
use Rattle.std.specs.Prelude.{◌≡◌, ℕ, zero, suc, List, [], ◌∷◌}
use Rattle.std.specs.List.{flat_map}
use Rattle.store_image.specs.ImageGrammar.{Pair, IsImage, pair_text, pair_at, after_pair}

-- so many pairs that stand in bytes, one after another
unfoldable pub pairs_in : ℕ → List ℕ → List Pair
pairs_in zero bytes = []
pairs_in (suc count) bytes = pair_at bytes ∷ pairs_in count (after_pair bytes)

-- the bytes are the texts of so many pairs, which make an image
pub record ArePairTexts (count : ℕ) (bytes : List ℕ) : Type 0 where
  pub image : IsImage (pairs_in count bytes)
  pub texts : bytes ≡ flat_map pair_text (pairs_in count bytes)
