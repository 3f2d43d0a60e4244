-- Item words that were loaded one after another.
use Rattle.std.proofs.Common.{◌≡◌, ℕ, ◌+◌, ◌<◌, List, [], ◌∷◌, ◌++◌, length, take, refl, sym, ap, ◌∙◌, arith}
use Rattle.std.proofs.lemmas.List.{take_more_set, length-take-le}
use Rattle.std.proofs.Math.ListN.{set}
use Rattle.partition_words.specs.declared.shape.Shape.{Shape}
use Rattle.partition_words.specs.declared.reader.ReaderState.{ReaderState}
use Rattle.partition_words.specs.Layout.{item_at}
use Rattle.partition_words.specs.ReaderState.{loaded, loaded_items}

-- one more
pub items_snoc : (p x : ℕ) (xs : List ℕ) (r : ReaderState) → loaded_items p (xs ++ x ∷ []) r ≡ loaded (item_at r.shape (p + length xs)) x (loaded_items p xs r)
items_snoc p x [] r = ap (λ (z : ℕ). loaded (item_at r.shape z) x r) (omega arith)
items_snoc p x (y ∷ ys) r =
    items_snoc (p + 1) x ys (loaded (item_at r.shape p) y r)
    ∙ ap (λ (z : ℕ). loaded (item_at r.shape z) x (loaded_items p (y ∷ ys) r)) (omega arith)

pub items_shape : (p : ℕ) (xs : List ℕ) (r : ReaderState) → (loaded_items p xs r).shape ≡ r.shape
items_shape p [] r = refl
items_shape p (x ∷ xs) r = items_shape (p + 1) xs (loaded (item_at r.shape p) x r)

-- one more of a block
pub block_more : (p i x : ℕ) (block : List ℕ) (r q s : ReaderState) → q ≡ loaded_items p (take i block) r → s ≡ loaded (item_at q.shape (p + i)) x q → i < length block
    → s ≡ loaded_items p (take (i + 1) (set block i x)) r
block_more p i x block r q s so_far is inside =
    let long : length (take i block) ≡ i = length-take-le i block (omega arith) in
    is
    ∙ (ap (λ (z : ReaderState). loaded (item_at z.shape (p + i)) x z) so_far
    ∙ (ap (λ (z : Shape). loaded (item_at z (p + i)) x (loaded_items p (take i block) r)) (items_shape p (take i block) r)
    ∙ (ap (λ (z : ℕ). loaded (item_at r.shape (p + z)) x (loaded_items p (take i block) r)) (sym long)
    ∙ (sym (items_snoc p x (take i block) r)
    ∙ ap (λ (z : List ℕ). loaded_items p z r) (sym (take_more_set block i x inside))))))
