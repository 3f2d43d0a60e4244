-- Places lie inside the table.
use Rattle.std.proofs.Common.{◌≡◌, ℕ, ◌%◌, ◌<◌, true, refl, sym, ap, ◌∙◌, subst, arith}
use Rattle.std.proofs.Math.Nat.{mod-lt}
use Rattle.std.proofs.lemmas.Nat.{pow_pos}
use Rattle.std.proofs.Math.Logic.{∥∥₁_elim}
use Rattle.std.proofs.Props.{props}
use Rattle.partition_words.specs.declared.shape.Shape.{Shape}
use Rattle.partition_words.specs.declared.shape.WordAt.{WordAt}
use Rattle.partition_words.specs.declared.shape.WordAt.TheVariants.{Stamp, Epoch, Entry, Link, Item}
use Rattle.partition_words.specs.declared.event.Event.{Event}
use Rattle.partition_words.specs.declared.state.OwnerState.{OwnerState}
use Rattle.partition_words.specs.Shape.{IsMain, is_in_range}
use Rattle.partition_words.specs.Layout.{place_at, IsInside, word_count}
use Rattle.partition_words.specs.OwnerState.{marked_in}
use Rattle.partition_words.specs.Events.{IsAllowed, place_of}
use Rattle.partition_words.specs.Kept.{Kept}
use Rattle.partition_words.proofs.Shapes.{possible_in_range}
use Rattle.partition_words.proofs.Inside.{event_inside}
use Rattle.partition_words.proofs.Marked.{ends_main}

-- a word
pub word_there : (shape : Shape) → is_in_range shape ≡ true → (at : WordAt) → IsInside shape at → place_at shape at < word_count shape
word_there shape valid Stamp is = let least = (possible_in_range shape valid).ranges.words.0 in omega arith
word_there shape valid (Epoch b) is = let least = (possible_in_range shape valid).ranges.words.0 in omega arith
word_there shape valid (Entry c slot) is = let bucket = is.0 in let small = is.1 in let least = (possible_in_range shape valid).ranges.words.0 in omega arith
word_there shape valid (Link c) is = let least = (possible_in_range shape valid).ranges.words.0 in omega arith
word_there shape valid (Item p) is = let least = (possible_in_range shape valid).ranges.words.0 in let less : p % shape.words < shape.words = mod-lt p (omega arith) in omega arith

pub word_inside : (shape : Shape) (at : WordAt) (i n : ℕ) → is_in_range shape ≡ true → IsInside shape at → i ≡ place_at shape at → n ≡ word_count shape → i < n
word_inside shape at i n valid is place wide = let there = word_there shape valid at is in omega arith

-- there is a first bucket
pub first_main : (shape : Shape) → is_in_range shape ≡ true → IsMain shape 0
first_main shape valid = let ranges = (possible_in_range shape valid).ranges in subst (λ (z : ℕ). 0 < z) (sym ranges.buckets.2) (pow_pos ranges.buckets.0)

-- the word of an event
pub event_there : (o : OwnerState) (shape : Shape) (e : Event) (i n : ℕ) → ∥ Kept o ∥₁ → o.shape ≡ shape → i ≡ place_of shape e → n ≡ word_count shape → IsAllowed e o → i < n
event_there o shape e i n kept is place wide allowed = ∥∥₁_elim kept (hlevel props) (λ (s : Kept o).
    let inside = event_inside o s e allowed in
    let long = s.wide in
    let at : i ≡ place_of o.shape e = place ∙ ap (λ (z : Shape). place_of z e) (sym is) in
    let all : n ≡ word_count o.shape = wide ∙ ap word_count (sym is) in
    omega arith)

-- the bucket of the marked write
pub marked_there : (o : OwnerState) (shape : Shape) (b : ℕ) → ∥ Kept o ∥₁ → o.shape ≡ shape → marked_in o.phase b ≡ 1 → IsMain shape b
marked_there o shape b kept is one = ∥∥₁_elim kept (hlevel props) (λ (s : Kept o). subst (λ (z : Shape). IsMain z b) is (ends_main o s o.phase refl b one))
