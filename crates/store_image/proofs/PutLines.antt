-- The lines of an image's pairs, and their texts, one after another.
use Rattle.std.proofs.Common.{arith}
use Rattle.std.proofs.lemmas.Grind.{common_steps}
use Rattle.std.proofs.Common.{◌≡◌, ◌+◌, ◌<◌, ◌++◌, ◌∷◌, [], ℕ, List, None, length, take, drop, get_or, refl, ap, ◌∙◌, add-one}
use Rattle.std.specs.List.{flat_map, AllByRecursion}
use Rattle.std.proofs.Math.Seq.{drop-cons}
use Rattle.std.proofs.lemmas.List.Elements.{All-from_recursion}
use Rattle.mica_trace.specs.TraceGrammar.{line_text, trace_text}
use Rattle.store_image.specs.ImageGrammar.{Pair, IsPair, pair_text, pair_at, after_pair, lengths_fault}
use Rattle.store_image.specs.ImageLines.{put_line, put_lines}
use Rattle.store_image.proofs.PairLaws.{pair_is, behind}
use Rattle.store_image.proofs.Faultless.{no_lengths_fault}

abbrev pub pair_number : List Pair → ℕ → Pair
pair_number pairs i = get_or pairs i (record { key = []; value = [] })

module _ (pairs : List Pair) (i : ℕ) (less : i < length pairs) where
  abbrev x : Pair
  x = pair_number pairs i

  pub line_more : (start : List ℕ) → (start ++ trace_text (put_lines (take i pairs))) ++ (line_text (put_line x) ++ 10 ∷ []) ≡ start ++ trace_text (put_lines (take (i + 1) pairs))
  line_more start = grind (arith, common_steps)

  module _ (all : AllByRecursion IsPair pairs) (rest : List ℕ) (is : rest ≡ flat_map pair_text (drop i pairs)) where
    abbrev left : List ℕ
    left = flat_map pair_text (drop (i + 1) pairs)

    fits : IsPair x
    fits = All-from_recursion IsPair pairs all i _ less

    parts : rest ≡ pair_text x ++ left
    parts = is ∙ rw (add-one, drop-cons pairs i (record { key = []; value = [] })) refl

    pub none_wrong : lengths_fault rest ≡ None
    none_wrong = ap lengths_fault parts ∙ no_lengths_fault x left fits

    pub pair_next : pair_at rest ≡ x
    pair_next = ap pair_at parts ∙ pair_is x left fits

    pub left_next : after_pair rest ≡ left
    left_next = ap after_pair parts ∙ behind x left fits
