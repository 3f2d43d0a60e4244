-- One partition of several replied to a line, and was put back.
use Rattle.std.proofs.Common.{◌≡◌, ◌≢◌, ℕ, zero, suc, ◌<◌, List, [], ◌∷◌, ◌++◌, length, map, take, get_or, set, Some, refl, sym, ap, ◌∙◌, subst, arith, slice_get}
use Rattle.std.specs.List.{All, AllByRecursion}
use Rattle.std.proofs.lemmas.List.Elements.{recursion_from_All}
use Rattle.std.specs.Prelude.{option_map}
use Rattle.std.proofs.lemmas.List.{length-map}
use Rattle.std.proofs.lemmas.Option.{slice_get-map, slice_get-get_or, same_Some}
use Rattle.std.proofs.Math.ListN.{length-set}
use Rattle.partition_model.specs.declared.options.Options.{Options}
use Rattle.mica_trace.specs.declared.line.TraceLine.{TraceLine}
use Rattle.mica_trace.specs.declared.report.Line.{Line}
use Rattle.mica_trace.specs.TraceGrammar.{IsTraceLine}
use Rattle.mica_trace.specs.Rounds.{partition_in}
use Rattle.partition_words.specs.declared.state.OwnerState.{OwnerState}
use Rattle.line_replies.specs.Replied.{IsReplied}
use Rattle.partition_words.specs.OwnerState.{as_made}
use Rattle.partition_words.specs.Shape.{shape_of}
use Rattle.mica_trace.proofs.ExactLines.{none_exact}
use Rattle.line_replies.specs.Answered.{IsOwnerAfter, AreAnswered}
use Rattle.line_replies.proofs.AllLines.{answered_more}

pub get_set : {X : Type 0} (xs : List X) (i : ℕ) (x : X) → i < length xs → slice_get (set xs i x) i ≡ Some x
get_set [] i x less = absurd (omega arith)
get_set (y ∷ xs) zero x less = refl
get_set (y ∷ xs) (suc i) x less = get_set xs i x (omega arith)

pub get_others : {X : Type 0} (xs : List X) (i j : ℕ) (x : X) → j ≢ i → slice_get (set xs i x) j ≡ slice_get xs j
get_others [] i j x other = refl
get_others (y ∷ xs) zero zero x other = absurd (other refl)
get_others (y ∷ xs) zero (suc j) x other = refl
get_others (y ∷ xs) (suc i) zero x other = refl
get_others (y ∷ xs) (suc i) (suc j) x other = get_others xs i j x (λ e. other (ap suc e))

module _ {P : Type 0} (owner : P → OwnerState) where
  pub part_replied : (options : Options) (lines : List TraceLine) (report : List Line) (line : TraceLine) (printed : Line) (parts : List P) (at : ℕ) (part new : P)
      → AllByRecursion IsTraceLine lines → AreAnswered options lines report (map owner parts) → at ≡ partition_in options line → at < length parts → part ≡ get_or parts at part
      → IsReplied (owner part) (owner new) line printed → AreAnswered options (lines ++ line ∷ []) (report ++ printed ∷ []) (map owner (set parts at new))
  part_replied options lines report line printed parts at part new all so_far number less is replied =
      let here : slice_get parts at ≡ Some part = slice_get-get_or parts at part less ∙ ap (λ (x : P). Some x) (sym is) in
      let owner_here : slice_get (map owner parts) at ≡ Some (owner part) = slice_get-map owner parts at ∙ ap (option_map owner) here in
      let there : slice_get (map owner (set parts at new)) at ≡ Some (owner new) = slice_get-map owner (set parts at new) at ∙ ap (option_map owner) (get_set parts at new less) in
      let many : length (map owner (set parts at new)) ≡ length (map owner parts) = length-map (set parts at new) owner ∙ length-set parts at new ∙ sym (length-map parts owner) in
      answered_more options lines report line printed (map owner parts) (map owner (set parts at new)) (owner part) (owner new) all so_far
      (subst (λ n. slice_get (map owner parts) n ≡ Some (owner part)) number owner_here) replied many
      (subst (λ n. slice_get (map owner (set parts at new)) n ≡ Some (owner new)) number there)
      (λ p o other got.
      slice_get-map owner parts p
      ∙ ap (option_map owner) (sym (get_others parts at p new (λ same. other (same ∙ number))))
      ∙ sym (slice_get-map owner (set parts at new) p) ∙ got)

pub all_taken : (lines : List TraceLine) (n : ℕ) → AllByRecursion IsTraceLine lines → AllByRecursion IsTraceLine (take n lines)
all_taken lines zero all = tt
all_taken [] (suc n) all = tt
all_taken (line ∷ lines) (suc n) all = (all.0, all_taken lines n all.1)

-- partitions as made have answered nothing
module _ {P : Type 0} (owner : P → OwnerState) (options : Options) where
  made_at : (parts : List P) (p : ℕ) (o : OwnerState) → AllByRecursion (λ x. owner x ≡ as_made (shape_of options)) parts → slice_get (map owner parts) p ≡ Some o → IsOwnerAfter options [] [] p o
  made_at [] p o all is = absurd (cc)
  made_at (x ∷ parts) zero o all is =
      let one : owner x ≡ o = same_Some (owner x) o is in
      let made = sym one ∙ all.0 in
      record { shape = ap (λ (s : OwnerState). s.shape) made; history = ap (λ (s : OwnerState). s.history) made }
  made_at (x ∷ parts) (suc p) o all is = let later = made_at parts p o all.1 is in record { shape = later.shape; history = later.history }

  pub none_answered : (parts : List P) → length parts ≡ options.partitions → All (λ x. owner x ≡ as_made (shape_of options)) parts → AreAnswered options [] [] (map owner parts)
  none_answered parts many all = record {
    exact = none_exact options;
    many = length-map parts owner ∙ many;
    each = λ p o is. made_at parts p o (recursion_from_All _ parts all) is;
  }
