-- How far the lines of a text were read, and why a refused text is no trace.
use Rattle.std.proofs.Common.{◌≡◌, ℕ, ◌+◌, ◌<◌, ◌≤◌, List, [], ◌∷◌, ◌++◌, length, refl, sym, ap, ◌∙◌, subst, arith, append_assoc, cond, Bool, true, false}
use Rattle.std.specs.List.{AllZip, AllByRecursion}
use Rattle.std.proofs.lemmas.List.{length_push}
use Rattle.std.proofs.lemmas.Grind.{common_steps}
use Rattle.mica_trace.specs.declared.limits.TheConstants.{MAX_ROUNDS}
use Rattle.mica_trace.specs.declared.line.TraceFault.{TraceFault}
use Rattle.mica_trace.specs.declared.line.TraceFault.TheVariants.{BadLine, LongLine, TooManyLines, TooManyRounds, NoMemory}
use Rattle.mica_trace.specs.declared.line.TraceLine.{TraceLine}
use Rattle.mica_trace.specs.Lines.{lines_of}
use Rattle.mica_trace.specs.TraceGrammar.{IsTraceLine, IsTextOf, is_sync, syncs_in, IsWithinLimits, HasLineRoom, IsTrace, IsNoTrace, IsFaultOf, Refuses}
use Rattle.mica_trace.proofs.LineLemmas.{text_length, syncs_push}

pub record HasRead (from : List ℕ) (lines : List TraceLine) (rest : List ℕ) (syncs : ℕ) : Type 0 where
  pub texts : List (List ℕ)
  pub parts : lines_of from ≡ texts ++ lines_of rest
  pub spelled : AllZip IsTextOf texts lines
  pub within : IsWithinLimits lines
  pub counted : syncs ≡ syncs_in lines

AllZip_push : {A B : Type 0} (R : A → B → Type 0) (xs : List A) (ys : List B) (x : A) (y : B) → AllZip R xs ys → R x y → AllZip R (xs ++ x ∷ []) (ys ++ y ∷ [])
AllZip_push R [] [] x y all here = (here, tt)
AllZip_push R [] (b ∷ ys) x y all here = absurd all
AllZip_push R (a ∷ xs) [] x y all here = absurd all
AllZip_push R (a ∷ xs) (b ∷ ys) x y all here = (all.0, AllZip_push R xs ys x y all.1 here)

sync_room : (b : Bool) (syncs : ℕ) → syncs < MAX_ROUNDS → (b ≡ true → syncs + 1 < MAX_ROUNDS) → syncs + cond b 1 0 < MAX_ROUNDS
sync_room true syncs few room = room refl
sync_room false syncs few room = omega arith

module _ (from : List ℕ) (lines : List TraceLine) (rest : List ℕ) (syncs : ℕ) (so_far : HasRead from lines rest syncs) where
  pub refuses : (at later : List ℕ) (fault : TraceFault) → lines_of rest ≡ at ∷ lines_of later → IsFaultOf (length lines + 1) syncs at fault → Refuses from fault
  refuses at later fault first is = grind (arith, common_steps)

  pub reads_more : (at later : List ℕ) (line : TraceLine) (more : ℕ) → lines_of rest ≡ at ∷ lines_of later → IsTextOf at line → HasLineRoom (length lines) syncs line
      → more ≡ syncs + cond (is_sync line) 1 0 → HasRead from (lines ++ line ∷ []) later more
  reads_more at later line more first is room counts =
      let pushed = length_push lines line in
      let syncs_are = syncs_push lines line in
      let counted = so_far.counted in
      let here = room.line_room in
      let few : syncs < MAX_ROUNDS = subst (λ s. s < MAX_ROUNDS) (sym so_far.counted) so_far.within.few_rounds in
      let fewer = sync_room (is_sync line) syncs few room.round_room in
      record {
        texts = so_far.texts ++ at ∷ [];
        parts = so_far.parts ∙ ap (λ ts. so_far.texts ++ ts) first ∙ sym (append_assoc so_far.texts (at ∷ []) (lines_of later));
        spelled = AllZip_push IsTextOf so_far.texts lines at line so_far.spelled is;
        within = record { few_lines = omega arith; few_rounds = omega arith };
        counted = omega arith;
      }

  pub reads_all : rest ≡ [] → IsTrace from lines
  reads_all ended = grind (arith, common_steps)

pub AllZip_valid : (texts : List (List ℕ)) (lines : List TraceLine) → AllZip IsTextOf texts lines → AllByRecursion IsTraceLine lines
AllZip_valid [] [] all = tt
AllZip_valid [] (l ∷ lines) all = absurd all
AllZip_valid (t ∷ texts) [] all = absurd all
AllZip_valid (t ∷ texts) (l ∷ lines) all = (all.0.0, AllZip_valid texts lines all.1)

-- of two readings of one list of texts, the line behind the first texts, as many lines and as many syncs
pub record Behind (texts : List (List ℕ)) (at : List ℕ) (before lines : List TraceLine) : Type 0 where
  pub line : TraceLine
  pub is : IsTextOf at line
  pub long : length before < length lines
  pub syncs : syncs_in before + cond (is_sync line) 1 0 ≤ syncs_in lines

pub behind : (texts : List (List ℕ)) (at : List ℕ) (later : List (List ℕ)) (before lines : List TraceLine)
    → AllZip IsTextOf texts before → AllZip IsTextOf (texts ++ at ∷ later) lines → Behind texts at before lines
behind [] at later [] [] one all = absurd all
behind [] at later [] (l ∷ lines) one all = grind (arith, common_steps)
behind [] at later (b ∷ before) lines one all = absurd one
behind (t ∷ texts) at later [] lines one all = absurd one
behind (t ∷ texts) at later (b ∷ before) [] one all = absurd all
behind (t ∷ texts) at later (b ∷ before) (l ∷ lines) one all = grind (arith, common_steps, behind texts at later before lines one.1 all.1)

pub no_lines : (fault : TraceFault) (texts : List (List ℕ)) (at : List ℕ) (before lines : List TraceLine) → Behind texts at before lines → IsWithinLimits lines
    → IsFaultOf (length before + 1) (syncs_in before) at fault → ⊥
no_lines TooManyLines texts at before lines rest within is = let long = rest.long in let few = within.few_lines in omega arith
no_lines (LongLine m) texts at before lines rest within is = let most = text_length at rest.line rest.is in let long = is.2 in omega arith
no_lines (BadLine m) texts at before lines rest within is = is.3 rest.line rest.is
no_lines TooManyRounds texts at before lines rest within is = grind (arith, common_steps)
no_lines NoMemory texts at before lines rest within is = is

-- a refused text is no trace
pub no_trace : (text : List ℕ) (fault : TraceFault) → Refuses text fault → IsNoTrace text
no_trace text fault is lines trace = grind (arith, common_steps, no_lines fault is.texts is.at is.before lines, behind is.texts is.at is.later is.before lines is.spelled)
