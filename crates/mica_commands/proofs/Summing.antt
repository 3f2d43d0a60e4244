-- The lines of a summary.
use Rattle.std.proofs.Common.{◌≡◌, ℕ, suc, ◌+◌, ◌<◌, List, [], ◌∷◌, ◌++◌, length, get_or, set, take, replicate, refl, sym, ap, ◌∙◌, arith, append_assoc, codes}
use Rattle.std.specs.List.{AllZip, fold, zip}
use Rattle.std.specs.Fmt.{decimal}
use Rattle.std.proofs.Math.ListN.{length-set}
use Rattle.std.proofs.lemmas.List.{take_more, take_all, length-take-le, append-nil}
use Rattle.std.proofs.lemmas.Slice.Zip.{length-zip, get_or-zip}
use Rattle.std.proofs.lemmas.List.Sums.{fold_more}
use Rattle.std.proofs.lemmas.Grind.{common_steps}
use Rattle.partition_model.specs.declared.options.Options.{Options}
use Rattle.partition_model.specs.declared.write.Op.{Op}
use Rattle.partition_model.specs.declared.write.Outcome.{Outcome}
use Rattle.mica_trace.specs.declared.line.TraceLine.{TraceLine}
use Rattle.mica_trace.specs.declared.report.Line.{Line}
use Rattle.mica_trace.specs.declared.report.Line.TheVariants.{Wrote, Hit, Miss, Sync}
use Rattle.mica_trace.specs.Rounds.{partition_in}
use Rattle.mica_trace.specs.LawfulReport.{IsLineFor}
use Rattle.mica_commands.specs.Summary.{stamps_by, last_stamps, number_line, stamps_text}

pub noted : (options : Options) (stamps : List ℕ) (line : TraceLine) (printed : Line) (op : Op) (outcome : Outcome) (stamp partition : ℕ)
    → printed ≡ Wrote op outcome stamp → partition ≡ partition_in options line → set stamps partition stamp ≡ stamps_by options stamps line printed
noted options stamps line printed op outcome stamp partition is here = grind (arith, common_steps)

pub length_by : (options : Options) (stamps : List ℕ) (line : TraceLine) (printed : Line) → length (stamps_by options stamps line printed) ≡ length stamps
length_by options stamps line (Wrote op outcome stamp) = length-set stamps (partition_in options line) stamp
length_by options stamps line (Hit stamp value) = refl
length_by options stamps line (Miss stamp) = refl
length_by options stamps line Sync = refl

-- the stamps after the first lines
abbrev pub stamps_at : Options → List TraceLine → List Line → ℕ → List ℕ
stamps_at options trace report i = fold (λ stamps pair. stamps_by options stamps pair.0 pair.1) (replicate options.partitions 0) (take i (zip trace report))

pub stamps_more : (options : Options) (trace : List TraceLine) (report : List Line) (i : ℕ) (line : TraceLine) (printed : Line) → length trace ≡ length report → i < length trace
    → line ≡ get_or trace i line → printed ≡ get_or report i printed → stamps_by options (stamps_at options trace report i) line printed ≡ stamps_at options trace report (i + 1)
stamps_more options trace report i line printed same less line_is printed_is =
    grind (arith, common_steps, length-zip trace report, get_or-zip trace report i (line, printed) less (omega arith), fold_more)

pub stamps_whole : (options : Options) (trace : List TraceLine) (report : List Line) (i : ℕ) → length trace ≡ length report → i ≡ length trace
    → stamps_at options trace report i ≡ last_stamps options trace report
stamps_whole options trace report i same whole =
    let long = length-zip trace report in
    ap (λ pairs. fold (λ stamps pair. stamps_by options stamps pair.0 pair.1) (replicate options.partitions 0) pairs) (take_all i (zip trace report) (omega arith))

pub one_each : (trace : List TraceLine) (report : List Line) → AllZip IsLineFor trace report → length trace ≡ length report
one_each [] [] all = refl
one_each [] (r ∷ report) all = absurd all
one_each (l ∷ trace) [] all = absurd all
one_each (l ∷ trace) (r ∷ report) all = ap suc (one_each trace report all.1)

stamps_push : (p : ℕ) (stamps : List ℕ) (stamp : ℕ) → stamps_text p (stamps ++ stamp ∷ []) ≡ stamps_text p stamps ++ number_line (codes "stamp " ++ decimal (p + length stamps)) stamp
stamps_push p [] stamp = append-nil (number_line (codes "stamp " ++ decimal p) stamp) ∙ ap (λ n. number_line (codes "stamp " ++ decimal n) stamp) (let is : p ≡ p + 0 = omega arith in is)
stamps_push p (s ∷ stamps) stamp = grind (arith, common_steps, stamps_push (p + 1) stamps stamp)

pub stamp_line : (old text : List ℕ) (stamps : List ℕ) (i : ℕ) → i < length stamps → text ≡ old ++ stamps_text 0 (take i stamps)
    → text ++ codes "stamp " ++ number_line (decimal i) (get_or stamps i 0) ≡ old ++ stamps_text 0 (take (i + 1) stamps)
stamp_line old text stamps i less is =
    let pushed = ap (stamps_text 0) (take_more stamps i 0 less) ∙ stamps_push 0 (take i stamps) (get_or stamps i 0) in
    let taken = length-take-le i stamps (omega arith) in
    let long : 0 + length (take i stamps) ≡ i = omega arith in
    let line = ap (λ n. number_line (codes "stamp " ++ decimal n) (get_or stamps i 0)) long in
    append_assoc text (codes "stamp ") (number_line (decimal i) (get_or stamps i 0))
    ∙ ap (λ t. t ++ (codes "stamp " ++ number_line (decimal i) (get_or stamps i 0))) is
    ∙ append_assoc old (stamps_text 0 (take i stamps)) (codes "stamp " ++ number_line (decimal i) (get_or stamps i 0))
    ∙ ap (λ t. old ++ (stamps_text 0 (take i stamps) ++ t)) (named i (get_or stamps i 0) ∙ sym line)
    ∙ ap (λ t. old ++ t) (sym pushed)
  where
    named : (n s : ℕ) → codes "stamp " ++ number_line (decimal n) s ≡ number_line (codes "stamp " ++ decimal n) s
    named n s = refl
