-- One line of a round, with the lines after it: what is merged for these makes the whole with what is printed for it.
use Rattle.std.proofs.Common.{◌≡◌, ◌≢◌, ℕ, ◌+◌, ◌%◌, ◌==◌, ◌⊎◌, inl, inr, List, ◌∷◌, length, zip, slice_get, slice_set, Option, Some, None, refl, sym, ap, ◌∙◌, subst, arith, cond, Bool, true, false, eq-eqb}
use Rattle.std.specs.List.{AllZip, cons_option}
use Rattle.std.proofs.lemmas.Bool.{cases_eq, ne_eqb}
use Rattle.std.proofs.lemmas.List.{length-set}
use Rattle.std.proofs.lemmas.Option.{same_Some}
use Rattle.list_laws.proofs.Places.{set_cases, set_elsewhere, set_here}
use Rattle.partition_model.specs.declared.options.Options.{Options}
use Rattle.partition_model.specs.declared.write.Op.{Op}
use Rattle.partition_model.specs.declared.write.Outcome.{Outcome}
use Rattle.partition_model.specs.declared.write.Write.{Write}
use Rattle.mica_trace.specs.declared.line.TraceLine.{TraceLine}
use Rattle.mica_trace.specs.declared.line.TraceOp.{TraceOp}
use Rattle.mica_trace.specs.declared.line.TraceOp.TheVariants.{Sync}
use Rattle.mica_trace.specs.declared.report.Line.{Line}
use Rattle.mica_trace.specs.declared.report.Line.TheVariants.{Wrote, Sync as SyncLine}
use Rattle.mica_trace.specs.LawfulReport.{IsReplyTo, IsKindOf, step_by, step_in, steps_of}
use Rattle.mica_trace.specs.Rounds.{is_in_partition, partition_in, op_of, write_by, write_in, writes_of}
use Rattle.mica_trace.specs.RoundReport.{HasKind, is_get, gets_of, pairs_of}
use Rattle.mica_replay.specs.Merged.{AreEnough, IsMergedRound}
use Rattle.mica_replay.specs.Replies.{Reply, step_with, steps_with}

pub wrote_kind : (op : TraceOp) (own : Op) → op_of op ≡ Some own → (o : Outcome) (s : ℕ) → IsKindOf op (Wrote own o s)
wrote_kind op own is o s = subst (λ does. IsReplyTo does own) (sym is) refl

pub sync_kind : (op : TraceOp) → op ≡ Sync → IsKindOf op SyncLine
sync_kind op is = subst (λ o. IsKindOf o SyncLine) (sym is) tt

none_either : {X : Type 0} (b : Bool) → cond {A = Option X} b None None ≡ None
none_either true = refl
none_either false = refl

-- One line, with the lines after it: from the replies and lines that are left before it to those that are left behind it.

pub record Goes (options : Options) (g h : ℕ) (line : TraceLine) (later : List TraceLine) (r : Line) (done left : List (List Reply)) (found rests : List (List Line)) : Type 0 where
  pub enough : AreEnough options h later left rests
  pub merges : (more : List Line) → IsMergedRound options h later more left rests → IsMergedRound options g (line ∷ later) (r ∷ more) done found

module _ (options : Options) (g : ℕ) (line : TraceLine) (later : List TraceLine) (done : List (List Reply)) (found : List (List Line)) (enough : AreEnough options g (line ∷ later) done found) where
  -- an owner whom the line does not concern
  count_skips : (p : ℕ) (replies : List Reply) → write_in options p line ≡ None → slice_get done p ≡ Some replies → length replies ≡ length (writes_of options p later)
  count_skips p replies none at = enough.writes p replies at ∙ ap (λ o. length (cons_option o (writes_of options p later))) none

  steps_skip : (p : ℕ) (r : Line) (more : List Line) (replies : List Reply) → step_in options p (line, r) ≡ None → write_in options p line ≡ None
      → steps_of options p later more ≡ steps_with (writes_of options p later) replies → steps_of options p (line ∷ later) (r ∷ more) ≡ steps_with (writes_of options p (line ∷ later)) replies
  steps_skip p r more replies no_step no_write same =
      ap (λ o. cons_option o (steps_of options p later more)) no_step ∙ same ∙ ap (λ o. steps_with (cons_option o (writes_of options p later)) replies) (sym no_write)

  -- a line that is no get
  module _ (no_get : is_get line ≡ false) where
    asked_skip : (q : ℕ) → gets_of options q g (line ∷ later) ≡ gets_of options q g later
    asked_skip q = ap (λ b. cond b (cond (g % options.readers == q) (line ∷ gets_of options q (g + 1) later) (gets_of options q (g + 1) later)) (gets_of options q g later)) no_get

    kinds_skip : (q : ℕ) (lines : List Line) → slice_get found q ≡ Some lines → AllZip HasKind (gets_of options q g later) lines
    kinds_skip q lines at = subst (λ l. AllZip HasKind l lines) (asked_skip q) (enough.gets q lines at)

    pairs_skip : (q : ℕ) (r : Line) (more : List Line) (lines : List Line) → pairs_of options q g (zip later more) ≡ zip (gets_of options q g later) lines
        → pairs_of options q g (zip (line ∷ later) (r ∷ more)) ≡ zip (gets_of options q g (line ∷ later)) lines
    pairs_skip q r more lines same =
        ap (λ b. cond b (cond (g % options.readers == q) ((line, r) ∷ pairs_of options q (g + 1) (zip later more)) (pairs_of options q (g + 1) (zip later more))) (pairs_of options q g (zip later more))) no_get
        ∙ same ∙ ap (λ l. zip l lines) (sym (asked_skip q))

    pub goes_sync : (r : Line) → HasKind line r → write_by line.op line.key line.value ≡ None → Goes options g g line later r done done found found
    goes_sync r kind none = record {
      enough = record { owners = enough.owners; readers = enough.readers; writes = λ p replies at. count_skips p replies (no_write p) at; gets = kinds_skip };
      merges = λ more m. record {
        lines = (kind, m.lines);
        writes = λ p replies at. steps_skip p r more replies (ap (λ o. cond (is_in_partition options p line) (step_by o r) None) none ∙ none_either (is_in_partition options p line)) (no_write p) (m.writes p replies at);
        gets = λ q lines at. pairs_skip q r more lines (m.gets q lines at);
      };
    }
      where
        no_write : (p : ℕ) → write_in options p line ≡ None
        no_write p = ap (λ o. cond (is_in_partition options p line) o None) none ∙ none_either (is_in_partition options p line)

    -- a write, to which its owner's next reply is
    module _ (op : Op) (outcome : Outcome) (stamp : ℕ) (write : Write) (left : List Reply) (kind : HasKind line (Wrote op outcome stamp)) (is_write : write_by line.op line.key line.value ≡ Some write)
        (at : slice_get done (partition_in options line) ≡ Some ((outcome, stamp) ∷ left)) where
      abbrev p : ℕ
      p = partition_in options line

      abbrev r : Line
      r = Wrote op outcome stamp

      write_here : write_in options p line ≡ Some write
      write_here = ap (λ b. cond b (write_by line.op line.key line.value) None) (eq-eqb p p refl) ∙ is_write

      step_here : step_in options p (line, r) ≡ Some (step_with (write, (outcome, stamp)))
      step_here = ap (λ b. cond b (step_by (write_by line.op line.key line.value) r) None) (eq-eqb p p refl) ∙ ap (λ o. step_by o r) is_write

      write_there : (q : ℕ) → p ≢ q → write_in options q line ≡ None
      write_there q other = ap (λ b. cond b (write_by line.op line.key line.value) None) (ne_eqb p q other)

      count_here : length left ≡ length (writes_of options p later)
      count_here = let all = enough.writes p ((outcome, stamp) ∷ left) at ∙ ap (λ o. length (cons_option o (writes_of options p later))) write_here in omega arith

      pub goes_write : Goes options g g line later r done (slice_set done p left) found found
      goes_write = record {
        enough = record {
          owners = length-set done p left ∙ enough.owners;
          readers = enough.readers;
          writes = λ q theirs is.
              elim (set_cases done p left q theirs is) as (λ _. length theirs ≡ length (writes_of options q later)) [
                | inl same ↦ ap length (sym same.1) ∙ count_here ∙ ap (λ n. length (writes_of options n later)) same.0
                | inr other ↦ count_skips q theirs (write_there q other.0) other.1
              ];
          gets = kinds_skip;
        };
        merges = λ more m. record {
          lines = (kind, m.lines);
          writes = λ q theirs is. by more m q theirs is (cases_eq p q);
          gets = λ q lines is. pairs_skip q r more lines (m.gets q lines is);
        };
      }
        where
          by : (more : List Line) → IsMergedRound options g later more (slice_set done p left) found → (q : ℕ) (theirs : List Reply) → slice_get done q ≡ Some theirs → (p ≡ q) ⊎ (p ≡ q → ⊥)
              → steps_of options q (line ∷ later) (r ∷ more) ≡ steps_with (writes_of options q (line ∷ later)) theirs
          by more m q theirs is (inl same) =
              let own : (outcome, stamp) ∷ left ≡ theirs = same_Some _ _ (sym at ∙ ap (slice_get done) same ∙ is) in
              subst (λ n. steps_of options n (line ∷ later) (r ∷ more) ≡ steps_with (writes_of options n (line ∷ later)) theirs) same
              (subst (λ l. steps_of options p (line ∷ later) (r ∷ more) ≡ steps_with (writes_of options p (line ∷ later)) l) own
              (ap (λ o. cons_option o (steps_of options p later more)) step_here
              ∙ ap (λ s. step_with (write, (outcome, stamp)) ∷ s) (m.writes p left (set_here done p ((outcome, stamp) ∷ left) left at))
              ∙ ap (λ o. steps_with (cons_option o (writes_of options p later)) ((outcome, stamp) ∷ left)) (sym write_here)))
          by more m q theirs is (inr other) =
              steps_skip q r more theirs (ap (λ b. cond b (step_by (write_by line.op line.key line.value) r) None) (ne_eqb p q other)) (write_there q other)
              (m.writes q theirs (set_elsewhere done p q left (λ same. other (sym same)) ∙ is))

  -- a get, of which its reader's next line is
  module _ (get : is_get line ≡ true) (no_write : write_by line.op line.key line.value ≡ None) where
    abbrev q : ℕ
    q = g % options.readers

    asked : (x : ℕ) (b : Bool) → (q == x) ≡ b → gets_of options x g (line ∷ later) ≡ cond b (line ∷ gets_of options x (g + 1) later) (gets_of options x (g + 1) later)
    asked x b is =
        ap (λ c. cond c (cond (q == x) (line ∷ gets_of options x (g + 1) later) (gets_of options x (g + 1) later)) (gets_of options x g later)) get
        ∙ ap (λ c. cond c (line ∷ gets_of options x (g + 1) later) (gets_of options x (g + 1) later)) is

    answered : (x : ℕ) (b : Bool) (r : Line) (more : List Line) → (q == x) ≡ b
        → pairs_of options x g (zip (line ∷ later) (r ∷ more)) ≡ cond b ((line, r) ∷ pairs_of options x (g + 1) (zip later more)) (pairs_of options x (g + 1) (zip later more))
    answered x b r more is =
        ap (λ c. cond c (cond (q == x) ((line, r) ∷ pairs_of options x (g + 1) (zip later more)) (pairs_of options x (g + 1) (zip later more))) (pairs_of options x g (zip later more))) get
        ∙ ap (λ c. cond c ((line, r) ∷ pairs_of options x (g + 1) (zip later more)) (pairs_of options x (g + 1) (zip later more))) is

    here : (q == q) ≡ true
    here = eq-eqb q q refl

    pub kinds_here : (lines : List Line) → slice_get found q ≡ Some lines → AllZip HasKind (line ∷ gets_of options q (g + 1) later) lines
    kinds_here lines at = subst (λ l. AllZip HasKind l lines) (asked q true here) (enough.gets q lines at)

    pub goes_get : (r : Line) (left : List Line) → slice_get found q ≡ Some (r ∷ left) → Goes options g (g + 1) line later r done done found (slice_set found q left)
    goes_get r left at = record {
      enough = record {
        owners = enough.owners;
        readers = length-set found q left ∙ enough.readers;
        writes = λ p replies is. count_skips p replies (none p) is;
        gets = λ x theirs is.
            elim (set_cases found q left x theirs is) as (λ _. AllZip HasKind (gets_of options x (g + 1) later) theirs) [
              | inl same ↦ subst (λ n. AllZip HasKind (gets_of options n (g + 1) later) theirs) same.0 (subst (AllZip HasKind (gets_of options q (g + 1) later)) same.1 (kinds_here (r ∷ left) at).1)
              | inr other ↦ subst (λ l. AllZip HasKind l theirs) (asked x false (ne_eqb q x other.0)) (enough.gets x theirs other.1)
            ];
      };
      merges = λ more m. record {
        lines = ((kinds_here (r ∷ left) at).0, m.lines);
        writes = λ p replies is. steps_skip p r more replies (ap (λ o. cond (is_in_partition options p line) (step_by o r) None) no_write ∙ none_either (is_in_partition options p line)) (none p) (m.writes p replies is);
        gets = λ x theirs is. by more m x theirs is (cases_eq q x);
      };
    }
      where
        none : (p : ℕ) → write_in options p line ≡ None
        none p = ap (λ o. cond (is_in_partition options p line) o None) no_write ∙ none_either (is_in_partition options p line)

        by : (more : List Line) → IsMergedRound options (g + 1) later more done (slice_set found q left) → (x : ℕ) (theirs : List Line) → slice_get found x ≡ Some theirs → (q ≡ x) ⊎ (q ≡ x → ⊥)
            → pairs_of options x g (zip (line ∷ later) (r ∷ more)) ≡ zip (gets_of options x g (line ∷ later)) theirs
        by more m x theirs is (inl same) =
            let own : r ∷ left ≡ theirs = same_Some _ _ (sym at ∙ ap (slice_get found) same ∙ is) in
            subst (λ n. pairs_of options n g (zip (line ∷ later) (r ∷ more)) ≡ zip (gets_of options n g (line ∷ later)) theirs) same
            (subst (λ l. pairs_of options q g (zip (line ∷ later) (r ∷ more)) ≡ zip (gets_of options q g (line ∷ later)) l) own
            (answered q true r more here ∙ ap (λ l. (line, r) ∷ l) (m.gets q left (set_here found q (r ∷ left) left at)) ∙ ap (λ l. zip l (r ∷ left)) (sym (asked q true here))))
        by more m x theirs is (inr other) =
            answered x false r more (ne_eqb q x other) ∙ m.gets x theirs (set_elsewhere found q x left (λ same. other (sym same)) ∙ is)
            ∙ ap (λ l. zip l theirs) (sym (asked x false (ne_eqb q x other)))
