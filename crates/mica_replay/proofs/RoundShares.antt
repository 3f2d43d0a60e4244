-- What the workers of a round made of their parts is what the round makes of its lines.
use Rattle.std.proofs.Common.{◌≡◌, ℕ, List, length, map, slice_get, Option, Some, None, sym, ap, ◌∙◌, subst, arith, IfSome}
use Rattle.std.specs.Prelude.{option_map, option_and_then}
use Rattle.std.proofs.lemmas.List.{length-map}
use Rattle.std.proofs.lemmas.Option.{slice_get-map, slice_get_within, same_Some}
use Rattle.list_laws.proofs.Places.{element_at, from_map}
use Rattle.partition_model.specs.declared.options.Options.{Options}
use Rattle.partition_model.specs.declared.write.Write.{Write}
use Rattle.mica_trace.specs.declared.line.TraceLine.{TraceLine}
use Rattle.mica_trace.specs.declared.report.Line.{Line}
use Rattle.mica_trace.specs.Rounds.{writes_of}
use Rattle.partition_words.specs.declared.state.OwnerState.{OwnerState}
use Rattle.mica_trace.specs.RoundReport.{gets_in}
use Rattle.partition_words.specs.Joins.{lent}
use Rattle.mica_replay.specs.LineNumbers.{lines_at}
use Rattle.mica_replay.specs.ReaderGets.{HasRead, HaveRead}
use Rattle.mica_replay.specs.Replies.{Reply, HasWritten}
use Rattle.mica_replay.specs.Between.{HasMet, HasRound}
use Rattle.mica_replay.specs.Lending.{OwnerPart, lent_part}
use Rattle.mica_replay.specs.RoundRun.{ReaderPart, HasRunRound, IsSplit, state_of_owner, replies_of}

pub found_is : (o : Option (List Line)) (P : List Line → Type 0) (lines : List Line) → o ≡ Some lines → IfSome o P → P lines
found_is None P lines is holds = absurd (cc)
found_is (Some own) P lines is holds = subst P (same_Some _ _ is) holds

-- `found` are the lines that the readers found, none of whom lacked memory
pub shares : (options : Options) (trace before round : List TraceLine) (writes : ℕ → List Write) (owner_parts news : List OwnerPart) (reader_parts left_readers : List ReaderPart) (found : List (List Line))
    → (split : IsSplit options trace (gets_in before) round writes owner_parts reader_parts) → (run : HasRunRound trace options writes owner_parts news reader_parts left_readers) → map (λ (t : ReaderPart). t.found) left_readers ≡ map (λ (l : List Line). Some l) found
    → HasRound options before round (map state_of_owner owner_parts) (map state_of_owner run.ran_owners) (map state_of_owner news) run.seats (map replies_of run.ran_owners) found
shares options trace before round writes owner_parts news reader_parts left_readers found split run all_found =
    let long_works = length-map owner_parts state_of_owner in
    let long_rans = length-map run.ran_owners state_of_owner in
    let long_news = length-map news state_of_owner in
    let long_done = length-map run.ran_owners replies_of in
    let long_found = ap length all_found in
    let long_lefts = length-map left_readers (λ (t : ReaderPart). t.found) in
    let long_some = length-map found (λ (l : List Line). Some l) in
    let one = run.ran.many in
    let two = run.met in
    let three = run.seated in
    let four = run.left in
    let owners = split.owners in
    let readers = split.readers in
    record {
      owners_done = omega arith;
      owners_ran = omega arith;
      owners_met = omega arith;
      readers = omega arith;
      seats_of = λ q p below low.
          let own = element_at run.seats q (omega arith) in
          let old = element_at reader_parts q (omega arith) in
          let new = element_at left_readers q (omega arith) in
          let turned = run.read q old.0 new.0 own.0 old.1 new.1 own.1 in
          let many = turned.many in
          let seat = element_at own.0 p (omega arith) in
          (seat.0, ap (λ o. option_and_then (λ l. slice_get l p) o) own.1 ∙ seat.1);
      writes = λ p old ran replies is_old is_ran is_done.
          let was = from_map state_of_owner owner_parts p old is_old in
          let now = from_map state_of_owner run.ran_owners p ran is_ran in
          let done = from_map replies_of run.ran_owners p replies is_done in
          let same : now.0 ≡ done.0 = same_Some _ _ (sym now.1 ∙ done.1) in
          let wrote = (run.ran.each p was.0 now.0 was.1 now.1).written in
          let by_lines = subst (λ (ws : List Write). HasWritten was.0.state now.0.state ws now.0.done.list) (split.queued p) wrote in
          subst (λ (rs : List Reply). HasWritten old ran (writes_of options p round) rs) (ap (λ (w : OwnerPart). w.done.list) same ∙ done.2)
          (subst (λ (o : OwnerState). HasWritten old o (writes_of options p round) now.0.done.list) now.2
          (subst (λ (o : OwnerState). HasWritten o now.0.state (writes_of options p round) now.0.done.list) was.2 by_lines));
      reads = λ q p old lines seat is_old is_found is_seat.
          let was = from_map state_of_owner owner_parts p old is_old in
          let low = slice_get_within found q lines is_found in
          let own = element_at run.seats q (omega arith) in
          let turn = element_at reader_parts q (omega arith) in
          let new = element_at left_readers q (omega arith) in
          let turned = run.read q turn.0 new.0 own.0 turn.1 new.1 own.1 in
          let is : new.0.found ≡ Some lines = same_Some _ _ (sym (slice_get-map (λ (t : ReaderPart). t.found) left_readers q ∙ ap (option_map (λ (t : ReaderPart). t.found)) new.1)
          ∙ ap (λ l. slice_get l q) all_found ∙ (slice_get-map (λ (l : List Line). Some l) found q ∙ ap (option_map (λ (l : List Line). Some l)) is_found)) in
          let read = found_is new.0.found (λ (l : List Line). HaveRead options (lines_at trace turn.0.gets) l (map lent_part owner_parts) own.0) lines is turned.read in
          let seat_here : slice_get own.0 p ≡ Some seat = ap (λ o. option_and_then (λ l. slice_get l p) o) (sym own.1) ∙ is_seat in
          let lent_here : slice_get (map lent_part owner_parts) p ≡ Some (lent_part was.0) = slice_get-map lent_part owner_parts p ∙ ap (option_map lent_part) was.1 in
          let here = read.each p (lent_part was.0) seat lent_here seat_here in
          subst (λ (ls : List TraceLine). HasRead options p ls lines (lent old) seat) (split.gets q turn.0 turn.1)
          (subst (λ (o : OwnerState). HasRead options p (lines_at trace turn.0.gets) lines (lent o) seat) was.2 here);
      meets = λ p ran met is_ran is_met.
          let was = from_map state_of_owner run.ran_owners p ran is_ran in
          let now = from_map state_of_owner news p met is_met in
          let it = (run.meets p was.0 now.0 was.1 now.1).met in
          subst (λ (n : ℕ). HasMet n run.seats p ran met) readers
          (subst (λ (o : OwnerState). HasMet (length reader_parts) run.seats p ran o) now.2 (subst (λ (o : OwnerState). HasMet (length reader_parts) run.seats p o now.0.state) was.2 it));
    }
