-- From a round to the next: the report stays lawful, and each owner is where it leaves off.
use Rattle.std.proofs.Common.{◌≡◌, ℕ, ◌+◌, ◌<◌, ◌&&◌, List, [], ◌∷◌, ◌++◌, length, zip, take, slice_get, Some, refl, sym, ap, ◌∙◌, subst, arith, cond, take_all}
use Rattle.std.specs.List.{AllByRecursion, count_by, filter_map}
use Rattle.std.proofs.lemmas.List.Elements.{filter_map-append}
use Rattle.std.proofs.lemmas.List.Sums.{sum_by-append, sum_by-cons}
use Rattle.std.proofs.lemmas.Option.{slice_get_within, same_Some}
use Rattle.list_laws.proofs.Places.{element_at}
use Rattle.partition_model.specs.declared.options.Options.{Options}
use Rattle.partition_model.specs.Options.{IsValid}
use Rattle.partition_model.specs.History.{History, IsPrefix}
use Rattle.partition_model.specs.Run.{IsRunFrom, history_of}
use Rattle.mica_trace.specs.declared.line.TraceLine.{TraceLine}
use Rattle.mica_trace.specs.declared.report.Line.{Line}
use Rattle.mica_trace.specs.TraceGrammar.{IsTraceLine}
use Rattle.mica_trace.specs.Rounds.{is_in_partition, writes_of}
use Rattle.mica_trace.specs.LawfulReport.{IsLineFor, step_in, steps_of}
use Rattle.partition_words.specs.declared.shape.Shape.{Shape}
use Rattle.partition_words.specs.declared.state.OwnerState.{OwnerState}
use Rattle.owner_queue.proofs.Runs.{run_as}
use Rattle.partition_words.specs.Shape.{shape_of, options_of}
use Rattle.partition_words.specs.OwnerState.{as_made}
use Rattle.partition_words.specs.declared.reader.ReaderState.{ReaderState}
use Rattle.partition_table.specs.declared.tables.KeptSeat.{KeptSeat}
use Rattle.mica_trace.specs.RoundReport.{LinePair, EndsRound, IsOneRound, is_get, gets_in, pairs_of, gets_of, line_pairs_in, AnswersRise, history_in, IsRoundReport}
use Rattle.mica_replay.specs.Between.{HaveWorked}
use Rattle.mica_replay.specs.Merged.{IsMergedRound}
use Rattle.mica_replay.specs.Replies.{Reply, steps_with}
use Rattle.mica_trace.specs.RoundReport.{HasKind}
use Rattle.partition_table.specs.Tabled.{kept_seat_in}
use Rattle.mica_replay.specs.Replayed.{gets_to_partition, IsKeptSeatOf, IsReplayed}
use Rattle.mica_replay.specs.Between.{IsOwnerAt, IsReplaying, seat_of, closed_of, HasRound}
use Rattle.mica_trace.proofs.ListParts.{zip-append, length_zip}
use Rattle.partition_model.proofs.Runs.{history-append}
use Rattle.mica_trace.proofs.RoundPlaces.{steps_count}
use Rattle.mica_trace.proofs.RoundLawful.{none_lawful, round_lawful}
use Rattle.mica_replay.proofs.MergedReport.{merged_report}
use Rattle.mica_replay.proofs.ClosedTries.{same_sums, gets_shared}

-- before any line
pub starts : (options : Options) (owners : List OwnerState) → length owners ≡ options.partitions → ((p : ℕ) (owner : OwnerState) → slice_get owners p ≡ Some owner → owner ≡ as_made (shape_of options))
    → IsReplaying options [] [] owners
starts options owners many made = record {
  lawful = none_lawful options;
  many = many;
  each = λ p owner is.
      let at = made p owner is in
      record {
        shape = ap (λ (o : OwnerState). o.shape) at;
        history = ap (λ (o : OwnerState). o.history) at;
        closed = ap (λ (o : OwnerState). o.closed) at;
        idle = ap (λ (o : OwnerState). o.phase) at;
      };
}

-- the gets of a list of pairs are those of its lines
gets_of_pairs : (options : Options) (p : ℕ) (lines : List TraceLine) (printed : List Line) → length printed ≡ length lines
    → count_by (λ (pair : LinePair). is_get pair.0 && is_in_partition options p pair.0) (zip lines printed) ≡ gets_to_partition options p lines
gets_of_pairs options p [] [] same = refl
gets_of_pairs options p [] (r ∷ printed) same = absurd (omega arith)
gets_of_pairs options p (line ∷ lines) [] same = absurd (omega arith)
gets_of_pairs options p (line ∷ lines) (r ∷ printed) same =
    let rest = gets_of_pairs options p lines printed (omega arith) in
    let one = sum_by-cons (λ (pair : LinePair). cond (is_get pair.0 && is_in_partition options p pair.0) 1 0) (line, r) (zip lines printed) in
    let two = sum_by-cons (λ (l : TraceLine). cond (is_get l && is_in_partition options p l) 1 0) line lines in
    one ∙ ap (λ n. cond (is_get line && is_in_partition options p line) 1 0 + n) rest ∙ sym two

module _ (options : Options) (valid : IsValid options) (before round : List TraceLine) (report printed : List Line) (owners ran_owners met_owners : List OwnerState) (seats : List (List ReaderState))
    (done : List (List Reply)) (found : List (List Line)) (so_far : IsReplaying options before report owners) (ended : EndsRound before) (one : IsOneRound round)
    (lines_before : AllByRecursion IsTraceLine before) (lines_here : AllByRecursion IsTraceLine round)
    (here : HasRound options before round owners ran_owners met_owners seats done found) (merged : IsMergedRound options (gets_in before) round printed done found) where
  -- the owner of partition p, and what the round made of it
  record Of (p : ℕ) : Type 0 where
    old : OwnerState
    ran : OwnerState
    met : OwnerState
    replies : List Reply
    is_old : slice_get owners p ≡ Some old
    is_ran : slice_get ran_owners p ≡ Some ran
    is_met : slice_get met_owners p ≡ Some met
    is_done : slice_get done p ≡ Some replies

  of : (p : ℕ) → p < length owners → Of p
  of p less =
      let one = here.owners_done in
      let two = here.owners_ran in
      let three = here.owners_met in
      let old = element_at owners p less in
      let ran = element_at ran_owners p (omega arith) in
      let met = element_at met_owners p (omega arith) in
      let replies = element_at done p (omega arith) in
      record { old = old.0; ran = ran.0; met = met.0; replies = replies.0; is_old = old.1; is_ran = ran.1; is_met = met.1; is_done = replies.1 }

  -- what the owner's history has gained by the round
  ran_history : (p : ℕ) (it : Of p) → it.ran.history ≡ history_in options p before report ++ history_of (steps_with (writes_of options p round) it.replies)
  ran_history p it =
      let was = so_far.each p it.old it.is_old in
      let wrote = here.writes p it.old it.ran it.replies it.is_old it.is_ran it.is_done in
      ap (λ (o : OwnerState). o.history) wrote.gained ∙ ap (λ h. h ++ history_of (steps_with (writes_of options p round) it.replies)) was.history

  met_history : (p : ℕ) (it : Of p) → it.met.history ≡ history_in options p before report ++ history_of (steps_with (writes_of options p round) it.replies)
  met_history p it = (here.meets p it.ran it.met it.is_ran it.is_met).history ∙ ran_history p it

  worked : HaveWorked options before report round done found
  worked = record {
    owners = here.owners_done ∙ so_far.many;
    readers = here.readers;
    writes = λ p replies is_done.
        let count = here.owners_done in
        let less = slice_get_within done p replies is_done in
        let it = of p (omega arith) in
        let same : it.replies ≡ replies = same_Some _ _ (sym it.is_done ∙ is_done) in
        let was = so_far.each p it.old it.is_old in
        let wrote = here.writes p it.old it.ran it.replies it.is_old it.is_ran it.is_done in
        let by_shape = subst (λ (s : Shape). IsRunFrom (options_of s) it.old.history (steps_with (writes_of options p round) it.replies)) was.shape wrote.run in
        let by_history = subst (λ (h : History). IsRunFrom (options_of (shape_of options)) h (steps_with (writes_of options p round) it.replies)) was.history by_shape in
        subst (λ (rs : List Reply). IsRunFrom options (history_in options p before report) (steps_with (writes_of options p round) rs)) same (run_as options _ _ by_history);
    gets = λ q p lines replies is_found is_done.
        let count = here.owners_done in
        let many = so_far.many in
        let readers = here.readers in
        let less = slice_get_within done p replies is_done in
        let low = slice_get_within found q lines is_found in
        let it = of p (omega arith) in
        let same : it.replies ≡ replies = same_Some _ _ (sym it.is_done ∙ is_done) in
        let was = so_far.each p it.old it.is_old in
        let seat = here.seats_of q p (omega arith) (omega arith) in
        let read = here.reads q p it.old lines seat.0 it.is_old is_found seat.1 in
        let met = here.meets p it.ran it.met it.is_ran it.is_met in
        let seen = subst (IsPrefix seat.0.seen) (met_history p it) (met.seen q seat.0 seat.1) in (
          seat.0.seen,
          subst (λ (rs : List Reply). IsPrefix seat.0.seen (history_in options p before report ++ history_of (steps_with (writes_of options p round) rs))) same seen,
          subst (λ (h : History). AnswersRise options h (line_pairs_in options p (zip (gets_of options q (gets_in before) round) lines)) seat.0.seen) was.history read.answers,
        );
  }

  reported : IsRoundReport options before report round printed
  reported = merged_report options valid before report round printed done found lines_before lines_here worked merged

  -- what is printed leaves the history that the owner has
  history_here : (p : ℕ) (it : Of p) → it.met.history ≡ history_in options p (before ++ round) (report ++ printed)
  history_here p it =
      let same = length_zip IsLineFor before report so_far.lawful.lines in
      met_history p it
      ∙ ap (λ s. history_in options p before report ++ history_of s) (sym (merged.writes p it.replies it.is_done))
      ∙ sym (history-append (steps_of options p before report) (steps_of options p round printed))
      ∙ ap history_of (sym (ap (filter_map (step_in options p)) (zip-append before round report printed same) ∙ filter_map-append (step_in options p) (zip before report) (zip round printed)))

  -- a reader's lines in the partition are as many as its seat closed tries
  closed_here : (p : ℕ) (it : Of p) (q : ℕ) → q < options.readers → closed_of (seat_of seats q p) ≡ length (line_pairs_in options p (pairs_of options q (gets_in before) (zip round printed)))
  closed_here p it q below =
      let many = so_far.many in
      let readers = here.readers in
      let less = slice_get_within owners p it.old it.is_old in
      let lines = element_at found q (omega arith) in
      let seat = here.seats_of q p below (omega arith) in
      let read = here.reads q p it.old lines.0 seat.0 it.is_old lines.1 seat.1 in
      let none : 0 + length (line_pairs_in options p (zip (gets_of options q (gets_in before) round) lines.0)) ≡ length (line_pairs_in options p (zip (gets_of options q (gets_in before) round) lines.0)) = omega arith in
      ap closed_of seat.1 ∙ read.seat.closed ∙ none ∙ ap (λ (pairs : List LinePair). length (line_pairs_in options p pairs)) (sym (merged.gets q lines.0 lines.1))

  closed_all : (p : ℕ) (it : Of p) → it.met.closed ≡ gets_to_partition options p (before ++ round)
  closed_all p it =
      let some = valid.readers.0 in
      let was = so_far.each p it.old it.is_old in
      let wrote = here.writes p it.old it.ran it.replies it.is_old it.is_ran it.is_done in
      let met = here.meets p it.ran it.met it.is_ran it.is_met in
      let ran_closed : it.ran.closed ≡ gets_to_partition options p before = ap (λ (o : OwnerState). o.closed) wrote.gained ∙ was.closed in
      let sums = same_sums options.readers (λ q. closed_of (seat_of seats q p)) (λ q. length (line_pairs_in options p (pairs_of options q (gets_in before) (zip round printed)))) (closed_here p it) in
      let shared = gets_shared options p (omega arith) (zip round printed) (gets_in before) in
      let counted = gets_of_pairs options p round printed (length_zip HasKind round printed merged.lines) in
      let parts : gets_to_partition options p (before ++ round) ≡ gets_to_partition options p before + gets_to_partition options p round = sum_by-append (λ l. cond (is_get l && is_in_partition options p l) 1 0) before round in
      met.closed ∙ omega arith

  pub next_round : IsReplaying options (before ++ round) (report ++ printed) met_owners
  next_round = record {
    lawful = round_lawful options valid before report round printed so_far.lawful ended one reported;
    many = here.owners_met ∙ so_far.many;
    each = λ p owner is.
        let count = here.owners_met in
        let less = slice_get_within met_owners p owner is in
        let it = of p (omega arith) in
        let same : it.met ≡ owner = same_Some _ _ (sym it.is_met ∙ is) in
        let was = so_far.each p it.old it.is_old in
        let wrote = here.writes p it.old it.ran it.replies it.is_old it.is_ran it.is_done in
        let met = here.meets p it.ran it.met it.is_ran it.is_met in
        subst (IsOwnerAt options (before ++ round) (report ++ printed) p) same (record {
          shape = met.shape ∙ ap (λ (o : OwnerState). o.shape) wrote.gained ∙ was.shape;
          history = history_here p it;
          closed = closed_all p it;
          idle = met.phase ∙ ap (λ (o : OwnerState). o.phase) wrote.gained ∙ was.idle;
        });
  }

-- after the last round, the kept seats are those of the run
pub ends : (options : Options) (trace : List TraceLine) (report : List Line) (owners : List OwnerState) (kept : List KeptSeat) → IsReplaying options trace report owners → length kept ≡ length owners
    → ((p : ℕ) (entry : KeptSeat) → slice_get kept p ≡ Some entry → (owner : OwnerState) × (slice_get owners p ≡ Some owner) × (entry ≡ kept_seat_in owner)) → IsReplayed options trace report kept
ends options trace report owners kept so_far many each = record {
  lawful = so_far.lawful;
  tables = record {
    many = many ∙ so_far.many;
    each = λ p entry is.
        let at = each p entry is in
        let was = so_far.each p at.0 at.1 in
        let count = steps_count options p trace report so_far.lawful.lines in
        subst (IsKeptSeatOf options trace report p) (sym at.2) (record {
          shape = was.shape;
          history = was.history ∙ ap history_of (sym (ap (λ n. take n (steps_of options p trace report)) (sym count) ∙ take_all (length (steps_of options p trace report)) (steps_of options p trace report) (omega arith)));
          closed = was.closed;
        });
  };
}
