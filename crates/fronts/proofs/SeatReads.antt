-- What a front knows once its seat has answered a get.
use Rattle.std.proofs.Common.{◌≡◌, ℕ, false, List, length, Option, Some, sym, ap, ◌∙◌, length-append}
use Rattle.std.proofs.lemmas.Bool.{true≢false}
use Rattle.partition_model.specs.declared.options.Options.{Options}
use Rattle.partition_model.specs.Run.{RunStep}
use Rattle.partition_words.specs.declared.reader.ReaderState.{ReaderState}
use Rattle.partition_words.specs.Shape.{shape_of}
use Rattle.optimistic_get.specs.Asked.{IsReadAt}
use Rattle.optimistic_get.proofs.Repeated.{same_answer}
use Rattle.fronts.specs.Session.{Reads}
use Rattle.fronts.specs.SeatSession.{session_at}

-- what a seat's answer makes of a front's session
pub was_read : {options : Options} {old new : ReaderState} {key : List ℕ} {stamp : ℕ} {value : Option (List ℕ)} {steps steps_now : List RunStep} {last last_now : ℕ} → old.shape ≡ shape_of options
    → steps_now ≡ steps → last_now ≡ stamp → IsReadAt old key stamp value new → Reads options false (session_at old steps last) key stamp value (session_at new steps_now last_now)
was_read {options = options} {old = old} {new = new} {key = key} {stamp = stamp} {value = value} shape steps last read =
    let seat = read.seat in
    record {
      grows = seat.seen;
      answer = same_answer options old.shape new.seen key stamp value shape read.answer;
      done = seat.done;
      last = last;
      alone = λ off. absurd (true≢false (sym off));
      told = (
        length seat.more,
        ap Some (λ i. record { steps = steps i; tried = seat.tried i; failed = (ap length seat.fails ∙ length-append old.fails seat.more) i; closed = seat.closed i }),
      );
    }
