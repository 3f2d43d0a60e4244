-- What was sent in an exchange is what was left of the batches before, but for what is left after.
use Rattle.std.proofs.Common.{◌≡◌, ℕ, List, [], ◌∷◌, ◌++◌, map, refl, sym, ap, ◌∙◌, append-nil, inl, inr, Result, Ok, Err}
use Rattle.outside.specs.Traffic.{Datagram}
use Rattle.mica_client.specs.Talk.{Passed, sent, received, sent_in}
use Rattle.mica_client.specs.Batches.{Ask}
use Rattle.mica_trace.specs.declared.report.Line.{Line}
use Rattle.batch_packets.specs.declared.batch.Batch.{Batch}
use Rattle.mica_client.specs.declared.fault.AskFault.{AskFault}
use Rattle.mica_client.specs.declared.fault.AskFault.TheVariants.{Unread, Stranger, Double, Wrong, Lost, Link, NoMemory}
use Rattle.mica_client.specs.Answers.{KnownLines}
use Rattle.mica_client.specs.Exchange.{Standing, Runs, IsWhole, sending, ComesTo, StopsAt, MeansForAsk}

pub sent_so_far : (before after : Standing) (passed : List Passed) → Runs before passed after → sent_in passed ++ map sending after.left ≡ map sending before.left
sent_so_far before after [] r = ap (λ (s : Standing). map sending s.left) r
sent_so_far before after (sent port bytes faults ∷ more) r =
    let step = r.1 in
    let first : (port, bytes) ≡ sending step.ask = ap (λ (p : ℕ). (p, bytes)) step.port_is ∙ ap (λ (b : Datagram). (step.ask.port, b)) step.text in
    ap (λ (l : List (ℕ × Datagram)). (port, bytes) ∷ l) (sent_so_far r.0 after more r.2)
    ∙ ap (λ (p : ℕ × Datagram). p ∷ map sending r.0.left) first
    ∙ sym (ap (λ (l : List Ask). map sending l) step.next)
sent_so_far before after (received bytes faults ∷ more) r =
    sent_so_far r.0 after more r.2 ∙ ap (λ (l : List Ask). map sending l) r.1.left

pub sent_whole : (before after : Standing) (passed : List Passed) → Runs before passed after → IsWhole after → sent_in passed ≡ map sending before.left
sent_whole before after passed r whole =
    sym (append-nil (sent_in passed)) ∙ ap (λ (l : List Ask). sent_in passed ++ map sending l) (sym whole.all_sent) ∙ sent_so_far before after passed r

-- the last datagram of a fault was received, so nothing more was sent
sent_last : (earlier : List Passed) (bytes : Datagram) (faults : ℕ) → sent_in (earlier ++ received bytes faults ∷ []) ≡ sent_in earlier
sent_last [] bytes faults = refl
sent_last (sent port b f ∷ more) bytes faults = ap (λ (l : List (ℕ × Datagram)). (port, b) ∷ l) (sent_last more bytes faults)
sent_last (received b f ∷ more) bytes faults = sent_last more bytes faults

abbrev pub BeginsSending : Standing → List Passed → Type 0
BeginsSending before passed = (later : List (ℕ × Datagram)) × (sent_in passed ++ later ≡ map sending before.left)

begins_coming : (before : Standing) (passed : List Passed) (fact : Standing → Type 0) → ComesTo before passed fact → BeginsSending before passed
begins_coming before passed fact c = (map sending c.0.left, sent_so_far before c.0 passed c.1)

begins_stopping : (before : Standing) (passed : List Passed) (shows : Batch → KnownLines → Datagram → Type 0) → StopsAt before passed shows → BeginsSending before passed
begins_stopping before passed shows s = (
  map sending s.at.left,
  ap (λ (l : List (ℕ × Datagram)). l ++ map sending s.at.left) (ap (λ (p : List Passed). sent_in p) s.last ∙ sent_last s.earlier s.bytes s.faults)
      ∙ sent_so_far before s.at s.earlier s.runs,
)

pub begins_sending : (result : Result (List Line) AskFault) (before : Standing) (passed : List Passed) (left : List Datagram) → MeansForAsk result before passed left → BeginsSending before passed
begins_sending (Ok report) before passed left m = begins_coming before passed _ m
begins_sending (Err Unread) before passed left m = begins_stopping before passed _ m
begins_sending (Err (Stranger ticket)) before passed left m = begins_stopping before passed _ m
begins_sending (Err (Double ticket)) before passed left m = begins_stopping before passed _ m
begins_sending (Err (Wrong ticket)) before passed left m = begins_stopping before passed _ m
begins_sending (Err Lost) before passed left m = begins_coming before passed _ m
begins_sending (Err Link) before passed left m = begins_coming before passed _ m
begins_sending (Err NoMemory) before passed left (inl m) = begins_coming before passed _ m
begins_sending (Err NoMemory) before passed left (inr m) = begins_stopping before passed _ m
