-- All batches, one after another: what is left of them, and what is known of the answers.
use Rattle.std.proofs.Common.{◌≡◌, ℕ, ◌+◌, ◌||◌, Bool, true, false, not, List, [], ◌∷◌, length, refl, sym, ap, subst, ◌∙◌, arith}
use Rattle.std.specs.List.{AllByRecursion}
use Rattle.std.proofs.lemmas.Bool.{or_parts, not-false, not_from_true}
use Rattle.mica_trace.specs.declared.line.TraceLine.{TraceLine}
use Rattle.batch_packets.specs.declared.batch.Request.{Request}
use Rattle.batch_packets.specs.declared.batch.Batch.{Batch}
use Rattle.batch_packets.specs.BatchGrammar.{IsBatch}
use Rattle.mica_client.specs.declared.options.TheConstants.{VERSION}
use Rattle.mica_client.specs.Batches.{Group, ask_of}
use Rattle.mica_client.specs.Answers.{KnownLines, is_answered, HasTickets, AreFor, IsOfTrace, KeepsAnswers}
use Rattle.mica_client.specs.Exchange.{lacks_answer}

abbrev pub Grows : KnownLines → KnownLines → Type 0
Grows old new = (ticket : ℕ) → is_answered old ticket ≡ true → is_answered new ticket ≡ true

abbrev pub Answered : KnownLines → Group → Type 0
Answered answers group = lacks_answer answers group.requests ≡ false

abbrev pub OfTrace : List TraceLine → List Group → Type 0
OfTrace trace groups = AllByRecursion (λ group. AllByRecursion (IsOfTrace trace) group.requests) groups

abbrev pub AreBatches : List Group → Type 0
AreBatches groups = (n : ℕ) → AllByRecursion (λ group. IsBatch (record { version = VERSION; number = n; requests = group.requests })) groups

abbrev pub HaveTickets : ℕ → List Group → Type 0
HaveTickets lines groups = AllByRecursion (λ group. HasTickets lines group.requests) groups

still_answered : (old new : KnownLines) (requests : List Request) → Grows old new → lacks_answer old requests ≡ false → lacks_answer new requests ≡ false
still_answered old new [] grows h = refl
still_answered old new (r ∷ rs) grows h =
    let parts = or_parts (not (is_answered old r.ticket)) (lacks_answer old rs) h in
    let known = grows r.ticket (not-false (is_answered old r.ticket) parts.0) in
    let no : not (is_answered new r.ticket) ≡ false = not_from_true (is_answered new r.ticket) known in
    ap (λ (b : Bool). b || lacks_answer new rs) no ∙ still_answered old new rs grows parts.1

-- the batch of this number of a group, at its port
pub ask_is : {number port : ℕ} {group : Group} {batch : Batch} → port ≡ group.port → batch ≡ (ask_of number group).batch → record { port = port; batch = batch } ≡ ask_of number group
ask_is {batch = batch} port_is batch_is = λ i. record { port = port_is i; batch = batch_is i }

-- these batches of all are left, behind so many
pub record Going (groups rest : List Group) (number : ℕ) (old now : KnownLines) : Type 0 where
  pub count : number + length rest ≡ length groups
  pub batches : AreBatches rest
  pub tickets : HaveTickets (length now) rest
  pub answered : (final : KnownLines) → Grows now final → AllByRecursion (Answered final) rest → AllByRecursion (Answered final) groups
  pub len : length now ≡ length old
  pub known : Grows old now
  pub lines : (trace : List TraceLine) → OfTrace trace groups → AreFor trace old → OfTrace trace rest × AreFor trace now

pub going_none : (groups : List Group) (answers : KnownLines) → AreBatches groups → HaveTickets (length answers) groups → Going groups groups 0 answers answers
going_none groups answers batches tickets = record {
  count = omega arith;
  batches = batches;
  tickets = tickets;
  answered = λ final grows h. h;
  len = refl;
  known = λ t h. h;
  lines = λ trace of h. (of, h);
}

pub going_more : (groups rest : List Group) (group : Group) (number : ℕ) (old mid new : KnownLines) → Going groups (group ∷ rest) number old mid → KeepsAnswers group.requests mid new
    → lacks_answer new group.requests ≡ false → Going groups rest (number + 1) old new
going_more groups rest group number old mid new going keeps done = record {
  count = omega (arith, going.count);
  batches = λ n. (going.batches n).1;
  tickets = subst (λ (n : ℕ). HaveTickets n rest) (sym keeps.len) going.tickets.1;
  answered = λ final grows h. going.answered final (λ t k. grows t (keeps.known t k)) (still_answered new final group.requests grows done, h);
  len = keeps.len ∙ going.len;
  known = λ t h. keeps.known t (going.known t h);
  lines = λ trace of h. let before = going.lines trace of h in (before.0.1, keeps.lines trace before.0.0 before.1);
}

pub all_answered : (groups : List Group) (number : ℕ) (old new : KnownLines) → Going groups [] number old new → AllByRecursion (Answered new) groups
all_answered groups number old new going = going.answered new (λ t h. h) tt
