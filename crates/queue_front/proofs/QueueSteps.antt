-- What a front before owners makes of itself with one request.
use Rattle.std.proofs.Common.{◌≡◌, ℕ, zero, suc, ◌+◌, ◌-◌, ◌<◌, ◌≤◌, Bool, false, List, [], ◌∷◌, ◌++◌, length, map, Option, Some, slice_get, slice_set, get_or, length-set, refl, sym, ap, ◌∙◌, subst, arith, ◌||◌}
use Rattle.std.specs.List.{All, AllByRecursion, sum_by, list_any}
use Rattle.std.proofs.lemmas.Option.{same_Some, slice_get_within, slice_get_read, get_or_from_slice_get}
use Rattle.std.proofs.lemmas.List.{length_push}
use Rattle.std.proofs.lemmas.List.Folds.{list_any-append}
use Rattle.std.proofs.lemmas.List.Sums.{sum_by-cons, sum_by-set}
use Rattle.std.proofs.lemmas.List.Elements.{All-push, All-set, All-same, All-weaker, All-from_recursion, recursion_from_All}
use Rattle.list_laws.proofs.Places.{set_elsewhere, set_here}
use Rattle.list_laws.proofs.AllElements.{all_at}
use Rattle.mica_words.specs.Hash.{hash_of, hash_partition, partition_of}
use Rattle.mica_words.proofs.Hashes.{partition_of_hash, partition_of-below}
use Rattle.partition_model.specs.declared.options.Options.{Options}
use Rattle.partition_model.specs.declared.write.Write.{Write}
use Rattle.partition_model.specs.declared.write.Outcome.{Outcome}
use Rattle.partition_model.specs.declared.write.Answer.{Answer}
use Rattle.partition_model.specs.Answer.{IsAnswer}
use Rattle.owner_queue.specs.declared.message.Job.{Job}
use Rattle.owner_queue.specs.declared.message.Message.TheVariants as message
use Rattle.owner_queue.specs.Messages.{ticket_of, is_end}
use Rattle.owner_queue.specs.AckEnds.{AckBox}
use Rattle.owner_queue.specs.JobEnds.{Outbox}
use Rattle.queue_front.specs.declared.queue_front.FrontPart.{FrontPart}
use Rattle.fronts.specs.Session.{Session, ChangesOnly, Writes, Reads}
use Rattle.queue_front.specs.QueueFront.{QueueView, queue_view, IsOfOneTable, IsFrontPart, IsNewPart, IsQueueFront, StaysPart, PartWrites, PartReads, stand_of, session_of, session_or_none, sessions_of}

any_push : {X : Type 0} (p : X → Bool) (xs : List X) (x : X) → list_any p xs ≡ false → p x ≡ false → list_any p (xs ++ x ∷ []) ≡ false
any_push p xs x all one = list_any-append p xs (x ∷ []) ∙ ap (λ b. b || list_any p (x ∷ [])) all ∙ ap (λ b. b || false) one

pub stays_whole : (old new : FrontPart) → StaysPart old new → IsOfOneTable old → IsOfOneTable new
stays_whole old new stays whole = record {
  home = ap (λ (b : AckBox). b.table) stays.acks ∙ whole.home ∙ sym stays.home;
  shape = ap (λ (b : AckBox). b.shape) stays.acks ∙ whole.shape ∙ sym stays.shape;
}

-- a part that stays stands where it stood, and so do all where it was set
stand_same : (old new : FrontPart) → StaysPart old new → new.jobs.queue ≡ old.jobs.queue → new.jobs.number ≡ old.jobs.number → new.jobs.jobs ≡ old.jobs.jobs → stand_of new ≡ stand_of old
stand_same old new stays queue number most = λ i. record {
  jobs = queue i;
  number = number i;
  most = most i;
  acks = ap (λ (b : AckBox). b.queue) stays.acks i;
  table = ap (λ (b : AckBox). b.table) stays.acks i;
}

set_stands : (parts : List FrontPart) (at : ℕ) (part new : FrontPart) → slice_get parts at ≡ Some part → stand_of new ≡ stand_of part
    → map stand_of (slice_set parts at new) ≡ map stand_of parts
set_stands [] at part new here same = refl
set_stands (x ∷ parts) zero part new here same =
    let is : part ≡ x = same_Some _ _ (sym here) in
    ap (λ s. s ∷ map stand_of parts) (same ∙ ap stand_of is)
set_stands (x ∷ parts) (suc at) part new here same = ap (λ l. stand_of x ∷ l) (set_stands parts at part new here same)

-- a front that has sent nothing yet
pub new_front : (options : Options) (number most : ℕ) (parts : List FrontPart) → All (IsNewPart options number most) parts
    → All (IsFrontPart (queue_view options number 0 most parts)) parts × (sum_by (λ part. length part.jobs.sent) parts ≡ 0)
new_front options number most parts new = (All-weaker (IsNewPart options number most) (IsFrontPart (queue_view options number 0 most parts)) one parts new, none parts (recursion_from_All (IsNewPart options number most) parts new))
  where
    one : (part : FrontPart) → IsNewPart options number most part → IsFrontPart (queue_view options number 0 most parts) part
    one part it = record {
      shape = it.shape;
      whole = it.whole;
      sender = ap (λ (o : Outbox). o.number) it.fresh;
      most = ap (λ (o : Outbox). o.jobs) it.fresh ∙ omega arith;
      unended = ap (λ (o : Outbox). list_any is_end o.sent) it.fresh;
      tickets = All-same (λ m. ticket_of m < 0) part.jobs.sent [] (ap (λ (o : Outbox). o.sent) it.fresh) (All-from_recursion (λ m. ticket_of m < 0) [] tt);
    }

    none : (ps : List FrontPart) → AllByRecursion (IsNewPart options number most) ps → sum_by (λ part. length part.jobs.sent) ps ≡ 0
    none [] all = refl
    none (p ∷ ps) all = let first = ap (λ (o : Outbox). length o.sent) all.0.fresh in let rest = none ps all.1 in sum_by-cons (λ part. length part.jobs.sent) p ps ∙ omega arith

-- where a front, which contracts see as the view, finds the part of a key
pub record FindsPart (front view : QueueView) (key : List ℕ) (at : ℕ) (part : FrontPart) : Type 0 where
  pub lawful : IsQueueFront front
  pub view_is : front ≡ view
  pub number : at ≡ partition_of front.options.hashing key front.options.partitions
  pub here : slice_get front.parts at ≡ Some part

pub finds_part : {front view : QueueView} {key : List ℕ} {hash at : ℕ} {part : FrontPart} → IsQueueFront front → front ≡ view → hash ≡ hash_of front.options.hashing key
    → at ≡ hash_partition hash front.options.partitions → part ≡ get_or front.parts at part → FindsPart front view key at part
finds_part {front = front} {key = key} {at = at} {part = part} lawful view_is hash_is at_is read =
    let number = at_is ∙ ap (λ h. hash_partition h front.options.partitions) hash_is ∙ sym (partition_of_hash front.options.hashing key front.options.partitions) in
    let low = partition_of-below front.options.hashing key front.options.partitions lawful.valid.partitions.0 in
    record {
      lawful = lawful;
      view_is = view_is;
      number = number;
      here = slice_get_read front.parts (length front.parts) at part refl (omega (arith, number, low, lawful.many)) read;
    }

module _ {front view : QueueView} {key : List ℕ} {at : ℕ} {part : FrontPart} (finds : FindsPart front view key at part) (new : FrontPart) where
  abbrev parts_after : List FrontPart
  parts_after = slice_set front.parts at new

  is_part : IsFrontPart front part
  is_part = all_at (IsFrontPart front) front.parts at part (recursion_from_All (IsFrontPart front) front.parts finds.lawful.each) finds.here

  -- the front's law, by what the part has now
  set_keeps : (next left : ℕ) → next + left ≡ front.next + front.left → front.next ≤ next → StaysPart part new → new.jobs.number ≡ part.jobs.number → new.jobs.jobs ≡ part.jobs.jobs
      → list_any is_end new.jobs.sent ≡ false → All (λ m. ticket_of m < next) new.jobs.sent → length new.jobs.sent + front.next ≡ length part.jobs.sent + next
      → IsQueueFront (queue_view front.options front.number next left parts_after)
  set_keeps next left total more stays number jobs unended tickets count = record {
    valid = finds.lawful.valid;
    many = length-set front.parts at new ∙ finds.lawful.many;
    each = All-set (IsFrontPart after) front.parts at new (record {
      shape = stays.shape ∙ is_part.shape;
      whole = stays_whole part new stays is_part.whole;
      sender = number ∙ is_part.sender;
      most = jobs ∙ is_part.most ∙ sym total;
      unended = unended;
      tickets = tickets;
    }) (All-weaker (IsFrontPart front) (IsFrontPart after) (λ p it. record {
      shape = it.shape;
      whole = it.whole;
      sender = it.sender;
      most = it.most ∙ sym total;
      unended = it.unended;
      tickets = All-weaker (λ m. ticket_of m < front.next) (λ m. ticket_of m < next) (λ m less. omega (arith, less, more)) p.jobs.sent it.tickets;
    }) front.parts finds.lawful.each);
    sent =
        let sum = sum_by-set (λ (p : FrontPart). length p.jobs.sent) front.parts at new part (slice_get_within front.parts at part finds.here) in
        let was = ap (λ (p : FrontPart). length p.jobs.sent) (get_or_from_slice_get front.parts at part part finds.here) in
        let law = finds.lawful.sent in
        omega arith;
    few = omega (arith, total, finds.lawful.few);
  }
    where
      after : QueueView
      after = queue_view front.options front.number next left parts_after

  pub write_keeps : {job : Job} {outcome : Outcome} {stamp : ℕ} → job.ticket ≡ front.next → 0 < front.left → PartWrites part job outcome stamp new
      → IsQueueFront (queue_view front.options front.number (front.next + 1) (front.left - 1) parts_after)
  write_keeps {job} ticket some did =
      let sent : new.jobs.sent ≡ part.jobs.sent ++ message.Job job ∷ [] = ap (λ (o : Outbox). o.sent) did.jobs in
      let long = ap length sent ∙ length_push part.jobs.sent (message.Job job) in
      set_keeps (front.next + 1) (front.left - 1) (omega arith) (omega arith) did.stays (ap (λ (o : Outbox). o.number) did.jobs) (ap (λ (o : Outbox). o.jobs) did.jobs)
      (ap (list_any is_end) sent ∙ any_push is_end part.jobs.sent (message.Job job) is_part.unended refl)
      (All-same (λ m. ticket_of m < front.next + 1) new.jobs.sent (part.jobs.sent ++ message.Job job ∷ []) sent
      (All-push (λ m. ticket_of m < front.next + 1) part.jobs.sent (message.Job job)
      (All-weaker (λ m. ticket_of m < front.next) (λ m. ticket_of m < front.next + 1) (λ m less. omega (arith, less)) part.jobs.sent is_part.tickets) (omega (arith, ticket))))
      (omega arith)

  pub read_keeps : {answer : Answer} {stamp : ℕ} {buffer : List ℕ} → PartReads part key answer stamp buffer new
      → IsQueueFront (queue_view front.options front.number front.next front.left parts_after)
  read_keeps did =
      let sent = ap (λ (o : Outbox). o.sent) did.jobs in
      set_keeps front.next front.left refl (omega arith) did.stays (ap (λ (o : Outbox). o.number) did.jobs) (ap (λ (o : Outbox). o.jobs) did.jobs)
      (ap (list_any is_end) sent ∙ is_part.unended) (All-same (λ m. ticket_of m < front.next) new.jobs.sent part.jobs.sent sent is_part.tickets)
      (let long = ap length sent in omega arith)

  -- what holds of the front at the place holds of what contracts see of it at the key's partition
  in_view : (Q : QueueView → ℕ → Type 0) → Q front at → Q view (partition_of view.options.hashing key view.options.partitions)
  in_view Q holds =
      subst (λ (y : QueueView × ℕ). Q y.0 y.1)
      (λ i. (finds.view_is i, (finds.number ∙ ap (λ (v : QueueView). partition_of v.options.hashing key v.options.partitions) finds.view_is) i)) holds

  pub others_at : ChangesOnly (partition_of view.options.hashing key view.options.partitions) (sessions_of view.parts) (sessions_of parts_after)
  others_at = in_view (λ v p. ChangesOnly p (sessions_of v.parts) (sessions_of parts_after)) (λ q other. ap session_or_none (set_elsewhere front.parts at q new other))

  -- the sessions of the key's partition
  was : session_of part ≡ sessions_of front.parts at
  was = sym (ap session_or_none finds.here)

  is : session_of new ≡ sessions_of parts_after at
  is = sym (ap session_or_none (set_here front.parts at part new finds.here))

  pub writes_at : {job : Job} {outcome : Outcome} {stamp : ℕ} (write : Write) → job.write ≡ write → PartWrites part job outcome stamp new
      → Writes view.options false (sessions_of view.parts (partition_of view.options.hashing key view.options.partitions)) (record { write = write; outcome = outcome; stamp = stamp })
      (sessions_of parts_after (partition_of view.options.hashing key view.options.partitions))
  writes_at {outcome = outcome} {stamp = stamp} write same did =
      in_view (λ v p. Writes v.options false (sessions_of v.parts p) (record { write = write; outcome = outcome; stamp = stamp }) (sessions_of parts_after p))
      (subst (λ (y : Session × Session × Write). Writes front.options false y.0 (record { write = y.2; outcome = outcome; stamp = stamp }) y.1)
      (λ i. (was i, is i, same i)) (did.written front.options is_part.shape))

  pub reads_at : {answer : Answer} {stamp : ℕ} {buffer : List ℕ} → PartReads part key answer stamp buffer new
      → (value : Option (List ℕ)) × IsAnswer answer buffer value
      × Reads view.options false (sessions_of view.parts (partition_of view.options.hashing key view.options.partitions)) key stamp value (sessions_of parts_after (partition_of view.options.hashing key view.options.partitions))
  reads_at {stamp = stamp} did = (
    did.value,
    did.is,
    in_view (λ v p. Reads v.options false (sessions_of v.parts p) key stamp did.value (sessions_of parts_after p))
        (subst (λ (y : Session × Session). Reads front.options false y.0 key stamp did.value y.1) (λ i. (was i, is i)) (did.read front.options is_part.shape)),
  )

  stands_on : StaysPart part new → new.jobs.queue ≡ part.jobs.queue → new.jobs.number ≡ part.jobs.number → new.jobs.jobs ≡ part.jobs.jobs → map stand_of parts_after ≡ map stand_of view.parts
  stands_on stays queue number most =
      set_stands front.parts at part new finds.here (stand_same part new stays queue number most) ∙ ap (λ (v : QueueView). map stand_of v.parts) finds.view_is

  pub stands_write : {job : Job} {outcome : Outcome} {stamp : ℕ} → PartWrites part job outcome stamp new → map stand_of parts_after ≡ map stand_of view.parts
  stands_write did = stands_on did.stays (ap (λ (o : Outbox). o.queue) did.jobs) (ap (λ (o : Outbox). o.number) did.jobs) (ap (λ (o : Outbox). o.jobs) did.jobs)

  pub stands_read : {answer : Answer} {stamp : ℕ} {buffer : List ℕ} → PartReads part key answer stamp buffer new → map stand_of parts_after ≡ map stand_of view.parts
  stands_read did = stands_on did.stays (ap (λ (o : Outbox). o.queue) did.jobs) (ap (λ (o : Outbox). o.number) did.jobs) (ap (λ (o : Outbox). o.jobs) did.jobs)
