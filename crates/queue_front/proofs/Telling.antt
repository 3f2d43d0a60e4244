-- What a front knows once it has told its seat the note of an acknowledgement, and once its seat has answered a get.
use Rattle.std.proofs.Common.{◌≡◌, ℕ, ◌<◌, ◌≤◌, Bool, true, false, List, [], ◌∷◌, ◌++◌, map, Option, Some, None, refl, sym, ap, ◌∙◌, subst, append-nil, append_assoc}
use Rattle.std.proofs.lemmas.Bool.{true≢false}
use Rattle.std.proofs.lemmas.List.{map-append}
use Rattle.partition_model.specs.declared.options.Options.{Options}
use Rattle.partition_model.specs.declared.write.Answer.{Answer}
use Rattle.partition_model.specs.declared.write.Answer.TheVariants.{Hit, Miss}
use Rattle.partition_model.specs.declared.write.Outcome.{Outcome}
use Rattle.partition_model.specs.declared.write.Write.{Write}
use Rattle.partition_model.specs.Answer.{IsAnswer}
use Rattle.partition_model.specs.Write.{is_accepted}
use Rattle.partition_model.specs.History.{History, IsPrefix, stamp_in, stamp_of}
use Rattle.partition_model.specs.ReplyAt.{IsReplyAt}
use Rattle.partition_words.specs.declared.shape.Shape.{Shape}
use Rattle.partition_words.specs.declared.reader.ReaderState.{ReaderState}
use Rattle.partition_words.specs.Shape.{shape_of, options_of}
use Rattle.partition_words.specs.ReaderState.{stamped}
use Rattle.partition_words.specs.Joins.{told}
use Rattle.partition_words.proofs.SameMachine.{same_state, same_may_give}
use Rattle.partition_words.proofs.Prefixes.{prefix_then}
use Rattle.partition_table.specs.Seats.{reader_state, reader_home, note_state}
use Rattle.optimistic_get.specs.declared.getting.Got.{Got}
use Rattle.optimistic_get.specs.declared.getting.Got.TheVariants.{Hit as GotHit, Miss as GotMiss}
use Rattle.optimistic_get.specs.Asked.{IsReadAt, IsRead}
use Rattle.owner_queue.specs.declared.ack.Ack.{Ack}
use Rattle.owner_queue.specs.declared.message.Job.{Job}
use Rattle.owner_queue.specs.declared.message.Message.TheVariants as message
use Rattle.owner_queue.specs.Acked.{IsAcked}
use Rattle.owner_queue.specs.AckOrder.{AckMayFollow}
use Rattle.owner_queue.specs.AckEnds.{AckBox, ack_box}
use Rattle.owner_queue.specs.JobEnds.{outbox}
use Rattle.queue_front.specs.declared.queue_front.FrontPart.{FrontPart}
use Rattle.fronts.specs.Session.{Writes, TellsStep}
use Rattle.queue_front.specs.QueueFront.{IsOfOneTable, HasTakenMore, HasAwaited, PartWrites, PartReads, step_by, told_by, session_of}
use Rattle.fronts.proofs.SeatReads.{was_read}

-- Acknowledgements taken

pub awaits_none : (box : AckBox) → HasTakenMore box box
awaits_none box = record { more = []; taken = ap (ack_box box.queue box.table box.shape) (sym (append-nil box.list)) }

module _ (old mid new : AckBox) (ack : Ack) (so_far : HasTakenMore old mid) (is : new ≡ ack_box mid.queue mid.table mid.shape (mid.list ++ ack ∷ [])) where
  taken_more : new ≡ ack_box old.queue old.table old.shape (old.list ++ so_far.more ++ ack ∷ [])
  taken_more = is ∙ ap (λ (b : AckBox). ack_box b.queue b.table b.shape (b.list ++ ack ∷ [])) so_far.taken

  pub awaits_more : HasTakenMore old new
  awaits_more = record { more = so_far.more ++ ack ∷ []; taken = taken_more ∙ ap (ack_box old.queue old.table old.shape) (append_assoc old.list so_far.more (ack ∷ [])) }

  pub awaits_this : (last ticket : ℕ) (write : Write) → AckMayFollow mid.table mid.shape mid.list ack → IsAcked (note_state ack.note) ack.write ack.outcome ack.stamp → ack.ticket ≡ ticket → ack.write ≡ write
      → last ≤ ack.stamp → (is_accepted ack.outcome ≡ true → last < ack.stamp) → HasAwaited old last ticket write ack new
  awaits_this last ticket write order acked ticket_is write_is no_fall rises = record {
    more = so_far.more;
    taken = taken_more;
    order = subst (λ (b : AckBox). AckMayFollow b.table b.shape b.list ack) so_far.taken order;
    acked = acked;
    ticket_is = ticket_is;
    write_is = write_is;
    no_fall = no_fall;
    rises = rises;
  }

-- A reply by the options of the shape is one by the options

same_reply : (options : Options) (b : Bool) (cut : History) (write : Write) (outcome : Outcome) → IsReplyAt b (options_of (shape_of options)) cut write outcome → IsReplyAt b options cut write outcome
same_reply options true cut write outcome is = (is.0, is.1, same_may_give options is.0 write outcome is.2)
same_reply options false cut write outcome is = same_may_give options cut write outcome is

module _ (old new : FrontPart) (job : Job) (ack : Ack) (whole : IsOfOneTable old) (awaited : HasAwaited old.acks old.last job.ticket job.write ack new.acks) (last : new.last ≡ ack.stamp)
    (jobs : new.jobs ≡ outbox old.jobs.queue old.jobs.number old.jobs.jobs (old.jobs.sent ++ message.Job job ∷ []))
    (event : reader_state new.seat ≡ stamped (reader_state new.seat).seen (told (reader_state old.seat) (note_state ack.note)))
    (seen : IsPrefix (reader_state old.seat).seen (reader_state new.seat).seen × IsPrefix (note_state ack.note).seen (reader_state new.seat).seen)
    (done : IsPrefix (reader_state old.seat).done (reader_state new.seat).done × IsPrefix (note_state ack.note).done (reader_state new.seat).done) where
  list : new.acks.list ≡ old.acks.list ++ awaited.more ++ ack ∷ []
  list = ap (λ (b : AckBox). b.list) awaited.taken

  tells : TellsStep (told_by old) (record { write = job.write; outcome = ack.outcome; stamp = ack.stamp }) (told_by new)
  tells = record {
    more = map step_by awaited.more;
    steps = ap (map step_by) list ∙ map-append step_by (old.acks.list ++ awaited.more) (ack ∷ []) ∙ ap (λ l. l ++ map step_by (ack ∷ [])) (map-append step_by old.acks.list awaited.more)
        ∙ ap (λ (w : Write). map step_by old.acks.list ++ map step_by awaited.more ++ record { write = w; outcome = ack.outcome; stamp = ack.stamp } ∷ []) awaited.write_is;
    tried = ap (λ (r : ReaderState). r.tried) event;
    closed = ap (λ (r : ReaderState). r.closed) event;
  }

  module _ (options : Options) (shape : (reader_state old.seat).shape ≡ shape_of options) where
    note_shape : (note_state ack.note).shape ≡ shape_of options
    note_shape = awaited.order.same ∙ whole.shape ∙ shape

    acked : IsAcked (note_state ack.note) job.write ack.outcome ack.stamp
    acked = subst (λ (w : Write). IsAcked (note_state ack.note) w ack.outcome ack.stamp) awaited.write_is awaited.acked

    stamp_is : stamp_of options acked.cut ≡ ack.stamp
    stamp_is = sym (ap stamp_in (same_state options acked.cut)) ∙ subst (λ (s : Shape). stamp_of (options_of s) acked.cut ≡ ack.stamp) note_shape acked.is_cut.stamped

    reply : IsReplyAt (is_accepted ack.outcome) options acked.cut job.write ack.outcome
    reply = same_reply options (is_accepted ack.outcome) acked.cut job.write ack.outcome
        (subst (λ (s : Shape). IsReplyAt (is_accepted ack.outcome) (options_of s) acked.cut job.write ack.outcome) note_shape acked.reply)

    pub written : Writes options false (session_of old) (record { write = job.write; outcome = ack.outcome; stamp = ack.stamp }) (session_of new)
    written = record {
      grows = seen.0;
      cut = acked.cut;
      at = record { begins = prefix_then acked.cut (note_state ack.note).seen (reader_state new.seat).seen acked.is_cut.begins seen.1; stamped = stamp_is };
      reply = reply;
      done = done.0;
      ended = prefix_then acked.cut (note_state ack.note).done (reader_state new.seat).done acked.ended done.1;
      order = awaited.no_fall;
      rises = awaited.rises;
      last = last;
      alone = λ off. absurd (true≢false (sym off));
      told = (told_by new, refl, tells);
    }

  pub part_writes : (home : (reader_home new.seat) ≡ reader_home old.seat) → PartWrites old job ack.outcome ack.stamp new
  part_writes home = record {
    jobs = jobs;
    stays = record {
      shape = ap (λ (r : ReaderState). r.shape) event;
      home = home;
      acks = awaited.taken ∙ ap (λ l. record { queue = old.acks.queue; table = old.acks.table; shape = old.acks.shape; list = l }) (sym list);
    };
    written = written;
  }

-- A get

module _ (old new : FrontPart) (key : List ℕ) (stamp : ℕ) (buffer : List ℕ) (jobs : new.jobs ≡ old.jobs) (acks : new.acks ≡ old.acks) (last : new.last ≡ stamp) (home : reader_home new.seat ≡ reader_home old.seat) where
  part_reads : (answer : Answer) (value : Option (List ℕ)) → IsAnswer answer buffer value → IsReadAt (reader_state old.seat) key stamp value (reader_state new.seat) → PartReads old key answer stamp buffer new
  part_reads answer value is read = record {
    jobs = jobs;
    acks = acks;
    stays = record { shape = read.seat.shape; home = home; acks = acks ∙ ap (λ (b : AckBox). ack_box old.acks.queue old.acks.table old.acks.shape b.list) (sym acks) };
    value = value;
    is = is;
    read = λ options shape. was_read shape (ap (λ (b : AckBox). map step_by b.list) acks) last read;
  }

  pub reads_hit : (got : Got) → got ≡ GotHit stamp → IsRead (reader_state old.seat) key got buffer (reader_state new.seat) → PartReads old key Hit stamp buffer new
  reads_hit got is read = part_reads Hit (Some buffer) refl (subst (λ (g : Got). IsRead (reader_state old.seat) key g buffer (reader_state new.seat)) is read)

  pub reads_miss : (got : Got) → got ≡ GotMiss stamp → IsRead (reader_state old.seat) key got buffer (reader_state new.seat) → PartReads old key Miss stamp buffer new
  reads_miss got is read =
      let it = subst (λ (g : Got). IsRead (reader_state old.seat) key g buffer (reader_state new.seat)) is read in
      part_reads Miss None (refl, it.1) it.0
