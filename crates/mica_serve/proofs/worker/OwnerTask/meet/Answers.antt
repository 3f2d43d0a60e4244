use Rattle.std.proofs.Common.{◌≡◌, ◌+◌, ℕ, [], ◌∷◌, ◌++◌, length, slice_get, sym, ap, ◌∙◌, subst, arith}
use Rattle.std.specs.Option.{option_to_list}
use Rattle.std.proofs.lemmas.List.{length_push}
use Rattle.std.proofs.lemmas.Option.{same_Some}
use Rattle.list_laws.proofs.Places.{at_last}
use Rattle.partition_model.specs.History.{History, IsPrefix}
use Rattle.partition_words.specs.declared.state.OwnerState.{OwnerState}
use Rattle.partition_table.specs.Seats.{reader_state}
use Rattle.owner_queue.specs.AckEnds.{AckBox, BeginsAcks}
use Rattle.owner_queue.specs.Messages.{sent_by, has_end}
use Rattle.mica_serve.proofs.Meetings.{last_of}
use Rattle.mica_serve.proofs.worker.OwnerTask.meet.Goals as goal

pub take_in-requires-clause-queue : goal.take_in-requires-clause-queue
take_in-requires-clause-queue g c =
    let acks = c.args.self.now.acks in
    let n = last_of acks.items (omega (arith, c.requires.some, acks.ok)) in
    (c.requires.may n.0 n.1).jobs

pub take_in-requires-clause-ended : goal.take_in-requires-clause-ended
take_in-requires-clause-ended g c =
    let acks = c.args.self.now.acks in
    let n = last_of acks.items (omega (arith, c.requires.some, acks.ok)) in
    let may = c.requires.may n.0 n.1 in
    ap (λ (m : ℕ). has_end m c.args.self.now.jobs.taken) may.number ∙ may.ended

pub take_in-requires-2 : goal.take_in-requires-2
take_in-requires-2 g c =
    let rest = c.pop.new.self.items in
    let is : c.args.self.now.acks.items ≡ rest ++ c.in-Some.answers ∷ [] = c.pop.ensures.items ∙ ap (λ o. rest ++ option_to_list o) c.in-Some.is in
    let may = c.requires.may (length rest) (ap length is ∙ length_push rest c.in-Some.answers) in
    may.acks c.in-Some.answers (ap (λ l. slice_get l (length rest)) is ∙ at_last rest c.in-Some.answers)

pub meet-requires : goal.meet-requires
meet-requires g c =
    let acks = c.args.self.now.acks in
    let n = last_of acks.items (omega (arith, c.requires.some, acks.ok)) in
    (c.requires.may n.0 n.1).table

pub returns : goal.returns
returns g c =
    let owner = g.P.Partition.owner in
    let old = c.args.self.now in
    let part = c.args.part in
    let new = c.meet.new.self in
    let rest = c.pop.new.self.items in
    let is : old.acks.items ≡ rest ++ c.in-Some.answers ∷ [] = c.pop.ensures.items ∙ ap (λ o. rest ++ option_to_list o) c.in-Some.is in
    let may = c.requires.may (length rest) (ap length is ∙ length_push rest c.in-Some.answers) in
    let met = c.meet.ensures.met in
    let state : owner new ≡ record (owner old.part) { met = (owner new).met; closed = (owner old.part).closed + (reader_state part.seat).closed } =
    met ∙ ap (λ m. record (owner old.part) { met = m; closed = (owner old.part).closed + (reader_state part.seat).closed }) (sym (ap (λ (o : OwnerState). o.met) met)) in
    record {
      answers = c.in-Some.answers;
      acks = is;
      met = record {
        whole = ap (λ (m : ℕ). sent_by m old.jobs.taken) (sym may.number) ∙ c.take_in.ensures.whole;
        begins = λ a at.
            subst (λ (b : AckBox). BeginsAcks part.acks.list b.list) (same_Some _ _ (sym (ap (λ l. slice_get l (length rest)) is ∙ at_last rest c.in-Some.answers) ∙ at)) c.take_in-2.ensures.begins;
        seen = subst (λ (h : History). IsPrefix (reader_state part.seat).seen h) (ap (λ (o : OwnerState). o.history) met)
            (subst (λ (h : History). IsPrefix h (owner new).history) (ap (λ (o : OwnerState). o.met.seen) met) c.meet.ensures.kept.met_seen);
      };
      same = λ i. record { state = state i; table = c.meet.ensures.home i; jobs = c.take_in.ensures.same i; acks = rest };
    }
