use Rattle.std.proofs.Common.{◌≡◌, ◌+◌, ◌<◌, ◌≤◌, ◌∷◌, [], ℕ, zero, suc, List, length, take, get_or, slice_set, refl, sym, ap, ◌∙◌, subst, arith}
use Rattle.std.proofs.lemmas.Option.{slice_get_read}
use Rattle.list_laws.proofs.UpTo.{UpTo, up_none}
use Rattle.mica_words.specs.Hash.{hash_of, hash_partition}
use Rattle.mica_words.proofs.Hashes.{partition_of_hash, partition_of-below}
use Rattle.mica_trace.specs.declared.line.TraceLine.{TraceLine}
use Rattle.mica_trace.specs.Rounds.{partition_in}
use Rattle.exclusive_replay.specs.declared.feeder.Feeder.{Feeder}
use Rattle.exclusive_replay.specs.LineEnds.{LineBox}
use Rattle.exclusive_replay.proofs.Fed.{IsFeeding, HasEnded, feed_none, feed_sync, may_follow, feed_one, may_end, ends_one, has_fed}
use Rattle.exclusive_replay.proofs.feeder.Feeder.run.Goals.{then-not-is_sync, else-not-is_sync}
use Rattle.exclusive_replay.proofs.feeder.Feeder.run.Goals as goal

-- all lines
taken : (lines : List TraceLine) (n : ℕ) → length lines ≤ n → take n lines ≡ lines
taken [] zero long = refl
taken [] (suc n) long = refl
taken (x ∷ lines) zero long = absurd (omega arith)
taken (x ∷ lines) (suc n) long = ap (λ (l : List TraceLine). x ∷ l) (taken lines n (omega arith))

pub loop-number-init : goal.loop-number-init
loop-number-init g c = feed_none c.args.options.now c.args.trace.now c.args.self.now c.requires.ready

pub index_mut-sender-requires : goal.index_mut-sender-requires
index_mut-sender-requires g c =
    let options = c.args.options.now in
    let line = c.index-lines-number.result in
    let own : c.partition_of-queue.result ≡ partition_in options line =
    c.partition_of-queue.ensures ∙ ap (λ h. hash_partition h options.partitions) (c.key_hash.ensures ∙ ap (hash_of options.hashing) c.bytes.ensures) ∙ sym (partition_of_hash options.hashing line.key options.partitions) in
    let low = partition_of-below options.hashing line.key options.partitions c.requires.valid.partitions.0 in
    let many = c.loop-number.invariant.many in
    let first = c.requires.ready.many in
    let long = c.loop-number.self.senders.ok in
    omega arith

pub send-requires : goal.send-requires
send-requires g c =
    let options = c.args.options.now in
    let line = c.index-lines-number.result in
    let trace = c.args.trace.now in
    let n = c.loop-number.number in
    let items = c.loop-number.self.senders.items in
    let queue = c.partition_of-queue.result in
    let now = c.index_mut-sender.result.now in
    let own : queue ≡ partition_in options line =
    c.partition_of-queue.ensures ∙ ap (λ h. hash_partition h options.partitions) (c.key_hash.ensures ∙ ap (hash_of options.hashing) c.bytes.ensures) ∙ sym (partition_of_hash options.hashing line.key options.partitions) in
    let low = partition_of-below options.hashing line.key options.partitions c.requires.valid.partitions.0 in
    let many = c.loop-number.invariant.many in
    let first = c.requires.ready.many in
    let same = c.lines-lines.ensures.same in
    let less : n < length trace = subst (λ (ls : List TraceLine). n < length ls) same c.loop-number-test.true in
    let is : line ≡ get_or trace n line = subst (λ (ls : List TraceLine). line ≡ get_or ls n line) same c.index-lines-number.is in
    let at = slice_get_read items (length items) queue now refl (omega arith) c.index_mut-sender.ensures.value in
    may_follow options trace c.args.self.now c.requires.ready n items c.loop-number.invariant line less is (sym c.if-not-is_sync.ensures) queue own now at

pub loop-number-preserved : goal.loop-number-preserved
loop-number-preserved g c =
    let options = c.args.options.now in
    let line = c.index-lines-number.result in
    let trace = c.args.trace.now in
    let n = c.loop-number.number in
    let items = c.loop-number.self.senders.items in
    let same = c.lines-lines.ensures.same in
    let less : n < length trace = subst (λ (ls : List TraceLine). n < length ls) same c.loop-number-test.true in
    let is : line ≡ get_or trace n line = subst (λ (ls : List TraceLine). line ≡ get_or ls n line) same c.index-lines-number.is in
    elim c.if-not-is_sync.branch [
      | then-not-is_sync w ↦
          let queue = w.partition_of-queue.result in
          let now = w.index_mut-sender.result.now in
          let own : queue ≡ partition_in options line =
          w.partition_of-queue.ensures ∙ ap (λ h. hash_partition h options.partitions) (w.key_hash.ensures ∙ ap (hash_of options.hashing) w.bytes.ensures) ∙ sym (partition_of_hash options.hashing line.key options.partitions) in
          let low = partition_of-below options.hashing line.key options.partitions c.requires.valid.partitions.0 in
          let many = c.loop-number.invariant.many in
          let first = c.requires.ready.many in
          let at = slice_get_read items (length items) queue now refl (omega arith) w.index_mut-sender.ensures.value in
          subst (λ (f : Feeder). IsFeeding options trace (n + 1) c.args.self.now.senders.items f.senders.items) (sym w.self-is)
          (subst (λ (o : LineBox). IsFeeding options trace (n + 1) c.args.self.now.senders.items (slice_set items queue o)) (sym w.send.ensures)
          (feed_one options trace c.args.self.now c.requires.ready n items c.loop-number.invariant line less is (sym w.if-not-is_sync.ensures) queue own now at))
      | else-not-is_sync w ↦
          subst (λ (f : Feeder). IsFeeding options trace (n + 1) c.args.self.now.senders.items f.senders.items) (sym w.self-is)
          (feed_sync options trace c.args.self.now c.requires.ready n items c.loop-number.invariant line less is (sym w.if-not-is_sync.ensures))
    ]

pub loop-p-init : goal.loop-p-init
loop-p-init g c = up_none HasEnded c.loop-number.self.senders.items

pub send-requires-in-loop-p : goal.send-requires-in-loop-p
send-requires-in-loop-p g c =
    let many = c.loop-p.invariant.many in
    may_end c.args.options.now c.args.trace.now c.args.self.now c.requires.ready c.loop-number.number c.loop-number.self.senders.items c.loop-number.invariant
    c.loop-p.self.senders.items c.loop-p.p c.index_mut-sender-in-loop-p.result.now c.loop-p.invariant
    (omega (arith, c.loop-p-test.true, c.len-p-end.ensures, c.loop-number.self.senders.ok)) c.index_mut-sender-in-loop-p.ensures.value

pub loop-p-preserved : goal.loop-p-preserved
loop-p-preserved g c =
    let many = c.loop-p.invariant.many in
    subst (λ (o : LineBox). UpTo HasEnded (c.loop-p.p + 1) c.loop-number.self.senders.items (slice_set c.loop-p.self.senders.items c.loop-p.p o)) (sym c.send-in-loop-p.ensures)
    (ends_one c.args.options.now c.args.trace.now c.args.self.now c.requires.ready c.loop-number.number c.loop-number.self.senders.items c.loop-number.invariant
    c.loop-p.self.senders.items c.loop-p.p c.index_mut-sender-in-loop-p.result.now c.loop-p.invariant
    (omega (arith, c.loop-p-test.true, c.len-p-end.ensures, c.loop-number.self.senders.ok)) c.index_mut-sender-in-loop-p.ensures.value)

pub returns : goal.returns
returns g c =
    let many = c.loop-p.invariant.many in
    has_fed c.args.options.now c.args.trace.now c.args.self.now c.requires.ready c.loop-number.number c.loop-number.self.senders.items c.loop-number.invariant
    c.loop-p.self.senders.items c.loop-p.p (omega (arith, c.loop-p-test.false, c.loop-p.auto.p-end, c.len-p-end.ensures, c.loop-number.self.senders.ok))
    (taken c.args.trace.now c.loop-number.number (omega (arith, c.loop-number-test.false, c.loop-number.auto.number-end, ap length c.lines-lines.ensures.same))) c.loop-p.invariant
