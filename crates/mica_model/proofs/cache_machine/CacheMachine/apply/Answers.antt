use Rattle.std.proofs.Common.{◌≡◌, ◌+◌, [], ◌∷◌, ◌++◌, true, ap, sym, ◌∙◌, subst, arith}
use Rattle.mica_words.specs.Item.{StoredFits}
use Rattle.partition_model.specs.declared.write.Write.{Write}
use Rattle.partition_model.specs.Cache.{Cache}
use Rattle.partition_model.specs.Records.{AreRising}
use Rattle.mica_model.specs.CacheFields.{notes_of, fate_written}
use Rattle.partition_model.specs.History.{History}
use Rattle.mica_model.specs.Logged.{Logged, IsLoggedStep}
use Rattle.partition_model.specs.Write.{IsWrite, is_accepted, write_of}
use Rattle.partition_model.proofs.CacheKept.{IsRecord}
use Rattle.partition_model.proofs.Found.{all_weaker}
use Rattle.partition_model.proofs.Histories.{cache_has_room}
use Rattle.mica_model.proofs.CacheMachineSteps.{kept, rising, refused_step, unworn, accepted_step, wrote_count, dropped_count, machine_after}
use Rattle.mica_model.proofs.cache_machine.CacheMachine.apply.Goals.{After-copy, After-reply-outcome, After-count}
use Rattle.mica_model.proofs.cache_machine.CacheMachine.apply.Goals as goal

module _ (c : After-reply-outcome) where
  abbrev write : Write
  write = write_of c.args.op c.args.key.now c.args.value.now

  is_write : IsWrite write
  is_write = record {
    key = c.requires.key;
    key_bytes = λ k. omega (arith, c.type_inv.key k);
    value = c.requires.value;
    value_bytes = λ k. omega (arith, c.type_inv.value k);
  }

done : (c : After-copy) → is_accepted c.reply-outcome.result ≡ true
done c = sym c.is_accepted.ensures ∙ c.if-not-is_accepted.false

-- the history with the write
later : (c : After-count) → c.push_reserved.new.self.items ≡ c.self.inside.log.items ++ write_of c.args.op c.args.key.now c.args.value.now ∷ []
later c =
    c.push_reserved.ensures.items
    ∙ ap (λ (l : History). l ++ record { op = c.args.op; key = c.in_ok-copy.field-0; value = c.in_ok-copy-2.field-0 } ∷ []) c.in_ok-reserve.ensures.items
    ∙ ap (λ (w : Write). c.self.inside.log.items ++ w ∷ []) (λ i. record { op = c.args.op; key = c.in_ok-copy.ensures i; value = c.in_ok-copy-2.ensures i })

pub write-requires-clause-room : goal.write-requires-clause-room
write-requires-clause-room c =
    let z = goal.at.write-requires-clause-room c in
    let a = c.self.inside in
    cache_has_room a.options a.state (write z.After-reply-outcome) c.reply-outcome.result (done z.After-copy) c.reply-outcome.ensures

pub write-requires-clause-unique : goal.write-requires-clause-unique
write-requires-clause-unique c = (kept c.self.inside c.self.invariant).unique

pub write-requires-clause-values : goal.write-requires-clause-values
write-requires-clause-values c =
    all_weaker IsRecord (λ held. StoredFits held.value) (λ held fine. fine.value) c.self.inside.state.records (kept c.self.inside c.self.invariant).are

pub drop_dead-requires-clause-rising : goal.drop_dead-requires-clause-rising
drop_dead-requires-clause-rising c =
    let z = (goal.at.drop_dead-requires-clause-rising c).After-reply-outcome in
    subst (λ (t : Cache). AreRising t.records) (sym c.in_ok-write.ensures.ok) (rising c.self.inside c.self.invariant (write z) (is_write z))

pub returns-then-not-is_accepted-clause-step : goal.returns-then-not-is_accepted-clause-step
returns-then-not-is_accepted-clause-step c =
    let w = write (goal.at.returns-then-not-is_accepted-clause-step c).After-reply-outcome in
    subst (λ (m : Logged). IsLoggedStep m w c.reply-outcome.result m) c.self.view_is
    (refused_step c.self.inside c.self.invariant w c.reply-outcome.result c.reply-outcome.ensures (sym c.is_accepted.ensures ∙ c.if-not-is_accepted.true))

pub overflow_add-number : goal.overflow_add-number
overflow_add-number c =
    let z = goal.at.overflow_add-number c in
    let w = write z.After-reply-outcome in
    let less = unworn c.self.inside c.self.invariant w c.reply-outcome.result c.reply-outcome.ensures (done z.After-copy) in
    let most = c.self.invariant.valid.wear.1 in
    let same = wrote_count c.self.inside.options c.self.inside.state w c.write.new.self c.in_ok-write.ensures.ok in
    omega (arith, c.accepted-number.ensures)

pub count-requires : goal.count-requires
count-requires c =
    let z = goal.at.count-requires c in
    let w = write z.After-reply-outcome in
    let less = unworn c.self.inside c.self.invariant w c.reply-outcome.result c.reply-outcome.ensures (done z.After-copy) in
    let most = c.self.invariant.valid.wear.1 in
    let same = dropped_count c.self.inside.options c.self.inside.state w c.write.new.self c.drop_dead.new.state c.in_ok-write.ensures.ok c.drop_dead.ensures.state in
    omega arith

pub returns-clause-step : goal.returns-clause-step
returns-clause-step c =
    let z = goal.at.returns-clause-step c in
    let w = write z.After-reply-outcome in
    subst (λ (m : Logged). IsLoggedStep m w c.reply-outcome.result (record { options = c.self.inside.options; history = c.push_reserved.new.self.items })) c.self.view_is
    (accepted_step c.self.inside c.self.invariant w c.reply-outcome.result c.reply-outcome.ensures (done z.After-copy) c.push_reserved.new.self.items (later z.After-count))

pub invariant_of-self-2 : goal.invariant_of-self-2
invariant_of-self-2 c =
    let z = goal.at.invariant_of-self-2 c in
    machine_after c.self.inside c.self.invariant (write z.After-reply-outcome) c.reply-outcome.result c.reply-outcome.ensures (done z.After-copy)
    c.write.new.self c.drop_dead.new.state c.in_ok-write.ensures.ok c.drop_dead.ensures.state
    (is_write z.After-reply-outcome) (c.accepted-number.result + 1) (ap (λ n. n + 1) c.accepted-number.ensures)
    (notes_of c.add.new.self) (notes_of c.mark.new.self) c.fate_after-fate.result c.drop_dead.new.fates c.in_ok-add.ensures.noted c.in_ok-add.ensures.same
    (c.fate_after-fate.ensures ∙ ap (fate_written c.reply-outcome.result (c.accepted-number.result + 1)) c.get.ensures) c.mark.ensures c.drop_dead.ensures.fates
    c.push_reserved.new.self (later z.After-count) c.count.new.self c.count.ensures
