use Rattle.std.proofs.Common.{◌≡◌, ◌∙◌, ◌<◌, refl, ap, arith}
use Rattle.partition_model.specs.declared.write.Write.{Write}
use Rattle.partition_model.specs.Write.{write_of}
use Rattle.queue_front.specs.QueueFront.{QueueView}
use Rattle.queue_front.proofs.QueueSteps.{finds_part, write_keeps, others_at, writes_at, stands_write}
use Rattle.queue_front.proofs.queue_front.QueueFront.write.Goals as goal

pub overflow_add-self : goal.overflow_add-self
overflow_add-self g c = omega (arith, c.self.invariant.few, c.requires.left, ap (λ (v : QueueView). v.left) c.self.view_is)

pub invariant_of-self : goal.invariant_of-self
invariant_of-self g c =
    let some : 0 < c.self.inside.left = omega (arith, c.requires.left, ap (λ (v : QueueView). v.left) c.self.view_is) in
    let finds = finds_part c.self.invariant c.self.view_is c.key_hash.ensures c.partition_of-at.ensures c.index_mut.ensures.value in
    write_keeps finds c.write-answer.new.self refl some c.write-answer.ensures

pub returns-clause-written : goal.returns-clause-written
returns-clause-written g c =
    let write : Write = record { op = c.args.op; key = c.into.result; value = c.into-2.result } in
    let key : write.key ≡ c.args.key.now = c.into.ensures ∙ c.in_ok-copy.ensures in
    let value : write.value ≡ c.args.value.now = c.into-2.ensures ∙ c.in_ok-copy-2.ensures in
    let same : write ≡ write_of c.args.op c.args.key.now c.args.value.now = λ i. record { op = c.args.op; key = key i; value = value i } in
    let finds = finds_part c.self.invariant c.self.view_is c.key_hash.ensures c.partition_of-at.ensures c.index_mut.ensures.value in
    writes_at finds c.write-answer.new.self (write_of c.args.op c.args.key.now c.args.value.now) same c.write-answer.ensures

pub returns-clause-others : goal.returns-clause-others
returns-clause-others g c =
    let finds = finds_part c.self.invariant c.self.view_is c.key_hash.ensures c.partition_of-at.ensures c.index_mut.ensures.value in
    others_at finds c.write-answer.new.self

pub returns-clause-stands : goal.returns-clause-stands
returns-clause-stands g c =
    let finds = finds_part c.self.invariant c.self.view_is c.key_hash.ensures c.partition_of-at.ensures c.index_mut.ensures.value in
    stands_write finds c.write-answer.new.self c.write-answer.ensures
