use Rattle.queue_front.proofs.QueueSteps.{finds_part, read_keeps, others_at, reads_at, stands_read}
use Rattle.queue_front.proofs.queue_front.QueueFront.read.Goals as goal

pub invariant_of-self : goal.invariant_of-self
invariant_of-self g c =
    let finds = finds_part c.self.invariant c.self.view_is c.key_hash-hash.ensures c.partition_of-at.ensures c.index_mut.ensures.value in
    read_keeps finds c.read.new.self c.read.ensures

pub returns-clause-answer : goal.returns-clause-answer
returns-clause-answer g c =
    let finds = finds_part c.self.invariant c.self.view_is c.key_hash-hash.ensures c.partition_of-at.ensures c.index_mut.ensures.value in
    reads_at finds c.read.new.self c.read.ensures

pub returns-clause-others : goal.returns-clause-others
returns-clause-others g c =
    let finds = finds_part c.self.invariant c.self.view_is c.key_hash-hash.ensures c.partition_of-at.ensures c.index_mut.ensures.value in
    others_at finds c.read.new.self

pub returns-clause-stands : goal.returns-clause-stands
returns-clause-stands g c =
    let finds = finds_part c.self.invariant c.self.view_is c.key_hash-hash.ensures c.partition_of-at.ensures c.index_mut.ensures.value in
    stands_read finds c.read.new.self c.read.ensures
