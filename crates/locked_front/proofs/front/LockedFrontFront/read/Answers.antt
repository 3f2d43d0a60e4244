use Rattle.locked_front.proofs.Finding.{finds_part, is_part, law_by_read, left_by_read, left_kept, reads_at, others_at}
use Rattle.locked_front.proofs.front.LockedFrontFront.read.Goals as goal

pub read-requires-clause-own : goal.read-requires-clause-own
read-requires-clause-own g c =
    let finds = finds_part c.self.invariant.0 c.self.view_is c.key_hash-hash.ensures c.partition_of-number.ensures c.index_mut.ensures.value in
    is_part finds

pub invariant_of-self : goal.invariant_of-self
invariant_of-self g c =
    let finds = finds_part c.self.invariant.0 c.self.view_is c.key_hash-hash.ensures c.partition_of-number.ensures c.index_mut.ensures.value in
    (law_by_read finds c.read.new.self c.read.ensures, c.self.invariant.1, left_kept finds c.read.new.self c.read.ensures c.self.inside.left c.self.invariant.2)

pub returns-clause-left : goal.returns-clause-left
returns-clause-left g c =
    let finds = finds_part c.self.invariant.0 c.self.view_is c.key_hash-hash.ensures c.partition_of-number.ensures c.index_mut.ensures.value in
    left_by_read finds c.read.new.self c.read.ensures

pub returns-clause-answer : goal.returns-clause-answer
returns-clause-answer g c =
    let finds = finds_part c.self.invariant.0 c.self.view_is c.key_hash-hash.ensures c.partition_of-number.ensures c.index_mut.ensures.value in
    reads_at finds c.read.new.self c.read.ensures

pub returns-clause-others : goal.returns-clause-others
returns-clause-others g c =
    let finds = finds_part c.self.invariant.0 c.self.view_is c.key_hash-hash.ensures c.partition_of-number.ensures c.index_mut.ensures.value in
    others_at finds c.read.new.self c.read.ensures.still
