use Rattle.std.proofs.Common.{true, ℕ, subst}
use Rattle.mica_words.specs.Hash.{partition_of}
use Rattle.memcached_decisions.specs.Over.{sweeping}
use Rattle.fronts.specs.Changing.{ComesTo}
use Rattle.command_answers.proofs.Sweeping.{one_swept}
use Rattle.command_answers.proofs.sweeper.sweep_key.Goals as goal

pub returns-clause-swept : goal.returns-clause-swept
returns-clause-swept g c =
    let F = g.F.Front in
    let options = F.options c.args.front.now in
    let old = F.sessions c.args.front.now in
    let new = F.sessions c.change.new.self in
    let left = F.left c.args.front.now in
    let left_after = F.left c.change.new.self in
    let key = c.args.key.now in
    let p = partition_of options.hashing key options.partitions in
    let second = c.args.second in
    let comes = subst (λ (base : ℕ). ComesTo options F.is_alone second key true (sweeping base) (old p) c.change.result c.change.new.found (new p)) c.new-order.ensures c.change.ensures.changed in
    one_swept options F.is_alone c.args.base second old new left left_after key c.change.result c.change.new.found c.requires.mark comes c.change.ensures.others c.change.ensures.left
