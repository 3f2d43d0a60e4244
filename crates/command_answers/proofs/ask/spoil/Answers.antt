use Rattle.std.proofs.Common.{◌≡◌, ℕ, List, ap, ◌∙◌, subst, arith}
use Rattle.mica_words.specs.Hash.{partition_of}
use Rattle.partition_model.specs.declared.options.Options.{Options}
use Rattle.memcached_commands.specs.declared.asks.Asked.{Asked}
use Rattle.memcached_commands.specs.Changes.{looks}
use Rattle.memcached_decisions.specs.Numbered.{Order, becoming_by}
use Rattle.fronts.specs.Changing.{ComesTo}
use Rattle.fronts.specs.Session.{ChangesOnly}
use Rattle.command_answers.specs.AskAnswers.{order_of, spoiled}
use Rattle.command_answers.specs.Counting.{noted_if}
use Rattle.command_answers.proofs.Looking.{IsAnsweredBy, answered_by}
use Rattle.command_answers.proofs.ask.spoil.Goals as goal

pub returns-clause-answered : goal.returns-clause-answered
returns-clause-answered g c =
    let F = g.F.Front in
    let options = F.options c.args.front.now in
    let old = F.sessions c.args.front.now in
    let new = F.sessions c.change-gone.new.self in
    let asked : Asked = spoiled c.args.asked.now in
    let second = c.args.second in
    let changed = c.change-gone.result in
    let buffer = c.change-gone.new.found in
    let order = c.new-order.result in
    let comes : ComesTo options F.is_alone second asked.key (looks asked.ask) (becoming_by (order_of c.args.base asked)) (old (partition_of options.hashing asked.key options.partitions)) changed buffer
    (new (partition_of options.hashing asked.key options.partitions)) =
    subst (λ (o : Order). ComesTo options F.is_alone second asked.key (looks o.ask) (becoming_by o) (old (partition_of options.hashing asked.key options.partitions)) changed buffer
    (new (partition_of options.hashing asked.key options.partitions))) c.new-order.ensures
    (subst (λ (k : List ℕ). ComesTo options F.is_alone second k (looks order.ask) (becoming_by order) (old (partition_of options.hashing k options.partitions)) changed buffer
    (new (partition_of options.hashing k options.partitions))) c.bytes-key.ensures c.change-gone.ensures.changed) in
    let others = subst (λ (k : List ℕ). ChangesOnly (partition_of options.hashing k options.partitions) old new) c.bytes-key.ensures c.change-gone.ensures.others in
    let hashing : c.hashing-hashing.result ≡ options.hashing = c.hashing-hashing.ensures ∙ ap (λ (o : Options). o.hashing) c.change-gone.ensures.options in
    let by : IsAnsweredBy options F.is_alone c.args.base second asked old new changed buffer =
    answered_by options F.is_alone c.args.base second asked old new changed buffer comes others in (
      by.answered,
      by.at,
      (let left = c.change-gone.ensures.left in omega (arith, left, by.count)),
      c.note_write.ensures ∙ (λ i. noted_if (hashing i) c.args.partitions (c.bytes-key.ensures i) changed.when changed.outcome changed.stamp c.args.buffers.now.tally)
          ∙ by.noted options.hashing c.args.partitions c.args.buffers.now.tally,
    )
