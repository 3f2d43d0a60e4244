use Rattle.std.proofs.Common.{◌≡◌, ◌++◌, ℕ, List, length, sym, ap, ◌∙◌, subst, arith}
use Rattle.std.specs.Prelude.{option_copied}
use Rattle.std.proofs.lemmas.Result.{on_ok_weaker}
use Rattle.mica_words.specs.Hash.{partition_of}
use Rattle.partition_model.specs.declared.options.Options.{Options}
use Rattle.memcached_commands.specs.declared.asks.Asked.{Asked}
use Rattle.memcached_commands.specs.Changes.{looks}
use Rattle.memcached_decisions.specs.Numbered.{Order, becoming_by, says_by}
use Rattle.fronts.specs.Changing.{ComesTo}
use Rattle.fronts.specs.Session.{ChangesOnly}
use Rattle.command_answers.specs.AskAnswers.{order_of, said_of}
use Rattle.memcached_stats.specs.Counted.{counter_beside, counter_of, counter_of_stored}
use Rattle.memcached_stats.specs.Tallies.{Numbers, counted}
use Rattle.command_answers.specs.Counting.{beside_of, noted_if}
use Rattle.memcached_requests.specs.Replies.{said_text}
use Rattle.command_answers.proofs.Looking.{IsAnsweredBy, answered_by}
use Rattle.command_answers.proofs.ask.answer_ask.Goals as goal

pub returns-clause-answered : goal.returns-clause-answered
returns-clause-answered g c =
    let F = g.F.Front in
    let options = F.options c.args.front.now in
    let old = F.sessions c.args.front.now in
    let new = F.sessions c.change-changed.new.self in
    let asked : Asked = c.args.asked.now in
    let second = c.args.second in
    let changed = c.change-changed.result in
    let buffer = c.change-changed.new.found in
    let order = c.new-order.result in
    let comes : ComesTo options F.is_alone second asked.key (looks asked.ask) (becoming_by (order_of c.args.base asked)) (old (partition_of options.hashing asked.key options.partitions)) changed buffer
    (new (partition_of options.hashing asked.key options.partitions)) =
    subst (λ (o : Order). ComesTo options F.is_alone second asked.key (looks o.ask) (becoming_by o) (old (partition_of options.hashing asked.key options.partitions)) changed buffer
    (new (partition_of options.hashing asked.key options.partitions))) c.new-order.ensures
    (subst (λ (k : List ℕ). ComesTo options F.is_alone second k (looks order.ask) (becoming_by order) (old (partition_of options.hashing k options.partitions)) changed buffer
    (new (partition_of options.hashing k options.partitions))) c.bytes-key.ensures c.change-changed.ensures.changed) in
    let others = subst (λ (k : List ℕ). ChangesOnly (partition_of options.hashing k options.partitions) old new) c.bytes-key.ensures c.change-changed.ensures.others in
    let by : IsAnsweredBy options F.is_alone c.args.base second asked old new changed buffer =
    answered_by options F.is_alone c.args.base second asked old new changed buffer comes others in
    let says : c.says-says.result ≡ said_of c.args.base asked by.answered =
    c.says-says.ensures.said ∙ ap (λ (o : Order). says_by o changed.when (option_copied c.value_found-stored.result) changed.outcome) c.new-order.ensures
    ∙ ap (λ v. says_by (order_of c.args.base asked) changed.when v changed.outcome) c.value_found-stored.ensures ∙ by.said in
    let hashing : c.hashing-hashing.result ≡ options.hashing = c.hashing-hashing.ensures ∙ ap (λ (o : Options). o.hashing) c.change-changed.ensures.options in
    let first : Numbers = counted (counter_of asked.ask (said_of c.args.base asked by.answered)) c.args.buffers.now.tally in
    let asks : c.count.new.self ≡ first = c.count.ensures ∙ ap (λ k. counted k c.args.buffers.now.tally) (c.counter_of.ensures ∙ ap (counter_of asked.ask) says) in
    let beside : c.counter_beside.result ≡ beside_of c.args.base asked by.answered =
    c.counter_beside.ensures ∙ (λ i. counter_beside (says i) (counter_of_stored (c.moment_at-at.ensures i) (c.value_found-stored.ensures i))) ∙ by.beside in
    let tally : c.count-2.new.self ≡ counted (beside_of c.args.base asked by.answered) first = c.count-2.ensures ∙ (λ i. counted (beside i) (asks i)) in (
      by.answered,
      by.at,
      on_ok_weaker c.put_said.result (λ text.
          text ∙ (λ i. c.args.out.now.items ++ said_text c.args.style.now c.args.is_last (c.bytes-key.ensures i) (says i))) c.put_said.ensures.ok,
      (let left = c.change-changed.ensures.left in omega (arith, left, by.count)),
      c.note_write.ensures ∙ (λ i. noted_if (hashing i) c.args.partitions (c.bytes-key.ensures i) changed.when changed.outcome changed.stamp
          (tally i))
          ∙ by.noted options.hashing c.args.partitions (counted (beside_of c.args.base asked by.answered) first),
      c.was_refused.ensures ∙ sym by.refused,
    )

pub returns-clause-short : goal.returns-clause-short
returns-clause-short g c = omega (arith, c.put_said.ensures.short, ap length c.bytes-key.ensures, c.requires.fit.0.1, c.says-says.ensures.short)

pub put_said-requires-clause-key : goal.put_said-requires-clause-key
put_said-requires-clause-key g c = omega (arith, c.requires.fit.0.1, ap length c.bytes-key.ensures)
