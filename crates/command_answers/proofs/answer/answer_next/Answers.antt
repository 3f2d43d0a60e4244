use Rattle.std.proofs.Common.{◌≡◌, ◌<◌, ◌≤◌, ◌++◌, ◌==◌, ◌+◌, ℕ, Bool, true, false, List, [], length, drop, sym, ap, ◌∙◌, subst, arith}
use Rattle.std.proofs.lemmas.List.{length-drop}
use Rattle.fronts.specs.Answered.{Answered}
use Rattle.memcached_commands.specs.declared.asks.Asked.{Asked}
use Rattle.memcached_requests.specs.declared.request.Next.{Next}
use Rattle.memcached_requests.specs.declared.request.Style.{Style}
use Rattle.memcached_requests.specs.Requests.{asks_in}
use Rattle.command_answers.specs.declared.answer.Progress.{Progress}
use Rattle.command_answers.specs.AskAnswers.{AnswersAsks, asks_by}
use Rattle.command_answers.specs.FlushAnswers.{FlushesFrom, flush_at}
use Rattle.command_answers.specs.Exchange.{IsOpenAt, flush_text, is_flush_all, style_of}
use Rattle.command_answers.specs.Going.{AnswersFirst, RepliesFirst, Replies}
use Rattle.command_answers.proofs.AskLaws.{if_ok, few_by, none_left, some_left, few_answers}
use Rattle.memcached_stats.specs.Stats.{stats_text}
use Rattle.memcached_stats.specs.Tallies.{counted}
use Rattle.command_answers.specs.Counting.{tally_after_all}
use Rattle.memcached_stats.proofs.Untold.{untold}
use Rattle.command_answers.proofs.ExchangeLaws.{of_stats, flush_goes, flush_replies, plain_goes, plain_replies, asks_go, asks_reply, is_below}
use Rattle.command_answers.proofs.Counting.{counted_flush, counted_keyed, counted_plain}
use Rattle.command_answers.proofs.answer.answer_next.Goals as goal

abbrev progress_of : ℕ → Bool → Progress
progress_of done whole = record { done = done; is_whole = whole }

pub returns-then-is_flush_all-clause-answered : goal.returns-then-is_flush_all-clause-answered
returns-then-is_flush_all-clause-answered g c =
    let F = g.F.Front in
    let options = F.options c.args.front.now in
    let old = F.sessions c.args.front.now in
    let new = F.sessions c.answer_flush.new.front in
    let next = c.args.next in
    let done = c.args.done in
    let flushes : is_flush_all next ≡ true = sym c.is_flush_all.ensures ∙ c.if-is_flush_all.true in
    let r = c.answer_flush.ensures.flushed in
    let asked = subst (λ due. FlushesFrom options (flush_at c.args.second due) 0 r.0) c.flush_due.ensures r.2 in (
      r.0,
      flush_goes options F.is_alone c.args.numbering.base c.args.second next done c.requires.open old new flushes r.0 asked r.1,
      if_ok _ (Replies options c.args.numbering.base next done c.args.limits r.0 c.args.out.now.items c.answer_flush.new.out.items) c.answer_flush.result
          (λ progress all. flush_replies options F.is_alone c.args.numbering.base c.args.second next done c.requires.open old new flushes r.0 asked c.args.limits c.args.out.now.items
          c.answer_flush.new.out.items progress (r.3 ∙ c.requires.partitions) (all.0 ∙ ap (λ n. progress_of n true) c.requires.partitions)
          (all.1 ∙ ap (λ (s : Style). c.args.out.now.items ++ flush_text s true r.0) c.style_of-style.ensures)) r.4,
      r.5,
      c.count.ensures ∙ ap (λ k. counted k c.args.buffers.now.tally) c.counter_by.ensures
          ∙ sym (counted_flush c.args.numbering.base options.hashing c.args.numbering.partitions next done r.0 c.args.buffers.now.tally flushes),
      omega (arith, r.3),
    )

pub returns-then-is_stats-clause-answered : goal.returns-then-is_stats-clause-answered
returns-then-is_stats-clause-answered g c =
    let F = g.F.Front in
    let options = F.options c.args.front.now in
    let old = F.sessions c.args.front.now in
    let next = c.args.next in
    let is = of_stats next (sym c.is_stats.ensures ∙ c.if-is_stats.true) in
    let before = c.args.out.now.items in
    let after = c.answer_stats.new.out.items in (
      [],
      plain_goes options F.is_alone c.args.numbering.base c.args.second next c.args.done c.requires.open old old is.keyed is.none,
      if_ok _ (Replies options c.args.numbering.base next c.args.done c.args.limits [] before after) c.answer_stats.result
          (λ progress all. subst (Replies options c.args.numbering.base next c.args.done c.args.limits [] before after) (sym all.0)
          (plain_replies options F.is_alone c.args.numbering.base c.args.second next c.args.done c.requires.open old old is.keyed is.none all.1.0 c.args.limits before after
          (all.1.1 ∙ (λ i. before ++ stats_text (c.style_of-style.ensures i) (c.requires.partitions i) (c.topic_of.ensures i) all.1.0) ∙ ap (λ text. before ++ text) (sym (is.due options.partitions all.1.0)))))
          c.answer_stats.ensures.told,
      omega arith,
      c.answer_stats.ensures.tally ∙ c.count.ensures ∙ ap (λ k. counted k c.args.buffers.now.tally) c.counter_by.ensures
          ∙ sym (counted_plain c.args.numbering.base options.hashing c.args.numbering.partitions next c.args.done c.args.buffers.now.tally),
      omega arith,
    )

pub returns-then-has_none-clause-answered : goal.returns-then-has_none-clause-answered
returns-then-has_none-clause-answered g c =
    let F = g.F.Front in
    let options = F.options c.args.front.now in
    let old = F.sessions c.args.front.now in
    let next = c.args.next in
    let keyed : is_flush_all next ≡ false = sym c.is_flush_all.ensures ∙ c.if-is_flush_all.false in
    let none : asks_in next ≡ [] = none_left (asks_in next) (sym c.has_none.ensures ∙ c.if-has_none.true) in
    let text = c.in-Ok.ensures.ok options.partitions untold in (
      [],
      plain_goes options F.is_alone c.args.numbering.base c.args.second next c.args.done c.requires.open old old keyed none,
      plain_replies options F.is_alone c.args.numbering.base c.args.second next c.args.done c.requires.open old old keyed none untold c.args.limits c.args.out.now.items c.put_plain.new.out.items
          text,
      omega arith,
      c.count.ensures ∙ ap (λ k. counted k c.args.buffers.now.tally) c.counter_by.ensures
          ∙ sym (counted_plain c.args.numbering.base options.hashing c.args.numbering.partitions next c.args.done c.args.buffers.now.tally),
      omega arith,
    )

pub returns-in_default-clause-answered : goal.returns-in_default-clause-answered
returns-in_default-clause-answered g c =
    let F = g.F.Front in
    let options = F.options c.args.front.now in
    let old = F.sessions c.args.front.now in
    let keyed : is_flush_all c.args.next ≡ false = sym c.is_flush_all.ensures ∙ c.if-is_flush_all.false in
    let none : asks_in c.args.next ≡ [] = none_left (asks_in c.args.next) (sym c.has_none.ensures ∙ c.if-has_none.true) in (
      [],
      plain_goes options F.is_alone c.args.numbering.base c.args.second c.args.next c.args.done c.requires.open old old keyed none,
      tt,
      omega arith,
      c.count.ensures ∙ ap (λ k. counted k c.args.buffers.now.tally) c.counter_by.ensures
          ∙ sym (counted_plain c.args.numbering.base options.hashing c.args.numbering.partitions c.args.next c.args.done c.args.buffers.now.tally),
      omega arith,
    )

module _ (next : Next) (done : ℕ) (stands : IsOpenAt next done) (some : (length (asks_in next) == 0) ≡ false) where
  some_asked : 0 < length (asks_in next)
  some_asked = some_left (asks_in next) some

  less : done < length (asks_in next)
  less = is_below next done stands some_asked

  fits : (base count : ℕ) (style : Style) (answers : List Answered) → AnswersAsks base (asks_by style (drop done (asks_in next)) answers) answers → count ≡ length answers
      → done + count ≤ length (asks_in next) + 1
  fits base count style answers to_asks many =
      let few = few_answers base (asks_by style (drop done (asks_in next)) answers) answers to_asks in
      let most = few_by style (drop done (asks_in next)) answers in
      let len = length-drop done (asks_in next) in
      omega (arith, few, most, len, many, less)

pub skip-requires : goal.skip-requires
skip-requires g c =
    let below = less c.args.next c.args.done c.requires.open (sym c.has_none.ensures ∙ c.if-has_none.false) in
    let same = ap length c.asks_of-asks.ensures.is in
    omega (arith, below, same)

pub answer_asks-requires-clause-few : goal.answer_asks-requires-clause-few
answer_asks-requires-clause-few g c =
    let asks_are = ap length (c.skip.ensures ∙ ap (drop c.args.done) c.asks_of-asks.ensures.is) ∙ length-drop c.args.done (asks_in c.args.next) in
    let few = c.requires.few in
    omega (arith, asks_are, few)

pub overflow_add-result : goal.overflow_add-result
overflow_add-result g c =
    let asks_are = c.skip.ensures ∙ ap (drop c.args.done) c.asks_of-asks.ensures.is in
    let r = c.in-Ok-answer_asks.ensures.answered in
    let to_asks = subst (λ l. AnswersAsks c.args.numbering.base (asks_by c.style_of-style.result l r.0) r.0) asks_are r.1.to_asks in
    let most = fits c.args.next c.args.done c.requires.open (sym c.has_none.ensures ∙ c.if-has_none.false) c.args.numbering.base
    c.in-Ok-answer_asks.count c.style_of-style.result r.0 to_asks r.2.many in
    let few = c.requires.few in
    omega (arith, most, few)

pub returns-in-Ok-answer_asks-clause-answered : goal.returns-in-Ok-answer_asks-clause-answered
returns-in-Ok-answer_asks-clause-answered g c =
    let F = g.F.Front in
    let options = F.options c.args.front.now in
    let old = F.sessions c.args.front.now in
    let new = F.sessions c.answer_asks.new.front in
    let next = c.args.next in
    let done = c.args.done in
    let base = c.args.numbering.base in
    let count = c.in-Ok-answer_asks.count in
    let before = c.args.out.now.items in
    let after = c.answer_asks.new.out.items in
    let left = c.answer_asks.new.asks in
    let keyed : is_flush_all next ≡ false = sym c.is_flush_all.ensures ∙ c.if-is_flush_all.false in
    let asks_are : c.skip.new.asks ≡ drop done (asks_in next) = c.skip.ensures ∙ ap (drop done) c.asks_of-asks.ensures.is in
    let some = some_asked next done c.requires.open (sym c.has_none.ensures ∙ c.if-has_none.false) in
    let r = c.in-Ok-answer_asks.ensures.answered in
    let first = subst (λ (l : List Asked). AnswersFirst options F.is_alone base c.args.second (style_of next) l old new r.0) asks_are
    (subst (λ (s : Style). AnswersFirst options F.is_alone base c.args.second s c.skip.new.asks old new r.0) c.style_of-style.ensures r.1) in
    let said = subst (λ (l : List Asked). RepliesFirst base c.style_of-style.result l c.args.limits r.0 before after count left) asks_are r.2 in
    let replies = subst (λ (s : Style). RepliesFirst base s (drop done (asks_in next)) c.args.limits r.0 before after count left) c.style_of-style.ensures said in (
      r.0,
      asks_go options F.is_alone base c.args.second next done c.requires.open old new keyed some r.0 first,
      subst (λ (w : Bool). Replies options base next done c.args.limits r.0 before after (progress_of (done + count) w)) (sym c.is_empty.ensures)
          (asks_reply options F.is_alone base c.args.second next done c.requires.open old new keyed some r.0 c.args.limits before after count left replies),
      r.3,
      r.4 ∙ (λ i. tally_after_all c.args.numbering.base options.hashing c.args.numbering.partitions (asks_are i) r.0
          ((c.count.ensures ∙ ap (λ k. counted k c.args.buffers.now.tally) c.counter_by.ensures) i))
          ∙ sym (counted_keyed c.args.numbering.base options.hashing c.args.numbering.partitions c.args.next c.args.done r.0 c.args.buffers.now.tally keyed),
      omega (arith, r.5),
    )

pub returns-in-Err-clause-answered : goal.returns-in-Err-clause-answered
returns-in-Err-clause-answered g c =
    let F = g.F.Front in
    let options = F.options c.args.front.now in
    let old = F.sessions c.args.front.now in
    let new = F.sessions c.answer_asks.new.front in
    let keyed : is_flush_all c.args.next ≡ false = sym c.is_flush_all.ensures ∙ c.if-is_flush_all.false in
    let asks_are : c.skip.new.asks ≡ drop c.args.done (asks_in c.args.next) = c.skip.ensures ∙ ap (drop c.args.done) c.asks_of-asks.ensures.is in
    let r = c.answer_asks.ensures.answered in
    let first = subst (λ (l : List Asked). AnswersFirst options F.is_alone c.args.numbering.base c.args.second (style_of c.args.next) l old new r.0) asks_are
    (subst (λ (s : Style). AnswersFirst options F.is_alone c.args.numbering.base c.args.second s c.skip.new.asks old new r.0) c.style_of-style.ensures r.1) in
    let some = some_asked c.args.next c.args.done c.requires.open (sym c.has_none.ensures ∙ c.if-has_none.false) in (
      r.0,
      asks_go options F.is_alone c.args.numbering.base c.args.second c.args.next c.args.done c.requires.open old new keyed some r.0 first,
      tt,
      r.3,
      r.4 ∙ (λ i. tally_after_all c.args.numbering.base options.hashing c.args.numbering.partitions (asks_are i) r.0
          ((c.count.ensures ∙ ap (λ k. counted k c.args.buffers.now.tally) c.counter_by.ensures) i))
          ∙ sym (counted_keyed c.args.numbering.base options.hashing c.args.numbering.partitions c.args.next c.args.done r.0 c.args.buffers.now.tally keyed),
      omega (arith, r.5),
    )
