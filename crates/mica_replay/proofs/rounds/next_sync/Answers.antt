use Rattle.std.proofs.Common.{◌≡◌, ◌-◌, ◌<◌, length, take, drop, get_or, sym, ap, ◌∙◌, subst, arith, take_all}
use Rattle.std.specs.List.{AllByRecursion}
use Rattle.std.proofs.lemmas.List.{take_more, length-drop}
use Rattle.list_laws.proofs.AllElements.{all_push}
use Rattle.mica_trace.specs.TraceGrammar.{is_sync}
use Rattle.mica_trace.specs.RoundReport.{EndsRound, IsOneRound}
use Rattle.mica_replay.proofs.RoundEnds.{IsNoSync, one_round, whole_round, ends_round, part_more}
use Rattle.mica_replay.proofs.rounds.next_sync.Goals as goal

pub returns-then-is_sync : goal.returns-then-is_sync
returns-then-is_sync c =
    let lines = c.args.lines.now in
    let n = c.loop-number.number in
    let line = c.index-lines-number.result in
    let inv = c.loop-number.invariant in
    let less : n < length lines = omega (arith, c.loop-number-test.true, c.loop-number.auto.number-end) in
    record {
      low = inv.low;
      less = less;
      one = subst IsOneRound (sym (part_more lines c.args.from n line inv.low less)) (one_round _ (get_or lines n line) inv.none);
      ends = subst EndsRound (sym (take_more lines n line less)) (ends_round (take n lines) (get_or lines n line) (ap is_sync (sym c.index-lines-number.is) ∙ sym c.is_sync.ensures ∙ c.if-is_sync.true));
    }

pub loop-number-preserved : goal.loop-number-preserved
loop-number-preserved c =
    let lines = c.args.lines.now in
    let n = c.loop-number.number in
    let line = c.index-lines-number.result in
    let inv = c.loop-number.invariant in
    let less : n < length lines = omega (arith, c.loop-number-test.true, c.loop-number.auto.number-end) in
    let low = inv.low in
    record {
      low = omega arith;
      within = omega arith;
      none = subst (AllByRecursion IsNoSync) (sym (part_more lines c.args.from n line inv.low less))
          (all_push IsNoSync _ (get_or lines n line) inv.none (ap is_sync (sym c.index-lines-number.is) ∙ sym c.is_sync.ensures ∙ c.if-is_sync.false));
    }

pub returns : goal.returns
returns c =
    let lines = c.args.lines.now in
    let n = c.loop-number.number in
    let inv = c.loop-number.invariant in
    let low = inv.low in
    let long = length-drop c.args.from lines in
    let all : take (n - c.args.from) (drop c.args.from lines) ≡ drop c.args.from lines = take_all (n - c.args.from) (drop c.args.from lines) (omega (arith, c.loop-number-test.false, c.loop-number.auto.number-end)) in
    whole_round _ (subst (AllByRecursion IsNoSync) all inv.none)
