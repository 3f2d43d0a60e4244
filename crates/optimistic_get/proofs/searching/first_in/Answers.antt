use Rattle.std.proofs.Common.{ℕ, ◌+◌, Option, None, sym, ◌∙◌, subst, rules, arith}
use Rattle.optimistic_get.specs.Search.{Scans}
use Rattle.optimistic_get.proofs.Entries.{first_found, first_whole, first_empty, none_of, scans_more}
use Rattle.optimistic_get.proofs.searching.first_in.Given as given
use Rattle.optimistic_get.proofs.searching.first_in.Goals as goal
use Rattle.optimistic_get.proofs.searching.first_in.Goals.{After-weigh-found}

-- one slot more
more : (g : given.Over) (c : After-weigh-found g) → Scans (g.R.ReaderWords.reader c.args.seat.now) c.args.bucket (c.loop-slot.slot + 1) c.args.wanted.now.key.now None c.args.out.now
    c.weigh-found.result c.weigh-found.new.out (g.R.ReaderWords.reader c.weigh-found.new.seat)
more g c =
    let reader = g.R.ReaderWords.reader in
    scans_more (reader c.args.seat.now) (reader c.loop-slot.seat) (reader c.entry-entry.new.self) (reader c.weigh-found.new.seat) c.args.bucket c.loop-slot.slot c.entry-entry.result c.args.wanted.now.key.now
    None c.args.out.now None c.loop-slot.out c.weigh-found.result c.weigh-found.new.out c.loop-slot.invariant.scans c.entry-entry.ensures.event c.weigh-found.ensures.weighs c.loop-slot-test.true

pub returns-then-entry-eq0-clause-scans : goal.returns-then-entry-eq0-clause-scans
returns-then-entry-eq0-clause-scans g c =
    let reader = g.R.ReaderWords.reader in
    first_empty (reader c.args.seat.now) (reader c.loop-slot.seat) (reader c.entry-entry.new.self) c.args.bucket c.loop-slot.slot c.entry-entry.result c.args.wanted.now.key.now c.args.out.now c.loop-slot.out
    c.loop-slot.invariant.scans c.entry-entry.ensures.event c.if-entry-eq0.true c.loop-slot-test.true c.requires.store

pub returns-then-is_some-clause-scans : goal.returns-then-is_some-clause-scans
returns-then-is_some-clause-scans g c =
    let reader = g.R.ReaderWords.reader in
    first_found (reader c.args.seat.now) (reader c.weigh-found.new.seat) c.args.bucket (c.loop-slot.slot + 1) c.args.wanted.now.key.now c.args.out.now c.weigh-found.result c.weigh-found.new.out
    (more g (goal.at.returns-then-is_some-clause-scans g c).After-weigh-found) (omega (arith, c.loop-slot-test.true)) (sym c.is_some.ensures ∙ c.if-is_some.true)

pub loop-slot-preserved : goal.loop-slot-preserved
loop-slot-preserved g c = record {
  scans = subst (λ (z : Option ℕ). Scans (g.R.ReaderWords.reader c.args.seat.now) c.args.bucket (c.loop-slot.slot + 1) c.args.wanted.now.key.now None c.args.out.now z c.weigh-found.new.out (g.R.ReaderWords.reader c.weigh-found.new.seat))
      (none_of c.weigh-found.result (sym c.is_some.ensures ∙ c.if-is_some.false)) (more g (goal.at.loop-slot-preserved g c).After-weigh-found);
  home = search rules;
  plan = search rules;
}

pub returns-clause-scans : goal.returns-clause-scans
returns-clause-scans g c =
    let reader = g.R.ReaderWords.reader in
    first_whole (reader c.args.seat.now) (reader c.loop-slot.seat) c.args.bucket c.loop-slot.slot c.args.wanted.now.key.now c.args.out.now c.loop-slot.out c.loop-slot.invariant.scans (omega (arith, c.loop-slot-test.false))
