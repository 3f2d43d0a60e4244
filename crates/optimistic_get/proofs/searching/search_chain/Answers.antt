use Rattle.std.proofs.Common.{◌≡◌, sym, ◌∙◌, subst, arith, inl, inr}
use Rattle.partition_words.specs.declared.shape.Shape.{Shape}
use Rattle.partition_words.specs.Shape.{IsSpare}
use Rattle.optimistic_get.proofs.Loads.{on_shape}
use Rattle.optimistic_get.proofs.Entries.{none_of, some_no_none}
use Rattle.optimistic_get.proofs.Chains.{walks_first, searched, walks_more, searched_all}
use Rattle.optimistic_get.proofs.searching.search_chain.Goals as goal

pub loop-link-init : goal.loop-link-init
loop-link-init g c =
    let reader = g.R.ReaderWords.reader in
    let main = c.requires.bucket in record {
      walks = walks_first (reader c.args.seat.now) (reader c.first_in-found.new.seat) c.args.bucket c.args.wanted.now.key.now c.first_in-found.result c.first_in-found.new.out c.first_in-found.ensures.scans;
      at = omega arith;
      low = c.first_in-found.ensures.low;
      home = c.first_in-found.ensures.home;
      plan = c.first_in-found.ensures.plan;
    }

pub returns-then-is_some-clause-searches : goal.returns-then-is_some-clause-searches
returns-then-is_some-clause-searches g c =
    let reader = g.R.ReaderWords.reader in
    searched_all (reader c.args.seat.now) (reader c.loop-link.seat) c.args.bucket c.loop-link._link c.loop-link.at c.args.wanted.now.key.now c.loop-link.found c.loop-link.out c.loop-link.invariant.walks c.requires.store
    (omega (arith, c.loop-link-test.true, c.requires.spares)) (λ none. absurd (some_no_none c.loop-link.found (sym c.is_some.ensures ∙ c.if-is_some.true) none))

pub returns-then-next-eq0-clause-searches : goal.returns-then-next-eq0-clause-searches
returns-then-next-eq0-clause-searches g c =
    let reader = g.R.ReaderWords.reader in
    searched (reader c.args.seat.now) (reader c.loop-link.seat) (reader c.link-next.new.self) (reader c.link-next.new.self) c.args.bucket c.loop-link._link c.loop-link.at c.link-next.result c.args.wanted.now.key.now
    c.loop-link.found c.loop-link.out c.loop-link.found c.loop-link.out c.loop-link.invariant.walks (none_of c.loop-link.found (sym c.is_some.ensures ∙ c.if-is_some.false)) c.link-next.ensures.event
    c.if-next-eq0.true (omega (arith, c.loop-link-test.true, c.requires.spares))

pub loop-link-preserved : goal.loop-link-preserved
loop-link-preserved g c =
    let reader = g.R.ReaderWords.reader in
    let r = reader c.args.seat.now in
    let shape = on_shape r (reader c.loop-link.seat) _ c.loop-link.invariant.walks.on in
    let spare : IsSpare r.shape c.link-next.result = elim c.link-next.ensures.next [
      | inl none ↦ absurd (c.if-next-eq0.false none)
      | inr is ↦ subst (λ (z : Shape). IsSpare z c.link-next.result) shape is
    ] in record {
      walks = walks_more r (reader c.loop-link.seat) (reader c.link-next.new.self) (reader c.first_in-found-in-loop-link.new.seat) c.args.bucket c.loop-link._link c.loop-link.at c.link-next.result c.args.wanted.now.key.now
          c.loop-link.found c.loop-link.out c.first_in-found-in-loop-link.result c.first_in-found-in-loop-link.new.out c.loop-link.invariant.walks (none_of c.loop-link.found (sym c.is_some.ensures ∙ c.if-is_some.false))
          c.link-next.ensures.event c.if-next-eq0.false c.first_in-found-in-loop-link.ensures.scans;
      at = spare.1;
      low = c.first_in-found-in-loop-link.ensures.low;
      home = c.first_in-found-in-loop-link.ensures.home ∙ (c.link-next.ensures.home ∙ c.loop-link.invariant.home);
      plan = c.first_in-found-in-loop-link.ensures.plan ∙ (c.link-next.ensures.plan ∙ c.loop-link.invariant.plan);
    }

pub returns-clause-searches : goal.returns-clause-searches
returns-clause-searches g c =
    let reader = g.R.ReaderWords.reader in
    let all : c.loop-link._link ≡ (reader c.args.seat.now).shape.spares = omega (arith, c.loop-link-test.false, c.requires.spares) in
    searched_all (reader c.args.seat.now) (reader c.loop-link.seat) c.args.bucket c.loop-link._link c.loop-link.at c.args.wanted.now.key.now c.loop-link.found c.loop-link.out c.loop-link.invariant.walks c.requires.store
    (omega (arith, all)) (λ none. all)
