use Rattle.std.proofs.Common.{rules, ◌≡◌, ◌<◌, inl, inr, ◌++◌, ℕ, suc, ◌+◌, take, drop, length, vec_len, map, slice_get, Some, sym, ap, ◌∙◌, subst, arith}
use Rattle.std.specs.Prelude.{is_some, option_map, min, sum_by, IfSome}
use Rattle.std.specs.Option.{option_to_list}
use Rattle.std.proofs.Math.Seq.{take-length}
use Rattle.std.proofs.lemmas.List.{length-map}
use Rattle.std.proofs.lemmas.Option.{slice_get-map, slice_get_within}
use Rattle.std.proofs.lemmas.Bool.{cases_lt}
use Rattle.list_laws.proofs.Places.{from_map, popped}
use Rattle.outside.specs.Faults.{Rose, LAST_COUNT}
use Rattle.outside.specs.PortStates.{out}
use Rattle.served.specs.Ends.{EndFacts, end_facts}
use Rattle.served.specs.NetRun.{OnPorts}
use Rattle.served.proofs.Binding.{Releasing, releasing_none, still_out, tells_at, released_more, all_told, counts_none, counts_more, when_some, rose_on, rose_before}
use Rattle.served.proofs.bound_ends.release_all.Given as given
use Rattle.served.proofs.bound_ends.release_all.Goals as goal
use Rattle.served.proofs.bound_ends.release_all.Goals.{In-Some}

abbrev facts : (g : given.Over) → g.row.N-End.Denot → EndFacts
facts g = end_facts g.N.End.Datagrams

-- the end that was taken off is the last of those that were left
module _ (g : given.Over) (c : goal.In-Some g) where
  last : (c.pop.new.self.items ≡ take (length c.pop.new.self.items) c.args.ends.items) × (slice_get c.args.ends.items (length c.pop.new.self.items) ≡ Some c.in-Some.end)
      × (length c.loop-end.ends.items ≡ length c.pop.new.self.items + 1)
  last =
      popped c.args.ends.items c.loop-end.ends.items c.pop.new.self.items c.in-Some.end c.loop-end.invariant.0
      (c.pop.ensures.items ∙ ap (λ r. c.pop.new.self.items ++ option_to_list r) c.in-Some.is)

  here : slice_get (map (facts g) c.args.ends.items) (length c.pop.new.self.items) ≡ Some (facts g c.in-Some.end)
  here = slice_get-map (facts g) c.args.ends.items (length c.pop.new.self.items) ∙ ap (option_map (facts g)) last.1

pub release-requires : goal.release-requires
release-requires g c =
    let z = (goal.at.release-requires g c).In-Some in
    let ends = map (facts g) c.args.ends.items in
    let inv = c.loop-end.invariant in
    let end = c.in-Some.end in
    let new = c.pop.new.self.items in
    let p = last g z in
    let here = here g z in
    let many : length c.loop-end.ends.items ≡ suc (length new) = omega (arith, p.2) in
    still_out c.args.first ends (length c.loop-end.ends.items) (length new) (g.N.End.Datagrams.port end) (g.N.Net.ports c.args.net.now) (g.N.Net.ports c.loop-end.net) inv.1
    (omega (arith, many)) (c.requires.ports (length new) (facts g end) here)

pub loop-end-init : goal.loop-end-init
loop-end-init g c =
    let items = c.args.ends.items in
    let size : vec_len c.args.ends ≡ length items = search rules in (
      sym (take-length items),
      releasing_none c.args.first (map (facts g) items) (length items) (g.N.Net.ports c.args.net.now) (length-map items (facts g))
          (subst (λ (n : ℕ). IfSome (g.N.Net.ports c.args.net.now) (λ all. (i : ℕ) → i < n → all (c.args.first + i) ≡ out)) size c.requires.out),
      search rules,
      search rules,
      search rules,
      search rules,
      search rules,
      λ i e le is some. absurd (omega (arith, slice_get_within items i e is, le)),
      search rules,
      λ told. counts_none (facts g) items (g.N.Net.faults c.args.net.now),
    )

pub loop-end-preserved : goal.loop-end-preserved
loop-end-preserved g c =
    let z = (goal.at.loop-end-preserved g c).In-Some in
    let ends = map (facts g) c.args.ends.items in
    let inv = c.loop-end.invariant in
    let end = c.in-Some.end in
    let new = c.pop.new.self.items in
    let p = last g z in
    let here = here g z in
    let many : length c.loop-end.ends.items ≡ suc (length new) = omega (arith, p.2) in
    let rel = c.release.ensures in (
      p.0,
      released_more c.args.first ends (length new) (facts g end) (g.N.Net.ports c.args.net.now) (g.N.Net.ports c.loop-end.net) (g.N.Net.ports c.release.new.self)
          (subst (λ (n : ℕ). OnPorts (Releasing c.args.first ends n) (g.N.Net.ports c.args.net.now) (g.N.Net.ports c.loop-end.net)) many inv.1) here
          (c.requires.ports (length new) (facts g end) here) (tells_at ends (length new) (facts g end) (g.N.Net.ports c.args.net.now) c.requires.tell here) rel.told rel.silent,
      omega (arith, rel.never_fall, inv.2),
      rel.same_fails ∙ inv.3,
      rel.binds ∙ inv.4,
      rel.first ∙ inv.5,
      rel.refused ∙ inv.6,
      λ i e le is some. elim (cases_lt (length new) i) as (λ _. Rose (g.N.Net.faults c.args.net.now) (g.N.Net.faults c.release.new.self)) [
        | inl past ↦ rose_before (g.N.Net.faults c.args.net.now) (g.N.Net.faults c.loop-end.net) (g.N.Net.faults c.release.new.self) inv.2
            (inv.7 i e (omega (arith, past, many)) is some) rel.never_fall
        | inr upto ↦
            let place : i ≡ length new = omega arith in
            let there = ap (slice_get c.args.ends.items) place ∙ p.1 in
            let same : e ≡ end = cc in
            rose_on (g.N.Net.faults c.args.net.now) (g.N.Net.faults c.loop-end.net) (g.N.Net.faults c.release.new.self) inv.2
            (rel.cause (subst (λ x. 0 < g.N.End.Datagrams.faults x) same some))
      ],
      λ told none. when_some (g.N.Net.fails c.loop-end.net) (ap is_some inv.3 ∙ told) rel.unmoved (none (length new) end p.1) ∙ inv.8 told none,
      λ told. counts_more ends (length new) (facts g end) (g.N.Net.faults c.args.net.now) (g.N.Net.faults c.loop-end.net) (g.N.Net.faults c.release.new.self) here
          (when_some (g.N.Net.fails c.loop-end.net) (ap is_some inv.3 ∙ told) rel.counted)
          (inv.9 told ∙ ap (λ (n : ℕ). min (g.N.Net.faults c.args.net.now + sum_by (λ e. e.faults) (drop n ends)) LAST_COUNT) p.2),
    )

pub returns : goal.returns
returns g c =
    let ends = map (facts g) c.args.ends.items in
    let inv = c.loop-end.invariant in
    let none : length c.loop-end.ends.items ≡ 0 = search rules in
    record {
      told = all_told c.args.first ends (g.N.Net.ports c.args.net.now) (g.N.Net.ports c.loop-end.net)
          (subst (λ (n : ℕ). OnPorts (Releasing c.args.first ends n) (g.N.Net.ports c.args.net.now) (g.N.Net.ports c.loop-end.net)) none inv.1);
      cause = λ i f is some. let m = from_map (facts g) c.args.ends.items i f is in inv.7 i m.0 (omega (arith, none)) m.1 (subst (λ (x : EndFacts). 0 < x.faults) (sym m.2) some);
      steady = λ told zero_all. inv.8 told (λ i e is. zero_all i (facts g e) (slice_get-map (facts g) c.args.ends.items i ∙ ap (option_map (facts g)) is));
      counted = λ told. inv.9 told ∙ ap (λ (n : ℕ). min (g.N.Net.faults c.args.net.now + sum_by (λ e. e.faults) (drop n ends)) LAST_COUNT) none;
      never_fall = inv.2;
      binds = inv.4;
      first_is = inv.5;
      refused = inv.6;
    }
