use Rattle.std.proofs.Common.{rules, ◌≡◌, ◌+◌, ◌++◌, ◌∷◌, [], ℕ, List, length, vec_len, map, refl, sym, ap, ◌∙◌, subst, arith}
use Rattle.std.specs.Prelude.{is_some, IfSome}
use Rattle.std.proofs.lemmas.List.{length-map, map-append}
use Rattle.outside.specs.PortStates.{BindsEnd}
use Rattle.served.specs.Ends.{EndFacts, AreNewEnds, BindsEnds, end_facts}
use Rattle.served.specs.NetRun.{OnPorts}
use Rattle.served.proofs.Binding.{new_more, bound_more, when_some, first_kept}
use Rattle.served.proofs.bound_ends.bind_all.Goals as goal

pub loop-f-preserved : goal.loop-f-preserved
loop-f-preserved g c =
    let facts : g.row.N-End.Denot → EndFacts = end_facts g.N.End.Datagrams in
    let end = c.in_ok-end.end in
    let items = c.loop-f.ends.items in
    let inv = c.loop-f.invariant in
    let bind = c.in_ok-end.ensures in
    let port = c.args.ports.now.port in
    let size : vec_len c.loop-f.ends ≡ length items = search rules in
    let many = length-map items facts in
    let number : g.N.End.Datagrams.port end ≡ port + length (map facts items) = omega (arith, bind.port, inv.0, size, many, c.requires.ports.fronts.1, c.loop-f-test.true, c.requires.ports.port.1) in
    let place : port + length (map facts items) ≡ port + c.loop-f.f = omega (arith, inv.0, size, many) in
    let bound = subst (λ (n : ℕ). IfSome (g.N.Net.ports c.loop-f.net) (λ y. BindsEnd y n (g.N.End.Datagrams.traffic end) (g.N.End.Datagrams.script end) (g.N.Net.ports c.bind.new.self)))
    (sym bind.port ∙ number) bind.bound in
    let all : map facts c.push_reserved.new.self.items ≡ map facts items ++ facts end ∷ [] = ap (map facts) c.push_reserved.ensures.items ∙ map-append facts items (end ∷ []) in (
      search rules,
      search rules,
      subst (λ (xs : List EndFacts). AreNewEnds port xs) (sym all)
          (new_more port (map facts items) (facts end) inv.2 (record { port_is = number; no_faults = bind.no_faults; unended = bind.open; fresh = bind.fresh })),
      subst (λ (xs : List EndFacts). OnPorts (BindsEnds port xs) (g.N.Net.ports c.args.net.now) (g.N.Net.ports c.bind.new.self)) (sym all)
          (bound_more port (map facts items) (facts end) (g.N.End.Datagrams.script end) (g.N.Net.ports c.args.net.now) (g.N.Net.ports c.loop-f.net) (g.N.Net.ports c.bind.new.self) inv.3 bound refl bind.silent),
      omega (arith, bind.binds, inv.4),
      λ _. first_kept (g.N.Net.binds c.loop-f.net) c.loop-f.f port _ (g.N.Net.first c.loop-f.net) (g.N.Net.first c.bind.new.self) inv.4 bind.first (sym bind.port ∙ number ∙ place) inv.5,
      bind.refused ∙ inv.6,
      omega (arith, bind.never_fall, inv.7),
      bind.same_fails ∙ inv.8,
      λ told. when_some (g.N.Net.fails c.loop-f.net) (ap is_some inv.8 ∙ told) bind.counted ∙ inv.9 told,
    )
