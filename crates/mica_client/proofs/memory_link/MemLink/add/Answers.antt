use Rattle.std.proofs.Common.{rules, ◌≡◌, ◌∙◌, ◌∷◌, ◌++◌, [], List, drop, ap, Some, arith}
use Rattle.outside.specs.Traffic.{Datagram}
use Rattle.mica_client.specs.declared.memory_link.Pass.{Pass}
use Rattle.mica_client.specs.Talk.{Passed, Talk}
use Rattle.mica_client.specs.MemoryLink.{passed_in}
use Rattle.mica_client.proofs.Passing.{left_more, still_left}
use Rattle.mica_client.proofs.memory_link.MemLink.add.Goals as goal

pub returns-clause-ok : goal.returns-clause-ok
returns-clause-ok c =
    let self = c.args.self.now in
    let bytes = self.bytes.items in
    let from = c.args.from.now in
    let all : c.push.new.self.items ≡ self.datagrams.items ++ from ∷ [] = search rules in
    let passes : c.reserve.new.self.items ≡ self.passes.items = search rules in
    ap (λ (d : List Datagram). let t : Talk = record { left = drop self.at d; passed = passed_in bytes d c.reserve.new.self.items } in Some t) all
    ∙ ap (λ (p : List Pass). let t : Talk = record { left = drop self.at (self.datagrams.items ++ from ∷ []); passed = passed_in bytes (self.datagrams.items ++ from ∷ []) p } in Some t) passes
    ∙ ap (λ (l : List Datagram). let t : Talk = record { left = l; passed = passed_in bytes (self.datagrams.items ++ from ∷ []) self.passes.items } in Some t) (still_left self.at self.datagrams.items from (omega (arith, self.in_range, self.datagrams.ok)))
    ∙ ap (λ (p : List Passed). let t : Talk = record { left = drop self.at self.datagrams.items ++ from ∷ []; passed = p } in Some t) (left_more bytes self.datagrams.items from self.passes.items self.within)
