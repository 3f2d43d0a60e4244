use Rattle.std.proofs.Common.{rules, ◌≡◌, ◌∙◌, ◌+◌, ◌++◌, List, ℕ, length, drop, ap, Some, arith, length-append}
use Rattle.mica_client.specs.declared.memory_link.Pass.{Pass}
use Rattle.mica_client.specs.Talk.{Passed, Talk}
use Rattle.mica_client.specs.MemoryLink.{passed_in}
use Rattle.mica_client.proofs.Passing.{sent_more}
use Rattle.mica_client.proofs.memory_link.MemLinkLink.send.Goals as goal

pub returns-clause-sent : goal.returns-clause-sent
returns-clause-sent c =
    let self = c.args.self.now in
    let bytes = self.bytes.items in
    let piece = c.args.piece.now in
    let all : c.extend_from_slice.new.self.items ≡ bytes ++ piece = search rules in
    let from : c.len-from.result ≡ length bytes = search rules in
    let to : c.len-from.result + length piece ≡ length (bytes ++ piece) = omega (arith, from, length-append bytes piece) in
    let talk = λ (p : List Passed). let t : Talk = record { left = drop self.at self.datagrams.items; passed = p } in Some t in
    ap talk
    (ap (λ (b : List ℕ). passed_in b self.datagrams.items c.push_reserved.new.self.items) all
    ∙ ap (λ (p : List Pass). passed_in (bytes ++ piece) self.datagrams.items p) c.push_reserved.ensures.items
    ∙ sent_more bytes piece self.datagrams.items self.passes.items c.args.port c.len-from.result _ self.faults self.within from to)
