use Rattle.std.proofs.Common.{◌≡◌, Some, None, sym, ◌∙◌}
use Rattle.list_laws.proofs.Places.{element_at}
use Rattle.mica_replay.proofs.merging.next_reply.Goals as goal

pub unreachable-requires : goal.unreachable-requires
unreachable-requires c =
    let at = element_at c.args.done.now.list c.args.replied.now c.requires.some in
    no (sym at.1 ∙ sym c.pair.ensures ∙ c.in-None.is)
  where
    no : {X : Type 0} {x : X} → Some x ≡ None → ⊥
    no is = cc
