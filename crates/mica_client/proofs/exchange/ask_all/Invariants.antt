use Rattle.std.proofs.Common.{◌≡◌, ◌≤◌}
use Rattle.std.specs.Vec.Iter.{into_iter_items}
use Rattle.mica_client.specs.Talk.{OnTalk, Passes}
use Rattle.mica_client.specs.Batches.{numbered}
use Rattle.mica_client.proofs.Running.{SoFar}
use Rattle.mica_client.proofs.Asking.{Going}
use Rattle.mica_client.proofs.exchange.ask_all.Given as goal

abbrev pub invariant-loop-group : goal.invariant-loop-group
invariant-loop-group g l = record {
  going : Going l.fn.groups.items (into_iter_items l.group-iterator) l.number l.fn.answers l.answers;
  asks : OnTalk (Passes (SoFar (numbered 0 l.fn.groups.items) (numbered l.number (into_iter_items l.group-iterator)) l.fn.answers l.answers)) (g.L.Link.talk l.fn.link) (g.L.Link.talk l.link);
  ended : g.L.Link.has_ended l.link ≡ g.L.Link.has_ended l.fn.link;
  silence : g.L.Link.silence l.link ≡ g.L.Link.silence l.fn.link;
  faults : g.L.Link.faults l.fn.link ≤ g.L.Link.faults l.link;
}
