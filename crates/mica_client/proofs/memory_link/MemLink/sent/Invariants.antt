use Rattle.std.proofs.Common.{◌≡◌, drop}
use Rattle.std.specs.Prelude.{slice_get}
use Rattle.mica_client.specs.Talk.{sent_in}
use Rattle.mica_client.specs.MemoryLink.{passed_in}
use Rattle.mica_client.proofs.memory_link.MemLink.sent.Given as goal

abbrev pub invariant-loop-pass : goal.invariant-loop-pass
invariant-loop-pass l =
    slice_get (sent_in (passed_in l.self.bytes.items l.self.datagrams.items (drop l.pass-index l.self.passes.items))) l.before
    ≡ slice_get (sent_in (passed_in l.self.bytes.items l.self.datagrams.items l.self.passes.items)) l.number
