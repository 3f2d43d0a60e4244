use Rattle.std.proofs.Common.{ap, ◌∙◌, arith}
use Rattle.owner_queue.specs.Messages.{sender_of}
use Rattle.ruled_queue.specs.Ends.{known}
use Rattle.owner_queue.proofs.Flags.{flags_after_end}
use Rattle.owner_queue.proofs.jobs.JobReceiver.recv.Goals as goal

pub invariant_of-self : goal.invariant_of-self
invariant_of-self g c =
    let e = c.take-message.ensures.view in (
      c.take-message.ensures.seat,
      ap (λ v. v.takes) e,
      ap (λ v. v.sends) e,
      ap (λ v. v.number) e ∙ c.self.invariant.3,
      c.self.invariant.4,
      flags_after_end _ (known c.take-message.new.pass) (known c.self.inside.pass) c.take-message.result c.in-End.sender c.in-End.is (omega (arith, ap sender_of c.in-End.is, c.take-message.ensures.sender, c.self.invariant.3, c.self.invariant.4)) e c.self.invariant.5,
      c.self.invariant.6,
    )
