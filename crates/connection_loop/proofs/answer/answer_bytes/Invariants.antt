use Rattle.std.proofs.Common.{◌≡◌, ◌≤◌, ◌-◌, length}
use Rattle.std.specs.Prelude.{◌+◌, drop, max}
use Rattle.memcached_text.specs.declared.limits.TheConstants.{MAX_REPLY_LEN}
use Rattle.memcached_requests.specs.Next.{next_of}
use Rattle.command_answers.specs.Exchange.{IsOpenAt}
use Rattle.connection_loop.specs.declared.answer.TheConstants.{LIMITS, MOST_COMMANDS}
use Rattle.connection_loop.specs.Calls.{KeepsHand}
use Rattle.connection_loop.specs.Going.{GoesBySome}
use Rattle.connection_loop.specs.Reached.{Reaches, GoesOnTo, position_at}
use Rattle.connection_loop.proofs.Advancing.{HasAdvanced}
use Rattle.connection_loop.proofs.Answering.{HasSpoken}
use Rattle.connection_loop.proofs.answer.answer_bytes.Given as goal

abbrev pub invariant-loop-spoken : goal.invariant-loop-spoken
invariant-loop-spoken g l =
    let options = g.F.Front.options l.initial.hand.front in
    let base = l.initial.hand.numbering.base in
    (l.taken ≤ length l.bytes)
    × IsOpenAt (next_of (drop l.taken l.bytes)) l.done
    × GoesBySome options g.F.Front.is_alone (g.F.Front.sessions l.initial.hand.front) (g.F.Front.left l.initial.hand.front) l.initial.hand.second (g.F.Front.sessions l.hand.front) (g.F.Front.left l.hand.front) l.hand.second
    (λ answers. GoesOnTo options base (position_at l.bytes l.initial.done) answers l.initial.out.items l.out.items (Reaches options base (position_at (drop l.taken l.bytes) l.done))
    × HasSpoken options g.F.Front.is_alone base l.spoken answers l.initial.out.items l.out.items)
    × KeepsHand g.F.Front.options g.F.Front.number g.F.Front.stands l.initial.hand l.hand
    × HasAdvanced ((l.spoken ≡ 0) × (g.F.Front.left l.hand.front ≡ g.F.Front.left l.initial.hand.front) × (l.out.items ≡ l.initial.out.items)) l.bytes l.initial.done l.taken l.done
    × (length l.out.items ≤ max (length l.initial.out.items) LIMITS.bytes + MAX_REPLY_LEN)
    × (l.spoken ≤ MOST_COMMANDS)
    × (l.hand.second ≡ l.initial.hand.second)

abbrev pub decreases-loop-spoken : goal.decreases-loop-spoken
decreases-loop-spoken g l = length l.bytes - l.taken
