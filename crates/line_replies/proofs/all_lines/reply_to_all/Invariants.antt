use Rattle.std.proofs.Common.{◌≡◌, map, take}
use Rattle.line_replies.specs.Answered.{AreAnswered}
use Rattle.line_replies.proofs.all_lines.reply_to_all.Given as goal

abbrev pub invariant-loop-line : goal.invariant-loop-line
invariant-loop-line g l = AreAnswered l.options (take l.line-index l.trace) l.report (map (λ p. g.P.Partition.owner p) l.parts.items)
    × (map (λ p. g.P.Partition.home p) l.parts.items ≡ map (λ p. g.P.Partition.home p) l.initial.parts.items)
