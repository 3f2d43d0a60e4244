-- Lines of one partition, replied to one after another.
use Rattle.std.proofs.Common.{◌≡◌, List, [], ◌∷◌, ◌++◌, refl, subst}
use Rattle.partition_model.specs.declared.options.Options.{Options}
use Rattle.partition_model.specs.History.{History}
use Rattle.mica_trace.specs.declared.line.TraceLine.{TraceLine}
use Rattle.mica_trace.specs.declared.report.Line.{Line}
use Rattle.mica_trace.specs.LineReply.{IsReplyAfter, RepliesTo, history_with}

-- one line more
pub replies_more : (options : Options) (from mid : History) (lines : List TraceLine) (printed : List Line) (line : TraceLine) (more : Line)
    → RepliesTo options from lines printed mid → IsReplyAfter options mid line more → RepliesTo options from (lines ++ line ∷ []) (printed ++ more ∷ []) (history_with mid line more)
replies_more options from mid [] [] line more so_far one = subst (λ (h : History). IsReplyAfter options h line more × (history_with mid line more ≡ history_with h line more)) so_far (one, refl)
replies_more options from mid [] (x ∷ printed) line more so_far one = absurd so_far
replies_more options from mid (l ∷ lines) [] line more so_far one = absurd so_far
replies_more options from mid (l ∷ lines) (x ∷ printed) line more so_far one =
    (so_far.0, replies_more options (history_with from l x) mid lines printed line more so_far.1 one)
