-- What one step of a partition's machine gives, by the options of the partition.
use Rattle.std.proofs.Common.{◌≡◌, ℕ, ◌<◌, Bool, true, false, cond, List, [], ◌++◌, Some, None, refl, sym, ap, ◌∙◌, subst, append-nil}
use Rattle.std.specs.List.{cons_option}
use Rattle.std.proofs.lemmas.Bool.{true≢false}
use Rattle.partition_model.specs.declared.options.Options.{Options}
use Rattle.partition_model.specs.declared.write.Outcome.{Outcome}
use Rattle.partition_model.specs.declared.write.Write.{Write}
use Rattle.partition_model.specs.History.{History, MayGive, stamp_of, stamp_in, value_in, answer_of}
use Rattle.partition_model.specs.ReplyAt.{IsReplyAt}
use Rattle.partition_model.proofs.Rises.{stamp_rises}
use Rattle.partition_words.specs.declared.shape.Shape.{Shape}
use Rattle.partition_words.specs.Shape.{shape_of, options_of}
use Rattle.partition_words.proofs.SameMachine.{same_state}

-- a stamp by the shape is that by the options
pub stamp_as : (options : Options) (shape : Shape) (history : History) → shape ≡ shape_of options → stamp_of (options_of shape) history ≡ stamp_of options history
stamp_as options shape history is = ap (λ s. stamp_of (options_of s) history) is ∙ ap stamp_in (same_state options history)

-- an answer by the shape is that by the options
pub answer_as : (options : Options) (shape : Shape) (history : History) (key : List ℕ) → shape ≡ shape_of options → answer_of (options_of shape) history key ≡ answer_of options history key
answer_as options shape history key is = ap (λ s. answer_of (options_of s) history key) is ∙ ap (λ s. value_in s key) (same_state options history)

-- the reply of a step at the history that it leaves
pub replied_at : (options : Options) (before : History) (write : Write) (outcome : Outcome) (b : Bool) → MayGive options before write outcome
    → IsReplyAt b options (before ++ cons_option (cond b (Some write) None) []) write outcome
replied_at options before write outcome true may = (before, refl, may)
replied_at options before write outcome false may = subst (λ h. MayGive options h write outcome) (sym (append-nil before)) may

-- an accepted step raises the stamp
pub raised : (options : Options) (before : History) (write : Write) (b : Bool) → b ≡ true → stamp_of options before < stamp_of options (before ++ cons_option (cond b (Some write) None) [])
raised options before write true is = stamp_rises options before write
raised options before write false is = absurd (true≢false (sym is))
