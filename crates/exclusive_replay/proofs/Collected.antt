-- What the owners printed, one after another.
use Rattle.std.proofs.Common.{◌≡◌, ℕ, zero, suc, ◌+◌, ◌⊎◌, inl, inr, List, [], ◌∷◌, ◌++◌, length, length-append, slice_get, Option, Some, IfSome, Vec, refl, sym, ap, ◌∙◌, subst, arith}
use Rattle.std.specs.Global.{Global}
use Rattle.partition_model.specs.declared.options.Options.{Options}
use Rattle.partition_model.specs.History.{History}
use Rattle.mica_trace.specs.declared.line.TraceLine.{TraceLine}
use Rattle.mica_trace.specs.declared.report.Line.{Line}
use Rattle.mica_trace.specs.LineReply.{RepliesTo, lines_for}
use Rattle.partition_words.specs.OwnerState.{as_made}
use Rattle.partition_words.specs.Shape.{shape_of}
use Rattle.line_replies.specs.Replied.{HasReplied}
use Rattle.exclusive_replay.specs.declared.owner.Owner.{Owner}
use Rattle.exclusive_replay.specs.Sent.{numbers_in}
use Rattle.exclusive_replay.specs.LineEnds.{LineBox}
use Rattle.any_partition.specs.PlainPartition.{owner_of}
use Rattle.exclusive_replay.specs.Workers.{lines_at}
use Rattle.exclusive_replay.specs.Run.{HasRun, HaveRun}
use Rattle.exclusive_replay.proofs.Shares.{share_replied}

-- the first n partitions' lines were replied to, and these owners with their senders are left
pub record IsCollecting (options : Options) (trace : List TraceLine) (n : ℕ) (owners : List Owner) (senders : List LineBox) (printed : List (List Line)) : Type 0 where
  pub rest : HaveRun options trace n owners senders
  pub many : length printed ≡ n
  pub all : n + length owners ≡ options.partitions
  pub each : (p : ℕ) (own : List Line) → slice_get printed p ≡ Some own → (to : History) × RepliesTo options [] (lines_for options p trace) own to

push_cases : {X : Type 0} (xs : List X) (y : X) (p : ℕ) (x : X) → slice_get (xs ++ y ∷ []) p ≡ Some x → (slice_get xs p ≡ Some x) ⊎ ((p ≡ length xs) × (y ≡ x))
push_cases [] y zero x is = inr (refl, cc)
push_cases [] y (suc p) x is = absurd (cc)
push_cases (z ∷ xs) y zero x is = inl is
push_cases (z ∷ xs) y (suc p) x is =
    elim (push_cases xs y p x is) as (λ _. (slice_get (z ∷ xs) (suc p) ≡ Some x) ⊎ ((suc p ≡ length (z ∷ xs)) × (y ≡ x))) [
      | inl before ↦ inl before
      | inr last ↦ inr (ap suc last.0, last.1)
    ]

-- what holds of whatever there is holds of what is there
of_some : {X : Type 0} (o : Option X) (x : X) (P : X → Type 0) → o ≡ Some x → IfSome o P → P x
of_some {X = X} o x P is all = subst (λ (q : Option X). IfSome q P) is all

pub one_owner : (options : Options) (trace : List TraceLine) (p : ℕ) (v : Owner) (sender : LineBox) (lines : Vec Line Global) → HasRun options trace p v sender → v.queue.list ≡ sender.list → v.printed ≡ Some lines
    → (to : History) × RepliesTo options [] (lines_for options p trace) lines.items to
one_owner options trace p v sender lines run whole is =
    share_replied options p trace (as_made (shape_of options)) (owner_of v.part) v.queue.list lines.items refl (whole ∙ run.sent)
    (of_some v.printed lines (λ printed. HasReplied (as_made (shape_of options)) (owner_of v.part) (lines_at trace (numbers_in v.queue.list)) printed.items) is run.answered)

pub one_collected : (options : Options) (trace : List TraceLine) (n : ℕ) (v : Owner) (vs : List Owner) (s : LineBox) (ss : List LineBox) (printed : List (List Line)) (lines : Vec Line Global)
    → IsCollecting options trace n (v ∷ vs) (s ∷ ss) printed → v.queue.list ≡ s.list → v.printed ≡ Some lines → IsCollecting options trace (n + 1) vs ss (printed ++ lines.items ∷ [])
one_collected options trace n v vs s ss printed lines so_far whole is = record {
  rest = so_far.rest.1;
  many = let long = length-append printed (lines.items ∷ []) in let before = so_far.many in omega (arith, long, before);
  all = let before = so_far.all in omega (arith, before);
  each = λ p own got.
      elim (push_cases printed lines.items p own got) as (λ _. (to : History) × RepliesTo options [] (lines_for options p trace) own to) [
        | inl before ↦ so_far.each p own before
        | inr last ↦
            let here : n ≡ p = sym so_far.many ∙ sym last.0 in
            subst (λ (q : ℕ). (to : History) × RepliesTo options [] (lines_for options q trace) own to) here
            (subst (λ (l : List Line). (to : History) × RepliesTo options [] (lines_for options n trace) l to) last.1 (one_owner options trace n v s lines so_far.rest.0 whole is))
      ];
}
