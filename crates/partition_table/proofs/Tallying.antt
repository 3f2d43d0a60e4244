-- What an epoch tells of the writes that a seat has seen.
use Rattle.std.proofs.Common.{◌≡◌, ℕ, ◌+◌, ◌*◌, ◌≤◌, ap, ◌∙◌, subst, arith}
use Rattle.std.proofs.lemmas.List.Sums.{sum_by-append}
use Rattle.partition_model.specs.History.{writes_to_bucket}
use Rattle.partition_words.specs.declared.shape.Shape.{Shape}
use Rattle.partition_words.specs.declared.state.OwnerState.{OwnerState}
use Rattle.partition_words.specs.declared.state.Phase.{Phase}
use Rattle.partition_words.specs.declared.state.Phase.TheVariants.{Idle, Begun, Marked}
use Rattle.partition_words.specs.declared.reader.ReaderState.{ReaderState}
use Rattle.partition_words.specs.Shape.{options_of, IsMain}
use Rattle.partition_words.specs.OwnerState.{epoch_in, writes_in, marked_in}
use Rattle.partition_words.specs.Kept.{Kept}
use Rattle.partition_words.specs.ReaderKept.{ReaderKept}
use Rattle.partition_words.proofs.Marked.{bit_le}

marked_low : (phase : Phase) (b : ℕ) → marked_in phase b ≤ 1
marked_low Idle b = omega arith
marked_low (Begun c) b = omega arith
marked_low (Marked c write before) b = bit_le c b

-- no more of them are to a bucket than its epoch has come to, with one that has not ended
pub most_seen : (o : OwnerState) → Kept o → (r : ReaderState) → ReaderKept o r → (b : ℕ) → IsMain r.shape b → 2 * writes_to_bucket (options_of r.shape) r.seen b ≤ epoch_in o b + 1
most_seen o s r k b main =
    let options = options_of o.shape in
    let all : writes_in o b ≡ writes_to_bucket options r.seen b + writes_to_bucket options k.seen.0 b = ap (λ h. writes_to_bucket options h b) k.seen.1 ∙ sum_by-append _ r.seen k.seen.0 in
    let epoch = s.epochs b (subst (λ (z : Shape). IsMain z b) k.shape main) in
    let same = ap (λ (z : Shape). writes_to_bucket (options_of z) r.seen b) k.shape in
    omega (arith, all, epoch, same, marked_low o.phase b)
