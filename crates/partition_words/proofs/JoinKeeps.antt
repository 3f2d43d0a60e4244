-- Splits and joins keep what is kept of owners and readers.
use Rattle.std.proofs.lemmas.Grind.{common_steps}
use Rattle.partition_words.proofs.Vocabulary.{All-contains, All-from_recursion, Grows, History, IsMain, IsPrefix, Kept, Marked, OwnerState, Phase}
use Rattle.partition_words.proofs.Vocabulary.{PhaseFits, ReaderKept, ReaderState, Shape, [], arith, begun_in, ended_in, epoch_in}
use Rattle.partition_words.proofs.Vocabulary.{known, lent, longer, marked_in, met_by, newcomer, note_of, options_in, refl, told, writes_in}
use Rattle.partition_words.proofs.Vocabulary.{writes_to_bucket, ℕ, ◌*◌, ◌+◌, ◌∷◌, ◌≡◌, ◌≤◌}
use Rattle.partition_words.specs.declared.reader.Known.{Known}
use Rattle.partition_words.proofs.Prefixes.{prefix_same, prefix_then, longer_as, longer_both}
use Rattle.partition_words.proofs.Failing.{fails_both}
use Rattle.partition_words.proofs.Meeting.{met_grows, met_kept}

ended_begins : (o : OwnerState) (phase : Phase) → PhaseFits o phase → IsPrefix (ended_in phase o.history) o.history
ended_begins o (Marked b write before) fits = (write ∷ [], fits.1)
ended_begins o phase fits = prefix_same o.history

ended_below : (o : OwnerState) (phase : Phase) → PhaseFits o phase → (b : ℕ) → epoch_in o b + marked_in phase b ≡ 2 * writes_in o b + begun_in phase b
    → 2 * writes_to_bucket (options_in o) (ended_in phase o.history) b ≤ epoch_in o b
ended_below o (Marked c write before) fits b e = grind (arith, common_steps)
ended_below o phase fits b e = omega arith

-- one that has loaded nothing
fresh : (o : OwnerState) (shape : Shape) (seen done : History) → shape ≡ o.shape → IsPrefix seen o.history → IsPrefix done seen
    → ((b : ℕ) → IsMain o.shape b → 2 * writes_to_bucket (options_in o) done b ≤ epoch_in o b) → ReaderKept o (newcomer shape seen done)
fresh o shape seen done same begins ended_first ended = grind (arith, common_steps)

pub lends : (o : OwnerState) → Kept o → ReaderKept o (lent o)
lends o s = fresh o o.shape o.history (ended_in o.phase o.history) refl (prefix_same o.history) (ended_begins o o.phase s.phase)
    (λ b main. ended_below o o.phase s.phase b (s.epochs b main))

pub notes : (o : OwnerState) (r : ReaderState) → ReaderKept o r → ReaderKept o (note_of r)
notes o r k = fresh o r.shape r.seen r.done k.shape k.seen k.done k.ended

-- an owner takes in what a seat knows

pub meet_grows : (o : OwnerState) (r : ReaderState) → Grows o (met_by o r)
meet_grows o r = met_grows o _ _

pub meets : (o : OwnerState) (r : ReaderState) → Kept o → ReaderKept o r → Kept (met_by o r)
meets o r s k = met_kept o _ _ s k.seen k.fails

-- a reader takes in what a note knows

pub tells_of : (o : OwnerState) (r note : ReaderState) → ReaderKept o r → ReaderKept o note → ReaderKept o (told r note)
tells_of o r note k k' =
    let first = prefix_then r.done r.seen o.history k.done k.seen in
    let second = prefix_then note.done note.seen o.history k'.done k'.seen in
    let seens = longer_both o.history r.seen note.seen k.seen k'.seen in
    let dones = longer_both o.history r.done note.done first second in
    let seen : History = longer r.seen note.seen in
    let knows : Known → Type 0 = λ m. IsPrefix m.seen seen × IsPrefix m.done (longer r.done note.done) in record {
      shape = k.shape;
      seen = seens.0;
      done = longer_as (λ (z : History). IsPrefix z seen) o.history r.done note.done first second
          (λ _. prefix_then r.done r.seen seen k.done seens.1) (λ _. prefix_then note.done note.seen seen k'.done seens.2);
      met = λ m has. All-contains knows (known r ∷ known note ∷ []) m
          (All-from_recursion knows (known r ∷ known note ∷ []) ((seens.1, dones.1), ((seens.2, dones.2), tt))) has;
      ended = λ b main. grind (arith, common_steps);
      fails = fails_both o r.fails note.fails k.fails k'.fails;
      current = tt;
    }
