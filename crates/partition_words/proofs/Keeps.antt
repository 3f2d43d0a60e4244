-- Each event of an owner keeps the owner's fact.
use Rattle.std.proofs.lemmas.Grind.{common_steps}
use Rattle.partition_words.proofs.Vocabulary.{Begins, Ends, Event, History, IsAllowed, IsLawfulHistory, IsMain, IsPrefix, IsInReach, IsWrite, Kept}
use Rattle.partition_words.proofs.Vocabulary.{Marked, Marks, OwnerState, Phase, PhaseFits, StandsFor, Write, [], after, ap, arith, begun_in}
use Rattle.partition_words.proofs.Vocabulary.{by_entry, by_item, by_link, dite, epoch_at, epoch_in, get_or-set_same}
use Rattle.partition_words.proofs.Vocabulary.{history_after, history_snoc, length-append, length-set, marked_in, options_in}
use Rattle.partition_words.proofs.Vocabulary.{phase_after, place_of, refl, stamp_at, stamp_in, stamp_of, sym, writes_in, ℕ, ℕ_discrete}
use Rattle.partition_words.proofs.Vocabulary.{◌%◌, ◌*◌, ◌+◌, ◌∙◌, ◌∷◌, ◌≡◌, ◌≢◌, ◌≤◌}
use Rattle.partition_words.proofs.Prefixes.{prefix_same, prefix_then}
use Rattle.partition_words.proofs.Marked.{bit, bit_same, bit_else, bit_is, calm, ends_main}
use Rattle.partition_words.proofs.Failing.{fails_rise}
use Rattle.partition_words.proofs.Spares.{spares}
use Rattle.partition_words.proofs.Log.{log_spares}
use Rattle.partition_words.proofs.Machine.{HasStill, all_more, none_more, marked_still}
use Rattle.partition_words.proofs.EventWords.{other}
use Rattle.partition_words.proofs.Carried.{Carries, stands_on}
use Rattle.partition_words.proofs.Chains.{chains_after}

marked_is : (phase : Phase) (b : ℕ) → marked_in phase b ≡ 1 → (write : Write) × (before : History) × (phase ≡ Marked b write before)
marked_is (Marked c write before) b one = (write, before, ap (λ (z : ℕ). Marked z write before) (bit_is c b one))
marked_is phase b one = absurd (omega arith)

-- the history goes on
pub goes_on : (e : Event) (history : History) → IsPrefix history (history_after e history)
goes_on (Marks write n) history = (write ∷ [], refl)
goes_on e history = prefix_same history

-- how much the event adds to the bucket's epoch
abbrev adds : Event → ℕ → ℕ
adds (Begins b) c = bit b c
adds (Ends b) c = bit b c
adds e c = 0

module _ (o : OwnerState) (s : Kept o) where
  -- Epochs

  one_more : (b c : ℕ) → IsMain o.shape b → epoch_in (after (Begins b) o) c ≡ epoch_in o c + bit b c
  one_more b c l = grind (arith, common_steps)

  epoch_after : (e : Event) → IsAllowed e o → (c : ℕ) → IsMain o.shape c → epoch_in (after e o) c ≡ epoch_in o c + adds e c
  epoch_after (Begins b) a c l = one_more b c a.main
  epoch_after (Ends b) a c l = one_more b c (ends_main o s o.phase refl b a.marked)
  epoch_after e a c l = let same = other o e (epoch_at c) (λ is. omega arith) in omega arith

  -- no epoch falls
  pub rises : (e : Event) → IsAllowed e o → (c : ℕ) → IsMain o.shape c → epoch_in o c ≤ epoch_in (after e o) c
  rises e a c l = omega (arith, epoch_after e a c l)

  epochs_after : (e : Event) → IsAllowed e o → (b : ℕ) → IsMain o.shape b
      → epoch_in (after e o) b + marked_in (phase_after e o) b ≡ 2 * writes_in (after e o) b + begun_in (phase_after e o) b
  epochs_after (Begins c) a b l = let was = rw a.idle at s.epochs b l in omega (arith, epoch_after (Begins c) a b l)
  epochs_after (Marks write n) a b l = grind (arith, common_steps)
  epochs_after (Ends c) a b l = let was = rw (marked_is o.phase c a.marked).2 at s.epochs b l in omega (arith, epoch_after (Ends c) a b l)
  epochs_after e a b l = let was = s.epochs b l in let now = epoch_after e a b l in omega arith

  -- The stamp, the history and the phase

  stamp_after : (e : Event) → IsAllowed e o → stamp_in (after e o) ≡ stamp_of (options_in o) (history_after e o.history)
  stamp_after (Marks write n) a = get_or-set_same o.words stamp_at n 0 (let wide = s.wide in omega arith) ∙ a.stamp
  stamp_after e a = other o e stamp_at (λ is. omega arith) ∙ s.stamp

  lawful_after : (e : Event) → IsAllowed e o → IsLawfulHistory o.shape (history_after e o.history)
  lawful_after (Marks write n) a =
      grind (arith, common_steps, history_snoc (options_in o) o.history write s.history.accepted a.accepted, all_more IsWrite o.history write s.history.writes a.fits, length-append o.history (write ∷ []))
  lawful_after e a = s.history

  phase_fits : (e : Event) → IsAllowed e o → PhaseFits (after e o) (phase_after e o)
  phase_fits (Begins b) a = (a.main, a.not_worn)
  phase_fits (Marks write n) a = (refl, refl)
  phase_fits (Ends b) a = tt
  phase_fits e a = s.phase

  -- The words

  -- no get needs an epoch
  reached_no_epoch : (b c i : ℕ) → IsMain o.shape b → IsInReach o c i → i ≢ epoch_at b
  reached_no_epoch b c i l (by_entry d slot h x at) is = omega arith
  reached_no_epoch b c i l (by_link d h at) is = omega arith
  reached_no_epoch b c i l (by_item d slot entry j h x at) is = omega arith

  -- a bucket without a marked write keeps the words in its reach
  abbrev Stood : Event → ℕ → Type 0
  Stood e b = StandsFor o b × ((i : ℕ) → IsInReach o b i → i ≢ place_of o.shape e)

  unmarked : (e : Event) → IsAllowed e o → (b : ℕ) → IsMain o.shape b → marked_in o.phase b ≡ 0 → Stood e b
  unmarked e a b l none = (s.state b l none, spares o s (log_spares o s) b l none e a)

  stood : (e : Event) → IsAllowed e o → (b : ℕ) → IsMain o.shape b → marked_in (phase_after e o) b ≡ 0 → Stood e b
  stood (Begins c) a b l none = unmarked (Begins c) a b l (ap (λ (z : Phase). marked_in z b) a.idle)
  stood (Marks write n) a b l none = unmarked (Marks write n) a b l (ap (λ (z : Phase). marked_in z b) a.begun)
  stood (Ends c) a b l none = (
    dite (ℕ_discrete b c) (λ is. rw is a.stands_for)
        (λ n. s.state b l (ap (λ (z : Phase). marked_in z b) (marked_is o.phase c a.marked).2 ∙ bit_else c b (λ same. n (sym same)))),
    λ i. reached_no_epoch c b i (ends_main o s o.phase refl c a.marked),
  )
  stood e a b l none = unmarked e a b l none

  has_still : (e : Event) → IsAllowed e o → (b : ℕ) → marked_in (phase_after e o) b ≡ 0
      → HasStill o.shape.mode (options_in o) o.history (history_after e o.history) b
  has_still (Marks write n) a b none =
      marked_still (options_in o) o.history s.history.writes write a.fits b (λ same. let one = bit_same _ b (sym same) in omega arith)
  has_still e a b none = none_more o.shape.mode (options_in o) o.history b

  pub carries : (e : Event) → IsAllowed e o → (b : ℕ) → IsMain o.shape b → marked_in (phase_after e o) b ≡ 0 → Carries o (after e o) b
  carries e a b l none = let was = stood e a b l none in record {
    chains = s.chains;
    main = l;
    stands = was.0;
    word = λ i reached. other o e i (was.1 i reached);
    stamp = s.stamp;
    stamp_now = stamp_after e a;
    has = has_still e a b none;
  }

  -- a bucket with an even epoch is without a marked write
  pub calm_after : (e : Event) → IsAllowed e o → (b : ℕ) → IsMain o.shape b → epoch_in o b % 2 ≡ 0 → marked_in (phase_after e o) b ≡ 0
  calm_after (Begins c) a b l even = refl
  calm_after (Marks write n) a b l even = ap (λ (z : Phase). begun_in z b) (sym a.begun) ∙ (calm o s b l even).0
  calm_after (Ends c) a b l even = refl
  calm_after e a b l even = (calm o s b l even).1

  pub kept_after : (e : Event) → IsAllowed e o → Kept (after e o)
  kept_after e a = record {
    shape = s.shape;
    wide = length-set o.words (place_of o.shape e) _ ∙ s.wide;
    chains = chains_after o s e a;
    history = lawful_after e a;
    stamp = stamp_after e a;
    epochs = epochs_after e a;
    state = stands_on o (after e o) (chains_after o s e a) (carries e a);
    phase = phase_fits e a;
    met_seen = prefix_then o.met.seen o.history (history_after e o.history) s.met_seen (goes_on e o.history);
    met_fails = fails_rise o (after e o) refl (rises e a) o.met.fails s.met_fails;
  }
