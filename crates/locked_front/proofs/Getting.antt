-- What a front knows once it has got without the lock.
use Rattle.std.proofs.Common.{◌≡◌, ℕ, ◌+◌, ◌*◌, ◌≤◌, Bool, true, false, List, [], ◌∷◌, ◌++◌, length, length-append, append-nil, map, nat_le, nat_lt, cond, Option, Some, None, inr, refl, sym, ap, ◌∙◌, subst, arith}
use Rattle.std.proofs.lemmas.Bool.{leb-true, ltb-false}
use Rattle.std.proofs.lemmas.Option.{same_Some}
use Rattle.partition_model.specs.declared.write.Answer.{Answer}
use Rattle.partition_model.specs.Answer.{IsAnswer}
use Rattle.partition_model.specs.History.{History, IsPrefix, stamp_of, writes_to_bucket}
use Rattle.partition_model.specs.Run.{IsAnswerAt}
use Rattle.partition_model.proofs.Rises.{prefix_rises}
use Rattle.partition_words.specs.declared.shape.Shape.{Shape}
use Rattle.partition_words.specs.declared.reader.ReaderState.{ReaderState}
use Rattle.partition_words.specs.Shape.{options_of}
use Rattle.partition_words.specs.Joins.{longer, note_of, told}
use Rattle.partition_words.proofs.Prefixes.{prefix_same, prefix_then}
use Rattle.partition_table.specs.Seats.{reader_state, reader_home}
use Rattle.optimistic_get.specs.declared.getting.Got.{Got}
use Rattle.optimistic_get.specs.declared.getting.Got.TheVariants as gots
use Rattle.optimistic_get.specs.Gets.{AnswersGet, IsAnsweredAt, TriesMade}
use Rattle.optimistic_get.proofs.Repeated.{same_answer}
use Rattle.fronts.specs.declared.changing.Changed.{Changed}
use Rattle.fronts.specs.declared.changing.When.{When}
use Rattle.fronts.specs.Flushes.{flushed_at, waits_at, flushes_in}
use Rattle.fronts.specs.Looks.{Look, when_after}
use Rattle.fronts.specs.Session.{Session, Keeps}
use Rattle.fronts.specs.SeatSession.{session_at}
use Rattle.fronts.specs.Changing.{Becoming, OnlyGets, ComesTo, DoesWrite, write_for, count_of}
use Rattle.fronts.proofs.FlushLaws.{unmoved}
use Rattle.turn_book.specs.Entries.{TakerView}
use Rattle.locked_front.specs.declared.owned.Step.{Step}
use Rattle.locked_front.specs.declared.counts.HistoryCounts.{HistoryCounts}
use Rattle.locked_front.specs.declared.part.LockedPart.{LockedPart}
use Rattle.locked_front.specs.Plan.{Plan}
use Rattle.locked_front.specs.Counts.{counts_after, when_by}
use Rattle.locked_front.specs.Owned.{run_step}
use Rattle.locked_front.specs.Parts.{IsPartOf, PartChanges, PartRests, PartGets, answer_in, session_of}
use Rattle.locked_front.proofs.Telling.{tells_look}

-- Tries that are told nowhere

longer_begun : (a b : History) → IsPrefix a b → longer a b ≡ b
longer_begun a b (later, is) = by (nat_lt (length a) (length b)) refl
  where
    no_longer : (rest : History) → b ≡ a ++ rest → length b ≤ length a → a ≡ b
    no_longer [] same low = sym (same ∙ append-nil a)
    no_longer (write ∷ rest) same low = let n = ap length same in absurd (omega (arith, n, low, length-append a (write ∷ rest)))

    by : (t : Bool) → nat_lt (length a) (length b) ≡ t → cond t b a ≡ b
    by true less = refl
    by false more = no_longer later is (ltb-false _ _ more)

-- what the tries answered
record TriesFound (before after : ReaderState) (key : List ℕ) (answer : Answer) (stamp : ℕ) (buffer : List ℕ) : Type 0 where
  value : Option (List ℕ)
  is : IsAnswer answer buffer value
  count : ℕ
  made : TriesMade before count after
  at : IsAnsweredAt after key value stamp

found_by : (before after : ReaderState) (bucket tries : ℕ) (key : List ℕ) (answer : Answer) (stamp : ℕ) (buffer : List ℕ) (got : Got)
    → AnswersGet before bucket tries key got buffer after → answer_in got ≡ Some (answer, stamp) → TriesFound before after key answer stamp buffer
found_by before after bucket tries key answer stamp buffer (gots.Hit at) answers is =
    subst (λ (y : Answer × ℕ). TriesFound before after key y.0 y.1 buffer) (same_Some _ _ is)
    (record { value = Some buffer; is = refl; count = answers.failed + 1; made = answers.made; at = answers.answered })
found_by before after bucket tries key answer stamp buffer (gots.Miss at) answers is =
    subst (λ (y : Answer × ℕ). TriesFound before after key y.0 y.1 buffer) (same_Some _ _ is)
    (record { value = None; is = (refl, answers.1); count = answers.0.failed + 1; made = answers.0.made; at = answers.0.answered })
found_by before after bucket tries key answer stamp buffer (gots.Again first last) answers is = absurd (cc is)

pub gets_by : (old new : LockedPart) (before after : ReaderState) (bucket tries : ℕ) (key : List ℕ) (answer : Answer) (stamp epoch : ℕ) (buffer : List ℕ) (got : Got)
    → before ≡ note_of (reader_state old.seat) → AnswersGet before bucket tries key got buffer after → answer_in got ≡ Some (answer, stamp)
    → 2 * writes_to_bucket (options_of after.shape) after.seen 0 ≤ epoch + 1 → nat_le epoch (2 * old.counts.in_first) ≡ true
    → reader_state new.seat ≡ told (reader_state old.seat) (note_of after) → reader_home new.seat ≡ reader_home old.seat → new.taker ≡ old.taker → new.last ≡ stamp → new.newest ≡ stamp
    → new.counts ≡ old.counts → PartGets old key answer stamp buffer new
gets_by old new before after bucket tries key answer stamp epoch buffer got anew answers is most all goes home taker last newest counts =
    let found = found_by before after bucket tries key answer stamp buffer got answers is in
    let grows : IsPrefix (reader_state old.seat).seen after.seen = subst (λ (r : ReaderState). IsPrefix r.seen after.seen) anew found.made.seen in
    let seen : (reader_state new.seat).seen ≡ after.seen = ap (λ (r : ReaderState). r.seen) goes ∙ longer_begun _ _ grows in
    let shape : after.shape ≡ (reader_state old.seat).shape = ap (λ (r : ReaderState). r.shape) found.made.same ∙ ap (λ (r : ReaderState). r.shape) anew in
    let done : after.done ≡ (reader_state old.seat).done = ap (λ (r : ReaderState). r.done) found.made.same ∙ ap (λ (r : ReaderState). r.done) anew in
    let few : writes_to_bucket (options_of after.shape) after.seen 0 ≤ old.counts.in_first = let low = leb-true _ _ all in omega (arith, most, low) in
    record {
      home = home;
      taker = taker;
      last = last;
      newest = newest;
      counts = counts;
      shape = ap (λ (r : ReaderState). r.shape) goes;
      seen = subst (IsPrefix (reader_state old.seat).seen) (sym seen) grows;
      done = ap (λ (r : ReaderState). r.done) goes ∙ ap (longer (reader_state old.seat).done) done ∙ longer_begun _ _ (prefix_same (reader_state old.seat).done);
      tried = ap (λ (r : ReaderState). r.tried) goes;
      fails = ap (λ (r : ReaderState). r.fails) goes ∙ append-nil (reader_state old.seat).fails;
      closed = ap (λ (r : ReaderState). r.closed) goes;
      value = found.value;
      is = found.is;
      at = subst (λ (y : Shape × History). IsAnswerAt (options_of y.0) y.1 key stamp found.value) (λ i. (shape i, sym seen i)) (found.at.stamped, sym found.at.answered);
      few = subst (λ (y : Shape × History). writes_to_bucket (options_of y.0) y.1 0 ≤ old.counts.in_first) (λ i. (shape i, sym seen i)) few;
    }

-- Nothing came of them, and `mid` is the part then.

module _ (plan : Plan) (number : ℕ) (old mid : LockedPart) (part : IsPartOf plan number old.taker.number old) (rests : PartRests old mid) where
  pub still_part : IsPartOf plan number mid.taker.number mid
  still_part = record {
    home = rests.home ∙ part.home;
    shape = ap (λ (r : ReaderState). r.shape) rests.seat ∙ part.shape;
    book = ap (λ (t : TakerView Step). t.table) rests.taker ∙ part.book;
    taker = refl;
    newest = rests.newest ∙ part.newest ∙ ap (λ (r : ReaderState). stamp_of plan.options r.seen) (sym rests.seat);
    last = omega (arith, rests.last, rests.newest, part.last);
    counts = record {
      history = part.counts.history;
      counted = rests.counts ∙ part.counts.counted;
      seen = subst (λ (r : ReaderState). IsPrefix part.counts.history r.seen) (sym rests.seat) part.counts.seen;
    };
  }

  -- what comes of the part afterwards comes of it
  pub changes_from : {second : ℕ} {key : List ℕ} {needs : Bool} {becoming : When → Option (List ℕ) → Becoming} {changed : Changed} {buffer : List ℕ} (new : LockedPart)
      → PartChanges plan number second key needs becoming mid changed buffer new → PartChanges plan number second key needs becoming old changed buffer new
  changes_from {second = second} {key = key} {needs = needs} {becoming = becoming} {changed = changed} {buffer = buffer} new did = record {
    still = subst (λ n. IsPartOf plan number n new) (ap (λ (t : TakerView Step). t.number) rests.taker) did.still;
    taken = did.taken ∙ ap (λ (t : TakerView Step). length t.mine + count_of changed.outcome) rests.taker;
    comes = subst (λ (s : Session). ComesTo plan.options false second key needs becoming s changed buffer (session_of new))
        (λ i. session_at (rests.seat i) (map run_step (rests.taker i).mine) (rests.last i)) did.comes;
  }

-- They answered.

module _ (plan : Plan) (number : ℕ) (old new : LockedPart) (key : List ℕ) (answer : Answer) (stamp : ℕ) (buffer : List ℕ) (part : IsPartOf plan number old.taker.number old)
    (looks : PartGets old key answer stamp buffer new) where
  abbrev counted : History
  counted = part.counts.history

  abbrev seen : History
  seen = (reader_state new.seat).seen

  begins : IsPrefix counted seen
  begins = prefix_then _ _ _ part.counts.seen looks.seen

  at : IsAnswerAt plan.options seen key stamp looks.value
  at = same_answer plan.options (reader_state old.seat).shape seen key stamp looks.value part.shape looks.at

  -- the flushes are those that were counted
  flushes : flushes_in plan.options.hashing plan.options.buckets seen ≡ flushes_in plan.options.hashing plan.options.buckets counted
  flushes = unmoved plan.options.hashing plan.options.buckets counted seen begins
      (subst (λ (y : Shape × ℕ). writes_to_bucket (options_of y.0) seen 0 ≤ y.1) (λ i. (part.shape i, ap (λ (c : HistoryCounts). c.in_first) part.counts.counted i)) looks.few)

  still : IsPartOf plan number old.taker.number new
  still = record {
    home = looks.home ∙ part.home;
    shape = looks.shape ∙ part.shape;
    book = ap (λ (t : TakerView Step). t.table) looks.taker ∙ part.book;
    taker = ap (λ (t : TakerView Step). t.number) looks.taker;
    newest = looks.newest ∙ at.0;
    last = omega (arith, looks.last, looks.newest);
    counts = record { history = counted; counted = looks.counts ∙ part.counts.counted; seen = begins };
  }

  module _ (second : ℕ) (when : When) (told_is : when ≡ when_by second new.counts) where
    abbrev look : Look
    look = record { when = when_after plan.options second seen; value = looks.value }

    when_counted : when ≡ when_by second (counts_after plan.options counted)
    when_counted = told_is ∙ ap (when_by second) (looks.counts ∙ part.counts.counted)

    -- it is told but for the number of writes
    alike : when ≡ record (when_after plan.options second seen) { written = when.written }
    alike = when_counted ∙ (λ i. record {
      second = second;
      written = ap (λ (w : When). w.written) (sym when_counted) i;
      flushed = flushed_at second (sym flushes i);
      until = waits_at second (sym flushes i);
    })

    keeps : Keeps plan.options (session_of old) key stamp look (session_of new)
    keeps = record {
      grows = looks.seen;
      cut = seen;
      at = record { begins = prefix_same seen; stamped = sym at.0 };
      newest = looks.seen;
      looked = record { when = refl; value = at.1 };
      done = subst (IsPrefix (reader_state old.seat).done) (sym looks.done) (prefix_same (reader_state old.seat).done);
      order = let up = prefix_rises plan.options (reader_state old.seat).seen seen looks.seen in omega (arith, up, part.last, part.newest, at.0);
      last = looks.last;
      told = tells_look (reader_state old.seat) (reader_state new.seat) [] (ap (λ (t : TakerView Step). map run_step t.mine) looks.taker) looks.tried (looks.fails ∙ sym (append-nil (reader_state old.seat).fails)) looks.closed;
    }

    pub gets_on : (needs : Bool) (becoming : When → Option (List ℕ) → Becoming) → OnlyGets becoming
        → PartChanges plan number second key needs becoming old (record { when = when; found = Some answer; outcome = None; stamp = stamp }) buffer new
    gets_on needs becoming reads = record {
      still = still;
      taken = let same = ap (λ (t : TakerView Step). length t.mine) looks.taker in omega (arith, same);
      comes = record {
        look = look;
        found = looks.is;
        at = refl;
        tells = inr (reads, alike);
        does = subst (λ (b : Becoming). DoesWrite plan.options false (session_of old) key (write_for key looks.value b) None stamp look (session_of new)) (sym (reads look.when looks.value)) keeps;
      };
    }
