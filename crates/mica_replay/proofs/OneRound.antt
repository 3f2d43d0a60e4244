-- A round, from the parts of its workers to what is printed for it.
use Rattle.std.proofs.Common.{◌≡◌, ℕ, zero, suc, ◌+◌, ◌<◌, ◌≤◌, ◌^◌, List, [], ◌∷◌, ◌++◌, ◌-◌, length, map, take, drop, slice_get, Some, refl, sym, ap, ◌∙◌, subst, arith, Bool, true, false, cond}
use Rattle.std.specs.Prelude.{option_map}
use Rattle.std.specs.List.{AllZip, AllByRecursion}
use Rattle.std.proofs.lemmas.List.{length-map}
use Rattle.std.proofs.lemmas.List.Sums.{sum_by-cons, sum_by-append}
use Rattle.std.proofs.lemmas.Option.{slice_get-map, slice_get_within, same_Some}
use Rattle.list_laws.proofs.Places.{element_at, at_map}
use Rattle.partition_model.specs.declared.options.Options.{Options}
use Rattle.partition_model.specs.declared.write.Write.{Write}
use Rattle.partition_model.specs.Options.{IsValid}
use Rattle.mica_trace.specs.declared.line.TraceLine.{TraceLine}
use Rattle.mica_trace.specs.declared.report.Line.{Line}
use Rattle.mica_trace.specs.TraceGrammar.{IsTraceLine}
use Rattle.mica_trace.specs.Rounds.{writes_of}
use Rattle.mica_trace.specs.RoundReport.{EndsRound, IsOneRound, is_get, gets_in}
use Rattle.mica_replay.specs.LineNumbers.{lines_at}
use Rattle.mica_replay.specs.Merged.{IsMergedRound}
use Rattle.mica_replay.specs.ReaderGets.{HaveRead}
use Rattle.mica_replay.specs.Replies.{Reply}
use Rattle.mica_trace.specs.RoundReport.{HasKind}
use Rattle.mica_replay.specs.Between.{IsReplaying, HasRound}
use Rattle.mica_replay.specs.Lending.{OwnerPart, lent_part}
use Rattle.mica_replay.specs.RoundRun.{ReaderPart, AreReady, HasRunRound, IsSplit, AreFree, state_of_owner, replies_of, found_of}
use Rattle.mica_replay.specs.Each.{Each}
use Rattle.mica_replay.specs.Shares.{KeepsGets, HasGets}
use Rattle.mica_replay.specs.Merged.{AreEnough, HasMerged}
use Rattle.mica_replay.proofs.RoundSteps.{same_map}
use Rattle.mica_replay.proofs.RoundShares.{shares, found_is}
use Rattle.mica_replay.proofs.NextRound.{next_round}

-- a round shared out among owners and readers, who are as the rounds before left them
pub record ToRun : Type 0 where
  pub options : Options
  pub valid : IsValid options
  pub trace : List TraceLine
  pub before : List TraceLine
  pub round : List TraceLine
  pub report : List Line
  pub writes : ℕ → List Write
  pub owner_parts : List OwnerPart
  pub reader_parts : List ReaderPart
  pub asked : List ReaderPart
  pub few : length round < 2 ^ 32
  pub so_far : IsReplaying options before report (map state_of_owner owner_parts)
  pub free : AreFree options reader_parts
  pub queued : (p : ℕ) → writes p ≡ writes_of options p round
  pub shared : Each (HasGets options trace (gets_in before) round) reader_parts asked

-- what all of them have run, and the lines that the readers found
pub record AllRan (options : Options) (trace : List TraceLine) (writes : ℕ → List Write) (owner_parts : List OwnerPart) (asked : List ReaderPart) : Type 0 where
  pub news : List OwnerPart
  pub left_readers : List ReaderPart
  pub run : HasRunRound trace options writes owner_parts news asked left_readers
  pub found : List (List Line)
  pub all_found : map found_of left_readers ≡ map (λ (l : List Line). Some l) found

module _ (r : ToRun) where
  pub owners_many : length r.owner_parts ≡ r.options.partitions
  owners_many = sym (length-map r.owner_parts state_of_owner) ∙ r.so_far.many

  pub asked_many : length r.asked ≡ r.options.readers
  asked_many = r.shared.many ∙ r.free.many

  -- the reader of a place before it had its gets
  shared_at : (q : ℕ) (t : ReaderPart) → slice_get r.asked q ≡ Some t → (old : ReaderPart) × (slice_get r.reader_parts q ≡ Some old) × HasGets r.options r.trace (gets_in r.before) r.round q old t
  shared_at q t is =
      let old = element_at r.reader_parts q (omega (arith, slice_get_within r.asked q t is, r.shared.many)) in
      (old.0, old.1, r.shared.each q old.0 t old.1 is)

  split : IsSplit r.options r.trace (gets_in r.before) r.round r.writes r.owner_parts r.asked
  split = record { owners = owners_many; readers = asked_many; queued = r.queued; gets = λ q t is. (shared_at q t is).2.gets }

  pub are_ready : AreReady r.trace r.options r.owner_parts r.asked
  are_ready = record {
    owners = owners_many;
    readers = omega (arith, r.valid.readers.0, asked_many);
    shapes = λ p w is. (r.so_far.each p w.state (at_map state_of_owner r.owner_parts p w is)).shape;
    each_reader = λ q t is.
        let it = shared_at q t is in
        record { seats = it.2.keeps.seats ∙ r.free.none q it.0 it.1; named = it.2.named; few = omega (arith, it.2.few, r.few) };
  }

  -- after all have run
  module _ (after : AllRan r.options r.trace r.writes r.owner_parts r.asked) where
    here : HasRound r.options r.before r.round (map state_of_owner r.owner_parts) (map state_of_owner after.run.ran_owners) (map state_of_owner after.news) after.run.seats (map replies_of after.run.ran_owners) after.found
    here = shares r.options r.trace r.before r.round r.writes r.owner_parts after.news r.asked after.left_readers after.found split after.run after.all_found

    same_replies : map replies_of after.news ≡ map replies_of after.run.ran_owners
    same_replies = same_map replies_of after.run.ran_owners after.news (after.run.met ∙ sym after.run.ran.many) (λ n x y is_x is_y. ap (λ d. d.list) (after.run.meets n x y is_x is_y).done)

    pub are_enough : AreEnough r.options (gets_in r.before) r.round (map replies_of after.news) after.found
    are_enough = record {
      owners = length-map after.news replies_of ∙ after.run.met ∙ owners_many;
      readers = here.readers;
      writes = λ p replies is.
          let is_done : slice_get (map replies_of after.run.ran_owners) p ≡ Some replies = subst (λ (l : List (List Reply)). slice_get l p ≡ Some replies) same_replies is in
          let less = slice_get_within (map replies_of after.run.ran_owners) p replies is_done in
          let one = length-map after.run.ran_owners replies_of in
          let two = after.run.ran.many in
          let three = length-map r.owner_parts state_of_owner in
          let four = length-map after.run.ran_owners state_of_owner in
          let old = element_at (map state_of_owner r.owner_parts) p (omega arith) in
          let ran = element_at (map state_of_owner after.run.ran_owners) p (omega arith) in
          (here.writes p old.0 ran.0 replies old.1 ran.1 is_done).many;
      gets = λ q lines is.
          let less = slice_get_within after.found q lines is in
          let readers = here.readers in
          let many = asked_many in
          let one = after.run.seated in
          let two = after.run.left in
          let own = element_at after.run.seats q (omega arith) in
          let turn = element_at r.asked q (omega arith) in
          let new = element_at after.left_readers q (omega arith) in
          let turned = after.run.read q turn.0 new.0 own.0 turn.1 new.1 own.1 in
          let found_here : new.0.found ≡ Some lines = same_Some _ _ (sym (slice_get-map found_of after.left_readers q ∙ ap (option_map found_of) new.1) ∙ ap (λ l. slice_get l q) after.all_found
          ∙ (slice_get-map (λ (l : List Line). Some l) after.found q ∙ ap (option_map (λ (l : List Line). Some l)) is)) in
          let read = found_is new.0.found (λ (l : List Line). HaveRead r.options (lines_at r.trace turn.0.gets) l (map lent_part r.owner_parts) own.0) lines found_here turned.read in
          subst (λ (l : List TraceLine). AllZip HasKind l lines) (split.gets q turn.0 turn.1) read.lines;
    }

    pub goes_next : EndsRound r.before → IsOneRound r.round → AllByRecursion IsTraceLine r.before → AllByRecursion IsTraceLine r.round → (now : List Line) → HasMerged r.options (gets_in r.before) r.round r.report now (map replies_of after.news) after.found
        → IsReplaying r.options (r.before ++ r.round) now (map state_of_owner after.news)
    goes_next ended one lines_before lines_here now merged =
        let by_rans = subst (λ (l : List (List Reply)). IsMergedRound r.options (gets_in r.before) r.round merged.printed l after.found) same_replies merged.merged in
        subst (λ (l : List Line). IsReplaying r.options (r.before ++ r.round) l (map state_of_owner after.news)) (sym merged.report)
        (next_round r.options r.valid r.before r.round r.report merged.printed (map state_of_owner r.owner_parts) (map state_of_owner after.run.ran_owners) (map state_of_owner after.news) after.run.seats (map replies_of after.run.ran_owners) after.found
        r.so_far ended one lines_before lines_here here by_rans)

    -- the readers are without seats again, and stay so
    pub free_again : (kept : List ReaderPart) → Each (λ (_ : ℕ). KeepsGets) after.left_readers kept → AreFree r.options kept
    free_again kept keeps = record {
      many = keeps.many ∙ after.run.left ∙ asked_many;
      none = λ q t is.
          let less = slice_get_within kept q t is in
          let one = keeps.many in
          let two = after.run.left in
          let three = after.run.seated in
          let new = element_at after.left_readers q (omega arith) in
          let old = element_at r.asked q (omega arith) in
          let own = element_at after.run.seats q (omega arith) in
          (keeps.each q new.0 t new.1 is).keeps.seats ∙ (after.run.read q old.0 new.0 own.0 old.1 new.1 own.1).none;
    }

-- Lists that are cut in two

pub take_join : {X : Type 0} (from to : ℕ) (xs : List X) → from ≤ to → take from xs ++ take (to - from) (drop from xs) ≡ take to xs
take_join zero to xs low = let none : to - zero ≡ to = omega arith in ap (λ n. take n xs) none
take_join (suc from) zero xs low = absurd (omega arith)
take_join (suc from) (suc to) [] low = let none : suc to - suc from ≡ to - from = omega arith in nothing (suc to - suc from)
  where
    nothing : {X : Type 0} (n : ℕ) → take {A = X} n [] ≡ []
    nothing zero = refl
    nothing (suc n) = refl
take_join (suc from) (suc to) (x ∷ xs) low =
    let less : suc to - suc from ≡ to - from = omega arith in
    ap (λ n. x ∷ take from xs ++ take n (drop from xs)) less ∙ ap (λ l. x ∷ l) (take_join from to xs (omega arith))

pub all_take : {X : Type 0} (Q : X → Type 0) (n : ℕ) (xs : List X) → AllByRecursion Q xs → AllByRecursion Q (take n xs)
all_take Q zero xs all = tt
all_take Q (suc n) [] all = tt
all_take Q (suc n) (x ∷ xs) all = (all.0, all_take Q n xs all.1)

pub all_drop : {X : Type 0} (Q : X → Type 0) (n : ℕ) (xs : List X) → AllByRecursion Q xs → AllByRecursion Q (drop n xs)
all_drop Q zero xs all = all
all_drop Q (suc n) [] all = tt
all_drop Q (suc n) (x ∷ xs) all = all_drop Q n xs all.1

pub twice_map : {X Y Z : Type 0} (f : X → Y) (h : Y → Z) (xs : List X) → map (λ x. h (f x)) xs ≡ map h (map f xs)
twice_map f h [] = refl
twice_map f h (x ∷ xs) = ap (λ l. h (f x) ∷ l) (twice_map f h xs)

pub gets_few : (lines : List TraceLine) → gets_in lines ≤ length lines
gets_few [] = omega arith
gets_few (line ∷ lines) =
    let rest = gets_few lines in
    let counted : gets_in (line ∷ lines) ≡ cond (is_get line) 1 0 + gets_in lines = sum_by-cons (λ l. cond (is_get l) 1 0) line lines in
    let one = at_most_one (is_get line) in
    omega arith
  where
    at_most_one : (b : Bool) → cond b 1 0 ≤ 1
    at_most_one true = omega arith
    at_most_one false = omega arith

pub gets_join : (from to : ℕ) (xs : List TraceLine) → from ≤ to → gets_in (take to xs) ≡ gets_in (take from xs) + gets_in (take (to - from) (drop from xs))
gets_join from to xs low = ap gets_in (sym (take_join from to xs low)) ∙ sum_by-append (λ l. cond (is_get l) 1 0) (take from xs) (take (to - from) (drop from xs))
