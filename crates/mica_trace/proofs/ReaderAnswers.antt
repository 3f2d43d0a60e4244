-- A reader's answers in a partition, found at their places.
use Rattle.std.proofs.Common.{◌≡◌, ℕ, zero, suc, ◌+◌, ◌<◌, ◌%◌, ◌==◌, List, [], ◌∷◌, length, take, Some, refl, ap, ◌∙◌, subst, arith, slice_get, zip, cond, true, false}
use Rattle.std.proofs.lemmas.Grind.{common_steps}
use Rattle.partition_model.specs.declared.options.Options.{Options}
use Rattle.partition_model.specs.History.{History, IsPrefix}
use Rattle.mica_trace.specs.declared.line.TraceLine.{TraceLine}
use Rattle.mica_trace.specs.declared.report.Line.{Line}
use Rattle.mica_trace.specs.Rounds.{is_in_partition}
use Rattle.mica_trace.specs.LawfulReport.{Answers}
use Rattle.mica_trace.specs.RoundReport.{LinePair, is_get, gets_in, pairs_of, line_pairs_in, AnswersRise}
use Rattle.mica_trace.proofs.Prefixes.{prefix_same, prefix_trans}

-- how many gets stand before place k
abbrev pub gets_to : List LinePair → ℕ → ℕ
gets_to [] k = 0
gets_to (pair ∷ pairs) zero = 0
gets_to (pair ∷ pairs) (suc k) = cond (is_get pair.0) 1 0 + gets_to pairs k

pub gets_to-zip : (lines : List TraceLine) (printed : List Line) (k : ℕ) → length printed ≡ length lines → gets_to (zip lines printed) k ≡ gets_in (take k lines)
gets_to-zip [] [] zero same = refl
gets_to-zip [] [] (suc k) same = refl
gets_to-zip [] (r ∷ printed) k same = absurd (omega arith)
gets_to-zip (line ∷ lines) [] k same = absurd (omega arith)
gets_to-zip (line ∷ lines) (r ∷ printed) zero same = refl
gets_to-zip (line ∷ lines) (r ∷ printed) (suc k) same = grind (arith, common_steps, gets_to-zip lines printed k (omega arith))

-- what has been seen in the end begins with all that was answered
pub reaches : (options : Options) (pairs : List LinePair) (seen last : History) → AnswersRise options seen pairs last → IsPrefix seen last
reaches options [] seen last on = on
reaches options (pair ∷ pairs) seen last on = prefix_trans seen on.0 last on.1 (reaches options pairs on.0 last on.3)

module _ (options : Options) (q p : ℕ) where
  abbrev mine : ℕ → List LinePair → List LinePair
  mine g pairs = line_pairs_in options p (pairs_of options q g pairs)

  -- the answers behind the first pair
  peel : (g : ℕ) (pair : LinePair) (pairs : List LinePair) (seen last : History) → AnswersRise options seen (mine g (pair ∷ pairs)) last
      → (next : History) × IsPrefix seen next × AnswersRise options next (mine (cond (is_get pair.0) 1 0 + g) pairs) last
  peel g pair pairs seen last on =
      let G : List LinePair = pairs_of options q (g + 1) pairs in
      elim (is_get pair.0) as (λ b. AnswersRise options seen (line_pairs_in options p (cond b (cond (g % options.readers == q) (pair ∷ pairs_of options q (g + 1) pairs) (pairs_of options q (g + 1) pairs)) (pairs_of options q g pairs))) last
      → (next : History) × IsPrefix seen next × AnswersRise options next (mine (cond b 1 0 + g) pairs) last) [
        | false ↦ λ here. let n : g ≡ 0 + g = omega arith in (seen, prefix_same seen, subst (λ (m : ℕ). AnswersRise options seen (mine m pairs) last) n here)
        | true ↦ λ here.
            let n : g + 1 ≡ 1 + g = omega arith in
            subst (λ (m : ℕ). (next : History) × IsPrefix seen next × AnswersRise options next (mine m pairs) last) n
            (elim (g % options.readers == q) as (λ b. AnswersRise options seen (line_pairs_in options p (cond b (pair ∷ pairs_of options q (g + 1) pairs) (pairs_of options q (g + 1) pairs))) last
            → (next : History) × IsPrefix seen next × AnswersRise options next (mine (g + 1) pairs) last) [
              | false ↦ λ own. (seen, prefix_same seen, own)
              | true ↦ λ own. grind (arith, common_steps)
            ] here)
      ] on

  -- the first pair, where it is the reader's and of the partition
  head : (g : ℕ) (pair : LinePair) (pairs : List LinePair) (seen last : History) → is_get pair.0 ≡ true → (g % options.readers == q) ≡ true → is_in_partition options p pair.0 ≡ true
      → AnswersRise options seen (mine g (pair ∷ pairs)) last
      → (cut : History) × IsPrefix seen cut × Answers options cut pair.0.key pair.1 × AnswersRise options cut (mine (1 + g) pairs) last
  head g pair pairs seen last get own here on = grind (arith, common_steps)

  -- an answer of the reader in the partition
  pub record Found (seen : History) (pair : LinePair) (last : History) : Type 0 where
    pub cut : History
    pub from : IsPrefix seen cut
    pub answers : Answers options cut pair.0.key pair.1
    pub to : IsPrefix cut last

  -- the pair is a get of the reader in the partition
  pub record IsMine (g : ℕ) (pair : LinePair) : Type 0 where
    pub get : is_get pair.0 ≡ true
    pub own : (g % options.readers == q) ≡ true
    pub here : is_in_partition options p pair.0 ≡ true

  later_mine : (n m : ℕ) (pair : LinePair) → n ≡ m → IsMine n pair → IsMine m pair
  later_mine n m pair same is = subst (λ (k : ℕ). IsMine k pair) same is

  pub find_one : (pairs : List LinePair) (g k : ℕ) (pair : LinePair) (seen last : History) → slice_get pairs k ≡ Some pair → IsMine (gets_to pairs k + g) pair
      → AnswersRise options seen (mine g pairs) last → Found seen pair last
  find_one [] g k pair seen last is own on = absurd (cc)
  find_one (first ∷ pairs) g zero pair seen last is own on =
      grind (arith, common_steps, later_mine (0 + g) g pair, head g pair pairs seen last, reaches options (mine (1 + g) pairs))
  find_one (first ∷ pairs) g (suc k) pair seen last is own on =
      grind (arith, common_steps, find_one pairs (cond (is_get first.0) 1 0 + g) k pair (peel g first pairs seen last on).0 last is)

  -- two answers, of which the second is at a later place
  pub record FoundTwo (seen : History) (one two : LinePair) : Type 0 where
    pub first : History
    pub second : History
    pub first_answers : Answers options first one.0.key one.1
    pub second_answers : Answers options second two.0.key two.1
    pub rises : IsPrefix first second

  pub find_two : (pairs : List LinePair) (g j k : ℕ) (one two : LinePair) (seen last : History) → j < k → slice_get pairs j ≡ Some one → slice_get pairs k ≡ Some two
      → IsMine (gets_to pairs j + g) one → IsMine (gets_to pairs k + g) two → AnswersRise options seen (mine g pairs) last → FoundTwo seen one two
  find_two [] g j k one two seen last less is_one is_two own_one own_two on = absurd (cc)
  find_two (first ∷ pairs) g j zero one two seen last less is_one is_two own_one own_two on = absurd (omega arith)
  find_two (first ∷ pairs) g zero (suc k) one two seen last less is_one is_two own_one own_two on =
      let same : first ≡ one = cc in
      let n : 0 + g ≡ g = omega arith in
      let mine_here = later_mine (0 + g) g one n own_one in
      let on_one = subst (λ (x : LinePair). AnswersRise options seen (mine g (x ∷ pairs)) last) same on in
      let at = head g one pairs seen last mine_here.get mine_here.own mine_here.here on_one in
      let get_first : is_get first.0 ≡ true = ap (λ (x : LinePair). is_get x.0) same ∙ mine_here.get in
      let m : cond (is_get first.0) 1 0 + gets_to pairs k + g ≡ gets_to pairs k + (1 + g) = ap (λ b. cond b 1 0 + gets_to pairs k + g) get_first ∙ omega arith in
      let later = find_one pairs (1 + g) k two at.0 last is_two (later_mine _ _ two m own_two) at.3 in
      record { first = at.0; second = later.cut; first_answers = at.2; second_answers = later.answers; rises = later.from }
  find_two (first ∷ pairs) g (suc j) (suc k) one two seen last less is_one is_two own_one own_two on =
      grind (arith, common_steps, find_two pairs (cond (is_get first.0) 1 0 + g) j k one two (peel g first pairs seen last on).0 last (omega arith) is_one is_two)
