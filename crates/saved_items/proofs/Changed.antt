-- One changed word makes a file none.
use Rattle.std.proofs.Common.{◌≡◌, ◌⊎◌, inl, inr, ⊎_elim, ℕ, ◌<◌, List, [], ◌∷◌, ◌++◌, length, refl, sym, ap, subst, ◌∙◌, arith, append_assoc}
use Rattle.std.specs.List.{AllByRecursion}
use Rattle.std.proofs.lemmas.List.{length-append}
use Rattle.mica_words.specs.Packing.{packed}
use Rattle.mica_words.proofs.PackedBytes.{length-packed}
use Rattle.word_sums.specs.Sum.{IsWord, sum_of}
use Rattle.word_sums.proofs.Back.{each_counts}
use Rattle.saved_items.specs.declared.blocks.TheConstants.{FIRST_SUM}
use Rattle.saved_items.specs.Blocks.{content_sum, FillsBlock}
use Rattle.saved_items.specs.Laws.{OneChangedWord}
use Rattle.saved_items.proofs.Again.{content_sum-word}
use Rattle.saved_items.proofs.Words.{words_in, whole_file}
use Rattle.saved_items.proofs.Readings.{reads_whole}

-- ---- where the word stands

-- among these words
abbrev Among : (words : List ℕ) (s : ℕ) (rest before : List ℕ) (a : ℕ) (after : List ℕ) → Type 0
Among words s rest before a after = (mid : List ℕ) × (words ≡ before ++ a ∷ mid) × (after ≡ mid ++ s ∷ rest)

-- behind them
abbrev Behind : (words : List ℕ) (s : ℕ) (rest before : List ℕ) (a : ℕ) (after : List ℕ) → Type 0
Behind words s rest before a after = (words ≡ before) × (s ≡ a) × (rest ≡ after)

-- or past that
abbrev Past : (words : List ℕ) (s : ℕ) (rest before : List ℕ) (a : ℕ) (after : List ℕ) → Type 0
Past words s rest before a after = (past : List ℕ) × (before ≡ words ++ s ∷ past) × (rest ≡ past ++ a ∷ after)

abbrev Stands : (words : List ℕ) (s : ℕ) (rest before : List ℕ) (a : ℕ) (after : List ℕ) → Type 0
Stands words s rest before a after = Among words s rest before a after ⊎ (Behind words s rest before a after ⊎ Past words s rest before a after)

heads : (x y : ℕ) (xs ys : List ℕ) → x ∷ xs ≡ y ∷ ys → x ≡ y
heads x y xs ys e = cc

tails : (x y : ℕ) (xs ys : List ℕ) → x ∷ xs ≡ y ∷ ys → xs ≡ ys
tails x y xs ys e = cc

both : (x y : ℕ) (xs ys : List ℕ) → x ≡ y → xs ≡ ys → x ∷ xs ≡ y ∷ ys
both x y xs ys e f = cc

stands : (words : List ℕ) (s : ℕ) (rest before : List ℕ) (a : ℕ) (after : List ℕ) → words ++ s ∷ rest ≡ before ++ a ∷ after → Stands words s rest before a after
stands [] s rest [] a after e = inr (inl (refl, heads s a rest after e, tails s a rest after e))
stands [] s rest (b ∷ before) a after e = inr (inr (before, both b s before before (sym (heads s b rest (before ++ a ∷ after) e)) refl, tails s b rest (before ++ a ∷ after) e))
stands (w ∷ words) s rest [] a after e =
    inl (words, both w a words words (heads w a (words ++ s ∷ rest) after e) refl, sym (tails w a (words ++ s ∷ rest) after e))
stands (w ∷ words) s rest (b ∷ before) a after e =
    let head = heads w b (words ++ s ∷ rest) (before ++ a ∷ after) e in
    ⊎_elim
    (λ among. inl (among.0, both w b words (before ++ a ∷ among.0) head among.1, among.2))
    (λ other. ⊎_elim
    (λ behind. inr (inl (both w b words before head behind.0, behind.1, behind.2)))
    (λ past. inr (inr (past.0, both b w before (words ++ s ∷ past.0) (sym head) past.1, past.2)))
    other)
    (stands words s rest before a after (tails w b (words ++ s ∷ rest) (before ++ a ∷ after) e))

before_len : (words before : List ℕ) (s : ℕ) (past : List ℕ) → before ≡ words ++ s ∷ past → length words < length before
before_len words before s past e = omega (arith, ap length e, length-append words (s ∷ past))

among_len : (words before : List ℕ) (a : ℕ) (mid : List ℕ) → words ≡ before ++ a ∷ mid → length before < length words
among_len words before a mid e = omega (arith, ap length e, length-append before (a ∷ mid))

front_words : (before rest : List ℕ) → AllByRecursion IsWord (before ++ rest) → AllByRecursion IsWord before × AllByRecursion IsWord rest
front_words [] rest are = (tt, are)
front_words (w ∷ before) rest are = let found = front_words before rest are.1 in ((are.0, found.0), found.1)

-- one block, in which the word stands
in_block : (sum : ℕ) (p q before mid also : List ℕ) (a b : ℕ) → IsWord sum → AllByRecursion IsWord (before ++ a ∷ mid) → AllByRecursion IsWord (before ++ b ∷ mid)
    → p ≡ before ++ a ∷ mid → q ≡ before ++ b ∷ mid → sum_of sum p ≡ sum_of sum q → a ≡ b
in_block sum p q before mid also a b is one other first second same =
    let parts = front_words before (a ∷ mid) one in
    let others = front_words before (b ∷ mid) other in
    each_counts sum a b before mid is parts.1.0 others.1.0 parts.0 parts.1.1 (sym (ap (sum_of sum) first) ∙ same ∙ ap (sum_of sum) second)

same_behind : (mid also : List ℕ) (s t : ℕ) (rest rest' : List ℕ) → length mid ≡ length also → mid ++ s ∷ rest ≡ also ++ t ∷ rest' → (mid ≡ also) × (s ≡ t) × (rest ≡ rest')
same_behind [] [] s t rest rest' len e = (refl, heads s t rest rest' e, tails s t rest rest' e)
same_behind [] (y ∷ also) s t rest rest' len e = absurd (omega arith)
same_behind (x ∷ mid) [] s t rest rest' len e = absurd (omega arith)
same_behind (x ∷ mid) (y ∷ also) s t rest rest' len e =
    let found = same_behind mid also s t rest rest' (omega arith) (tails x y (mid ++ s ∷ rest) (also ++ t ∷ rest') e) in
    (both x y mid also (heads x y (mid ++ s ∷ rest) (also ++ t ∷ rest') e) found.0, found.1, found.2)

-- the words up to some of those behind
words_front : (before mid more after : List ℕ) (a : ℕ) → after ≡ mid ++ more → AllByRecursion IsWord (before ++ a ∷ after) → AllByRecursion IsWord (before ++ a ∷ mid)
words_front before mid more after a is are =
    let whole : before ++ a ∷ after ≡ (before ++ a ∷ mid) ++ more = ap (λ (r : List ℕ). before ++ a ∷ r) is ∙ sym (append_assoc before (a ∷ mid) more) in
    (front_words (before ++ a ∷ mid) more (subst (AllByRecursion IsWord) whole are)).0

-- the words of a block and its sum, twice, and those behind
module _ (sum : ℕ) (p q : List ℕ) (s t : ℕ) (rest rest' before after : List ℕ) (a b : ℕ) (is : IsWord sum) (len : length p ≡ 8191) (also : length q ≡ 8191)
    (told : s ≡ sum_of sum p) (told' : t ≡ sum_of sum q) (one : AllByRecursion IsWord (before ++ a ∷ after)) (other : AllByRecursion IsWord (before ++ b ∷ after))
    (on : (past : List ℕ) → s ≡ t → rest ≡ past ++ a ∷ after → rest' ≡ past ++ b ∷ after → before ≡ p ++ s ∷ past → a ≡ b) where
  among : Among p s rest before a after → Stands q t rest' before b after → a ≡ b
  among here there =
      let less = among_len p before a here.0 here.1 in
      ⊎_elim
      (λ h. let lens : length here.0 ≡ length h.0 = omega (arith, ap length here.1, ap length h.1, length-append before (a ∷ here.0), length-append before (b ∷ h.0)) in
      let found = same_behind here.0 h.0 s t rest rest' lens (sym here.2 ∙ h.2) in
      in_block sum p q before here.0 here.0 a b is (words_front before here.0 (s ∷ rest) after a here.2 one) (words_front before here.0 (s ∷ rest) after b here.2 other) here.1
      (h.1 ∙ ap (λ (m : List ℕ). before ++ b ∷ m) (sym found.0)) (sym told ∙ found.1 ∙ told'))
      (λ o. ⊎_elim (λ h. absurd (omega (arith, less, ap length h.0))) (λ h. absurd (omega (arith, less, before_len q before t h.0 h.1))) o)
      there

  behind : Behind p s rest before a after → Stands q t rest' before b after → a ≡ b
  behind here there =
      ⊎_elim
      (λ h. absurd (omega (arith, ap length here.0, among_len q before b h.0 h.1)))
      (λ o. ⊎_elim
      (λ h. sym here.1 ∙ told ∙ ap (sum_of sum) (here.0 ∙ sym h.0) ∙ sym told' ∙ h.1)
      (λ h. absurd (omega (arith, ap length here.0, before_len q before t h.0 h.1)))
      o)
      there

  past_it : Past p s rest before a after → Stands q t rest' before b after → a ≡ b
  past_it here there =
      let more = before_len p before s here.0 here.1 in
      ⊎_elim
      (λ h. absurd (omega (arith, more, among_len q before b h.0 h.1)))
      (λ o. ⊎_elim
      (λ h. absurd (omega (arith, more, ap length h.0)))
      (λ h. let found = same_behind p q s t here.0 h.0 (omega arith) (sym here.1 ∙ h.1) in
      on here.0 found.1 here.2 (h.2 ∙ ap (λ (w : List ℕ). w ++ b ∷ after) (sym found.2)) here.1)
      o)
      there

  in_one : p ++ s ∷ rest ≡ before ++ a ∷ after → q ++ t ∷ rest' ≡ before ++ b ∷ after → a ≡ b
  in_one e f =
      let there = stands q t rest' before b after f in
      ⊎_elim (λ h. among h there) (λ o. ⊎_elim (λ h. behind h there) (λ h. past_it h there) o) (stands p s rest before a after e)

one_word : (sum : ℕ) (contents others : List (List ℕ)) (before after : List ℕ) (a b : ℕ) → IsWord sum → AllByRecursion FillsBlock contents → AllByRecursion FillsBlock others
    → AllByRecursion IsWord (before ++ a ∷ after) → AllByRecursion IsWord (before ++ b ∷ after) → words_in sum contents ≡ before ++ a ∷ after → words_in sum others ≡ before ++ b ∷ after → a ≡ b
unfolding words_in content_sum
one_word sum [] others before after a b is whole also one other e f = absurd (omega (arith, ap length e, length-append before (a ∷ after)))
one_word sum (content ∷ contents) [] before after a b is whole also one other e f = absurd (omega (arith, ap length f, length-append before (b ∷ after)))
one_word sum (content ∷ contents) (same ∷ others) before after a b is whole also one other e f =
    let s = content_sum sum content in
    let t = content_sum sum same in
    in_one sum (packed content) (packed same) s t (words_in s contents) (words_in t others) before after a b is
    (omega (arith, length-packed content, whole.0)) (omega (arith, length-packed same, also.0)) refl refl one other
    (λ past sums first second front.
    let behind_one = (front_words (packed content ++ s ∷ []) (past ++ a ∷ after) (subst (AllByRecursion IsWord) (ap (λ (w : List ℕ). w ++ a ∷ after) front ∙ append_assoc (packed content) (s ∷ past) (a ∷ after) ∙ sym (append_assoc (packed content) (s ∷ []) (past ++ a ∷ after))) one)).1 in
    let behind_other = (front_words (packed content ++ s ∷ []) (past ++ b ∷ after) (subst (AllByRecursion IsWord) (ap (λ (w : List ℕ). w ++ b ∷ after) front ∙ append_assoc (packed content) (s ∷ past) (b ∷ after) ∙ sym (append_assoc (packed content) (s ∷ []) (past ++ b ∷ after))) other)).1 in
    one_word s contents others past after a b (content_sum-word sum content is) whole.1 also.1 behind_one behind_other first (subst (λ (n : ℕ). words_in n others ≡ past ++ b ∷ after) (sym sums) second))
    e f

pub one_changed_word : OneChangedWord
one_changed_word file changed before after a b head head' entries entries' first second one also is is_changed =
    let whole = whole_file FIRST_SUM file (reads_whole file head entries is) in
    let other = whole_file FIRST_SUM changed (reads_whole changed head' entries' is_changed) in
    one_word FIRST_SUM whole.contents other.contents before after a b (omega arith) whole.whole other.whole one also (sym whole.words ∙ first) (sym other.words ∙ second)
