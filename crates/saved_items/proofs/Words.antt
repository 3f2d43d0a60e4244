-- The words of a file that is read to its end: those of each block, and their sum.
use Rattle.std.proofs.Common.{◌≡◌, ℕ, zero, suc, ◌+◌, ◌*◌, ◌/◌, ◌≤◌, Bool, true, false, cond, ltb, eqb, List, [], ◌∷◌, ◌++◌, length, take, drop, refl, sym, ap, subst, ◌∙◌, arith, append_assoc}
use Rattle.std.specs.Prelude.{Some}
use Rattle.std.specs.List.{AllByRecursion}
use Rattle.std.proofs.Math.Seq.{take-add}
use Rattle.std.specs.Int.{w64, from_le_bytes}
use Rattle.std.proofs.lemmas.Bool.{eqb-true, eq-eqb, ltb-false}
use Rattle.std.proofs.lemmas.List.{length-append, length-drop, length-take, take-append-drop, take-append-le, drop-append-le, nil_from_length}
use Rattle.mica_words.specs.Item.{words_for}
use Rattle.mica_words.specs.Packing.{packed, packed_words, little}
use Rattle.saved_items.specs.Blocks.{content_sum, sum_behind, FillsBlock, joined}
use Rattle.saved_items.specs.Reading.{Stream, AtEnd, Within, OtherSum, with_front, told_sum, sum_after, blocks_at, stream_at}
use Rattle.saved_items.proofs.AgainItems.{little_eight}
use Rattle.saved_items.proofs.Streams.{stream_told, told_same}

-- ---- words of bytes, one behind another

packed_words-append : (n m : ℕ) (xs ys : List ℕ) → length xs ≡ 8 * n → packed_words (n + m) (xs ++ ys) ≡ packed_words n xs ++ packed_words m ys
packed_words-append zero m [] ys len = ap (λ (k : ℕ). packed_words k ys) (let e : 0 + m ≡ m = omega arith in e)
packed_words-append zero m (x ∷ xs) ys len = absurd (omega arith)
packed_words-append (suc n) m xs ys len =
    let front : take 8 (xs ++ ys) ≡ take 8 xs = take-append-le 8 xs ys (omega arith) in
    let behind : drop 8 (xs ++ ys) ≡ drop 8 xs ++ ys = drop-append-le 8 xs ys (omega arith) in
    let rest = packed_words-append n m (drop 8 xs) ys (omega (arith, length-drop 8 xs)) in
    ap (λ (k : ℕ). packed_words k (xs ++ ys)) (let e : suc n + m ≡ suc (n + m) = omega arith in e)
    ∙ ap (λ (w : List ℕ). little w ∷ packed_words (n + m) (drop 8 (xs ++ ys))) front
    ∙ ap (λ (b : List ℕ). little (take 8 xs) ∷ packed_words (n + m) b) behind
    ∙ ap (λ (ws : List ℕ). little (take 8 xs) ∷ ws) rest

packed-append : (n m : ℕ) (xs ys : List ℕ) → length xs ≡ 8 * n → length ys ≡ 8 * m → packed (xs ++ ys) ≡ packed xs ++ packed ys
unfolding packed
packed-append n m xs ys len more =
    let all : words_for (length (xs ++ ys)) ≡ n + m = omega (arith, length-append xs ys) in
    let first : words_for (length xs) ≡ n = omega arith in
    let second : words_for (length ys) ≡ m = omega arith in
    ap (λ (k : ℕ). packed_words k (xs ++ ys)) all ∙ packed_words-append n m xs ys len
    ∙ ap (λ (k : ℕ). packed_words k xs ++ packed_words m ys) (sym first) ∙ ap (λ (k : ℕ). packed_words (words_for (length xs)) xs ++ packed_words k ys) (sym second)

packed_eight : (xs : List ℕ) → length xs ≡ 8 → packed xs ≡ from_le_bytes w64 xs ∷ []
unfolding packed
packed_eight (a ∷ b ∷ c ∷ d ∷ e ∷ f ∷ g ∷ h ∷ []) len = ap (λ (w : ℕ). w ∷ []) (little_eight a b c d e f g h)
packed_eight (a ∷ b ∷ c ∷ d ∷ e ∷ f ∷ g ∷ h ∷ i ∷ xs) len = absurd (omega arith)
packed_eight [] len = absurd (omega arith)
packed_eight (a ∷ []) len = absurd (omega arith)
packed_eight (a ∷ b ∷ []) len = absurd (omega arith)
packed_eight (a ∷ b ∷ c ∷ []) len = absurd (omega arith)
packed_eight (a ∷ b ∷ c ∷ d ∷ []) len = absurd (omega arith)
packed_eight (a ∷ b ∷ c ∷ d ∷ e ∷ []) len = absurd (omega arith)
packed_eight (a ∷ b ∷ c ∷ d ∷ e ∷ f ∷ []) len = absurd (omega arith)
packed_eight (a ∷ b ∷ c ∷ d ∷ e ∷ f ∷ g ∷ []) len = absurd (omega arith)

packed_empty : packed [] ≡ []
unfolding packed
packed_empty = refl

-- ---- the words of blocks

unfoldable pub words_in : ℕ → List (List ℕ) → List ℕ
words_in sum [] = []
words_in sum (content ∷ contents) = packed content ++ content_sum sum content ∷ words_in (content_sum sum content) contents

-- What is read to its end is these blocks; and what stands behind it is read behind them.
pub record IsWhole (sum : ℕ) (file : List ℕ) (read : List ℕ) : Type 0 where
  pub contents : List (List ℕ)
  pub whole : AllByRecursion FillsBlock contents
  pub words : packed file ≡ words_in sum contents
  pub len : length file ≡ 65536 * length contents
  pub content : read ≡ joined contents
  pub behind : (more : List ℕ) → stream_at sum (file ++ more) ≡ with_front (joined contents) (stream_at (sum_behind sum contents) more)

abbrev pub blocks_step : ℕ → ℕ → List ℕ → Bool → Bool → Bool → Stream
blocks_step n sum file none short told =
    cond none (record { content = []; stop = AtEnd }) (cond short (record { content = []; stop = Within })
    (cond told (with_front (take 65528 file) (blocks_at n (content_sum sum (take 65528 file)) (drop 65536 file))) (record { content = []; stop = OtherSum })))

pub blocks_are : (n sum : ℕ) (file : List ℕ) → blocks_at (suc n) sum file ≡ blocks_step n sum file (eqb (length file) 0) (ltb (length file) 65536) (eqb (told_sum file) (content_sum sum (take 65528 file)))
unfolding blocks_at
blocks_are n sum file = refl

whole_none : (sum : ℕ) (file : List ℕ) → file ≡ [] → IsWhole sum file []
unfolding words_in
whole_none sum file is = subst (λ (f : List ℕ). IsWhole sum f []) (sym is) (record {
  contents = [];
  whole = tt;
  words = packed_empty;
  len = refl;
  content = refl;
  behind = λ more. refl;
})

module _ (sum : ℕ) (file : List ℕ) (long : 65536 ≤ length file) (told : told_sum file ≡ content_sum sum (take 65528 file)) where
  front : List ℕ
  front = take 65528 file

  next : ℕ
  next = content_sum sum (take 65528 file)

  block : List ℕ
  block = take 65536 file

  split : file ≡ block ++ drop 65536 file
  unfolding block
  split = sym (take-append-drop 65536 file)

  block_len : length block ≡ 65536
  unfolding block
  block_len = omega (arith, long, length-take 65536 file)

  front_len : FillsBlock front
  unfolding front
  front_len = omega (arith, long, length-take 65528 file)

  block_words : packed block ≡ packed front ++ next ∷ []
  unfolding block front next
  block_words =
      let parts : take 65536 file ≡ take 65528 file ++ take 8 (drop 65528 file) = take-add 65528 8 file in
      let eight : length (take 8 (drop 65528 file)) ≡ 8 = omega (arith, long, length-take 8 (drop 65528 file), length-drop 65528 file) in
      let front_long : length (take 65528 file) ≡ 8 * 8191 = omega (arith, long, length-take 65528 file) in
      ap packed parts ∙ packed-append 8191 1 (take 65528 file) (take 8 (drop 65528 file)) front_long eight
      ∙ ap (λ (ws : List ℕ). packed (take 65528 file) ++ ws) (packed_eight (take 8 (drop 65528 file)) eight ∙ ap (λ (w : ℕ). w ∷ []) told)

  take_block : take 65528 block ≡ front
  unfolding block front
  take_block = sym (take-append-le 65528 (take 65536 file) (drop 65536 file) (omega (arith, long, length-take 65536 file))) ∙ ap (take 65528) (take-append-drop 65536 file)

  told_block : sum_after sum block ≡ Some next
  unfolding next front block
  told_block =
      let same : content_sum sum (take 65528 (take 65536 file)) ≡ content_sum sum (take 65528 file) = ap (content_sum sum) take_block in
      let as_told : told_sum (take 65536 file) ≡ content_sum sum (take 65528 file) = sym (told_same sum (take 65536 file) (drop 65536 file) block_len) ∙ ap told_sum (take-append-drop 65536 file) ∙ told in
      let equal : eqb (told_sum (take 65536 file)) (content_sum sum (take 65528 (take 65536 file))) ≡ true = eq-eqb _ _ (as_told ∙ sym same) in
      rw equal (ap (λ (n : ℕ). Some n) same)

  behind_more : (contents : List (List ℕ)) → ((more : List ℕ) → stream_at next (drop 65536 file ++ more) ≡ with_front (joined contents) (stream_at (sum_behind next contents) more))
      → (more : List ℕ) → stream_at sum (file ++ more) ≡ with_front (joined (front ∷ contents)) (stream_at (sum_behind sum (front ∷ contents)) more)
  unfolding next front
  behind_more contents rest more =
      let regrouped : file ++ more ≡ block ++ (drop 65536 file ++ more) = ap (λ (f : List ℕ). f ++ more) split ∙ append_assoc block (drop 65536 file) more in
      let last = stream_at (sum_behind next contents) more in
      ap (stream_at sum) regrouped ∙ stream_told sum block (drop 65536 file ++ more) block_len next told_block
      ∙ ap (λ (c : List ℕ). with_front c (stream_at next (drop 65536 file ++ more))) take_block
      ∙ ap (with_front front) (rest more)
      ∙ ap (λ (l : List ℕ). let s : Stream = record { content = l; stop = last.stop } in s) (sym (append_assoc front (joined contents) last.content))

  whole_more : (content : List ℕ) → IsWhole next (drop 65536 file) content → IsWhole sum file (front ++ content)
  unfolding words_in next front
  whole_more content rest = record {
    contents = front ∷ rest.contents;
    whole = (front_len, rest.whole);
    words =
        ap packed split ∙ packed-append 8192 (8192 * length rest.contents) block (drop 65536 file) (omega (arith, block_len)) (omega (arith, rest.len))
        ∙ ap (λ (ws : List ℕ). ws ++ packed (drop 65536 file)) block_words
        ∙ append_assoc (packed front) (next ∷ []) (packed (drop 65536 file))
        ∙ ap (λ (ws : List ℕ). packed front ++ next ∷ ws) rest.words;
    len = omega (arith, long, rest.len, length-drop 65536 file);
    content = ap (λ (c : List ℕ). front ++ c) rest.content;
    behind = behind_more rest.contents rest.behind;
  }

-- ---- a whole file

module _ (n sum : ℕ) (file : List ℕ) (rest : (blocks_at n (content_sum sum (take 65528 file)) (drop 65536 file)).stop ≡ AtEnd
    → IsWhole (content_sum sum (take 65528 file)) (drop 65536 file) (blocks_at n (content_sum sum (take 65528 file)) (drop 65536 file)).content) where
  whole_step : (none short told : Bool) → eqb (length file) 0 ≡ none → ltb (length file) 65536 ≡ short → eqb (told_sum file) (content_sum sum (take 65528 file)) ≡ told
      → (blocks_step n sum file none short told).stop ≡ AtEnd → IsWhole sum file (blocks_step n sum file none short told).content
  unfolding next front
  whole_step true short told e f g stops = whole_none sum file (nil_from_length file (eqb-true (length file) 0 e))
  whole_step false true told e f g stops = absurd cc
  whole_step false false true e f g stops =
      whole_more sum file (ltb-false (length file) 65536 f) (eqb-true (told_sum file) (content_sum sum (take 65528 file)) g) (blocks_at n (content_sum sum (take 65528 file)) (drop 65536 file)).content (rest stops)
  whole_step false false false e f g stops = absurd cc

never : (sum : ℕ) (file : List ℕ) {P : Type 0} → (blocks_at zero sum file).stop ≡ AtEnd → P
unfolding blocks_at
never sum file e = absurd cc

pub whole_blocks : (n sum : ℕ) (file : List ℕ) → (blocks_at n sum file).stop ≡ AtEnd → IsWhole sum file (blocks_at n sum file).content
whole_blocks zero sum file stops = never sum file stops
whole_blocks (suc n) sum file stops =
    subst (λ (s : Stream). s.stop ≡ AtEnd → IsWhole sum file s.content) (sym (blocks_are n sum file))
    (whole_step n sum file (whole_blocks n (content_sum sum (take 65528 file)) (drop 65536 file)) (eqb (length file) 0) (ltb (length file) 65536) (eqb (told_sum file) (content_sum sum (take 65528 file))) refl refl refl)
    stops

pub whole_file : (sum : ℕ) (file : List ℕ) → (stream_at sum file).stop ≡ AtEnd → IsWhole sum file (stream_at sum file).content
unfolding stream_at
whole_file sum file stops = whole_blocks (length file / 65536 + 1) sum file stops
