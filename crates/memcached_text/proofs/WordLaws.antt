-- The words of a text.
use Rattle.std.proofs.Common.{◌≡◌, ℕ, ◌<◌, Bool, true, false, true≢false, List, [], ◌∷◌, ◌++◌, length, refl, sym, ap, ◌∙◌, arith, eqb-true}
use Rattle.std.specs.Prelude.{◌==◌, filter}
use Rattle.std.specs.List.{slice_split, onto_first}
use Rattle.std.proofs.lemmas.Grind.{common_steps}
use Rattle.memcached_text.specs.Lines.{Lacks, with_word, is_some_text, words_of, without_return}
use Rattle.memcached_text.specs.Next.{is_binary}

split_at : (word rest : List ℕ) → Lacks 32 word → slice_split (λ b. b == 32) (word ++ 32 ∷ rest) ≡ word ∷ slice_split (λ b. b == 32) rest
split_at [] rest lacks = refl
split_at (b ∷ word) rest lacks = grind (arith, common_steps, split_at word rest lacks.1)

split_none : (word : List ℕ) → Lacks 32 word → slice_split (λ b. b == 32) word ≡ word ∷ []
split_none [] lacks = refl
split_none (b ∷ word) lacks = grind (arith, common_steps, split_none word lacks.1)

-- a space at the front
pub words_of_space : (rest : List ℕ) → words_of (32 ∷ rest) ≡ words_of rest
unfolding words_of
words_of_space rest = refl

-- a word, and what stands behind a space
pub words_of_word : (word rest : List ℕ) → 0 < length word → Lacks 32 word → words_of (word ++ 32 ∷ rest) ≡ word ∷ words_of rest
unfolding words_of
words_of_word [] rest some lacks = absurd (omega arith)
words_of_word (b ∷ word) rest some lacks = ap (filter is_some_text) (split_at (b ∷ word) rest lacks)

-- a word alone
pub words_of_last : (word : List ℕ) → 0 < length word → Lacks 32 word → words_of word ≡ word ∷ []
unfolding words_of
words_of_last [] some lacks = absurd (omega arith)
words_of_last (b ∷ word) some lacks = ap (filter is_some_text) (split_none (b ∷ word) lacks)

pub words_of_none : words_of [] ≡ []
unfolding words_of
words_of_none = refl

-- what stands before the first space
pub words_of_part : (part rest : List ℕ) → Lacks 32 part → words_of (part ++ 32 ∷ rest) ≡ with_word part (words_of rest)
words_of_part [] rest lacks = words_of_space rest
words_of_part (b ∷ part) rest lacks = words_of_word (b ∷ part) rest (omega arith) lacks

-- where there is no space
pub words_of_end : (part rest : List ℕ) → Lacks 32 part → rest ≡ [] → words_of part ≡ with_word part (words_of rest)
words_of_end [] rest lacks none = ap words_of (sym none)
words_of_end (b ∷ part) rest lacks none = words_of_last (b ∷ part) (omega arith) lacks ∙ ap (λ ws. (b ∷ part) ∷ ws) (sym (ap words_of none ∙ words_of_none))

pub with_some : (word : List ℕ) (words : List (List ℕ)) → (length word == 0) ≡ false → with_word word words ≡ word ∷ words
with_some [] words some = absurd (true≢false some)
with_some (b ∷ word) words some = refl

-- one word alone
pub one_word : (word rest : List ℕ) → 0 < length word → rest ≡ [] → with_word word (words_of rest) ≡ word ∷ []
one_word [] rest some none = absurd (omega arith)
one_word (b ∷ word) rest some none = ap (λ words. (b ∷ word) ∷ words) (ap words_of none ∙ words_of_none)

-- a first part that is a word, and one that is none
pub is_word : (text : List ℕ) (word : List ℕ) (words : List (List ℕ)) (t : Bool) → words_of text ≡ with_word word words → t ≡ (length word == 0) → t ≡ false → words_of text ≡ word ∷ words
is_word text word words t is empty some = is ∙ with_some word words (sym empty ∙ some)

pub no_word : (text : List ℕ) (word : List ℕ) (words : List (List ℕ)) (t : Bool) → words_of text ≡ with_word word words → t ≡ (length word == 0) → t ≡ true → words_of text ≡ words
no_word text [] words t is empty none = is
no_word text (b ∷ word) words t is empty none = let zero : length (b ∷ word) ≡ 0 = eqb-true _ 0 (sym empty ∙ none) in absurd (omega arith)

-- whether the first of these words begins as a request of the binary protocol
abbrev pub is_binary_word : List (List ℕ) → Bool
is_binary_word [] = false
is_binary_word (word ∷ words) = is_binary word

first_is : (parts : List (List ℕ)) → is_binary_word (filter is_some_text (onto_first 128 parts)) ≡ true
first_is [] = refl
first_is (part ∷ parts) = refl

binary_words : (line : List ℕ) → is_binary line ≡ true → is_binary_word (words_of line) ≡ true
unfolding words_of
binary_words [] is = absurd (true≢false (sym is))
binary_words (b ∷ line) is = let here : b ≡ 128 = eqb-true b 128 is in rw here (first_is (slice_split (λ b. b == 32) line))

binary_stripped : (line : List ℕ) → is_binary line ≡ true → is_binary (without_return line) ≡ true
binary_stripped [] is = is
binary_stripped (b ∷ []) is = let here : b ≡ 128 = eqb-true b 128 is in rw here refl
binary_stripped (b ∷ c ∷ line) is = is

-- a line of other words
pub text_by_words : (line : List ℕ) → is_binary_word (words_of (without_return line)) ≡ false → is_binary line ≡ false
text_by_words line is = go (is_binary line) refl
  where
    go : (t : Bool) → is_binary line ≡ t → is_binary line ≡ false
    go true here = absurd (true≢false (sym (binary_words (without_return line) (binary_stripped line here)) ∙ is))
    go false here = here
