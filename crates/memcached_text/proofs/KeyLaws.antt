-- Whether the words of a text may be keys, by its spaces.
use Rattle.std.proofs.Common.{◌≡◌, ℕ, ◌+◌, ◌<◌, ◌≤◌, Bool, true, false, cond, ◌&&◌, eqb, eqb-true, List, [], ◌∷◌, ◌++◌, length, drop, nat_le, refl, sym, ap, ◌∙◌, arith, length-append, append_assoc}
use Rattle.std.specs.Prelude.{◌==◌, not, filter}
use Rattle.std.specs.List.{list_all, slice_split, onto_first}
use Rattle.std.proofs.Math.Seq.{drop-append-add}
use Rattle.std.proofs.lemmas.Bool.{le-leb, lt-leb, eqb-false}
use Rattle.std.proofs.lemmas.List.{append-nil}
use Rattle.memcached_text.specs.declared.limits.TheConstants.{MAX_KEY_LEN}
use Rattle.memcached_text.specs.Lines.{Lacks, lacks, with_word, is_some_text, words_of}
use Rattle.memcached_text.specs.Line.{is_short, is_key}
use Rattle.memcached_text.proofs.LineLaws.{Lacks_append}
use Rattle.memcached_text.proofs.WordLaws.{words_of_part, words_of_end, words_of_none}

-- whether no word of a text is too long for a key
abbrev pub keys_in : List ℕ → Bool
keys_in text = list_all is_short (words_of text)

-- a word in front of others
with_key : (word : List ℕ) (words : List (List ℕ)) → list_all is_short (with_word word words) ≡ (nat_le (length word) MAX_KEY_LEN && list_all is_short words)
with_key [] words = refl
with_key (b ∷ word) words = refl

part_fits : (part rest : List ℕ) → Lacks 32 part → length part ≤ MAX_KEY_LEN → keys_in (part ++ 32 ∷ rest) ≡ keys_in rest
part_fits part rest lacks short = ap (list_all is_short) (words_of_part part rest lacks) ∙ with_key part (words_of rest) ∙ rw (le-leb (length part) MAX_KEY_LEN short) refl

end_is : (part : List ℕ) → Lacks 32 part → keys_in part ≡ nat_le (length part) MAX_KEY_LEN
end_is part lacks = ap (list_all is_short) (words_of_end part [] lacks refl) ∙ with_key part (words_of []) ∙ go (nat_le (length part) MAX_KEY_LEN)
  where
    go : (t : Bool) → (t && keys_in []) ≡ t
    go true = ap (list_all is_short) words_of_none
    go false = refl

more_lacks : (part : List ℕ) (b : ℕ) → eqb b 32 ≡ false → Lacks 32 part → Lacks 32 (part ++ b ∷ [])
more_lacks part b other lacks = Lacks_append 32 part (b ∷ []) lacks ((λ e. eqb-false b 32 other e), tt)

-- a byte more of a part that begins a first word
onto_part : (part : List ℕ) (b : ℕ) (text : List ℕ) (t : Bool) → keys_in ((part ++ b ∷ []) ++ text) ≡ t → keys_in (part ++ b ∷ text) ≡ t
onto_part part b text t is = ap keys_in (sym (append_assoc part (b ∷ []) text)) ∙ is

-- a text of no more bytes than a key may have, behind a part that begins its first word
short_fits : (part text : List ℕ) → Lacks 32 part → length part + length text ≤ MAX_KEY_LEN → keys_in (part ++ text) ≡ true
short_fits part [] lacks short = ap keys_in (append-nil part) ∙ end_is part lacks ∙ le-leb (length part) MAX_KEY_LEN (omega arith)
short_fits part (b ∷ text) lacks short =
    go (eqb b 32) refl (short_fits [] text tt (omega arith)) (λ is. short_fits (part ++ b ∷ []) text (more_lacks part b is lacks) (omega (arith, length-append part (b ∷ []))))
  where
    go : (t : Bool) → eqb b 32 ≡ t → keys_in text ≡ true → (eqb b 32 ≡ false → keys_in ((part ++ b ∷ []) ++ text) ≡ true) → keys_in (part ++ b ∷ text) ≡ true
    go true is behind onto = let here : b ≡ 32 = eqb-true b 32 is in rw here (part_fits part text lacks (omega arith) ∙ behind)
    go false is behind onto = onto_part part b text true (onto is)

-- what stands before a space, where it has no more bytes than a key may have
front_fits : (part front rest : List ℕ) → Lacks 32 part → length part + length front ≤ MAX_KEY_LEN → keys_in (part ++ (front ++ 32 ∷ rest)) ≡ keys_in rest
front_fits part [] rest lacks short = part_fits part rest lacks (omega arith)
front_fits part (b ∷ front) rest lacks short =
    go (eqb b 32) refl (front_fits [] front rest tt (omega arith)) (λ is. front_fits (part ++ b ∷ []) front rest (more_lacks part b is lacks) (omega (arith, length-append part (b ∷ []))))
  where
    go : (t : Bool) → eqb b 32 ≡ t → keys_in (front ++ 32 ∷ rest) ≡ keys_in rest → (eqb b 32 ≡ false → keys_in ((part ++ b ∷ []) ++ (front ++ 32 ∷ rest)) ≡ keys_in rest) → keys_in (part ++ (b ∷ (front ++ 32 ∷ rest))) ≡ keys_in rest
    go true is behind onto = let here : b ≡ 32 = eqb-true b 32 is in rw here (part_fits part (front ++ 32 ∷ rest) lacks (omega arith) ∙ behind)
    go false is behind onto = onto_part part b (front ++ 32 ∷ rest) (keys_in rest) (onto is)

-- a first word that is too long
long_unfit : (part rest : List ℕ) → Lacks 32 part → MAX_KEY_LEN < length part → keys_in (part ++ rest) ≡ false
long_unfit part [] lacks long = ap keys_in (append-nil part) ∙ end_is part lacks ∙ lt-leb (length part) MAX_KEY_LEN long
long_unfit part (b ∷ rest) lacks long =
    go (eqb b 32) refl (λ is. long_unfit (part ++ b ∷ []) rest (more_lacks part b is lacks) (omega (arith, length-append part (b ∷ []))))
  where
    ended : keys_in (part ++ 32 ∷ rest) ≡ false
    ended = ap (list_all is_short) (words_of_part part rest lacks) ∙ with_key part (words_of rest) ∙ rw (lt-leb (length part) MAX_KEY_LEN long) refl

    go : (t : Bool) → eqb b 32 ≡ t → (eqb b 32 ≡ false → keys_in ((part ++ b ∷ []) ++ rest) ≡ false) → keys_in (part ++ b ∷ rest) ≡ false
    go true is onto = let here : b ≡ 32 = eqb-true b 32 is in rw here ended
    go false is onto = onto_part part b rest false (onto is)

pub all_fit : (text : List ℕ) → length text ≤ MAX_KEY_LEN → keys_in text ≡ true
all_fit text short = short_fits [] text tt (omega arith)

pub one_too_long : (text near far : List ℕ) → text ≡ near ++ far → length near ≡ MAX_KEY_LEN + 1 → Lacks 32 near → keys_in text ≡ false
one_too_long text near far parts count lacks = ap keys_in parts ∙ long_unfit near far lacks (omega arith)

pub front_passed : (text near far front behind : List ℕ) → text ≡ near ++ far → length near ≡ MAX_KEY_LEN + 1 → near ≡ front ++ 32 ∷ behind → keys_in text ≡ keys_in (drop (length front + 1) text)
front_passed text near far front behind parts count found =
    let whole : text ≡ front ++ 32 ∷ (behind ++ far) = parts ∙ ap (λ t. t ++ far) found ∙ append_assoc front (32 ∷ behind) far in
    let back : drop (length front + 1) text ≡ behind ++ far = ap (drop (length front + 1)) whole ∙ drop-append-add front (32 ∷ (behind ++ far)) 1 in
    let short : length front ≤ MAX_KEY_LEN = omega (arith, ap length found, length-append front (32 ∷ behind)) in
    ap keys_in whole ∙ front_fits [] front (behind ++ far) tt (omega arith) ∙ sym (ap keys_in back)

-- The words of a text have a byte 0 where the text has one.

some_lack : (parts : List (List ℕ)) → list_all (lacks 0) (filter is_some_text parts) ≡ list_all (lacks 0) parts
some_lack [] = refl
some_lack ([] ∷ parts) = some_lack parts
some_lack ((b ∷ part) ∷ parts) = ap (λ t. lacks 0 (b ∷ part) && t) (some_lack parts)

onto_lacks : (b : ℕ) (parts : List (List ℕ)) → list_all (lacks 0) (onto_first b parts) ≡ (not (eqb b 0) && list_all (lacks 0) parts)
onto_lacks b [] = go (not (eqb b 0))
  where
    go : (t : Bool) → ((t && true) && true) ≡ (t && true)
    go true = refl
    go false = refl
onto_lacks b (part ∷ parts) = go (not (eqb b 0))
  where
    go : (t : Bool) → ((t && lacks 0 part) && list_all (lacks 0) parts) ≡ (t && (lacks 0 part && list_all (lacks 0) parts))
    go true = refl
    go false = refl

parts_lack : (text : List ℕ) → list_all (lacks 0) (slice_split (λ b. b == 32) text) ≡ lacks 0 text
parts_lack [] = refl
parts_lack (b ∷ text) = go (eqb b 32) refl (parts_lack text)
  where
    go : (t : Bool) → eqb b 32 ≡ t → list_all (lacks 0) (slice_split (λ b. b == 32) text) ≡ lacks 0 text
        → list_all (lacks 0) (cond t ([] ∷ slice_split (λ b. b == 32) text) (onto_first b (slice_split (λ b. b == 32) text))) ≡ (not (eqb b 0) && lacks 0 text)
    go true is later = let here : b ≡ 32 = eqb-true b 32 is in rw here later
    go false is later = onto_lacks b (slice_split (λ b. b == 32) text) ∙ ap (λ t. not (eqb b 0) && t) later

swapped : (a b c d : Bool) → ((a && b) && (c && d)) ≡ ((b && c) && (a && d))
swapped true true c d = refl
swapped true false c d = refl
swapped false true true d = refl
swapped false true false d = refl
swapped false false c d = refl

both_tests : (words : List (List ℕ)) → list_all is_key words ≡ (list_all (lacks 0) words && list_all is_short words)
both_tests [] = refl
both_tests (word ∷ words) = ap (λ t. (is_short word && lacks 0 word) && t) (both_tests words) ∙ swapped (is_short word) (lacks 0 word) (list_all (lacks 0) words) (list_all is_short words)

-- each word of a text may be a key where the text has no byte 0 and none of them is too long
pub keys_apart : (text : List ℕ) → list_all is_key (words_of text) ≡ (lacks 0 text && list_all is_short (words_of text))
unfolding words_of
keys_apart text = both_tests (words_of text) ∙ ap (λ t. t && list_all is_short (words_of text)) (some_lack (slice_split (λ b. b == 32) text) ∙ parts_lack text)

-- a word in front of others, where it is one
pub first_key : (word : List ℕ) (words : List (List ℕ)) → list_all is_key (with_word word words) ≡ (is_key word && list_all is_key words)
first_key [] words = refl
first_key (b ∷ word) words = refl
