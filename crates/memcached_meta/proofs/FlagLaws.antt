-- Letters that stood before, as marks.
use Rattle.std.specs.Prelude.{◌||◌, ◌==◌, slice_index, slice_set, replicate, if◌then◌else◌}
use Rattle.std.specs.List.{list_any}
use Rattle.std.proofs.Common.{◌≡◌, ◌<◌, ◌≢◌, ℕ, List, [], ◌∷◌, Bool, true, false, Option, Some, None, length, nat_le, refl, sym, ap, ◌∙◌, eqb-true, subst}
use Rattle.std.proofs.lemmas.Bool.{leb-false, eqb-false}
use Rattle.std.proofs.lemmas.List.{length-set, get_or-set_other, get_or-replicate}
use Rattle.std.proofs.lemmas.Grind.{get_or-set_at}
use Rattle.memcached_meta.specs.declared.fault.MetaFault.{MetaFault}
use Rattle.memcached_meta.specs.declared.fault.MetaFault.TheVariants.{FlagTwice}
use Rattle.memcached_meta.specs.Flags.{letter_of, or_else, fault_in, fault_behind, flags_fault}

-- why these words are no flags, behind others whose letters are marked
unfoldable pub fault_marked : List ℕ → List (List ℕ) → Option MetaFault
fault_marked seen [] = None
fault_marked seen (word ∷ words) =
    if nat_le 127 (letter_of word) || (slice_index seen (letter_of word) == 1) then Some FlagTwice
    else or_else (fault_in word) (fault_marked (slice_set seen (letter_of word) 1) words)

-- these letters are marked, and no others
record Marks (seen letters : List ℕ) : Type 0 where
  len : length seen ≡ 127
  each : (b : ℕ) → b < 127 → (slice_index seen b == 1) ≡ list_any (λ letter. letter == b) letters

marks_next : (seen letters : List ℕ) (letter : ℕ) → letter < 127 → Marks seen letters → Marks (slice_set seen letter 1) (letter ∷ letters)
marks_next seen letters letter small m = record { len = length-set seen letter 1 ∙ m.len; each = λ b below. go b below (letter == b) refl }
  where
    go : (b : ℕ) → b < 127 → (t : Bool) → (letter == b) ≡ t → (slice_index (slice_set seen letter 1) b == 1) ≡ list_any (λ one. one == b) (letter ∷ letters)
    go b below true is =
        let here : slice_index (slice_set seen letter 1) b ≡ 1 = get_or-set_at seen letter b 1 0 (sym (eqb-true letter b is)) (subst (λ n. letter < n) (sym m.len) small) in
        rw (here, is) refl
    go b below false is =
        let other : b ≢ letter = λ same. eqb-false letter b is (sym same) in
        let there : slice_index (slice_set seen letter 1) b ≡ slice_index seen b = get_or-set_other seen letter b 1 0 other in
        rw (there, m.each b below, is) refl

word_is : (word : List ℕ) (words : List (List ℕ)) (seen letters : List ℕ) → Marks seen letters
    → ((more : List ℕ) (most : List ℕ) → Marks more most → fault_marked more words ≡ fault_behind most words)
    → (t : Bool) → nat_le 127 (letter_of word) ≡ t → fault_marked seen (word ∷ words) ≡ fault_behind letters (word ∷ words)
unfolding fault_marked fault_behind
word_is word words seen letters m later true is = rw (is) refl
word_is word words seen letters m later false is =
    let below = leb-false 127 (letter_of word) is in
    rw (is, m.each (letter_of word) below, later (slice_set seen (letter_of word) 1) (letter_of word ∷ letters) (marks_next seen letters (letter_of word) below m)) refl

marked_is : (words : List (List ℕ)) (seen letters : List ℕ) → Marks seen letters → fault_marked seen words ≡ fault_behind letters words
unfolding fault_marked fault_behind
marked_is [] seen letters m = refl
marked_is (word ∷ words) seen letters m = word_is word words seen letters m (marked_is words) (nat_le 127 (letter_of word)) refl

none_marked : Marks (replicate 127 0) []
none_marked = record { len = refl; each = λ b below. ap (λ n. n == 1) (get_or-replicate 127 b 0 0 below) }

pub begins : (words : List (List ℕ)) → flags_fault words ≡ fault_marked (replicate 127 0) words
begins words = sym (marked_is words (replicate 127 0) [] none_marked)
