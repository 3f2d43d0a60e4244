-- Each step of a sum has an inverse.
use Rattle.std.specs.Prelude.{◌≡◌, ℕ, ◌*◌, ◌+◌, ◌%◌, ◌<◌, ◌++◌, ◌^◌, List, [], ◌∷◌}
use Rattle.std.proofs.Common.{sym, ap, ◌∙◌, arith}
use Rattle.std.specs.List.{AllByRecursion}
use Rattle.std.specs.Int.Bits.{bit_xor, xor_assoc, xor_self, xor_zero_r}
use Rattle.std.proofs.lemmas.Nat.{mul-mod_first, mul-mod_second, xor_comm, xor_lt}
use Rattle.std.proofs.Math.Nat.{mul_assoc, mod-eq_of_lt, mod-lt}
use Rattle.word_sums.specs.Sum.{mixed, turned, sum_on, sum_of, IsWord, EachCounts, Block, AreSummed, block_of, OneWordTells}

-- the step back
back : ℕ → ℕ
back y = (y * 17428512612931826493) % 2 ^ 64

back_mixed : (x : ℕ) → IsWord x → back (mixed x) ≡ x
unfolding back
back_mixed x small =
    mul-mod_first (x * 11400714819323198485) 17428512612931826493 (2 ^ 64)
    ∙ ap (λ (n : ℕ). n % 2 ^ 64) (mul_assoc x 11400714819323198485 17428512612931826493)
    ∙ sym (mul-mod_second x (11400714819323198485 * 17428512612931826493) (2 ^ 64))
    ∙ ap (λ (n : ℕ). n % 2 ^ 64) (omega arith)
    ∙ mod-eq_of_lt small

turned_twice : (x : ℕ) → IsWord x → turned (turned x) ≡ x
turned_twice x small = omega (arith, small)

xor_back : (s w : ℕ) → bit_xor (bit_xor s w) w ≡ s
xor_back s w = xor_assoc s w w ∙ ap (bit_xor s) (xor_self w) ∙ xor_zero_r s

mixed_word : (x : ℕ) → IsWord (mixed x)
mixed_word x = mod-lt (x * 11400714819323198485) (omega arith)

turned_word : (x : ℕ) → IsWord x → IsWord (turned x)
turned_word x small = omega (arith, small)

-- what went in, by what came out
came_in : ℕ → ℕ
came_in y = back (turned y)

came_in_on : (s w : ℕ) → IsWord s → IsWord w → came_in (sum_on s w) ≡ bit_xor s w
unfolding came_in back sum_on
came_in_on s w sum word = ap back (turned_twice (mixed (bit_xor s w)) (mixed_word (bit_xor s w))) ∙ back_mixed (bit_xor s w) (xor_lt 64 s w sum word)

on_word : (s w : ℕ) → IsWord (sum_on s w)
unfolding sum_on
on_word s w = turned_word (mixed (bit_xor s w)) (mixed_word (bit_xor s w))

same_sums : (s t w : ℕ) → IsWord s → IsWord t → IsWord w → sum_on s w ≡ sum_on t w → s ≡ t
same_sums s t w first second word same =
    sym (xor_back s w)
    ∙ ap (λ (n : ℕ). bit_xor n w) (sym (came_in_on s w first word) ∙ ap came_in same ∙ came_in_on t w second word)
    ∙ xor_back t w

same_words : (s a b : ℕ) → IsWord s → IsWord a → IsWord b → sum_on s a ≡ sum_on s b → a ≡ b
same_words s a b sum first second same =
    sym (xor_back a s)
    ∙ ap (λ (n : ℕ). bit_xor n s) (xor_comm a s ∙ sym (came_in_on s a sum first) ∙ ap came_in same ∙ came_in_on s b sum second ∙ xor_comm s b)
    ∙ xor_back b s

same_starts : (s t : ℕ) (after : List ℕ) → IsWord s → IsWord t → AllByRecursion IsWord after → sum_of s after ≡ sum_of t after → s ≡ t
same_starts s t [] first second words same = same
same_starts s t (w ∷ after) first second words same =
    same_sums s t w first second words.0 (same_starts (sum_on s w) (sum_on t w) after (on_word s w) (on_word t w) words.1 same)

pub each_counts : EachCounts
each_counts sum a b [] after is_sum is_a is_b all_before all_after same =
    same_words sum a b is_sum is_a is_b (same_starts (sum_on sum a) (sum_on sum b) after (on_word sum a) (on_word sum b) all_after same)
each_counts sum a b (w ∷ before) after is_sum is_a is_b all_before all_after same =
    each_counts (sum_on sum w) a b before after (on_word sum w) is_a is_b all_before.1 all_after same

-- a sum behind words is a word
pub sum_word : (sum : ℕ) (words : List ℕ) → IsWord sum → IsWord (sum_of sum words)
sum_word sum [] is_sum = is_sum
sum_word sum (w ∷ words) is_sum = sum_word (sum_on sum w) words (on_word sum w)

word_tells : (sum a b told : ℕ) (before after : List ℕ) (first last : List Block) → IsWord sum → IsWord a → IsWord b → AllByRecursion IsWord before → AllByRecursion IsWord after
    → AllByRecursion (λ (block : Block). AllByRecursion IsWord block.words) first
    → AreSummed sum (first ++ block_of (before ++ a ∷ after) told ∷ last) → AreSummed sum (first ++ block_of (before ++ b ∷ after) told ∷ last) → a ≡ b
word_tells sum a b told before after [] last is_sum is_a is_b all_before all_after all_first one other =
    each_counts sum a b before after is_sum is_a is_b all_before all_after (sym one.0 ∙ other.0)
word_tells sum a b told before after (block ∷ first) last is_sum is_a is_b all_before all_after all_first one other =
    word_tells (sum_of sum block.words) a b told before after first last (sum_word sum block.words is_sum) is_a is_b all_before all_after all_first.1 one.1 other.1

told_tells : (sum told other : ℕ) (words : List ℕ) (first last : List Block)
    → AreSummed sum (first ++ block_of words told ∷ last) → AreSummed sum (first ++ block_of words other ∷ last) → told ≡ other
told_tells sum told other words [] last one two = one.0 ∙ sym two.0
told_tells sum told other words (block ∷ first) last one two = told_tells (sum_of sum block.words) told other words first last one.1 two.1

pub one_word_tells : OneWordTells
one_word_tells = record { word = word_tells; told = told_tells }
