-- Item words put one after another: when each may be put, and what they make of the state.
use Rattle.std.proofs.lemmas.Grind.{common_steps}
use Rattle.partition_words.proofs.Vocabulary.{BelongsTo, Cache, CanPlay, History, Kept, List, Marked, MayPutWord, OwnerState, Phase, PutsWord}
use Rattle.partition_words.proofs.Vocabulary.{SparesOthers, State, WhenMarked, Write, [], add-zero, after, ap, arith, cache_state, cached_in, drop}
use Rattle.partition_words.proofs.Vocabulary.{get_or, get_or-set_other, get_or-set_same, item_at, length, length-set, marked_in, mod-lt}
use Rattle.partition_words.proofs.Vocabulary.{options_in, plays, puts_from, refl, state_of, store_state, subst, suc, sym, word_count, zero, ℕ, ◌++◌, ◌+◌}
use Rattle.partition_words.proofs.Vocabulary.{◌<◌, ◌∙◌, ◌∷◌, ◌≡◌, ◌≢◌, ◌≤◌}
use Rattle.partition_words.proofs.Log.{not_below}
use Rattle.partition_words.proofs.Marked.{bit_else}
use Rattle.partition_words.proofs.Carried.{back, in_room}
use Rattle.partition_words.proofs.Keeps.{carries, kept_after}

-- the words from the offset on, this many, may be put
abbrev pub MayPutWords : OwnerState → ℕ → ℕ → Type 0
MayPutWords o p n = (i : ℕ) → i < n → MayPutWord o (p + i)

-- A word that may be put may be put after another one, where what spares other buckets does so still.
may_put_still : (o : OwnerState) (p x q : ℕ)
    → ((b : ℕ) (write : Write) (before : History) (now : _) → o.phase ≡ Marked b write before → state_of (options_in o) before ≡ store_state now
    → SparesOthers o b q → SparesOthers (after (PutsWord p x) o) b q)
    → MayPutWord o q → MayPutWord (after (PutsWord p x) o) q
may_put_still o p x q still may = record { its_word = by_phase o.phase refl may.its_word; low = may.low }
  where
    by_state : (b : ℕ) (write : Write) (before : History) → o.phase ≡ Marked b write before → (now : State) → state_of (options_in o) before ≡ now
        → BelongsTo o b write now q → BelongsTo (after (PutsWord p x) o) b write now q
    by_state b write before is (cache_state now) at h = h
    by_state b write before is (store_state now) at h = still b write before now is at h

    by_phase : (phase : Phase) → o.phase ≡ phase → WhenMarked phase (λ b write before. BelongsTo o b write (state_of (options_in o) before) q)
        → WhenMarked phase (λ b write before. BelongsTo (after (PutsWord p x) o) b write (state_of (options_in o) before) q)
    by_phase (Marked b write before) is h = by_state b write before is (state_of (options_in o) before) refl h
    by_phase phase is h = absurd h

-- so several may be put where each may, in states of which each put leaves what keeps that

puts_by : (P : OwnerState → Type 0)
    → ((o : OwnerState) → P o → (p x : ℕ) → MayPutWord o p
    → P (after (PutsWord p x) o) × ((q : ℕ) → MayPutWord o q → MayPutWord (after (PutsWord p x) o) q))
    → (o : OwnerState) → P o → (p : ℕ) (xs : List ℕ) → MayPutWords o p (length xs) → CanPlay (puts_from p xs) o
puts_by P keeps o is p [] may = tt
puts_by P keeps o is p (x ∷ xs) may =
    let first : MayPutWord o p = subst (MayPutWord o) (omega arith) (may 0 (omega arith)) in
    let next = keeps o is p x first in (
      first,
      puts_by P keeps (after (PutsWord p x) o) next.0 (p + 1) xs
          (λ i l. next.1 (p + 1 + i) (subst (MayPutWord o) (omega arith) (may (suc i) (omega arith)))),
    )

pub can_put : (o : OwnerState) → Kept o → (p : ℕ) (xs : List ℕ) → MayPutWords o p (length xs) → CanPlay (puts_from p xs) o
can_put = puts_by Kept (λ o s p x a. (
  kept_after o s (PutsWord p x) a,
  λ q. may_put_still o p x q (λ b write before now is at spares other c slot entry l n h i.
      let unmarked = ap (λ (z : Phase). marked_in z other) is ∙ bit_else b other (λ same. n (sym same)) in
      let k = carries o s (PutsWord p x) a other l unmarked in
      let was = back o (after (PutsWord p x) o) other k c slot entry h in
      spares other c slot entry l n was (in_room o (after (PutsWord p x) o) other k c slot entry q h i)),
))

-- in cache mode whatever the words are
pub can_put_cached : (o : OwnerState) → o.shape.mode ≡ Cache → (p : ℕ) (xs : List ℕ) → MayPutWords o p (length xs) → CanPlay (puts_from p xs) o
can_put_cached = puts_by (λ o. o.shape.mode ≡ Cache)
    (λ o mode p x a. (mode, λ q. may_put_still o p x q (λ b write before now is at. cc (sym (cached_in (options_in o) mode before).1 ∙ at))))

-- words in two parts

pub plays-append : (o : OwnerState) (p : ℕ) (xs ys : List ℕ) → plays (puts_from p (xs ++ ys)) o ≡ plays (puts_from (p + length xs) ys) (plays (puts_from p xs) o)
plays-append o p [] ys = ap (λ (z : ℕ). plays (puts_from z ys) o) (omega arith)
plays-append o p (x ∷ xs) ys = grind (arith, common_steps, plays-append (after (PutsWord p x) o) (p + 1) xs ys)

pub can_play-append : (o : OwnerState) (p : ℕ) (xs ys : List ℕ) → CanPlay (puts_from p (xs ++ ys)) o
    → CanPlay (puts_from p xs) o × CanPlay (puts_from (p + length xs) ys) (plays (puts_from p xs) o)
can_play-append o p [] ys can = (tt, subst (λ (z : ℕ). CanPlay (puts_from z ys) o) (omega arith) can)
can_play-append o p (x ∷ xs) ys can = grind (arith, common_steps, can_play-append (after (PutsWord p x) o) (p + 1) xs ys can.1)

-- one of several words, and those behind it
pub next_put : (p i : ℕ) (xs : List ℕ) (word : ℕ) → i < length xs → word ≡ get_or xs i 0
    → puts_from (p + i) (drop i xs) ≡ PutsWord (p + i) word ∷ puts_from (p + (i + 1)) (drop (i + 1) xs)
next_put p i xs word below is = grind (arith, common_steps)

-- What they make of the state: the words from the offset on are those, and nothing else changed.
pub record PutsWords (old new : OwnerState) (p : ℕ) (words : List ℕ) : Type 0 where
  pub same : new ≡ record old { words = new.words }
  pub wide : length new.words ≡ length old.words
  pub put : (i : ℕ) → i < length words → get_or new.words (item_at old.shape (p + i)) 0 ≡ get_or words i 0
  pub others : (place : ℕ) → ((i : ℕ) → i < length words → place ≢ item_at old.shape (p + i)) → get_or new.words place 0 ≡ get_or old.words place 0

pub puts_words : (o : OwnerState) (p : ℕ) (xs : List ℕ) → length o.words ≡ word_count o.shape → 0 < o.shape.words → length xs ≤ o.shape.words
    → PutsWords o (plays (puts_from p xs) o) p xs
puts_words o p [] wide some few = record { same = refl; wide = refl; put = λ i l. absurd (omega arith); others = λ place none. refl }
puts_words o p (x ∷ xs) wide some few =
    let one : length (after (PutsWord p x) o).words ≡ length o.words = length-set o.words (item_at o.shape p) x in
    let rest = puts_words (after (PutsWord p x) o) (p + 1) xs (one ∙ wide) some (omega arith) in
    let first = get_or-set_same o.words (item_at o.shape p) x 0 (omega (arith, mod-lt p some)) in record {
      same = rest.same;
      wide = rest.wide ∙ one;
      put = λ i l. put_at i l first rest;
      others = λ q none.
          rest.others q (λ i l is. none (suc i) (omega arith) (is ∙ ap (item_at o.shape) (omega arith)))
          ∙ get_or-set_other o.words (item_at o.shape p) q x 0 (λ is. none 0 (omega arith) (is ∙ ap (item_at o.shape) (omega arith)));
    }
  where
    put_at : (i : ℕ) → i < length (x ∷ xs) → get_or (after (PutsWord p x) o).words (item_at o.shape p) 0 ≡ x
        → PutsWords (after (PutsWord p x) o) (plays (puts_from (p + 1) xs) (after (PutsWord p x) o)) (p + 1) xs
        → get_or (plays (puts_from p (x ∷ xs)) o).words (item_at o.shape (p + i)) 0 ≡ get_or (x ∷ xs) i 0
    -- items nearer than the log is long are at different places
    put_at zero l first rest = rw (add-zero p) (rest.others (item_at o.shape p)
        (λ i less is. not_below o.shape.words p (p + 1 + i) (omega arith) (omega arith) (omega arith)) ∙ first)
    put_at (suc i) l first rest =
        ap (λ (z : ℕ). get_or (plays (puts_from p (x ∷ xs)) o).words (item_at o.shape z) 0) (omega arith) ∙ rest.put i (omega arith)
