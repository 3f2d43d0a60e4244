-- When the stores of a call may happen: its bucket is marked, and they go to buckets of its chain or to a free spare.
use Rattle.chained_index.proofs.Words.{SLOTS, ◌≡◌, ◌≢◌, ℕ, ◌<◌, ◌≤◌, inl, inr, ◌⊎◌, sym, ◌∙◌, subst, arith, entry_of, OwnerState, Phase}
use Rattle.chained_index.proofs.Words.{PutsEntry, IsMain, link_in, marked_in, InChain, IsFreeSpare, WhenMarked, IsItsBucket}
use Rattle.chained_index.proofs.Words.{MayPutEntry, MayPutLink, after, link_puts_entry, bit_is, IsBucket, entry_at, length, length-set}
use Rattle.chained_index.proofs.Chained.{Chained, all_on, free_on}

-- an entry is not 0, as its tag is not
pub some_entry : (tag offset : ℕ) → 1 ≤ tag → entry_of tag offset ≢ 0
some_entry tag offset some none = omega arith

when_marked : (phase : Phase) (b : ℕ) (P : ℕ → Type 0) → marked_in phase b ≡ 1 → P b → WhenMarked phase (λ c write before. P c)
when_marked phase b P one h = grind (arith, bit_is, h)

-- what holds of each bucket that may be the marked one holds when a write is marked
pub marked_part : (phase : Phase) (P Q : ℕ → Type 0) → ((b : ℕ) → marked_in phase b ≡ 1 → P b → Q b)
    → WhenMarked phase (λ b write before. P b) → WhenMarked phase (λ b write before. Q b)
marked_part phase P Q f h = grind (arith, h, f)

pub marked_any : (phase : Phase) (R : Type 0) → WhenMarked phase (λ b write before. R) → R
marked_any phase R h = grind (arith, h)

module _ (o : OwnerState) (b : ℕ) (one : marked_in o.phase b ≡ 1) where
  its_own : (c : ℕ) → InChain o b c ⊎ IsFreeSpare o c → IsItsBucket o c
  its_own c h = when_marked o.phase b (λ d. InChain o d c ⊎ IsFreeSpare o c) one h

  pub may_enter : (n : OwnerState) → n ≡ o → (c slot : ℕ) → InChain o b c ⊎ IsFreeSpare o c → slot < SLOTS → MayPutEntry n c slot
  may_enter n is c slot h low = subst (λ (z : OwnerState). MayPutEntry z c slot) (sym is) record { its_bucket = its_own c h; in_bucket = low }

-- Entries may be stored after a store of an entry too, which changes no chain.
module _ (o : OwnerState) (s : Chained o) (b : ℕ) (main : IsMain o.shape b) (one : marked_in o.phase b ≡ 1) (c slot x : ℕ) (low : slot < SLOTS) where
  abbrev m : OwnerState
  m = after (PutsEntry c slot x) o

  links_same : (d : ℕ) → IsBucket o.shape d → link_in m d ≡ link_in o d
  links_same d l = link_puts_entry o s.wide c slot x d low

  long : length m.words ≡ length o.words
  long = length-set o.words (entry_at o.shape c slot) x

  pub still_in : (d : ℕ) → InChain o b d → InChain m b d
  still_in = all_on o m.words o.history o.phase long s links_same b main

  -- a blank spare may be linked, or a link cut
  pub may_link : (n : OwnerState) → n ≡ m → (d next : ℕ) → InChain o b d → (next ≡ 0) ⊎ (IsFreeSpare o next × (link_in o next ≡ 0)) → MayPutLink n d next
  may_link n is d next h free = subst (λ (z : OwnerState). MayPutLink z d next) (sym is) record {
    its_bucket = its_own m b one d (inl (still_in d h));
    free = elim free [ inl none ↦ inl none | inr f ↦ inr (free_on o m.words o.history o.phase long s links_same next f.0, links_same next f.0.spare.1 ∙ f.1) ];
  }
