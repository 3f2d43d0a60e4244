-- What the stored item and entry of `a` make of the words.
use Rattle.std.proofs.Common.{◌≡◌, ℕ, suc, ◌+◌, ◌<◌, ◌⊎◌, inl, inr, [], ◌∷◌, get_or, slice_index, refl, sym, ap, ◌∙◌, subst, arith}
use Rattle.mica_words.specs.Entry.{entry_of}
use Rattle.mica_words.specs.Spelling.{item_words}
use Rattle.mica_words.proofs.ItemWords.{length-item_words}
use Rattle.partition_model.specs.Store.{Cell}
use Rattle.partition_words.specs.declared.shape.Shape.{Shape}
use Rattle.partition_words.specs.declared.state.OwnerState.{OwnerState}
use Rattle.partition_words.specs.declared.state.Phase.{Phase}
use Rattle.partition_words.specs.declared.state.Phase.TheVariants.{Marked}
use Rattle.partition_words.specs.declared.event.Event.TheVariants.{PutsWord, PutsEntry}
use Rattle.partition_words.specs.Layout.{entry_at, item_at}
use Rattle.partition_words.specs.OwnerState.{entry_in, item_in}
use Rattle.partition_words.specs.Chain.{InChain, IsFreeSpare}
use Rattle.partition_words.specs.StandsFor.{SpellsItem}
use Rattle.partition_words.specs.Events.{WhenMarked, MayPutEntry, after, plays, item_events}
use Rattle.partition_words.specs.Kept.{PhaseFits, Kept}
use Rattle.partition_words.proofs.EventWords.{entry_puts, entry_puts_other, entry_puts_word, item_puts_entry}
use Rattle.partition_words.proofs.Places.{no_item}
use Rattle.partition_words.proofs.Puts.{PutsWords, puts_words}
use Rattle.core_tests.specs.CachePut.{one_bucket, put_of_a, IsMarked}

abbrev pub cell_of_a : Cell
cell_of_a = record { value = 49 ∷ []; room = 4 }

abbrev pub entry_of_a : ℕ
entry_of_a = entry_of 56396 0

-- the put is marked, and its item and its entry are stored
pub record IsStored (o : OwnerState) : Type 0 where
  pub shape : o.shape ≡ one_bucket
  pub history : o.history ≡ put_of_a ∷ []
  pub phase : o.phase ≡ Marked 0 put_of_a []
  pub first : entry_in o 0 0 ≡ entry_of_a
  pub rest : (slot : ℕ) → suc slot < 15 → entry_in o 0 (suc slot) ≡ 0
  pub item : SpellsItem o 0 (97 ∷ []) cell_of_a
  pub kept : Kept o

-- a word leaves the put marked
pub still_marked : (o now : OwnerState) → IsMarked o → (p x : ℕ) → now ≡ after (PutsWord p x) o → Kept now → IsMarked now
still_marked o now m p x is kept = record {
  shape = ap (λ (z : OwnerState). z.shape) is ∙ m.shape;
  phase = ap (λ (z : OwnerState). z.phase) is ∙ m.phase;
  empty = λ slot l.
      let one = ap (λ (z : Shape). z.buckets) m.shape in
      ap (λ (z : OwnerState). entry_in z 0 slot) is ∙ (entry_puts_word o m.kept.wide p x 0 slot (omega arith) l ∙ m.empty slot l);
  kept = kept;
}

module _ (o : OwnerState) (m : IsMarked o) (now : OwnerState) (is : now ≡ plays (item_events o.shape.hashing 0 4 (97 ∷ []) (49 ∷ [])) o) where
  puts : PutsWords o now 0 (item_words o.shape.hashing 4 (97 ∷ []) (49 ∷ []))
  puts =
      let words = m.kept.shape.ranges.words.0 in
      subst (λ (z : OwnerState). PutsWords o z 0 (item_words o.shape.hashing 4 (97 ∷ []) (49 ∷ []))) (sym is)
      (puts_words o 0 (item_words o.shape.hashing 4 (97 ∷ []) (49 ∷ [])) m.kept.wide (omega arith) (omega (arith, length-item_words o.shape.hashing 4 (97 ∷ []) (49 ∷ []))))

  shape : now.shape ≡ o.shape
  shape = ap (λ (z : OwnerState). z.shape) puts.same

  phase : now.phase ≡ Marked 0 put_of_a []
  phase = ap (λ (z : OwnerState). z.phase) puts.same ∙ m.phase

  history : now.history ≡ put_of_a ∷ []
  history = ap (λ (z : OwnerState). z.history) puts.same ∙ (subst (PhaseFits o) m.phase m.kept.phase).1

  pub may_put_entry : MayPutEntry now 0 0
  may_put_entry = record {
    its_bucket = subst (λ (z : Phase). WhenMarked z (λ b write before. InChain now b 0 ⊎ IsFreeSpare now 0)) (sym phase) (inl (inl refl));
    in_bucket = omega arith;
  }

  one : o.shape.buckets ≡ 1
  one = ap (λ (z : Shape). z.buckets) m.shape

  empty : (slot : ℕ) → slot < 15 → entry_in now 0 slot ≡ 0
  empty slot l =
      ap (λ (z : Shape). get_or now.words (entry_at z 0 slot) 0) shape
      ∙ (puts.others (entry_at o.shape 0 slot) (λ i below. let one = one in no_item o.shape 0 slot (0 + i) (omega arith) (omega arith))
      ∙ m.empty slot l)

  spelt : SpellsItem now 0 (97 ∷ []) cell_of_a
  spelt i l =
      ap (λ (z : Shape). get_or now.words (item_at z (0 + i)) 0) shape
      ∙ (puts.put i (omega (arith, length-item_words o.shape.hashing 4 (97 ∷ []) (49 ∷ [])))
      ∙ ap (λ (z : Shape). slice_index (item_words z.hashing 4 (97 ∷ []) (49 ∷ [])) i) (sym shape))

  pub stored : Kept now → (then : OwnerState) → then ≡ after (PutsEntry 0 0 entry_of_a) now → Kept then → IsStored then
  stored s then is' kept =
      let some : 0 < now.shape.buckets = let one = one in let same = ap (λ (z : Shape). z.buckets) shape in omega arith in record {
        shape = ap (λ (z : OwnerState). z.shape) is' ∙ (shape ∙ m.shape);
        history = ap (λ (z : OwnerState). z.history) is' ∙ history;
        phase = ap (λ (z : OwnerState). z.phase) is' ∙ phase;
        first = ap (λ (z : OwnerState). entry_in z 0 0) is' ∙ entry_puts now s.wide 0 0 entry_of_a (omega arith) (omega arith);
        rest = λ slot l.
            ap (λ (z : OwnerState). entry_in z 0 (suc slot)) is'
            ∙ (entry_puts_other now s.wide 0 0 entry_of_a 0 (suc slot) (omega arith) l (inr (λ same. omega arith))
            ∙ empty (suc slot) l);
        item = λ i l.
            ap (λ (z : OwnerState). item_in z (0 + i)) is'
            ∙ (item_puts_entry now s.wide 0 0 entry_of_a (0 + i) (omega arith) (omega arith)
            ∙ (spelt i l ∙ ap (λ (z : OwnerState). slice_index (item_words z.shape.hashing 4 (97 ∷ []) (49 ∷ [])) i) (sym is')));
        kept = kept;
      }
