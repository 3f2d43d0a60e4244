-- What a look at one slot tells.
use Rattle.std.proofs.Common.{◌≡◌, ◌≢◌, ℕ, ◌+◌, ◌<◌, ◌≤◌, List, sym, ap, ◌∙◌, subst₂, arith}
use Rattle.mica_words.specs.Hash.{hash_of, hash_tag, tag_of}
use Rattle.mica_words.specs.Entry.{entry_tag, entry_offset}
use Rattle.mica_words.specs.Stamp.{tail_of}
use Rattle.mica_words.specs.declared.entry.TheConstants.{SLOTS}
use Rattle.mica_words.proofs.Hashes.{tag_of_hash}
use Rattle.partition_words.specs.declared.state.OwnerState.{OwnerState}
use Rattle.partition_words.specs.OwnerState.{stamp_in, entry_in}
use Rattle.partition_words.specs.ItemAt.{HasKey}
use Rattle.lossy_index.specs.Slot.{IsSlotOf}

-- what is known before the first slot: the key's tag, the tail, and how many words the log has
pub record Seeks (o : OwnerState) (key : List ℕ) (tag tail words : ℕ) : Type 0 where
  pub tag_is : tag ≡ tag_of o.shape.hashing key
  pub tail_is : tail ≡ tail_of (stamp_in o)
  pub words_are : words ≡ o.shape.words

pub seeks : (o : OwnerState) (key : List ℕ) (hash tag stamp tail words : ℕ) → hash ≡ hash_of o.shape.hashing key → tag ≡ hash_tag hash
    → stamp ≡ stamp_in o → tail ≡ tail_of stamp → words ≡ o.shape.words → Seeks o key tag tail words
seeks o key hash tag stamp tail words is_hash is_tag is_stamp is_tail is_words = record {
  tag_is = is_tag ∙ (ap hash_tag is_hash ∙ sym (tag_of_hash o.shape.hashing key));
  tail_is = is_tail ∙ ap tail_of is_stamp;
  words_are = is_words;
}

-- the entry of a slot, and the offset in it
pub record Looks (o : OwnerState) (b slot : ℕ) (key : List ℕ) (tag tail words entry offset : ℕ) : Type 0 where
  pub seeks : Seeks o key tag tail words
  pub entry_is : entry ≡ entry_in o b slot
  pub offset_is : offset ≡ entry_offset (entry_in o b slot)

pub looks : (o now : OwnerState) → now ≡ o → (b slot : ℕ) (key : List ℕ) (tag tail words entry offset : ℕ) → Seeks o key tag tail words
    → entry ≡ entry_in now b slot → offset ≡ entry_offset entry → Looks o b slot key tag tail words entry offset
looks o now same b slot key tag tail words entry offset s read at =
    let entry_is = read ∙ ap (λ (z : OwnerState). entry_in z b slot) same in
    record { seeks = s; entry_is = entry_is; offset_is = at ∙ ap entry_offset entry_is }

module _ (o : OwnerState) (b slot : ℕ) (key : List ℕ) (tag tail words entry offset : ℕ) (l : Looks o b slot key tag tail words entry offset) where
  pub found : slot < SLOTS → entry_tag entry ≡ tag → tail ≤ offset + words → (z : OwnerState) → z ≡ o → HasKey z offset key → IsSlotOf o b key slot
  found small tags live z is has = record {
    in_bucket = small;
    tag = ap entry_tag (sym l.entry_is) ∙ (tags ∙ l.seeks.tag_is);
    live = omega (arith, live, l.offset_is, l.seeks.tail_is, l.seeks.words_are);
    item = subst₂ (λ (n : OwnerState) (x : ℕ). HasKey n x key) is l.offset_is has;
  }

  pub of_other_tag : entry_tag entry ≢ tag → ¬ (IsSlotOf o b key slot)
  of_other_tag other is = other (ap entry_tag l.entry_is ∙ (is.tag ∙ sym l.seeks.tag_is))

  pub passed : offset + words < tail → ¬ (IsSlotOf o b key slot)
  passed gone is = omega (arith, gone, is.live, l.offset_is, l.seeks.tail_is, l.seeks.words_are)

  pub of_other_key : (z : OwnerState) → z ≡ o → ¬ (HasKey z offset key) → ¬ (IsSlotOf o b key slot)
  of_other_key z same other is = other (subst₂ (λ (n : OwnerState) (x : ℕ). HasKey n x key) (sym same) (sym l.offset_is) is.item)
