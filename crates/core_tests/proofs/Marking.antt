-- The put of `a` may be marked where it is begun in words as made, and what its mark makes of them.
use Rattle.std.proofs.Common.{◌≡◌, ℕ, zero, suc, ◌<◌, [], ◌∷◌, ◌++◌, refl, sym, ap, ◌∙◌, subst, arith}
use Rattle.std.proofs.lemmas.List.{length-replicate, get_or-replicate}
use Rattle.mica_words.specs.declared.hashing.Hashing.TheVariants.{Fnv1a}
use Rattle.mica_words.specs.Packing.{AreBytes}
use Rattle.mica_words.proofs.Hashes.{bucket_of-below}
use Rattle.mica_words.specs.Hash.{bucket_of}
use Rattle.partition_model.specs.declared.write.Outcome.TheVariants.{Stored}
use Rattle.partition_model.specs.Cache as cache
use Rattle.partition_model.specs.CacheStep as cs
use Rattle.partition_model.specs.History.{History, IsAcceptedAfter, stamp_of}
use Rattle.partition_model.specs.Write.{IsWrite}
use Rattle.partition_words.specs.declared.shape.Shape.{Shape}
use Rattle.partition_words.specs.declared.state.OwnerState.{OwnerState}
use Rattle.partition_words.specs.declared.state.Phase.TheVariants.{Begun, Marked}
use Rattle.partition_words.specs.declared.event.Event.TheVariants.{Begins, Marks}
use Rattle.partition_words.specs.Shape.{options_of}
use Rattle.partition_words.specs.Layout.{word_count, entry_at}
use Rattle.partition_words.specs.OwnerState.{as_made, bucket_in, entry_in}
use Rattle.partition_words.specs.Events.{MayMark, after}
use Rattle.partition_words.specs.Kept.{Kept}
use Rattle.partition_words.proofs.EventWords.{entry_begins, entry_marks}
use Rattle.core_tests.specs.CachePut.{one_bucket, put_of_a, IsMarked}

byte : (x : ℕ) → x < 256 → AreBytes (x ∷ [])
byte x l zero = l
byte x l (suc k) = omega arith

is_write : IsWrite put_of_a
is_write = record {
  key = (omega arith, omega arith);
  key_bytes = byte 97 (omega arith);
  value = omega arith;
  value_bytes = byte 49 (omega arith);
}

accepted : IsAcceptedAfter (options_of one_bucket) [] put_of_a
unfolding cache.start cs.reply
accepted = (Stored, refl, refl)

stamped : ◌≡◌ {A = ℕ} 262144 (stamp_of (options_of one_bucket) (put_of_a ∷ []))
unfolding cache.start cs.after
stamped = refl

pub its_bucket : (o : OwnerState) → o.shape ≡ one_bucket → bucket_in o (97 ∷ []) ≡ 0
its_bucket o shape =
    let below = bucket_of-below Fnv1a (97 ∷ []) 1 (omega arith) in
    ap (λ (z : Shape). bucket_of z.hashing (97 ∷ []) z.buckets) shape ∙ (omega arith)

-- the put is begun, and nothing was stored before
record IsBegun (o : OwnerState) : Type 0 where
  shape : o.shape ≡ one_bucket
  history : o.history ≡ []
  phase : o.phase ≡ Begun 0
  empty : (slot : ℕ) → slot < 15 → entry_in o 0 slot ≡ 0

begun : (old now : OwnerState) → old ≡ as_made one_bucket → now ≡ after (Begins 0) old → IsBegun now
begun old now made is = subst IsBegun (sym (is ∙ ap (after (Begins 0)) made)) (record {
  shape = refl;
  history = refl;
  phase = refl;
  empty = λ slot l.
      entry_begins (as_made one_bucket) (length-replicate {A = ℕ} (word_count one_bucket) 0) 0 0 slot (omega arith) l
      ∙ get_or-replicate {A = ℕ} (word_count one_bucket) (entry_at one_bucket 0 slot) 0 0 (omega arith);
})

module _ (old o : OwnerState) (made : old ≡ as_made one_bucket) (is : o ≡ after (Begins 0) old) where
  abbrev b : IsBegun o
  b = begun old o made is

  pub may_mark : MayMark o put_of_a 262144
  may_mark = record {
    begun = b.phase ∙ ap Begun (sym (its_bucket o b.shape));
    fits = is_write;
    accepted = subst (λ (z : Shape). IsAcceptedAfter (options_of z) o.history put_of_a) (sym b.shape)
        (subst (λ (z : History). IsAcceptedAfter (options_of one_bucket) z put_of_a) (sym b.history) accepted);
    stamp = subst (λ (z : Shape). 262144 ≡ stamp_of (options_of z) (o.history ++ put_of_a ∷ [])) (sym b.shape)
        (subst (λ (z : History). 262144 ≡ stamp_of (options_of one_bucket) (z ++ put_of_a ∷ [])) (sym b.history) stamped);
  }

  pub marked : Kept o → (now : OwnerState) → now ≡ after (Marks put_of_a 262144) o → Kept now → IsMarked now
  marked s now is kept = record {
    shape = ap (λ (z : OwnerState). z.shape) is ∙ b.shape;
    phase = ap (λ (z : OwnerState). z.phase) is
        ∙ (ap (λ (z : ℕ). Marked z put_of_a o.history) (its_bucket o b.shape) ∙ ap (Marked 0 put_of_a) b.history);
    empty = λ slot l.
        ap (λ (z : OwnerState). entry_in z 0 slot) is ∙ (entry_marks o s.wide put_of_a 262144 0 slot ∙ b.empty slot l);
    kept = kept;
  }
