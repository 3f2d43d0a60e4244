-- The words of an item put in four parts: its header, its hash, its key and its value.
use Rattle.std.proofs.lemmas.Grind.{common_steps}
use Rattle.partition_words.proofs.Vocabulary.{CanPlay, HasKeyWords, Kept, KeyFits, List, MayPutWord, OwnerState, PutsWord, [], after, ap, arith, hash_of}
use Rattle.partition_words.proofs.Vocabulary.{get_or, header_of, item_at, item_events, item_in, length, length-packed, packed, plays, puts_from, refl}
use Rattle.partition_words.proofs.Vocabulary.{set-get_or, suc, sym, zero, ℕ, ◌+◌, ◌<◌, ◌∙◌, ◌∷◌, ◌≡◌}
use Rattle.mica_words.specs.Spelling.{item_words}
use Rattle.partition_words.proofs.EventWords.{other}
use Rattle.partition_words.proofs.Log.{not_below}
use Rattle.partition_words.proofs.Puts.{can_play-append, plays-append}

-- the state once the header is put, once the hash is too, and once the key is too

abbrev pub headed : OwnerState → ℕ → ℕ → List ℕ → List ℕ → OwnerState
headed o p room key value = after (PutsWord p (header_of room (length key) (length value))) o

abbrev pub hashed : OwnerState → ℕ → ℕ → List ℕ → List ℕ → OwnerState
hashed o p room key value = after (PutsWord (p + 1) (hash_of o.shape.hashing key)) (headed o p room key value)

abbrev pub keyed : OwnerState → ℕ → ℕ → List ℕ → List ℕ → OwnerState
keyed o p room key value = plays (puts_from (p + 2) (packed key)) (hashed o p room key value)

-- each part may be put where the whole may
pub record CanPut (o : OwnerState) (p room : ℕ) (key value : List ℕ) : Type 0 where
  pub header : MayPutWord o p
  pub hash : MayPutWord (headed o p room key value) (p + 1)
  pub key_words : CanPlay (puts_from (p + 2) (packed key)) (hashed o p room key value)
  pub value_words : CanPlay (puts_from (p + 2 + length (packed key)) (packed value)) (keyed o p room key value)

-- words that are there already change nothing
there_already : (o : OwnerState) (p : ℕ) (xs : List ℕ) → ((i : ℕ) → i < length xs → item_in o (p + i) ≡ get_or xs i 0) → plays (puts_from p xs) o ≡ o
there_already o p [] same = refl
there_already o p (x ∷ xs) same =
    let first : x ≡ item_in o p = sym (same 0 (omega arith)) ∙ ap (item_in o) (omega arith) in
    let stays : after (PutsWord p x) o ≡ o =
    ap (λ (z : ℕ). after (PutsWord p z) o) first
    ∙ ap (λ (z : List ℕ). record o { words = z }) (set-get_or o.words (item_at o.shape p) 0) in
    ap (plays (puts_from (p + 1) xs)) stays
    ∙ there_already o (p + 1) xs (λ i l. ap (item_in o) (omega arith) ∙ same (suc i) (omega arith))

module _ (o : OwnerState) (p room : ℕ) (key value : List ℕ) where
  pub can_put_parts : CanPlay (item_events o.shape.hashing p room key value) o → CanPut o p room key value
  unfolding item_words
  can_put_parts can = grind (arith, common_steps, can_play-append)

  pub all_put : plays (puts_from (p + 2 + length (packed key)) (packed value)) (keyed o p room key value) ≡ plays (item_events o.shape.hashing p room key value) o
  unfolding item_words
  all_put = grind (arith, common_steps, plays-append (hashed o p room key value) (p + 2) (packed key) (packed value))

  -- where the hash and the key are there, the header and the value are all that has to be put
  pub key_stays : Kept o → KeyFits key → HasKeyWords o p key → keyed o p room key value ≡ headed o p room key value
  key_stays s fits there =
      ap (λ (z : ℕ). plays (puts_from z (packed key)) (hashed o p room key value)) (omega arith)
      ∙ there_already (headed o p room key value) (p + 1) (hash_of o.shape.hashing key ∷ packed key) (λ i l.
      other o (PutsWord p _) (item_at o.shape (p + 1 + i)) (λ same. not_below o.shape.words p (p + 1 + i) (omega arith) (omega arith)
      (omega (arith, length-packed key, fits.1, s.shape.ranges.words.0)))
      ∙ is_there i l)
    where
      is_there : (i : ℕ) → i < length (hash_of o.shape.hashing key ∷ packed key) → item_in o (p + 1 + i) ≡ get_or (hash_of o.shape.hashing key ∷ packed key) i 0
      is_there zero l = ap (item_in o) (omega arith) ∙ there.hash
      is_there (suc i) l = ap (item_in o) (omega arith) ∙ there.words i (omega (arith, length-packed key))
