-- The key and the value of a pair, one behind the other; and a fault, as `?` hands it on.
use Rattle.std.proofs.Common.{◌≡◌, ℕ, List, sym, ap, subst, ◌∙◌}
use Rattle.std.specs.Prelude.{Option, Some, None, Result, Ok, Err, IsErrAnd}
use Rattle.saved_items.specs.declared.fault.SavedFault.{SavedFault}
use Rattle.saved_items.specs.declared.fault.SavedFault.TheVariants as faults
use Rattle.saved_items.specs.declared.items.Lengths.{Lengths}
use Rattle.saved_items.specs.Items.{Pair}
use Rattle.saved_items.specs.Reading.{Stream, bytes_at, texts_at, ◌>>=◌}
use Rattle.saved_items.specs.Moves.{Reads}

-- the fault that `?` hands on
pub handed_on : {X Y : Type 0} (view : X → Y) (fault : SavedFault) (result : Result X SavedFault) (old new : Option Stream) (read : Stream → Result (Y × Stream) SavedFault)
    → IsErrAnd result (λ e. e ≡ fault) → Reads view old new (let r : Result X SavedFault = Err fault in r) read → Reads view old new result read
handed_on view fault (Ok x) old new read is stops = absurd is
handed_on {X} view fault (Err e) old new read is stops = subst (λ (f : SavedFault). Reads view old new (let r : Result X SavedFault = Err f in r) read) (sym is) stops

abbrev Got : List ℕ → ℕ → Option Stream → Option Stream → Type 0
Got bytes n old new = Reads (λ (_ : Unit {0}). bytes) old new (let r : Result (Unit {0}) SavedFault = Ok tt in r) (bytes_at n)

abbrev Lost : List ℕ → ℕ → SavedFault → Option Stream → Option Stream → Type 0
Lost bytes n fault old new = Reads (λ (_ : Unit {0}). bytes) old new (let r : Result (Unit {0}) SavedFault = Err fault in r) (bytes_at n)

abbrev pair_with : Lengths → List ℕ → List ℕ → Pair
pair_with lengths key value = record { key = key; value = value; reads = lengths.reads; is_long = lengths.is_long }

-- what stands behind the key
abbrev with_key : Lengths → List ℕ × Stream → Result (Pair × Stream) SavedFault
with_key lengths key = bytes_at lengths.value_len key.1 >>= λ value. Ok (pair_with lengths key.0 value.0, value.1)

pub no_texts : (pair : Pair) (o : Option Lengths) (old new : Option Stream) → o ≡ None → Reads (λ (_ : Unit {0}). pair) old new (let r : Result (Unit {0}) SavedFault = Err faults.Length in r) (texts_at o)
unfolding texts_at
no_texts pair o None new is = tt
no_texts pair o (Some s) new is = λ told. ap (λ (l : Option Lengths). texts_at l s) is

module _ (lengths : Lengths) where
  key_lost : (pair : Pair) (bytes : List ℕ) (fault : SavedFault) (old mid new : Option Stream) → Lost bytes lengths.key_len fault old mid
      → Reads (λ (_ : Unit {0}). pair) old new (let r : Result (Unit {0}) SavedFault = Err fault in r) (texts_at (Some lengths))
  unfolding texts_at
  key_lost pair bytes fault None mid new lost = tt
  key_lost pair bytes fault (Some s) mid new lost = λ told. ap (λ (r : Result (List ℕ × Stream) SavedFault). r >>= with_key lengths) (lost told)

  value_lost : (pair : Pair) (key bytes : List ℕ) (fault : SavedFault) (old mid last new : Option Stream) → Got key lengths.key_len old mid → Lost bytes lengths.value_len fault mid last
      → Reads (λ (_ : Unit {0}). pair) old new (let r : Result (Unit {0}) SavedFault = Err fault in r) (texts_at (Some lengths))
  unfolding texts_at
  value_lost pair key bytes fault None mid last new got lost = tt
  value_lost pair key bytes fault (Some s) None last new got lost = absurd got
  value_lost pair key bytes fault (Some s) (Some m) last new got lost = λ told.
      ap (λ (r : Result (List ℕ × Stream) SavedFault). r >>= with_key lengths) got
      ∙ ap (λ (r : Result (List ℕ × Stream) SavedFault). r >>= λ value. Ok (pair_with lengths key value.0, value.1)) (lost told)

  texts_read : (key value : List ℕ) (old mid new : Option Stream) → Got key lengths.key_len old mid → Got value lengths.value_len mid new
      → Reads (λ (_ : Unit {0}). pair_with lengths key value) old new (let r : Result (Unit {0}) SavedFault = Ok tt in r) (texts_at (Some lengths))
  unfolding texts_at
  texts_read key value None mid new first second = tt
  texts_read key value (Some s) None new first second = absurd first
  texts_read key value (Some s) (Some m) None first second = absurd second
  texts_read key value (Some s) (Some m) (Some t) first second =
      ap (λ (r : Result (List ℕ × Stream) SavedFault). r >>= with_key lengths) first
      ∙ ap (λ (r : Result (List ℕ × Stream) SavedFault). r >>= λ v. Ok (pair_with lengths key v.0, v.1)) second

  module _ (o : Option Lengths) (is : o ≡ Some lengths) where
    pub no_key : (pair : Pair) (bytes : List ℕ) (fault : SavedFault) (result : Result (Unit {0}) SavedFault) (old mid new : Option Stream)
        → Lost bytes lengths.key_len fault old mid → IsErrAnd result (λ e. e ≡ fault) → Reads (λ (_ : Unit {0}). pair) old new result (texts_at o)
    no_key pair bytes fault result old mid new lost handed =
        subst (λ (l : Option Lengths). Reads (λ (_ : Unit {0}). pair) old new result (texts_at l)) (sym is)
        (handed_on (λ (_ : Unit {0}). pair) fault result old new (texts_at (Some lengths)) handed (key_lost pair bytes fault old mid new lost))

    pub no_value : (pair : Pair) (key bytes : List ℕ) (fault : SavedFault) (result : Result (Unit {0}) SavedFault) (old mid last new : Option Stream)
        → Got key lengths.key_len old mid → Lost bytes lengths.value_len fault mid last → IsErrAnd result (λ e. e ≡ fault) → Reads (λ (_ : Unit {0}). pair) old new result (texts_at o)
    no_value pair key bytes fault result old mid last new got lost handed =
        subst (λ (l : Option Lengths). Reads (λ (_ : Unit {0}). pair) old new result (texts_at l)) (sym is)
        (handed_on (λ (_ : Unit {0}). pair) fault result old new (texts_at (Some lengths)) handed (value_lost pair key bytes fault old mid last new got lost))

    pub both_texts : (key value : List ℕ) (old mid new : Option Stream) → Got key lengths.key_len old mid → Got value lengths.value_len mid new
        → Reads (λ (_ : Unit {0}). pair_with lengths key value) old new (let r : Result (Unit {0}) SavedFault = Ok tt in r) (texts_at o)
    both_texts key value old mid new first second =
        subst (λ (l : Option Lengths). Reads (λ (_ : Unit {0}). pair_with lengths key value) old new (let r : Result (Unit {0}) SavedFault = Ok tt in r) (texts_at l)) (sym is) (texts_read key value old mid new first second)
