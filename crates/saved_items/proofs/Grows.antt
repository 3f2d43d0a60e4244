-- What is behind what was read changes nothing of it.
use Rattle.std.proofs.Common.{◌≡◌, ℕ, ◌%◌, ◌≤◌, Bool, true, false, cond, not, ltb, eqb, List, ◌++◌, length, take, drop, refl, sym, ap, ◌∙◌, arith}
use Rattle.std.specs.Prelude.{Option, Some, None, Result, Ok, Err}
use Rattle.std.specs.Int.{w64, from_le_bytes}
use Rattle.std.proofs.lemmas.Bool.{ltb-false, le-ltb}
use Rattle.std.proofs.lemmas.List.{length-append, drop-append-le, take-append-le}
use Rattle.mica_words.specs.Packing.{packed}
use Rattle.saved_items.specs.declared.fault.SavedFault.{SavedFault}
use Rattle.saved_items.specs.declared.fault.SavedFault.TheVariants as faults
use Rattle.saved_items.specs.declared.items.Lengths.{Lengths}
use Rattle.saved_items.specs.Items.{Keeps, Closes}
use Rattle.saved_items.specs.Reading.{Stream, Stop, stop_fault, bytes_at, word_at, with_rest, head_in, head_at, closing_in, closing_at, lengths_in, texts_at, behind_word, entry_at, ◌>>=◌}

-- more content, and another stop
abbrev pub longer : Stream → List ℕ → Stop → Stream
longer s more stop = record { content = s.content ++ more; stop = stop }

abbrev pub Grows : {A : Type 0} → (Stream → Result (A × Stream) SavedFault) → Type 0
Grows {A} read = (s t : Stream) (a : A) (more : List ℕ) (stop : Stop) → read s ≡ Ok (a, t) → (t.stop ≡ s.stop) × (read (longer s more stop) ≡ Ok (a, longer t more stop))

chosen : {X : Type 0} (b : Bool) (fault : SavedFault) (x y : X) → cond b (let r : Result X SavedFault = Err fault in r) (Ok x) ≡ Ok y → (b ≡ false) × (x ≡ y)
chosen true fault x y e = absurd cc
chosen false fault x y e = (refl, cc)

grows_bytes : (n : ℕ) → Grows (bytes_at n)
grows_bytes n s t a more stop e =
    let found = chosen (ltb (length s.content) n) (stop_fault s.stop) (take n s.content, record { content = drop n s.content; stop = s.stop }) (a, t) e in
    let enough : n ≤ length s.content = ltb-false (length s.content) n found.0 in
    let still : ltb (length (s.content ++ more)) n ≡ false = le-ltb (length (s.content ++ more)) n (omega (arith, length-append s.content more)) in
    let front : take n s.content ≡ a = ap (λ (p : List ℕ × Stream). p.0) found.1 in
    let behind : (let r : Stream = record { content = drop n s.content; stop = s.stop } in r) ≡ t = ap (λ (p : List ℕ × Stream). p.1) found.1 in (
      ap (λ (r : Stream). r.stop) (sym behind),
      rw (still, take-append-le n s.content more enough, drop-append-le n s.content more enough, front) (ap (λ (r : Stream). let w : Result (List ℕ × Stream) SavedFault = Ok (a, longer r more stop) in w) behind),
    )

parted : {A B : Type 0} (r : Result (A × Stream) SavedFault) (f : A × Stream → Result B SavedFault) (b : B) → r >>= f ≡ Ok b → (x : A × Stream) × (r ≡ Ok x) × (f x ≡ Ok b)
parted (Ok x) f b e = (x, refl, e)
parted (Err fault) f b e = absurd cc

-- one reader behind another
grows_then : {A B : Type 0} (read : Stream → Result (A × Stream) SavedFault) (on : A → Stream → Result (B × Stream) SavedFault) → Grows read → ((a : A) → Grows (on a)) → Grows (λ s. read s >>= λ x. on x.0 x.1)
grows_then {A} {B} read on first second s t b more stop e =
    let parts = parted (read s) (λ x. on x.0 x.1) (b, t) e in
    let one = first s parts.0.1 parts.0.0 more stop parts.1 in
    let two = second parts.0.0 parts.0.1 t b more stop parts.2 in
    (two.0 ∙ one.0, ap (λ (r : Result (A × Stream) SavedFault). r >>= λ x. on x.0 x.1) one.1 ∙ two.1)

grows_given : {A : Type 0} (r : Result A SavedFault) → Grows (λ s. with_rest s r)
grows_given {A} (Ok x) s t a more stop e =
    let is : (x, s) ≡ (a, t) = cc in
    (ap (λ (p : A × Stream). p.1.stop) (sym is), ap (λ (p : A × Stream). let w : Result (A × Stream) SavedFault = Ok (p.0, longer p.1 more stop) in w) is)
grows_given {A} (Err fault) s t a more stop e = absurd cc

grows_cond : {A : Type 0} (b : Bool) (x y : Stream → Result (A × Stream) SavedFault) → Grows x → Grows y → Grows (λ s. cond b (x s) (y s))
grows_cond true x y first second = first
grows_cond false x y first second = second

grows_fault : {A : Type 0} (fault : SavedFault) → Grows {A = A} (λ s. Err fault)
grows_fault {A} fault s t a more stop e = absurd cc

pub grows_head : Grows head_at
unfolding head_at
grows_head = grows_then (bytes_at 56) (λ bytes s. with_rest s (head_in (packed bytes))) (grows_bytes 56) (λ bytes. grows_given (head_in (packed bytes)))

grows_texts : (lengths : Option Lengths) → Grows (texts_at lengths)
unfolding texts_at
grows_texts None = grows_fault faults.Length
grows_texts (Some lengths) =
    grows_then (bytes_at lengths.key_len) (λ key s. bytes_at lengths.value_len s >>= λ value. Ok (record { key = key; value = value.0; reads = lengths.reads; is_long = lengths.is_long }, value.1)) (grows_bytes lengths.key_len)
    (λ key. grows_then (bytes_at lengths.value_len) (λ value s. Ok (record { key = key; value = value; reads = lengths.reads; is_long = lengths.is_long }, s)) (grows_bytes lengths.value_len)
    (λ value. grows_given (Ok (record { key = key; value = value; reads = lengths.reads; is_long = lengths.is_long }))))

grows_closing : Grows closing_at
unfolding closing_at
grows_closing = grows_then (bytes_at 24) (λ bytes s. with_rest s (closing_in (packed bytes))) (grows_bytes 24) (λ bytes. grows_given (closing_in (packed bytes)))

grows_behind : (close word : ℕ) → Grows (behind_word close word)
grows_behind close word =
    grows_cond (not (eqb (word % 256) 0)) (λ s. texts_at (lengths_in word) s >>= λ pair. Ok (Keeps pair.0, pair.1))
    (λ s. cond (eqb word close) (closing_at s >>= λ closing. Ok (Closes closing.0, closing.1)) (Err faults.Count))
    (grows_then (texts_at (lengths_in word)) (λ pair s. Ok (Keeps pair, s)) (grows_texts (lengths_in word)) (λ pair. grows_given (Ok (Keeps pair))))
    (grows_cond (eqb word close) (λ s. closing_at s >>= λ closing. Ok (Closes closing.0, closing.1)) (λ s. Err faults.Count)
    (grows_then closing_at (λ closing s. Ok (Closes closing, s)) grows_closing (λ closing. grows_given (Ok (Closes closing)))) (grows_fault faults.Count))

pub grows_entry : (close : ℕ) → Grows (entry_at close)
unfolding entry_at
grows_entry close =
    grows_then word_at (λ word s. behind_word close word s)
    (grows_then (bytes_at 8) (λ bytes s. Ok (from_le_bytes w64 bytes, s)) (grows_bytes 8) (λ bytes. grows_given (Ok (from_le_bytes w64 bytes))))
    (λ word. grows_behind close word)
