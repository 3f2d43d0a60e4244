-- Whether nothing but zeros is left.
use Rattle.std.proofs.Common.{◌≡◌, ℕ, suc, ◌+◌, ◌-◌, ◌/◌, ◌<◌, ◌≤◌, Bool, true, false, ltb, eqb, List, [], ◌∷◌, ◌++◌, length, take, drop, refl, ap, subst, ◌∙◌, arith}
use Rattle.std.specs.Prelude.{Option, Some, None, Result, Ok, Err, ◌&&◌}
use Rattle.std.specs.List.{list_all}
use Rattle.std.specs.Io.KnownBytes.{Consumes, IsAtEnd}
use Rattle.std.proofs.lemmas.Bool.{lt-ltb, le-ltb, ltb-false, ne_eqb}
use Rattle.std.proofs.lemmas.List.{append-nil, drop-take, length-append, length-take}
use Rattle.saved_items.specs.declared.blocks.TheConstants.{CONTENT_LEN}
use Rattle.saved_items.specs.declared.fault.SavedFault.{SavedFault}
use Rattle.saved_items.specs.declared.fault.SavedFault.TheVariants as faults
use Rattle.saved_items.specs.Blocks.{content_sum}
use Rattle.saved_items.specs.Reading.{Stream, AtEnd, Within, OtherSum, with_front, is_at_end, only_zeros, told_sum, blocks_at, stream_at}
use Rattle.saved_items.specs.Moves.{stream_in, Ends}
use Rattle.saved_items.proofs.Streams.{stream_empty, stopped}
use Rattle.saved_items.proofs.Words.{blocks_step, blocks_are}

-- ---- some of it is no zero, or a whole block of it is there

last_not : (a b : Bool) → (a && b && false) ≡ false
last_not true true = refl
last_not true false = refl
last_not false true = refl
last_not false false = refl

mid_not : (a c : Bool) → (a && false && c) ≡ false
mid_not true true = refl
mid_not true false = refl
mid_not false true = refl
mid_not false false = refl

first_not : (b c : Bool) → (false && b && c) ≡ false
first_not true true = refl
first_not true false = refl
first_not false true = refl
first_not false false = refl

front_not : (rest more : List ℕ) → list_all (λ byte. eqb byte 0) rest ≡ false → list_all (λ byte. eqb byte 0) (rest ++ more) ≡ false
front_not [] more e = absurd cc
front_not (byte ∷ rest) more e = by (eqb byte 0) (front_not rest more) e
  where
    by : (b : Bool) → (list_all (λ byte. eqb byte 0) rest ≡ false → list_all (λ byte. eqb byte 0) (rest ++ more) ≡ false)
        → (b && list_all (λ byte. eqb byte 0) rest) ≡ false → (b && list_all (λ byte. eqb byte 0) (rest ++ more)) ≡ false
    by true next f = next f
    by false next f = refl

pub ends_other : (left : Option (List ℕ)) (sum : ℕ) (rest : List ℕ) → list_all (λ byte. eqb byte 0) rest ≡ false → Ends (let r : Result (Unit {0}) SavedFault = Err faults.Trailing in r) (stream_in left sum rest)
ends_other None sum rest e = tt
ends_other (Some file) sum rest e = λ told.
    let s = stream_at sum file in
    (ap (λ (c : Bool). is_at_end s.stop && ltb (length (rest ++ s.content)) CONTENT_LEN && c) (front_not rest s.content e) ∙ last_not (is_at_end s.stop) (ltb (length (rest ++ s.content)) CONTENT_LEN), refl)

long_not : (s : Stream) → CONTENT_LEN ≤ length s.content → only_zeros s ≡ false
long_not s long =
    ap (λ (b : Bool). is_at_end s.stop && b && list_all (λ byte. eqb byte 0) s.content) (le-ltb (length s.content) CONTENT_LEN long) ∙ mid_not (is_at_end s.stop) (list_all (λ byte. eqb byte 0) s.content)

pub ends_full : (left : Option (List ℕ)) (sum : ℕ) (rest : List ℕ) → CONTENT_LEN ≤ length rest → Ends (let r : Result (Unit {0}) SavedFault = Err faults.Trailing in r) (stream_in left sum rest)
ends_full None sum rest long = tt
ends_full (Some file) sum rest long = λ told. (long_not (with_front rest (stream_at sum file)) (omega (arith, long, length-append rest (stream_at sum file).content)), refl)

-- what is left of a block, as a part of it
pub rest_is : (at : ℕ) (block : List ℕ) → at ≤ 65528 → drop at (take 65528 block) ≡ take (65528 - at) (drop at block)
rest_is at block within =
    subst (λ (n : ℕ). drop at (take n block) ≡ take (65528 - at) (drop at block)) (let e : at + (65528 - at) ≡ 65528 = omega arith in e) (drop-take at (65528 - at) block)

-- ---- something is behind the block

stops_not : (s : Stream) → is_at_end s.stop ≡ false → only_zeros s ≡ false
stops_not s e = ap (λ (a : Bool). a && ltb (length s.content) CONTENT_LEN && list_all (λ byte. eqb byte 0) s.content) e ∙ first_not (ltb (length s.content) CONTENT_LEN) (list_all (λ byte. eqb byte 0) s.content)

some_step : (n sum : ℕ) (file rest : List ℕ) (short told : Bool) → ltb (length file) 65536 ≡ short → only_zeros (with_front rest (blocks_step n sum file false short told)) ≡ false
some_step n sum file rest true told e = stops_not (with_front rest (stopped Within)) refl
some_step n sum file rest false true e =
    let more = blocks_at n (content_sum sum (take 65528 file)) (drop 65536 file) in
    long_not (with_front rest (with_front (take 65528 file) more))
    (omega (arith, ltb-false (length file) 65536 e, length-take 65528 file, length-append (take 65528 file) more.content, length-append rest (take 65528 file ++ more.content)))
some_step n sum file rest false false e = stops_not (with_front rest (stopped OtherSum)) refl

some_not : (sum : ℕ) (byte : ℕ) (file rest : List ℕ) → only_zeros (with_front rest (stream_at sum (byte ∷ file))) ≡ false
unfolding stream_at
some_not sum byte file rest =
    let n : ℕ = length (byte ∷ file) / 65536 in
    let count : n + 1 ≡ suc n = omega arith in
    ap (λ (k : ℕ). only_zeros (with_front rest (blocks_at k sum (byte ∷ file)))) count
    ∙ ap (λ (s : Stream). only_zeros (with_front rest s)) (blocks_are n sum (byte ∷ file))
    ∙ ap (λ (b : Bool). only_zeros (with_front rest (blocks_step n sum (byte ∷ file) b (ltb (length (byte ∷ file)) 65536) (eqb (told_sum (byte ∷ file)) (content_sum sum (take 65528 (byte ∷ file)))))))
    (ne_eqb (length (byte ∷ file)) 0 (λ e. omega (arith, e)))
    ∙ some_step n sum (byte ∷ file) rest (ltb (length (byte ∷ file)) 65536) (eqb (told_sum (byte ∷ file)) (content_sum sum (take 65528 (byte ∷ file)))) refl

pub ends_behind : (left left' : Option (List ℕ)) (sum : ℕ) (rest bytes : List ℕ) → Consumes left left' bytes → 0 < length bytes → Ends (let r : Result (Unit {0}) SavedFault = Err faults.Trailing in r) (stream_in left sum rest)
ends_behind None left' sum rest bytes consumed some = tt
ends_behind (Some file) None sum rest bytes consumed some = absurd consumed
ends_behind (Some file) (Some file') sum rest [] consumed some = absurd (omega arith)
ends_behind (Some file) (Some file') sum rest (byte ∷ bytes) consumed some = λ told.
    (ap (λ (f : List ℕ). only_zeros (with_front rest (stream_at sum f))) consumed ∙ some_not sum byte (bytes ++ file') rest, refl)

-- ---- nothing is

zeros_yes : (rest : List ℕ) → length rest < CONTENT_LEN → list_all (λ byte. eqb byte 0) rest ≡ true → only_zeros (record { content = rest ++ []; stop = AtEnd }) ≡ true
zeros_yes rest short zeros =
    let less : ltb (length rest) CONTENT_LEN ≡ true = lt-ltb (length rest) CONTENT_LEN short in
    ap (λ (c : List ℕ). only_zeros (record { content = c; stop = AtEnd })) (append-nil rest) ∙ rw (less, zeros) refl

pub ends_whole : (left left' : Option (List ℕ)) (sum : ℕ) (rest bytes : List ℕ) → Consumes left left' bytes → length bytes ≡ 0 → IsAtEnd left' → length rest < CONTENT_LEN
    → list_all (λ byte. eqb byte 0) rest ≡ true → Ends (let r : Result (Unit {0}) SavedFault = Ok tt in r) (stream_in left sum rest)
ends_whole None left' sum rest bytes consumed none ended short zeros = tt
ends_whole (Some file) None sum rest bytes consumed none ended short zeros = absurd consumed
ends_whole (Some file) (Some file') sum rest (byte ∷ bytes) consumed none ended short zeros = absurd (omega arith)
ends_whole (Some file) (Some file') sum rest [] consumed none ended short zeros =
    let empty : file ≡ [] = consumed ∙ ended in
    ap (λ (f : List ℕ). only_zeros (with_front rest (stream_at sum f))) empty ∙ ap (λ (s : Stream). only_zeros (with_front rest s)) (stream_empty sum) ∙ zeros_yes rest short zeros
