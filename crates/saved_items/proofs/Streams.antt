-- What a source's bytes give, a block at a time.
use Rattle.std.proofs.Common.{◌≡◌, ℕ, suc, ◌+◌, ◌-◌, ◌/◌, ◌<◌, ◌≤◌, Bool, true, false, cond, ltb, eqb, List, [], ◌∷◌, ◌++◌, length, take, drop, refl, sym, ap, subst, ◌∙◌, arith, append_assoc}
use Rattle.std.specs.Prelude.{Option, Some, None, Result, Ok, Err, IsErrAnd}
use Rattle.std.specs.Int.{w64, from_le_bytes}
use Rattle.std.specs.Io.KnownBytes.{Consumes, IsAtEnd}
use Rattle.std.proofs.lemmas.Bool.{le-ltb, lt-ltb, ne_eqb}
use Rattle.std.proofs.lemmas.List.{append-nil, take_all, drop_all, drop-drop, drop-take, length-append, length-drop, length-take, drop-append-le, take-append-le}
use Rattle.std.proofs.Math.Seq.{take-add, drop-append_seam, take-append_seam}
use Rattle.saved_items.specs.declared.fault.SavedFault.{SavedFault}
use Rattle.saved_items.specs.declared.fault.SavedFault.TheVariants as faults
use Rattle.saved_items.specs.Blocks.{content_sum}
use Rattle.saved_items.specs.Reading.{Stream, Stop, AtEnd, Within, OtherSum, with_front, told_sum, sum_after, blocks_at, stream_at, stop_fault, bytes_at}
use Rattle.saved_items.specs.Moves.{stream_in, Yields, Stops, Reads}

abbrev pub stopped : Stop → Stream
stopped stop = record { content = []; stop = stop }

-- one step, where a whole block is there
abbrev step : ℕ → ℕ → List ℕ → Bool → Stream
step n sum file is_told = cond is_told (with_front (take 65528 file) (blocks_at n (content_sum sum (take 65528 file)) (drop 65536 file))) (stopped OtherSum)

blocks_at-step : (n sum : ℕ) (file : List ℕ) → 65536 ≤ length file → blocks_at (suc n) sum file ≡ step n sum file (eqb (told_sum file) (content_sum sum (take 65528 file)))
unfolding blocks_at
blocks_at-step n sum file long =
    let some : eqb (length file) 0 ≡ false = ne_eqb (length file) 0 (λ e. omega (arith, e, long)) in
    let whole : ltb (length file) 65536 ≡ false = le-ltb (length file) 65536 long in
    rw (some, whole) refl

blocks_at-short : (n sum : ℕ) (file : List ℕ) → length file < 65536 → (stop : Stop) × (blocks_at (suc n) sum file ≡ stopped stop) × (stop_fault stop ≡ faults.Short)
unfolding blocks_at
blocks_at-short n sum [] short = (AtEnd, refl, refl)
blocks_at-short n sum (byte ∷ file) short =
    let part : ltb (length (byte ∷ file)) 65536 ≡ true = lt-ltb (length (byte ∷ file)) 65536 short in
    let some : eqb (length (byte ∷ file)) 0 ≡ false = ne_eqb (length (byte ∷ file)) 0 (λ e. omega (arith, e)) in
    (Within, rw (some, part) refl, refl)

told_some : (b : Bool) (next n : ℕ) → cond b (Some next) None ≡ Some n → (b ≡ true) × (next ≡ n)
told_some true next n e = (refl, cc)
told_some false next n e = absurd cc

told_none : (b : Bool) (next : ℕ) → cond b (Some next) None ≡ None → b ≡ false
told_none true next e = absurd cc
told_none false next e = refl

-- the block at the front of a file, and what is behind it
module _ (sum : ℕ) (block rest : List ℕ) (whole : length block ≡ 65536) where
  content_same : take 65528 (block ++ rest) ≡ take 65528 block
  content_same = take-append-le 65528 block rest (omega arith)

  rest_same : drop 65536 (block ++ rest) ≡ rest
  rest_same = subst (λ (n : ℕ). drop n (block ++ rest) ≡ rest) whole (drop-append_seam block rest)

  pub told_same : told_sum (block ++ rest) ≡ told_sum block
  told_same =
      let past : drop 65528 (block ++ rest) ≡ drop 65528 block ++ rest = drop-append-le 65528 block rest (omega arith) in
      let eight : length (drop 65528 block) ≡ 8 = omega (arith, length-drop 65528 block) in
      let words : take 8 (drop 65528 (block ++ rest)) ≡ take 8 (drop 65528 block) = ap (take 8) past ∙ take-append-le 8 (drop 65528 block) rest (omega arith) in
      ap (from_le_bytes w64) words

  stream_step : stream_at sum (block ++ rest) ≡ step (length rest / 65536 + 1) sum (block ++ rest) (eqb (told_sum (block ++ rest)) (content_sum sum (take 65528 (block ++ rest))))
  unfolding stream_at
  stream_step =
      let long : length (block ++ rest) ≡ 65536 + length rest = omega (arith, length-append block rest) in
      let count : length (block ++ rest) / 65536 + 1 ≡ suc (length rest / 65536 + 1) = omega arith in
      ap (λ (n : ℕ). blocks_at n sum (block ++ rest)) count ∙ blocks_at-step (length rest / 65536 + 1) sum (block ++ rest) (omega arith)

  test_same : eqb (told_sum (block ++ rest)) (content_sum sum (take 65528 (block ++ rest))) ≡ eqb (told_sum block) (content_sum sum (take 65528 block))
  test_same = ap (λ (n : ℕ). eqb n (content_sum sum (take 65528 (block ++ rest)))) told_same ∙ ap (λ (c : List ℕ). eqb (told_sum block) (content_sum sum c)) content_same

  pub stream_told : (next : ℕ) → sum_after sum block ≡ Some next → stream_at sum (block ++ rest) ≡ with_front (take 65528 block) (stream_at next rest)
  unfolding stream_at
  stream_told next told =
      let is = told_some (eqb (told_sum block) (content_sum sum (take 65528 block))) (content_sum sum (take 65528 block)) next told in
      let first : stream_at sum (block ++ rest) ≡ step (length rest / 65536 + 1) sum (block ++ rest) true = stream_step ∙ ap (step (length rest / 65536 + 1) sum (block ++ rest)) (test_same ∙ is.0) in
      first
      ∙ ap (λ (r : List ℕ). with_front (take 65528 (block ++ rest)) (blocks_at (length rest / 65536 + 1) (content_sum sum (take 65528 (block ++ rest))) r)) rest_same
      ∙ ap (λ (c : List ℕ). with_front c (blocks_at (length rest / 65536 + 1) (content_sum sum c) rest)) content_same
      ∙ ap (λ (n : ℕ). with_front (take 65528 block) (blocks_at (length rest / 65536 + 1) n rest)) is.1

  pub stream_untold : sum_after sum block ≡ None → stream_at sum (block ++ rest) ≡ stopped OtherSum
  stream_untold told =
      let is = told_none (eqb (told_sum block) (content_sum sum (take 65528 block))) (content_sum sum (take 65528 block)) told in
      stream_step ∙ ap (step (length rest / 65536 + 1) sum (block ++ rest)) (test_same ∙ is)

pub stream_short : (sum : ℕ) (file : List ℕ) → length file < 65536 → (stop : Stop) × (stream_at sum file ≡ stopped stop) × (stop_fault stop ≡ faults.Short)
unfolding stream_at
stream_short sum file short =
    let one : length file / 65536 + 1 ≡ suc 0 = omega arith in
    let found = blocks_at-short 0 sum file short in
    (found.0, ap (λ (n : ℕ). blocks_at n sum file) one ∙ found.1, found.2)

pub stream_empty : (sum : ℕ) → stream_at sum [] ≡ stopped AtEnd
unfolding stream_at blocks_at
stream_empty sum = refl

-- ---- a source

module _ (sum : ℕ) (rest : List ℕ) (given : rest ≡ []) where
  behind_none : (stream : Stream) → with_front rest stream ≡ stream
  behind_none stream = ap (λ (r : List ℕ). with_front r stream) given

  pub load_same : (left left' : Option (List ℕ)) (next n : ℕ) (block rest' : List ℕ) → length block ≡ 65536 → 65536 ≤ n → Consumes left left' (take n block) → sum_after sum block ≡ Some next → rest' ≡ take 65528 block
      → Yields (stream_in left sum rest) (stream_in left' next rest') []
  load_same None left' next n block rest' whole all consumed told is = tt
  load_same (Some file) None next n block rest' whole all consumed told is = absurd consumed
  load_same (Some file) (Some file') next n block rest' whole all consumed told is =
      let given_whole : file ≡ block ++ file' = consumed ∙ ap (λ (b : List ℕ). b ++ file') (take_all n block (omega (arith, whole, all))) in
      behind_none (stream_at sum file) ∙ ap (stream_at sum) given_whole ∙ stream_told sum block file' whole next told ∙ ap (λ (r : List ℕ). with_front r (stream_at next file')) (sym is)

  pub load_short : (left left' : Option (List ℕ)) (n : ℕ) (block : List ℕ) → Consumes left left' (take n block) → IsAtEnd left' → n < 65536 → Stops faults.Short (stream_in left sum rest)
  load_short None left' n block consumed ended short = tt
  load_short (Some file) None n block consumed ended short = absurd consumed
  load_short (Some file) (Some file') n block consumed ended short =
      let is : file ≡ take n block = consumed ∙ ap (λ (r : List ℕ). take n block ++ r) ended ∙ append-nil (take n block) in
      let few : length (take n block) < 65536 = omega (arith, short, length-take n block) in
      let found = stream_short sum file (subst (λ (b : List ℕ). length b < 65536) (sym is) few) in
      let e : with_front rest (stream_at sum file) ≡ stopped found.0 = behind_none (stream_at sum file) ∙ found.1 in
      λ told. (ap (λ (s : Stream). s.content) e, ap (λ (s : Stream). stop_fault s.stop) e ∙ found.2)

  pub load_untold : (left left' : Option (List ℕ)) (n : ℕ) (block : List ℕ) → length block ≡ 65536 → 65536 ≤ n → Consumes left left' (take n block) → sum_after sum block ≡ None → Stops faults.Sum (stream_in left sum rest)
  load_untold None left' n block whole all consumed told = tt
  load_untold (Some file) None n block whole all consumed told = absurd consumed
  load_untold (Some file) (Some file') n block whole all consumed told =
      let given_whole : file ≡ block ++ file' = consumed ∙ ap (λ (b : List ℕ). b ++ file') (take_all n block (omega (arith, whole, all))) in
      let e : with_front rest (stream_at sum file) ≡ stopped OtherSum = behind_none (stream_at sum file) ∙ ap (stream_at sum) given_whole ∙ stream_untold sum block file' whole told in
      λ first. (ap (λ (s : Stream). s.content) e, ap (λ (s : Stream). stop_fault s.stop) e)

pub stops_failed : (stream : Option Stream) → Stops faults.Failed stream
stops_failed None = tt
stops_failed (Some stream) = λ told. absurd cc

pub stops_for_memory : (stream : Option Stream) → Stops faults.NoMemory stream
stops_for_memory None = tt
stops_for_memory (Some stream) = λ told. absurd cc

-- ---- some of a block

pub rest_splits : (at to len : ℕ) (block : List ℕ) → at ≤ to → to ≤ len → drop at (take len block) ≡ take (to - at) (drop at block) ++ drop to (take len block)
rest_splits at to len block first last =
    let whole : drop at (take len block) ≡ take (len - at) (drop at block) =
    subst (λ (n : ℕ). drop at (take n block) ≡ take (len - at) (drop at block)) (let e : at + (len - at) ≡ len = omega arith in e) (drop-take at (len - at) block) in
    let behind : drop to (take len block) ≡ take (len - to) (drop to block) =
    subst (λ (n : ℕ). drop to (take n block) ≡ take (len - to) (drop to block)) (let e : to + (len - to) ≡ len = omega arith in e) (drop-take to (len - to) block) in
    let split : take (len - at) (drop at block) ≡ take (to - at) (drop at block) ++ take (len - to) (drop (to - at) (drop at block)) =
    subst (λ (n : ℕ). take n (drop at block) ≡ take (to - at) (drop at block) ++ take (len - to) (drop (to - at) (drop at block))) (let e : (to - at) + (len - to) ≡ len - at = omega arith in e)
    (take-add (to - at) (len - to) (drop at block)) in
    let further : drop (to - at) (drop at block) ≡ drop to block =
    drop-drop (to - at) at block ∙ ap (λ (n : ℕ). drop n block) (let e : at + (to - at) ≡ to = omega arith in e) in
    whole ∙ split ∙ ap (λ (b : List ℕ). take (to - at) (drop at block) ++ b) (ap (take (len - to)) further ∙ sym behind)

-- ---- streams that lose bytes

pub yields_trans : (a b c : Option Stream) (bs cs : List ℕ) → Yields a b bs → Yields b c cs → Yields a c (bs ++ cs)
yields_trans None b c bs cs p q = tt
yields_trans (Some x) None c bs cs p q = absurd p
yields_trans (Some x) (Some y) None bs cs p q = absurd q
yields_trans (Some x) (Some y) (Some z) bs cs p q = p ∙ ap (with_front bs) q ∙ ap (λ (l : List ℕ). let s : Stream = record { content = l; stop = z.stop } in s) (sym (append_assoc bs cs z.content))

pub yields_rest : (left : Option (List ℕ)) (sum sum' : ℕ) (rest bytes rest' : List ℕ) → sum' ≡ sum → rest ≡ bytes ++ rest' → Yields (stream_in left sum rest) (stream_in left sum' rest') bytes
yields_rest None sum sum' rest bytes rest' same parts = tt
yields_rest (Some file) sum sum' rest bytes rest' same parts =
    ap (λ (r : List ℕ). with_front r (stream_at sum file)) parts
    ∙ ap (λ (l : List ℕ). let s : Stream = record { content = l; stop = (stream_at sum file).stop } in s) (append_assoc bytes rest' (stream_at sum file).content)
    ∙ ap (λ (n : ℕ). with_front bytes (with_front rest' (stream_at n file))) (sym same)

-- so many bytes were read
pub yields_reads : {X : Type 0} (x : X) (old new : Option Stream) (n : ℕ) (bytes : List ℕ) → Yields old new bytes → length bytes ≡ n → Reads (λ _. bytes) old new (let r : Result X SavedFault = Ok x in r) (bytes_at n)
yields_reads x None new n bytes yields len = tt
yields_reads x (Some old) None n bytes yields len = absurd yields
yields_reads x (Some old) (Some new) n bytes yields len =
    let enough : ltb (length (bytes ++ new.content)) n ≡ false = le-ltb (length (bytes ++ new.content)) n (omega (arith, length-append bytes new.content)) in
    let front : take n (bytes ++ new.content) ≡ bytes = subst (λ (k : ℕ). take k (bytes ++ new.content) ≡ bytes) len (take-append_seam bytes new.content) in
    let behind : drop n (bytes ++ new.content) ≡ new.content = subst (λ (k : ℕ). drop k (bytes ++ new.content) ≡ new.content) len (drop-append_seam bytes new.content) in
    ap (bytes_at n) yields ∙ rw (enough, front, behind) refl

-- or reading stops before them
pub stops_reads : {X : Type 0} (view : X → List ℕ) (fault : SavedFault) (old mid new : Option Stream) (n : ℕ) (bytes : List ℕ)
    → Yields old mid bytes → Stops fault mid → length bytes < n → Reads view old new (let r : Result X SavedFault = Err fault in r) (bytes_at n)
stops_reads view fault None mid new n bytes yields stops few = tt
stops_reads view fault (Some old) None new n bytes yields stops few = absurd yields
stops_reads view fault (Some old) (Some mid) new n bytes yields stops few = λ told.
    let is : old ≡ with_front bytes (record { content = []; stop = mid.stop }) = yields ∙ ap (λ (l : List ℕ). let s : Stream = record { content = bytes ++ l; stop = mid.stop } in s) (stops told).0 in
    let lacks : ltb (length (bytes ++ [])) n ≡ true = lt-ltb (length (bytes ++ [])) n (omega (arith, length-append bytes [])) in
    ap (bytes_at n) is ∙ rw (lacks, (stops told).1) refl

-- with the fault as `?` hands it on
pub stops_result : {X : Type 0} (view : X → List ℕ) (fault : SavedFault) (result : Result X SavedFault) (old mid new : Option Stream) (n : ℕ) (bytes : List ℕ)
    → IsErrAnd result (λ e. e ≡ fault) → Yields old mid bytes → Stops fault mid → length bytes < n → Reads view old new result (bytes_at n)
stops_result view fault (Ok x) old mid new n bytes is yields stops few = absurd is
stops_result view fault (Err e) old mid new n bytes is yields stops few = stops_reads view e old mid new n bytes yields (subst (λ (f : SavedFault). Stops f mid) (sym is) stops) few

pub yields_none : (stream : Option Stream) → Yields stream stream []
yields_none None = tt
yields_none (Some stream) = refl

pub nothing_left : (n : ℕ) (bytes : List ℕ) → drop n (take n bytes) ≡ []
nothing_left n bytes = drop_all n (take n bytes) (omega (arith, length-take n bytes))

-- all of a block was given
pub none_left : (at : ℕ) (bytes : List ℕ) → at ≡ 65528 → drop at (take 65528 bytes) ≡ []
none_left at bytes is = ap (λ (n : ℕ). drop n (take 65528 bytes)) is ∙ nothing_left 65528 bytes
