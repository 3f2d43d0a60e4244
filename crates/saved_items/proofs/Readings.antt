-- A file is read in one way.
use Rattle.std.proofs.Common.{◌≡◌, ℕ, zero, suc, ◌<◌, Bool, true, false, ltb, eqb, List, [], ◌∷◌, ◌++◌, length, refl, sym, ap, subst, ◌∙◌, arith}
use Rattle.std.specs.Prelude.{Option, Some, None, Result, Ok, Err, ◌&&◌}
use Rattle.std.specs.List.{list_all}
use Rattle.std.proofs.lemmas.Bool.{ltb-true}
use Rattle.std.proofs.lemmas.List.{length-append}
use Rattle.saved_items.specs.declared.blocks.TheConstants.{CONTENT_LEN, FIRST_SUM}
use Rattle.saved_items.specs.declared.fault.SavedFault.{SavedFault}
use Rattle.saved_items.specs.declared.items.Head.{Head}
use Rattle.saved_items.specs.Items.{Entry, left_after, close_after}
use Rattle.saved_items.specs.Reading.{Stream, Stop, AtEnd, Within, OtherSum, head_at, entry_at, is_at_end, only_zeros, stream_at, EndsWith, HasEntries, ReadsAs}
use Rattle.saved_items.specs.Laws.{OneReading}
use Rattle.saved_items.proofs.Grows.{longer, grows_head, grows_entry}

module _ {A : Type 0} (x y : A) (s t : Stream) where
  pub same_read : (let r : Result (A × Stream) SavedFault = Ok (x, s) in r) ≡ Ok (y, t) → (x ≡ y) × (s ≡ t)
  same_read e =
      let is : (let p : A × Stream = (x, s) in p) ≡ (y, t) = cc in
      (ap (λ (p : A × Stream). p.0) is, ap (λ (p : A × Stream). p.1) is)

no_fault : {A : Type 0} (x : A) (fault : SavedFault) (P : Type 0) → (let r : Result A SavedFault = Ok x in r) ≡ Err fault → P
no_fault x fault P e = absurd cc

same_faults : {A : Type 0} (fault other : SavedFault) → (let r : Result A SavedFault = Err fault in r) ≡ Err other → (let o : Option SavedFault = Some fault in o) ≡ Some other
same_faults {A} fault other e = cc

no_both : (b : Bool) (P : Type 0) → b ≡ true → b ≡ false → P
no_both b P e f = absurd cc

same_ends : (n close : ℕ) (s : Stream) (end end' : Option SavedFault) → EndsWith n close s end → EndsWith n close s end' → end ≡ end'
same_ends zero close s None None h k = refl
same_ends zero close s None (Some other) h k = no_both (only_zeros s) _ h k.0
same_ends zero close s (Some fault) None h k = no_both (only_zeros s) _ k h.0
same_ends zero close s (Some fault) (Some other) h k = ap (λ (f : SavedFault). Some f) (h.1 ∙ sym k.1)
same_ends (suc n) close s None end' h k = absurd h
same_ends (suc n) close s (Some fault) None h k = absurd k
same_ends (suc n) close s (Some fault) (Some other) h k = same_faults fault other (sym h ∙ k)

no_end : (n close : ℕ) (s t : Stream) (end : Option SavedFault) (entry : Entry) (P : Type 0) → EndsWith n close s end → 0 < n → entry_at close s ≡ Ok (entry, t) → P
no_end zero close s t end entry P ends some at = absurd (omega arith)
no_end (suc n) close s t None entry P ends some at = absurd ends
no_end (suc n) close s t (Some fault) entry P ends some at = no_fault (entry, t) fault P (sym at ∙ ends)

same_entries : (n close : ℕ) (s : Stream) (es es' : List Entry) (end end' : Option SavedFault) → HasEntries n close s es end → HasEntries n close s es' end' → (es ≡ es') × (end ≡ end')
same_entries n close s [] [] end end' h k = (refl, same_ends n close s end end' h k)
same_entries n close s [] (e' ∷ es') end end' h k = no_end n close s k.1 end e' _ h k.0 k.2
same_entries n close s (e ∷ es) [] end end' h k = no_end n close s h.1 end' e _ k h.0 h.2
same_entries n close s (e ∷ es) (e' ∷ es') end end' h k =
    let same = same_read e e' h.1 k.1 (sym h.2 ∙ k.2) in
    let there = subst (λ (t : Stream). HasEntries (left_after n e) (close_after close e) t es' end') (sym same.1) (subst (λ (x : Entry). HasEntries (left_after n x) (close_after close x) k.1 es' end') (sym same.0) k.3) in
    let rest = same_entries (left_after n e) (close_after close e) h.1 es es' end end' h.3 there in
    (ap (λ (x : Entry). x ∷ es) same.0 ∙ ap (λ (xs : List Entry). e' ∷ xs) rest.0, rest.1)

pub one_reading : OneReading
one_reading file head head' entries entries' end end' is also =
    let same = same_read head head' is.rest also.rest (sym is.begins ∙ also.begins) in
    let there = subst (λ (t : Stream). HasEntries head.partitions 0 t entries' end') (sym same.1) (subst (λ (h : Head). HasEntries h.partitions 0 also.rest entries' end') (sym same.0) also.goes_on) in
    let rest = same_entries head.partitions 0 is.rest entries entries' end end' is.goes_on there in
    (same.0, rest.0, rest.1)

-- ---- read to its end

ends_there : (stop : Stop) (b c : Bool) → (is_at_end stop && b && c) ≡ true → (stop ≡ AtEnd) × (b ≡ true)
ends_there AtEnd true c e = (refl, refl)
ends_there AtEnd false true e = absurd cc
ends_there AtEnd false false e = absurd cc
ends_there Within b c e = absurd (no b c e)
  where
    no : (b c : Bool) → (false && b && c) ≡ true → ⊥
    no true true e = cc
    no true false e = cc
    no false true e = cc
    no false false e = cc
ends_there OtherSum b c e = absurd (no b c e)
  where
    no : (b c : Bool) → (false && b && c) ≡ true → ⊥
    no true true e = cc
    no true false e = cc
    no false true e = cc
    no false false e = cc

at_end : (n close : ℕ) (s : Stream) (es : List Entry) → HasEntries n close s es None → s.stop ≡ AtEnd
at_end zero close s [] h = (ends_there s.stop (ltb (length s.content) CONTENT_LEN) (list_all (λ byte. eqb byte 0) s.content) h).0
at_end (suc n) close s [] h = absurd h
at_end n close s (e ∷ es) h = sym (grows_entry close s h.1 e [] AtEnd h.2).0 ∙ at_end (left_after n e) (close_after close e) h.1 es h.3

-- what is read without a fault has whole blocks, each with its sum
pub reads_whole : (file : List ℕ) (head : Head) (entries : List Entry) → ReadsAs file head entries None → (stream_at FIRST_SUM file).stop ≡ AtEnd
reads_whole file head entries is =
    sym (grows_head (stream_at FIRST_SUM file) is.rest head [] AtEnd is.begins).0 ∙ at_end head.partitions 0 is.rest entries is.goes_on

-- less than a block more can stand behind what was read to its end
little_behind : (n close : ℕ) (s : Stream) (es es' : List Entry) (more : List ℕ) → HasEntries n close s es None → HasEntries n close (longer s more AtEnd) es' None → length more < CONTENT_LEN
little_behind zero close s [] [] more h k =
    let short = ltb-true (length (s.content ++ more)) CONTENT_LEN (ends_there AtEnd (ltb (length (s.content ++ more)) CONTENT_LEN) (list_all (λ byte. eqb byte 0) (s.content ++ more)) k).1 in
    omega (arith, short, length-append s.content more)
little_behind (suc n) close s [] es' more h k = absurd h
little_behind zero close s [] (e' ∷ es') more h k = absurd (let less : 0 < 0 = k.0 in omega (arith, less))
little_behind n close s (e ∷ es) [] more h k =
    no_end n close (longer s more AtEnd) (longer h.1 more AtEnd) None e _ k h.0 (grows_entry close s h.1 e more AtEnd h.2).1
little_behind n close s (e ∷ es) (e' ∷ es') more h k =
    let grown = (grows_entry close s h.1 e more AtEnd h.2).1 in
    let same = same_read e e' (longer h.1 more AtEnd) k.1 (sym grown ∙ k.2) in
    let there = subst (λ (t : Stream). HasEntries (left_after n e) (close_after close e) t es' None) (sym same.1) (subst (λ (x : Entry). HasEntries (left_after n x) (close_after close x) k.1 es' None) (sym same.0) k.3) in
    little_behind (left_after n e) (close_after close e) h.1 es es' more h.3 there

pub less_behind : (s : Stream) (more : List ℕ) (head head' : Head) (rest rest' : Stream) (es es' : List Entry) → head_at s ≡ Ok (head, rest) → HasEntries head.partitions 0 rest es None
    → head_at (longer s more AtEnd) ≡ Ok (head', rest') → HasEntries head'.partitions 0 rest' es' None → length more < CONTENT_LEN
less_behind s more head head' rest rest' es es' at h also k =
    let grown = (grows_head s rest head more AtEnd at).1 in
    let same = same_read head head' (longer rest more AtEnd) rest' (sym grown ∙ also) in
    let there = subst (λ (t : Stream). HasEntries head.partitions 0 t es' None) (sym same.1) (subst (λ (x : Head). HasEntries x.partitions 0 rest' es' None) (sym same.0) k) in
    little_behind head.partitions 0 rest es es' more h there
