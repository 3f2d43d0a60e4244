-- What bytes begin with stays so whatever follows.
use Rattle.std.proofs.Common.{◌≡◌, ◌≢◌, ℕ, ◌+◌, ◌-◌, ◌<◌, ◌≤◌, Bool, true, false, cond, eqb-true, subst, codes, nat_eq, List, [], ◌∷◌, ◌++◌, length, take, drop, Option, Some, None, nat_lt, refl, sym, ap, ◌∙◌, arith, length-append, append_assoc}
use Rattle.std.specs.Prelude.{⊤, option_map, ◌==◌, ◌||◌}
use Rattle.std.specs.Option.{IfSome}
use Rattle.std.specs.List.{starts_with}
use Rattle.std.proofs.lemmas.List.{take-append-le, drop-append-le, length-drop}
use Rattle.std.proofs.lemmas.Bool.{lt-ltb, le-ltb, ltb-true, ltb-false}
use Rattle.memcached_text.specs.declared.limits.TheConstants.{MAX_TEXT_LEN, MAX_LINE_LEN, MAX_WAITING_LEN}
use Rattle.memcached_text.specs.declared.block.TheConstants.{END_LEN}
use Rattle.memcached_text.specs.declared.block.Block.TheVariants as blocks
use Rattle.memcached_text.specs.declared.block.Block.{Block}
use Rattle.memcached_text.specs.declared.next.Next.TheVariants as of_lines
use Rattle.memcached_text.specs.Next as text
use Rattle.memcached_text.specs.Next.{is_binary, most_line}
use Rattle.memcached_text.specs.Block.{block_at}
use Rattle.memcached_text.specs.Lines.{Lacks, HasLine, line_at, words_of, without_return}
use Rattle.memcached_text.proofs.LineLaws.{IsFound, line_found, line_at_fed, line_at_none}
use Rattle.memcached_text.proofs.NextLaws.{may_be, reaches, no_bytes, no_line_short, block_has_come}
use Rattle.memcached_meta.specs.declared.line.Verb.{Verb}
use Rattle.memcached_meta.specs.declared.line.Meta.{Meta}
use Rattle.memcached_meta.specs.declared.line.MetaLine.{MetaLine}
use Rattle.memcached_meta.specs.declared.line.MetaLine.TheVariants as lines
use Rattle.memcached_meta.specs.declared.next.MetaNext.{MetaNext}
use Rattle.memcached_meta.specs.declared.next.MetaNext.TheVariants.{More}
use Rattle.memcached_meta.specs.Lines.{verb_of, line_of}
use Rattle.memcached_meta.specs.Next.{blocked, stored_at, line_next, named_next, found_next, begins_meta, next_meta, IsWithin}
use Rattle.memcached_meta.specs.Laws.{MetaStays}

-- a block that has come is the same with more bytes behind it
block_stays : (len : ℕ) (bytes more : List ℕ) → block_at len bytes ≢ blocks.Waiting → block_at len (bytes ++ more) ≡ block_at len bytes
unfolding block_at
block_stays len bytes more some = go (nat_lt (length bytes) (len + END_LEN)) refl
  where
    go : (t : Bool) → nat_lt (length bytes) (len + END_LEN) ≡ t → block_at len (bytes ++ more) ≡ block_at len bytes
    go true is = absurd (some (rw is refl))
    go false is =
        let fits = ltb-false _ _ is in
        let left : length (drop len bytes) ≡ length bytes - len = length-drop len bytes in
        let longer : nat_lt (length (bytes ++ more)) (len + END_LEN) ≡ false = le-ltb _ _ (omega (arith, length-append bytes more)) in
        let behind : drop len (bytes ++ more) ≡ drop len bytes ++ more = drop-append-le len bytes more (omega arith) in
        let end : take 2 (drop len bytes ++ more) ≡ take 2 (drop len bytes) = take-append-le 2 (drop len bytes) more (omega arith) in
        let front : take len (bytes ++ more) ≡ take len bytes = take-append-le len bytes more (omega arith) in
        rw (is, longer, behind, end, front) refl

stored_stays : (meta : Meta) (value_len len : ℕ) (rest more : List ℕ) → stored_at meta value_len len rest ≢ More → stored_at meta value_len len (rest ++ more) ≡ stored_at meta value_len len rest
unfolding stored_at
stored_stays meta value_len len rest more some = go (nat_lt MAX_TEXT_LEN value_len) refl
  where
    go : (large : Bool) → nat_lt MAX_TEXT_LEN value_len ≡ large → stored_at meta value_len len (rest ++ more) ≡ stored_at meta value_len len rest
    go true is = rw is refl
    go false is = rw is (ap (blocked meta (len + value_len + 2)) (block_stays value_len rest more (λ waits. some (rw (is, waits) refl))))

next_stays : (line : MetaLine) (len : ℕ) (rest more : List ℕ) → line_next line len rest ≢ More → line_next line len (rest ++ more) ≡ line_next line len rest
unfolding line_next
next_stays (lines.Whole meta) len rest more some = refl
next_stays (lines.Storing meta value_len) len rest more some = stored_stays meta value_len len rest more some
next_stays (lines.Refused fault block) len rest more some = refl

verb_stays : (o : Option Verb) (words : List (List ℕ)) (len : ℕ) (rest more : List ℕ) (next : MetaNext) → next ≢ More
    → option_map (λ verb. line_next (line_of verb words) len rest) o ≡ Some next → option_map (λ verb. line_next (line_of verb words) len (rest ++ more)) o ≡ Some next
verb_stays None words len rest more next some is = is
verb_stays (Some verb) words len rest more next some is =
    let here : line_next (line_of verb words) len rest ≡ next = cc in
    ap Some (next_stays (line_of verb words) len rest more (λ waits. some (sym here ∙ waits)) ∙ here)

named_stays : (words : List (List ℕ)) (len : ℕ) (rest more : List ℕ) (next : MetaNext) → next ≢ More → named_next words len rest ≡ Some next → named_next words len (rest ++ more) ≡ Some next
named_stays [] len rest more next some is = is
named_stays (name ∷ words) len rest more next some is = verb_stays (verb_of name) words len rest more next some is

line_stays : (bytes more line rest : List ℕ) → HasLine bytes line rest → line_at (bytes ++ more) ≡ Some (line, rest ++ more)
line_stays bytes more line rest has = ap (λ t. line_at (t ++ more)) has.whole ∙ ap line_at (append_assoc line (10 ∷ rest) more) ∙ line_at_fed line (rest ++ more) has.first

found_stays : (bytes more : List ℕ) (next : MetaNext) (o : Option (List ℕ × List ℕ)) → next ≢ More → IsFound bytes o → found_next o ≡ Some next → found_next (line_at (bytes ++ more)) ≡ Some next
found_stays bytes more next None some found is = let no : ⊥ = cc in absurd no
found_stays bytes more next (Some x) some has is = ap found_next (line_stays bytes more x.0 x.1 has) ∙ go (nat_lt MAX_LINE_LEN (length x.0)) refl
  where
    go : (t : Bool) → nat_lt MAX_LINE_LEN (length x.0) ≡ t → found_next (Some (x.0, x.1 ++ more)) ≡ Some next
    go true long = let no : None ≡ Some next = sym (rw long refl) ∙ is in let bad : ⊥ = cc in absurd bad
    go false short =
        let here : named_next (words_of (without_return x.0)) (length x.0 + 1) x.1 ≡ Some next = sym (rw short refl) ∙ is in
        rw short (named_stays (words_of (without_return x.0)) (length x.0 + 1) x.1 more next some here)

pub meta_stays : MetaStays
unfolding next_meta
meta_stays [] more next is some = let no : ⊥ = cc in absurd no
meta_stays (b ∷ bytes) more next is some = go (b == 109 || b == 32) refl
  where
    go : (t : Bool) → (b == 109 || b == 32) ≡ t → next_meta ((b ∷ bytes) ++ more) ≡ Some next
    go false other = let no : None ≡ Some next = sym (rw other refl) ∙ is in let bad : ⊥ = cc in absurd bad
    go true begins =
        let here : found_next (line_at (b ∷ bytes)) ≡ Some next = sym (rw begins refl) ∙ is in
        rw begins (found_stays (b ∷ bytes) more next (line_at (b ∷ bytes)) some (line_found (b ∷ bytes)) here)

-- Bytes that begin with no meta command do not begin with one later, unless their line has not come.

no_verb : (o : Option Verb) (words : List (List ℕ)) (len : ℕ) (rest other : List ℕ) → option_map (λ verb. line_next (line_of verb words) len rest) o ≡ None
    → option_map (λ verb. line_next (line_of verb words) len other) o ≡ None
no_verb None words len rest other is = refl
no_verb (Some verb) words len rest other is = let no : ⊥ = cc in absurd no

no_name : (words : List (List ℕ)) (len : ℕ) (rest other : List ℕ) → named_next words len rest ≡ None → named_next words len other ≡ None
no_name [] len rest other is = refl
no_name (name ∷ words) len rest other is = no_verb (verb_of name) words len rest other is

no_line : (line rest other : List ℕ) → found_next (Some (line, rest)) ≡ None → found_next (Some (line, other)) ≡ None
no_line line rest other is = go (nat_lt MAX_LINE_LEN (length line)) refl
  where
    go : (t : Bool) → nat_lt MAX_LINE_LEN (length line) ≡ t → found_next (Some (line, other)) ≡ None
    go true long = rw long refl
    go false short = rw short (no_name (words_of (without_return line)) (length line + 1) rest other (sym (rw short refl) ∙ is))

-- a line that is too long for one
long_line : (bytes : List ℕ) (o : Option (List ℕ × List ℕ)) → IsFound bytes o → ((line rest : List ℕ) → HasLine bytes line rest → MAX_LINE_LEN < length line) → found_next o ≡ None
long_line bytes None found long = refl
long_line bytes (Some x) has long = let over : nat_lt MAX_LINE_LEN (length x.0) ≡ true = lt-ltb _ _ (long x.0 x.1 has) in rw over refl

begins_text : (b : ℕ) (bytes : List ℕ) → (b == 109 || b == 32) ≡ true → is_binary (b ∷ bytes) ≡ false
begins_text b bytes is = go (b == 109) refl (b == 32) refl
  where
    of : (letter : ℕ) → (b == letter) ≡ true → is_binary (letter ∷ bytes) ≡ false → is_binary (b ∷ bytes) ≡ false
    of letter same text = subst (λ c. is_binary (c ∷ bytes) ≡ false) (sym (eqb-true b letter same)) text

    go : (t : Bool) → (b == 109) ≡ t → (u : Bool) → (b == 32) ≡ u → is_binary (b ∷ bytes) ≡ false
    go true m u space = of 109 m refl
    go false m true space = of 32 space refl
    go false m false space = let no : false ≡ true = sym (rw (m, space) refl) ∙ is in let bad : ⊥ = cc in absurd bad

module _ (bytes more : List ℕ) (some : text.next_of bytes ≢ of_lines.More) (begins : is_binary bytes ≡ false) where
  -- a line of a get alone may be longer, and no such line reaches over these bytes
  reaches_far : Lacks 10 bytes → (line rest : List ℕ) → HasLine (bytes ++ more) line rest → MAX_LINE_LEN < length line
  reaches_far lacks line rest has = go (nat_lt (most_line bytes) (length bytes)) refl
    where
      go : (t : Bool) → nat_lt (most_line bytes) (length bytes) ≡ t → MAX_LINE_LEN < length line
      go true long = let over = ltb-true _ _ long in omega (arith, over, may_be bytes, reaches bytes more line rest lacks has.whole)
      go false short = absurd (some (no_line_short bytes begins (ltb-false _ _ short) lacks))

  found_none : (o : Option (List ℕ × List ℕ)) → IsFound bytes o → found_next o ≡ None → found_next (line_at (bytes ++ more)) ≡ None
  found_none None lacks is = long_line (bytes ++ more) (line_at (bytes ++ more)) (line_found (bytes ++ more)) (reaches_far lacks)
  found_none (Some x) has is = ap found_next (line_stays bytes more x.0 x.1 has) ∙ no_line x.0 x.1 (x.1 ++ more) is

pub meta_stays_none : (bytes more : List ℕ) → next_meta bytes ≡ None → text.next_of bytes ≢ of_lines.More → next_meta (bytes ++ more) ≡ None
unfolding next_meta
meta_stays_none [] more is some = absurd (some (no_bytes [] refl))
meta_stays_none (b ∷ bytes) more is some = go (b == 109 || b == 32) refl
  where
    go : (t : Bool) → (b == 109 || b == 32) ≡ t → next_meta ((b ∷ bytes) ++ more) ≡ None
    go false other = rw other refl
    go true begins =
        let here : found_next (line_at (b ∷ bytes)) ≡ None = sym (rw begins refl) ∙ is in
        rw begins (found_none (b ∷ bytes) more some (begins_text b bytes begins) (line_at (b ∷ bytes)) (line_found (b ∷ bytes)) here)

-- a line that has not come is none
pub none_yet : (bytes : List ℕ) → Lacks 10 bytes → next_meta bytes ≡ None
unfolding next_meta
none_yet bytes lacks = go (begins_meta bytes)
  where
    go : (t : Bool) → cond t (found_next (line_at bytes)) None ≡ None
    go true = ap found_next (line_at_none bytes lacks)
    go false = refl

-- What a command takes has come.

blocked_within : (come : ℕ) (meta : Meta) (len : ℕ) (block : Block) → 0 < len → ((value : List ℕ) → block ≡ blocks.Whole value → len ≤ come) → IsWithin come (blocked meta len block)
blocked_within come meta len blocks.Waiting some fits = tt
blocked_within come meta len blocks.Bad some fits = some
blocked_within come meta len (blocks.Whole value) some fits = (some, fits value refl)

stored_within : (come : ℕ) (meta : Meta) (value_len len : ℕ) (rest : List ℕ) → 0 < len → len + length rest ≤ come → IsWithin come (stored_at meta value_len len rest)
unfolding stored_at
stored_within come meta value_len len rest some fits = go (nat_lt MAX_TEXT_LEN value_len) refl
  where
    go : (large : Bool) → nat_lt MAX_TEXT_LEN value_len ≡ large → IsWithin come (stored_at meta value_len len rest)
    go true is = rw is (omega arith)
    go false is = rw is (blocked_within come meta (len + value_len + 2) (block_at value_len rest) (omega arith) (λ value whole. omega (arith, fits, block_has_come value_len rest value whole)))

line_within : (come : ℕ) (line : MetaLine) (len : ℕ) (rest : List ℕ) → 0 < len → len + length rest ≤ come → IsWithin come (line_next line len rest)
unfolding line_next
line_within come (lines.Whole meta) len rest some fits = (some, omega (arith, fits))
line_within come (lines.Storing meta value_len) len rest some fits = stored_within come meta value_len len rest some fits
line_within come (lines.Refused fault block) len rest some fits = omega (arith, some)

verb_within : (come : ℕ) (o : Option Verb) (words : List (List ℕ)) (len : ℕ) (rest : List ℕ) → 0 < len → len + length rest ≤ come
    → IfSome (option_map (λ verb. line_next (line_of verb words) len rest) o) (IsWithin come)
verb_within come None words len rest some fits = tt
verb_within come (Some verb) words len rest some fits = line_within come (line_of verb words) len rest some fits

named_within : (come : ℕ) (words : List (List ℕ)) (len : ℕ) (rest : List ℕ) → 0 < len → len + length rest ≤ come → IfSome (named_next words len rest) (IsWithin come)
named_within come [] len rest some fits = tt
named_within come (name ∷ words) len rest some fits = verb_within come (verb_of name) words len rest some fits

found_within : (bytes : List ℕ) (o : Option (List ℕ × List ℕ)) → IsFound bytes o → IfSome (found_next o) (IsWithin (length bytes))
found_within bytes None found = tt
found_within bytes (Some x) has = go (nat_lt MAX_LINE_LEN (length x.0))
  where
    counts : length x.0 + 1 + length x.1 ≤ length bytes
    counts = let whole : length bytes ≡ length (x.0 ++ 10 ∷ x.1) = ap length has.whole in omega (arith, whole, length-append x.0 (10 ∷ x.1))

    go : (t : Bool) → IfSome (cond t None (named_next (words_of (without_return x.0)) (length x.0 + 1) x.1)) (IsWithin (length bytes))
    go true = tt
    go false = named_within (length bytes) (words_of (without_return x.0)) (length x.0 + 1) x.1 (omega arith) counts

pub meta_within : (bytes : List ℕ) → IfSome (next_meta bytes) (IsWithin (length bytes))
unfolding next_meta
meta_within bytes = go (begins_meta bytes)
  where
    go : (t : Bool) → IfSome (cond t (found_next (line_at bytes)) None) (IsWithin (length bytes))
    go true = found_within bytes (line_at bytes) (line_found bytes)
    go false = tt

-- What waits is fewer than a line and a block.

abbrev Waits : ℕ → MetaNext → Type 0
Waits most More = most < MAX_WAITING_LEN
Waits most _ = ⊤

blocked_waits : (most : ℕ) (meta : Meta) (len : ℕ) (block : Block) → (block ≡ blocks.Waiting → most < MAX_WAITING_LEN) → Waits most (blocked meta len block)
blocked_waits most meta len blocks.Waiting few = few refl
blocked_waits most meta len blocks.Bad few = tt
blocked_waits most meta len (blocks.Whole value) few = tt

-- a block waits for what it lacks
lacks_some : (len : ℕ) (bytes : List ℕ) → block_at len bytes ≡ blocks.Waiting → length bytes < len + END_LEN
unfolding block_at
lacks_some len bytes is = go (nat_lt (length bytes) (len + END_LEN)) refl (starts_with nat_eq (drop len bytes) (codes "\r\n")) refl
  where
    go : (t : Bool) → nat_lt (length bytes) (len + END_LEN) ≡ t → (u : Bool) → starts_with nat_eq (drop len bytes) (codes "\r\n") ≡ u → length bytes < len + END_LEN
    go true short u ends = ltb-true _ _ short
    go false enough true ends = let no = rw (enough, ends) at is in cc
    go false enough false ends = let no = rw (enough, ends) at is in cc

stored_waits : (most : ℕ) (meta : Meta) (value_len len : ℕ) (rest : List ℕ) → len ≤ MAX_LINE_LEN + 1 → most ≤ len + length rest → Waits most (stored_at meta value_len len rest)
unfolding stored_at
stored_waits most meta value_len len rest short all = go (nat_lt MAX_TEXT_LEN value_len) refl
  where
    go : (large : Bool) → nat_lt MAX_TEXT_LEN value_len ≡ large → Waits most (stored_at meta value_len len rest)
    go true is = rw is tt
    go false is = let fits = ltb-false _ _ is in
        rw is (blocked_waits most meta _ (block_at value_len rest) (λ waits. omega (arith, fits, short, all, lacks_some value_len rest waits)))

line_waits : (most : ℕ) (line : MetaLine) (len : ℕ) (rest : List ℕ) → len ≤ MAX_LINE_LEN + 1 → most ≤ len + length rest → Waits most (line_next line len rest)
unfolding line_next
line_waits most (lines.Whole meta) len rest short all = tt
line_waits most (lines.Storing meta value_len) len rest short all = stored_waits most meta value_len len rest short all
line_waits most (lines.Refused fault block) len rest short all = tt

verb_waits : (most : ℕ) (o : Option Verb) (words : List (List ℕ)) (len : ℕ) (rest : List ℕ) → len ≤ MAX_LINE_LEN + 1 → most ≤ len + length rest
    → IfSome (option_map (λ verb. line_next (line_of verb words) len rest) o) (Waits most)
verb_waits most None words len rest short all = tt
verb_waits most (Some verb) words len rest short all = line_waits most (line_of verb words) len rest short all

named_waits : (most : ℕ) (words : List (List ℕ)) (len : ℕ) (rest : List ℕ) → len ≤ MAX_LINE_LEN + 1 → most ≤ len + length rest → IfSome (named_next words len rest) (Waits most)
named_waits most [] len rest short all = tt
named_waits most (name ∷ words) len rest short all = verb_waits most (verb_of name) words len rest short all

found_waits : (bytes : List ℕ) (o : Option (List ℕ × List ℕ)) → IsFound bytes o → IfSome (found_next o) (Waits (length bytes))
found_waits bytes None found = tt
found_waits bytes (Some x) has = go (nat_lt MAX_LINE_LEN (length x.0)) refl
  where
    counts : length bytes ≤ length x.0 + 1 + length x.1
    counts = let whole : length bytes ≡ length (x.0 ++ 10 ∷ x.1) = ap length has.whole in omega (arith, whole, length-append x.0 (10 ∷ x.1))

    go : (t : Bool) → nat_lt MAX_LINE_LEN (length x.0) ≡ t → IfSome (cond t None (named_next (words_of (without_return x.0)) (length x.0 + 1) x.1)) (Waits (length bytes))
    go true is = tt
    go false is = let short = ltb-false _ _ is in named_waits (length bytes) (words_of (without_return x.0)) (length x.0 + 1) x.1 (omega (arith, short)) counts

all_waits : (bytes : List ℕ) → IfSome (next_meta bytes) (Waits (length bytes))
unfolding next_meta
all_waits bytes = go (begins_meta bytes)
  where
    go : (t : Bool) → IfSome (cond t (found_next (line_at bytes)) None) (Waits (length bytes))
    go true = found_waits bytes (line_at bytes) (line_found bytes)
    go false = tt

pub meta_waits_within : (bytes : List ℕ) → next_meta bytes ≡ Some More → length bytes < MAX_WAITING_LEN
meta_waits_within bytes is = subst (λ o. IfSome o (Waits (length bytes))) is (all_waits bytes)
