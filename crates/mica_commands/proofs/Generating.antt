-- What options generate is a trace, within the limits of one.
use Rattle.std.proofs.Common.{◌≡◌, ℕ, zero, suc, ◌+◌, ◌-◌, ◌*◌, ◌/◌, ◌%◌, ◌<◌, ◌≤◌, ◌&&◌, Bool, true, false, nat_lt, List, [], ◌∷◌, ◌++◌, length, length-append, append_assoc, flat_map, replicate, cond, refl, sym, ap, ◌∙◌, subst, arith, eqb}
use Rattle.std.specs.List.{AllByRecursion, range_with_len}
use Rattle.std.specs.Fmt.{decimal}
use Rattle.std.specs.Str.Parse.{AllDigits}
use Rattle.std.proofs.lemmas.Bool.{lt-ltb, le-ltb}
use Rattle.std.proofs.Math.Bool.{and-true, and-false}
use Rattle.std.proofs.Math.Nat.{zero-div}
use Rattle.std.proofs.lemmas.Grind.{flat_map-append}
use Rattle.std.proofs.lemmas.Fmt.{digits_decimal}
use Rattle.std.proofs.lemmas.List.{append-nil}
use Rattle.std.proofs.lemmas.List.Sums.{sum_by-append}
use Rattle.std.proofs.lemmas.Str.Parse.{numerals_by_value, tells_digits}
use Rattle.std.proofs.lemmas.Grind.{common_steps}
use Rattle.mica_trace.specs.declared.line.TraceLine.{TraceLine}
use Rattle.mica_trace.specs.TraceGrammar.{trace_text, line_text, IsKey, IsValue, IsTraceLine, is_sync, sync_line, syncs_in, IsWithinLimits}
use Rattle.server_words.specs.declared.limits.TheConstants.{MAX_SOURCE_LEN}
use Rattle.mica_commands.specs.declared.gen_options.GenOptions.{GenOptions}
use Rattle.mica_commands.specs.declared.draw.Draw.{Draw}
use Rattle.mica_commands.specs.declared.draw.OpKind.{OpKind}
use Rattle.mica_commands.specs.declared.draw.OpKind.TheVariants.{Put, Del, Get}
use Rattle.mica_commands.specs.GenOptions.{is_valid, syncs_of}
use Rattle.mica_commands.specs.Generator.{word, kind_by, key_number, padded, drawn_key, drawn, line_by, drawn_line, drawn_lines, ends_round, generated_at, generated}
use Rattle.mica_commands.proofs.GenFacts.{GenFacts, gen_facts, five_digits, few_keys}

-- texts

All_append : {X : Type 0} (P : X → Type 0) (xs ys : List X) → AllByRecursion P xs → AllByRecursion P ys → AllByRecursion P (xs ++ ys)
All_append P [] ys left right = right
All_append P (x ∷ xs) ys left right = (left.0, All_append P xs ys left.1 right)

visible_digits : (ds : List ℕ) → AllDigits 10 ds → AllByRecursion (λ b. (33 ≤ b) × (b ≤ 126)) ds
visible_digits [] all = tt
visible_digits (d ∷ ds) all = grind (arith, common_steps, visible_digits ds all.1)

visible_zeros : (n : ℕ) → AllByRecursion (λ b. (33 ≤ b) × (b ≤ 126)) (replicate n 48)
visible_zeros zero = tt
visible_zeros (suc n) = ((omega arith, omega arith), visible_zeros n)

visible_padded : (len n : ℕ) → n < 100000 → AllByRecursion (λ b. (33 ≤ b) × (b ≤ 126)) (padded len n)
visible_padded len n less =
    All_append _ (replicate (len - length (decimal n)) 48) (decimal n) (visible_zeros _)
    (visible_digits (decimal n) (digits_decimal (numerals_by_value (AllDigits 10) tells_digits) n (omega arith)))

length_padded : (len n : ℕ) → length (decimal n) ≤ len → length (padded len n) ≡ len
length_padded len n fits = grind (arith, common_steps)

-- the lines of n operations from operation i on
abbrev lines_of : GenOptions → ℕ → ℕ → List TraceLine
lines_of options i n = flat_map (generated_at options) (range_with_len i n)

-- the lines that are left from operation i on
abbrev pub lines_from : GenOptions → ℕ → List TraceLine
lines_from options i = lines_of options i (options.ops - i)

from_next : (options : GenOptions) (i : ℕ) → i < options.ops → lines_from options i ≡ generated_at options i ++ lines_from options (i + 1)
from_next options i less = ap (lines_of options i) (let is : options.ops - i ≡ suc (options.ops - (i + 1)) = omega arith in is)

from_last : (options : GenOptions) (i : ℕ) → options.ops ≤ i → lines_from options i ≡ []
from_last options i all = ap (lines_of options i) (let is : options.ops - i ≡ 0 = omega arith in is)

-- what is made and what is left stay the whole, where the next part goes from one to the other
moved : {X : Type 0} (made more next rest whole : List X) → more ≡ made ++ next → made ++ (next ++ rest) ≡ whole → more ++ rest ≡ whole
moved made more next rest whole is left = ap (λ m. m ++ rest) is ∙ append_assoc made next rest ∙ left

pub lines_moved : (options : GenOptions) (i : ℕ) (draw : Draw) (made more : List TraceLine) → i < options.ops → draw ≡ drawn options i
    → more ≡ made ++ drawn_lines options draw → made ++ lines_from options i ≡ generated options → more ++ lines_from options (i + 1) ≡ generated options
lines_moved options i draw made more less is pushed left =
    grind (arith, common_steps, moved made more (generated_at options i) (lines_from options (i + 1)) (generated options), from_next options i less)

pub lines_done : (options : GenOptions) (i : ℕ) (made : List TraceLine) → options.ops ≤ i → made ++ lines_from options i ≡ generated options → made ≡ generated options
lines_done options i made all left = sym (append-nil made) ∙ ap (λ lines. made ++ lines) (sym (from_last options i all)) ∙ left

-- each operation is a line of a trace, and no sync

no_sync : (kind : OpKind) (key value : List ℕ) → is_sync (line_by kind key value) ≡ false
no_sync Put key value = refl
no_sync Del key value = refl
no_sync Get key value = refl

has_fields : (kind : OpKind) (key value : List ℕ) → IsKey key → IsValue value → IsTraceLine (line_by kind key value)
has_fields Put key value key_is value_is = (key_is, value_is)
has_fields Del key value key_is value_is = (key_is, refl)
has_fields Get key value key_is value_is = (key_is, refl)

visible_value : (text : List ℕ) → AllByRecursion (λ b. (33 ≤ b) × (b ≤ 126)) text → AllByRecursion (λ b. (32 ≤ b) × (b ≤ 126)) text
visible_value [] all = tt
visible_value (b ∷ text) all = let least = all.0.0 in let most = all.0.1 in ((omega arith, omega arith), visible_value text all.1)

module _ (options : GenOptions) (facts : GenFacts options) where
  is_key : (number : ℕ) → number < 65536 → IsKey (drawn_key options number)
  is_key number few =
      let digits = five_digits number (omega arith) in
      let low = facts.key_low in
      let high = facts.key_high in
      let long = length_padded (options.key_len - 1) number (omega arith) in
      ((omega arith, omega arith), ((omega arith, omega arith), visible_padded (options.key_len - 1) number (omega arith)))

  is_value : (i : ℕ) → i < options.ops → IsValue (padded options.value_len i)
  is_value i less =
      let most = facts.ops_high in
      let digits = five_digits i (omega arith) in
      let low = facts.value_low in
      let high = facts.value_high in
      let long = length_padded options.value_len i (omega arith) in
      (omega arith, visible_value _ (visible_padded options.value_len i (omega arith)))

  operation_fits : (i : ℕ) → i < options.ops → IsTraceLine (drawn_line options (drawn options i))
  operation_fits i less =
      has_fields (kind_by options (word options (3 * i))) _ _
      (is_key (key_number options (word options (3 * i + 1)) (word options (3 * i + 2))) (few_keys options facts _ _)) (is_value i less)

  lines_fit : (i : ℕ) → i < options.ops → AllByRecursion IsTraceLine (generated_at options i)
  lines_fit i less = (operation_fits i less, go (ends_round options i))
    where
      go : (ends : Bool) → AllByRecursion IsTraceLine (cond ends (sync_line ∷ []) [])
      go true = ((refl, refl), tt)
      go false = tt

  all_in : (n i : ℕ) → i + n ≤ options.ops → AllByRecursion IsTraceLine (lines_of options i n)
  all_in zero i within = tt
  all_in (suc n) i within = All_append IsTraceLine (generated_at options i) (lines_of options (i + 1) n) (lines_fit i (omega arith)) (all_in n (i + 1) (omega arith))

  pub all_fit : AllByRecursion IsTraceLine (generated options)
  all_fit = all_in options.ops 0 (omega arith)

-- how many rounds end

-- a whole quotient more, where the remainder comes back to nothing
div_step : (n d : ℕ) → 1 ≤ d → (n + 1) / d ≡ n / d + cond (eqb ((n + 1) % d) 0) 1 0
div_step n d some = grind (arith, common_steps)

record Counted (lines : List TraceLine) (ops syncs : ℕ) : Type 0 where
  pub syncs_are : syncs_in lines ≡ syncs
  pub lines_are : length lines ≡ ops + syncs

sync_behind : (line : TraceLine) (ends : Bool) → is_sync line ≡ false → Counted (line ∷ cond ends (sync_line ∷ []) []) 1 (cond ends 1 0)
sync_behind line true plain = grind (arith, common_steps)
sync_behind line false plain = grind (arith, common_steps)

lines_append : {xs ys : List TraceLine} {a b c d n : ℕ} → Counted xs a b → Counted ys c d → n ≡ a + c → Counted (xs ++ ys) n (b + d)
lines_append {xs} {ys} left right all = grind (arith, common_steps)

module _ (options : GenOptions) (facts : GenFacts options) where
  counted_at : (i : ℕ) → Counted (generated_at options i) 1 (cond (ends_round options i) 1 0)
  counted_at i = sync_behind (drawn_line options (drawn options i)) (ends_round options i) (no_sync (kind_by options (word options (3 * i))) _ _)

  -- the operations from i on end as many rounds as the whole trace and the first i do not
  counted : (n i : ℕ) → i + suc n ≡ options.ops → (syncs : ℕ) × (syncs + i / options.every ≡ syncs_of options) × Counted (lines_of options i (suc n)) (suc n) syncs
  counted zero i is =
      let last : nat_lt (i + 1) options.ops ≡ false = le-ltb _ _ (omega arith) in
      let ends : ends_round options i ≡ false = ap (λ t. eqb ((i + 1) % options.every) 0 && t) last ∙ and-false _ in
      let whole : options.ops - 1 ≡ i = omega arith in
      let same = ap (λ m. m / options.every) whole in
      (0, omega arith, subst (λ lines. Counted lines 1 0) (sym (append-nil (generated_at options i))) (subst (λ t. Counted (generated_at options i) 1 (cond t 1 0)) ends (counted_at i)))
  counted (suc n) i is =
      let last : nat_lt (i + 1) options.ops ≡ true = lt-ltb _ _ (omega arith) in
      let ends : ends_round options i ≡ eqb ((i + 1) % options.every) 0 = ap (λ t. eqb ((i + 1) % options.every) 0 && t) last ∙ and-true _ in
      let rest = counted n (i + 1) (omega arith) in
      let step = div_step i options.every facts.every_low ∙ ap (λ t. i / options.every + cond t 1 0) (sym ends) in
      let sum = rest.1 in
      (cond (ends_round options i) 1 0 + rest.0, omega arith, lines_append (counted_at i) rest.2 (omega arith))

  counted_all : Counted (generated options) options.ops (syncs_of options)
  counted_all =
      let some = facts.ops_low in
      let whole = counted (options.ops - 1) 0 (omega arith) in
      let none = zero-div options.every in
      let sum = whole.1 in
      let syncs : whole.0 ≡ syncs_of options = omega arith in
      let ops : suc (options.ops - 1) ≡ options.ops = omega arith in
      subst (λ n. Counted (lines_of options 0 n) n (syncs_of options)) ops (subst (λ s. Counted (lines_of options 0 (suc (options.ops - 1))) (suc (options.ops - 1)) s) syncs whole.2)

  pub within_limits : IsWithinLimits (generated options)
  within_limits =
      let syncs = counted_all.syncs_are in
      let lines = counted_all.lines_are in
      let rounds = facts.rounds in
      let most = facts.lines in
      record { few_lines = omega arith; few_rounds = omega arith }

-- the bytes of the text

text_append : (xs ys : List TraceLine) → trace_text (xs ++ ys) ≡ trace_text xs ++ trace_text ys
text_append xs ys = flat_map-append (λ line. line_text line ++ 10 ∷ []) xs ys

pub text_moved : (options : GenOptions) (i : ℕ) (draw : Draw) (made more : List ℕ) → i < options.ops → draw ≡ drawn options i
    → more ≡ made ++ trace_text (drawn_lines options draw) → made ++ trace_text (lines_from options i) ≡ trace_text (generated options)
    → more ++ trace_text (lines_from options (i + 1)) ≡ trace_text (generated options)
text_moved options i draw made more less is pushed left =
    let next = ap trace_text (from_next options i less) ∙ text_append (generated_at options i) (lines_from options (i + 1)) in
    grind (arith, common_steps)

length_text : (xs ys : List TraceLine) → length (trace_text (xs ++ ys)) ≡ length (trace_text xs) + length (trace_text ys)
length_text xs ys = ap length (text_append xs ys) ∙ length-append (trace_text xs) (trace_text ys)

text_of_one : (line : TraceLine) → length (trace_text (line ∷ [])) ≡ length (line_text line) + 1
text_of_one line = ap length (append-nil (line_text line ++ 10 ∷ [])) ∙ length-append (line_text line) (10 ∷ [])

line_length : (kind : OpKind) (key value : List ℕ) → length (line_text (line_by kind key value)) ≤ 5 + length key + length value
line_length Put key value = let parts = length-append key (32 ∷ value) in omega arith
line_length Del key value = omega arith
line_length Get key value = omega arith

module _ (options : GenOptions) (facts : GenFacts options) where
  operation_length : (i : ℕ) → i < options.ops → length (line_text (drawn_line options (drawn options i))) ≤ 5 + options.key_len + options.value_len
  operation_length i less =
      let number = key_number options (word options (3 * i + 1)) (word options (3 * i + 2)) in
      let few = few_keys options facts (word options (3 * i + 1)) (word options (3 * i + 2)) in
      let most = facts.ops_high in
      let key_low = facts.key_low in
      let value_low = facts.value_low in
      let digits = five_digits number (omega arith) in
      let key = length_padded (options.key_len - 1) number (omega arith) in
      let value_digits = five_digits i (omega arith) in
      let value = length_padded options.value_len i (omega arith) in
      let line = line_length (kind_by options (word options (3 * i))) (drawn_key options number) (padded options.value_len i) in
      omega arith

  length_at : (i : ℕ) → i < options.ops → length (trace_text (generated_at options i)) ≤ 6 + options.key_len + options.value_len + 5 * cond (ends_round options i) 1 0
  length_at i less = go (ends_round options i) (operation_length i less)
    where
      line : TraceLine
      line = drawn_line options (drawn options i)

      go : (ends : Bool) → length (line_text line) ≤ 5 + options.key_len + options.value_len
          → length (trace_text (line ∷ cond ends (sync_line ∷ []) [])) ≤ 6 + options.key_len + options.value_len + 5 * cond ends 1 0
      go true short = let both = length_text (line ∷ []) (sync_line ∷ []) in let one = text_of_one line in omega arith
      go false short = let one = text_of_one line in omega arith

  length_in : (n i : ℕ) → i + n ≤ options.ops → length (trace_text (lines_of options i n)) ≤ n * (6 + options.key_len + options.value_len) + 5 * syncs_in (lines_of options i n)
  length_in zero i within = omega arith
  length_in (suc n) i within =
      grind (arith, common_steps, length_at i (omega arith), length_in n (i + 1) (omega arith), counted_at options facts i, sum_by-append, length_text (generated_at options i) (lines_of options (i + 1) n))

  -- the text is no longer than a source may be
  short_text : length (trace_text (generated options)) ≤ MAX_SOURCE_LEN
  short_text = grind (arith, common_steps, counted_all options facts, length_in options.ops 0 (omega arith))

pub text_fits : (options : GenOptions) → is_valid options ≡ true → length (trace_text (generated options)) ≤ MAX_SOURCE_LEN
text_fits options valid = short_text options (gen_facts options valid)
