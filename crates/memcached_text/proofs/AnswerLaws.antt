-- None of all answers begins another.
use Rattle.std.proofs.Common.{◌≡◌, ℕ, ◌^◌, ◌<◌, Bool, true, false, true≢false, eqb, eqb-true, List, [], ◌∷◌, ◌++◌, length, flat_map, refl, sym, ap, ◌∙◌, arith, codes, rules, append_assoc}
use Rattle.std.specs.Fmt.{decimal}
use Rattle.std.specs.Prelude.{nat_eq}
use Rattle.std.specs.List.{AllByRecursion, starts_with}
use Rattle.std.specs.Str.{all_ascii_digits}
use Rattle.std.proofs.lemmas.Fmt.{decimal_nonempty}
use Rattle.std.proofs.lemmas.Grind.{common_steps}
use Rattle.memcached_text.specs.declared.fault.Fault.{Fault}
use Rattle.memcached_text.specs.declared.fault.Fault.TheVariants.{Unknown, Format, DeleteUsage, ExpiryFormat, DeltaFormat, BadBlock, TooLarge, NotNumber, NotSupported}
use Rattle.memcached_text.specs.declared.reply.Reply.{Reply}
use Rattle.memcached_text.specs.declared.reply.Reply.TheVariants.{Stored, NotStored, Exists, NoRoom, NoRoomToCount, Deleted, NotFound, Touched, End, Version, Done, Noop, Reset, LongLine}
use Rattle.memcached_text.specs.Lines.{Lacks}
use Rattle.memcached_text.specs.Replies.{reply_text, fault_text, number_text, stat_text, value_text, FoundValue}
use Rattle.memcached_text.specs.Answer.{Stat, IsStat, Part, value, stat, Last, line, refusal, number, part_text, last_text, IsPart, IsLast, IsOneAnswer}
use Rattle.memcached_text.proofs.LineLaws.{Lacks_append}
use Rattle.memcached_text.proofs.NumberLaws.{decimal_lacks, decimal_digits}
use Rattle.memcached_text.proofs.ReplyLaws.{one_split, one_value}

-- a text that is one line
record IsLine (text : List ℕ) : Type 0 where
  line : List ℕ
  whole : text ≡ line ++ 10 ∷ []
  lacks : Lacks 10 line

reply_is_line : (reply : Reply) → IsLine (reply_text reply)
reply_is_line Stored = record { line = codes "STORED\r"; whole = refl; lacks = search rules }
reply_is_line NotStored = record { line = codes "NOT_STORED\r"; whole = refl; lacks = search rules }
reply_is_line Exists = record { line = codes "EXISTS\r"; whole = refl; lacks = search rules }
reply_is_line NoRoom = record { line = codes "SERVER_ERROR out of memory storing object\r"; whole = refl; lacks = search rules }
reply_is_line NoRoomToCount = record { line = codes "SERVER_ERROR out of memory\r"; whole = refl; lacks = search rules }
reply_is_line Deleted = record { line = codes "DELETED\r"; whole = refl; lacks = search rules }
reply_is_line NotFound = record { line = codes "NOT_FOUND\r"; whole = refl; lacks = search rules }
reply_is_line Touched = record { line = codes "TOUCHED\r"; whole = refl; lacks = search rules }
reply_is_line End = record { line = codes "END\r"; whole = refl; lacks = search rules }
reply_is_line Version = record { line = codes "VERSION 1.6.18\r"; whole = refl; lacks = search rules }
reply_is_line Done = record { line = codes "OK\r"; whole = refl; lacks = search rules }
reply_is_line Noop = record { line = codes "MN\r"; whole = refl; lacks = search rules }
reply_is_line Reset = record { line = codes "RESET\r"; whole = refl; lacks = search rules }
reply_is_line LongLine = record { line = codes "CLIENT_ERROR line too long\r"; whole = refl; lacks = search rules }

fault_is_line : (fault : Fault) → IsLine (fault_text fault)
fault_is_line Unknown = record { line = codes "ERROR\r"; whole = refl; lacks = search rules }
fault_is_line Format = record { line = codes "CLIENT_ERROR bad command line format\r"; whole = refl; lacks = search rules }
fault_is_line DeleteUsage = record { line = codes "CLIENT_ERROR bad command line format.  Usage: delete <key> [noreply]\r"; whole = refl; lacks = search rules }
fault_is_line ExpiryFormat = record { line = codes "CLIENT_ERROR invalid exptime argument\r"; whole = refl; lacks = search rules }
fault_is_line DeltaFormat = record { line = codes "CLIENT_ERROR invalid numeric delta argument\r"; whole = refl; lacks = search rules }
fault_is_line BadBlock = record { line = codes "CLIENT_ERROR bad data chunk\r"; whole = refl; lacks = search rules }
fault_is_line TooLarge = record { line = codes "SERVER_ERROR object too large for cache\r"; whole = refl; lacks = search rules }
fault_is_line NotNumber = record { line = codes "CLIENT_ERROR cannot increment or decrement non-numeric value\r"; whole = refl; lacks = search rules }
fault_is_line NotSupported = record { line = codes "ERROR\r"; whole = refl; lacks = search rules }

number_is_line : (n : ℕ) → n < 2 ^ 64 → IsLine (number_text n)
unfolding number_text
number_is_line n is = record {
  line = decimal n ++ 13 ∷ [];
  whole = sym (append_assoc (decimal n) (13 ∷ []) (10 ∷ []));
  lacks = Lacks_append 10 (decimal n) (13 ∷ []) (decimal_lacks 10 n (omega arith) is) ((λ e. omega arith), tt);
}

-- two lines
one_line : (a b x y : List ℕ) → IsLine a → IsLine b → a ++ x ≡ b ++ y → (a ≡ b) × (x ≡ y)
one_line a b x y a_is b_is same =
    let left : a ++ x ≡ a_is.line ++ 10 ∷ x = ap (λ t. t ++ x) a_is.whole ∙ append_assoc a_is.line (10 ∷ []) x in
    let right : b ++ y ≡ b_is.line ++ 10 ∷ y = ap (λ t. t ++ y) b_is.whole ∙ append_assoc b_is.line (10 ∷ []) y in
    let parts = one_split 10 a_is.line x b_is.line y a_is.lacks b_is.lacks (sym left ∙ same ∙ right) in
    (a_is.whole ∙ ap (λ t. t ++ 10 ∷ []) parts.0 ∙ sym b_is.whole, parts.1)

-- how values begin, and how lines of what is counted do
abbrev begins : List ℕ → List ℕ → Bool
begins front text = starts_with nat_eq text front

-- a line that begins in neither way, whatever follows
record IsOther (text : List ℕ) : Type 0 where
  no_value : (x : List ℕ) → begins (codes "VALUE ") (text ++ x) ≡ false
  no_stat : (x : List ℕ) → begins (codes "STAT ") (text ++ x) ≡ false

reply_is_other : (reply : Reply) → IsOther (reply_text reply)
reply_is_other Stored = record { no_value = λ x. refl; no_stat = λ x. refl }
reply_is_other NotStored = record { no_value = λ x. refl; no_stat = λ x. refl }
reply_is_other Exists = record { no_value = λ x. refl; no_stat = λ x. refl }
reply_is_other NoRoom = record { no_value = λ x. refl; no_stat = λ x. refl }
reply_is_other NoRoomToCount = record { no_value = λ x. refl; no_stat = λ x. refl }
reply_is_other Deleted = record { no_value = λ x. refl; no_stat = λ x. refl }
reply_is_other NotFound = record { no_value = λ x. refl; no_stat = λ x. refl }
reply_is_other Touched = record { no_value = λ x. refl; no_stat = λ x. refl }
reply_is_other End = record { no_value = λ x. refl; no_stat = λ x. refl }
reply_is_other Version = record { no_value = λ x. refl; no_stat = λ x. refl }
reply_is_other Done = record { no_value = λ x. refl; no_stat = λ x. refl }
reply_is_other Noop = record { no_value = λ x. refl; no_stat = λ x. refl }
reply_is_other Reset = record { no_value = λ x. refl; no_stat = λ x. refl }
reply_is_other LongLine = record { no_value = λ x. refl; no_stat = λ x. refl }

fault_is_other : (fault : Fault) → IsOther (fault_text fault)
fault_is_other Unknown = record { no_value = λ x. refl; no_stat = λ x. refl }
fault_is_other Format = record { no_value = λ x. refl; no_stat = λ x. refl }
fault_is_other DeleteUsage = record { no_value = λ x. refl; no_stat = λ x. refl }
fault_is_other ExpiryFormat = record { no_value = λ x. refl; no_stat = λ x. refl }
fault_is_other DeltaFormat = record { no_value = λ x. refl; no_stat = λ x. refl }
fault_is_other BadBlock = record { no_value = λ x. refl; no_stat = λ x. refl }
fault_is_other TooLarge = record { no_value = λ x. refl; no_stat = λ x. refl }
fault_is_other NotNumber = record { no_value = λ x. refl; no_stat = λ x. refl }
fault_is_other NotSupported = record { no_value = λ x. refl; no_stat = λ x. refl }

-- digits begin in neither way
digits_begin : (c : ℕ) (front word x : List ℕ) → 57 < c → 0 < length word → all_ascii_digits word ≡ true → begins (c ∷ front) (word ++ x) ≡ false
digits_begin c front [] x high some all = absurd (omega arith)
digits_begin c front (d ∷ word) x high some all = go (eqb c d) refl
  where
    go : (t : Bool) → eqb c d ≡ t → begins (c ∷ front) (d ∷ word ++ x) ≡ false
    go true is = let here : c ≡ d = eqb-true c d is in absurd (grind (arith, common_steps, here, all))
    go false is = rw is refl

number_is_other : (n : ℕ) → n < 2 ^ 64 → IsOther (number_text n)
unfolding number_text
number_is_other n is = record {
  no_value = λ x. ap (begins (codes "VALUE ")) (append_assoc (decimal n) (codes "\r\n") x) ∙ digits_begin 86 (codes "ALUE ") (decimal n) (codes "\r\n" ++ x) (omega arith) (decimal_nonempty n is) (decimal_digits n is);
  no_stat = λ x. ap (begins (codes "STAT ")) (append_assoc (decimal n) (codes "\r\n") x) ∙ digits_begin 83 (codes "TAT ") (decimal n) (codes "\r\n" ++ x) (omega arith) (decimal_nonempty n is) (decimal_digits n is);
}

last_is_line : (last : Last) → IsLast last → IsLine (last_text last)
last_is_line (line reply) is = reply_is_line reply
last_is_line (refusal fault) is = fault_is_line fault
last_is_line (number n) is = number_is_line n is

last_is_other : (last : Last) → IsLast last → IsOther (last_text last)
last_is_other (line reply) is = reply_is_other reply
last_is_other (refusal fault) is = fault_is_other fault
last_is_other (number n) is = number_is_other n is

-- values begin as such, and so does what is counted
value_begins : (found : FoundValue) (x : List ℕ) → begins (codes "VALUE ") (part_text (value found) ++ x) ≡ true
unfolding value_text
value_begins found x = refl

stat_begins : (counted : Stat) (x : List ℕ) → begins (codes "STAT ") (part_text (stat counted) ++ x) ≡ true
unfolding stat_text
stat_begins counted x = refl

value_no_stat : (found : FoundValue) (x : List ℕ) → begins (codes "STAT ") (part_text (value found) ++ x) ≡ false
unfolding value_text
value_no_stat found x = refl

-- a part is no last line
part_begins : (part : Part) (text x y : List ℕ) → IsOther text → part_text part ++ x ≡ text ++ y → ⊥
part_begins (value found) text x y other same = true≢false (sym (value_begins found x) ∙ ap (begins (codes "VALUE ")) same ∙ other.no_value y)
part_begins (stat counted) text x y other same = true≢false (sym (stat_begins counted x) ∙ ap (begins (codes "STAT ")) same ∙ other.no_stat y)

stat_is_line : (counted : Stat) → IsStat counted → IsLine (part_text (stat counted))
unfolding stat_text
stat_is_line counted is = record {
  line = codes "STAT " ++ counted.name ++ 32 ∷ counted.value ++ 13 ∷ [];
  whole = sym (append_assoc (codes "STAT " ++ counted.name ++ 32 ∷ counted.value) (13 ∷ []) (10 ∷ []));
  lacks = Lacks_append 10 (codes "STAT " ++ counted.name ++ 32 ∷ counted.value) (13 ∷ [])
      (Lacks_append 10 (codes "STAT " ++ counted.name) (32 ∷ counted.value) (Lacks_append 10 (codes "STAT ") counted.name (search rules) is.no_feed) ((λ e. omega arith), is.value)) ((λ e. omega arith), tt);
}

-- the first part, and what stands behind it
one_part : (asks : Bool) (a b : Part) (x y : List ℕ) → IsPart asks a → IsPart asks b → part_text a ++ x ≡ part_text b ++ y → (part_text a ≡ part_text b) × (x ≡ y)
one_part asks (value a) (value b) x y a_is b_is same = let one = one_value asks a b x y a_is b_is same in (ap (λ found. part_text (value found)) one.0, one.1)
one_part asks (value a) (stat b) x y a_is b_is same = absurd (true≢false (sym (stat_begins b y) ∙ ap (begins (codes "STAT ")) (sym same) ∙ value_no_stat a x))
one_part asks (stat a) (value b) x y a_is b_is same = absurd (true≢false (sym (stat_begins a x) ∙ ap (begins (codes "STAT ")) same ∙ value_no_stat b y))
one_part asks (stat a) (stat b) x y a_is b_is same = one_line _ _ x y (stat_is_line a a_is) (stat_is_line b b_is) same

-- parts and a last line
abbrev text_of : List Part → Last → List ℕ
text_of parts last = flat_map part_text parts ++ last_text last

whole_one : (part : Part) (parts : List Part) (last : Last) → text_of (part ∷ parts) last ≡ part_text part ++ text_of parts last
whole_one part parts last = append_assoc (part_text part) (flat_map part_text parts) (last_text last)

behind_one : (part : Part) (parts : List Part) (last : Last) (more : List ℕ) → text_of (part ∷ parts) last ++ more ≡ part_text part ++ (text_of parts last ++ more)
behind_one part parts last more = ap (λ t. t ++ more) (whole_one part parts last) ∙ append_assoc (part_text part) (text_of parts last) more

one_text : (asks : Bool) (a b : List Part) (m n : Last) (x y : List ℕ) → AllByRecursion (IsPart asks) a → AllByRecursion (IsPart asks) b → IsLast m → IsLast n
    → text_of a m ++ x ≡ text_of b n ++ y → (text_of a m ≡ text_of b n) × (x ≡ y)
one_text asks [] [] m n x y a_is b_is m_is n_is same = one_line _ _ x y (last_is_line m m_is) (last_is_line n n_is) same
one_text asks [] (b ∷ bs) m n x y a_is b_is m_is n_is same = absurd (part_begins b (last_text m) (text_of bs n ++ y) x (last_is_other m m_is) (sym (behind_one b bs n y) ∙ sym same))
one_text asks (a ∷ as') [] m n x y a_is b_is m_is n_is same = absurd (part_begins a (last_text n) (text_of as' m ++ x) y (last_is_other n n_is) (sym (behind_one a as' m x) ∙ same))
one_text asks (a ∷ as') (b ∷ bs) m n x y a_is b_is m_is n_is same =
    let one = one_part asks a b (text_of as' m ++ x) (text_of bs n ++ y) a_is.0 b_is.0 (sym (behind_one a as' m x) ∙ same ∙ behind_one b bs n y) in
    let later = one_text asks as' bs m n x y a_is.1 b_is.1 m_is n_is one.1 in
    (whole_one a as' m ∙ ap (λ t. t ++ text_of as' m) one.0 ∙ ap (λ t. part_text b ++ t) later.0 ∙ sym (whole_one b bs n), later.1)

pub one_answer : IsOneAnswer
one_answer asks a b x y a_is b_is same = one_text asks a.parts b.parts a.last b.last x y a_is.parts b_is.parts a_is.last b_is.last same
