-- Bytes that begin with the text of a get, a set or a count.
use Rattle.std.proofs.Common.{◌≡◌, ℕ, zero, suc, ◌+◌, ◌-◌, ◌*◌, ◌<◌, ◌≤◌, Bool, true, false, cond, eqb, eqb-true, List, [], ◌∷◌, ◌++◌, length, take, get_or, None, nat_le, refl, sym, ap, subst, ◌∙◌, arith, codes, length-append, append_assoc}
use Rattle.std.specs.Fmt.{decimal}
use Rattle.std.specs.Char.{is_ascii_digit, digit_value}
use Rattle.std.specs.Str.{all_ascii_digits}
use Rattle.std.specs.Str.Parse.{digits_value}
use Rattle.std.proofs.lemmas.Fmt.{decimal_digit, decimal-digits_value}
use Rattle.std.proofs.lemmas.Int.Digits.{digits_value_more}
use Rattle.std.proofs.lemmas.Bool.{le-leb}
use Rattle.std.proofs.lemmas.List.{append-nil, take_more}
use Rattle.memchr.specs.Find.{is_byte3}
use Rattle.memcached_text.specs.declared.limits.TheConstants.{MAX_KEY_LEN, MAX_TEXT_LEN}
use Rattle.memcached_text.specs.declared.lifetime.TheConstants.{MAX_SECONDS, LAST_SAID}
use Rattle.memcached_text.specs.declared.lifetime.Lifetime.TheVariants.{Forever, Over, For, Until}
use Rattle.memcached_text.specs.declared.command.Command.{Command}
use Rattle.memcached_text.specs.declared.command.Command.TheVariants.{Get, Store, Count}
use Rattle.memcached_text.specs.declared.next.Next.TheVariants as nexts
use Rattle.memcached_text.specs.declared.command.Wants.TheVariants.{Whatever}
use Rattle.memcached_text.specs.declared.command.Direction.{Direction}
use Rattle.memcached_text.specs.declared.command.Direction.TheVariants.{Up, Down}
use Rattle.memcached_text.specs.Lines.{Lacks}
use Rattle.memcached_text.specs.Lifetimes.{lifetime_at}
use Rattle.memcached_text.specs.Next.{most_line, next_of}
use Rattle.memcached_text.proofs.NextLaws.{may_be}
use Rattle.memcached_text.specs.Spelling.{IsKey, asking, lifetime_text, count_word, command_text, BeginsAs}
use Rattle.memcached_text.proofs.NumberLaws.{own, both, digit_is}
use Rattle.memcached_text.proofs.FitLaws.{at_said}
use Rattle.memcached_text.proofs.SpellingLaws.{regroup_text, text_len, reads_back}

-- bytes that begin with the text of a command are read as it
pub begins_next : (from : List ℕ) (command : Command) (len : ℕ) → BeginsAs from command len → nexts.Command command len ≡ next_of from
begins_next from command len is = ap (λ n. nexts.Command command n) is.whole ∙ sym (ap next_of is.text ∙ reads_back command is.more is.is)

-- bytes of which none up to a place is a space, a line feed or a 0
pub lacks_before : (text : List ℕ) (k : ℕ) → ((j : ℕ) → 0 ≤ j → j < k → ¬ (is_byte3 32 10 0 (get_or text j 0) ≡ true)) → Lacks 32 (take k text) × Lacks 10 (take k text) × Lacks 0 (take k text)
lacks_before text zero none = (tt, tt, tt)
lacks_before [] (suc k) none = (tt, tt, tt)
lacks_before (b ∷ text) (suc k) none =
    let here : ¬ (is_byte3 32 10 0 b ≡ true) = none 0 (omega arith) (omega arith) in
    let later = lacks_before text k (λ j low high. none (suc j) (omega arith) (omega arith)) in
    (((λ e. here (rw e refl)), later.0), ((λ e. here (rw e refl)), later.1), ((λ e. here (rw e refl)), later.2))

pub take_within : (text : List ℕ) (k m : ℕ) → k ≤ m → take k (take m text) ≡ take k text
take_within text zero m le = refl
take_within text (suc k) zero le = absurd (omega arith)
take_within [] (suc k) (suc m) le = refl
take_within (b ∷ text) (suc k) (suc m) le = ap (λ t. b ∷ t) (take_within text k m (omega arith))

pub Lacks_front : (byte : ℕ) (a b : List ℕ) → Lacks byte (a ++ b) → Lacks byte a
Lacks_front byte [] b lacks = tt
Lacks_front byte (x ∷ a) b lacks = (lacks.0, Lacks_front byte a b lacks.1)

-- a get of one key
pub get_begins : (from text line tail rest key : List ℕ) → from ≡ codes "get " ++ text → text ≡ line ++ tail → Lacks 32 line → Lacks 10 line → Lacks 0 line → tail ≡ 10 ∷ rest → line ≡ key ++ 13 ∷ [] → 0 < length key → length key ≤ MAX_KEY_LEN → BeginsAs from (Get (key ∷ []) false None) (length line + 5)
get_begins from text line tail rest key whole parts no_space no_feed no_zero feed stripped some short =
    let is_key : IsKey key = record {
      some = some;
      short = short;
      no_space = Lacks_front 32 key (13 ∷ []) (subst (Lacks 32) stripped no_space);
      no_feed = Lacks_front 10 key (13 ∷ []) (subst (Lacks 10) stripped no_feed);
      no_zero = Lacks_front 0 key (13 ∷ []) (subst (Lacks 0) stripped no_zero);
    } in
    let fits : length (codes "get " ++ (key ++ [])) < most_line (codes "get " ++ (key ++ [])) = omega (arith, short, may_be (codes "get " ++ (key ++ [])), length-append (codes "get ") (key ++ []), length-append key []) in
    let here : from ≡ codes "get " ++ (key ++ 13 ∷ 10 ∷ rest) = whole ∙ ap (λ t. codes "get " ++ t) (parts ∙ ap (λ t. t ++ tail) stripped ∙ ap (λ t. (key ++ 13 ∷ []) ++ t) feed ∙ append_assoc key (13 ∷ []) (10 ∷ rest)) in
    let there : command_text (Get (key ∷ []) false None) ++ rest ≡ codes "get " ++ (key ++ 13 ∷ 10 ∷ rest) = regroup_text (codes "get " ++ (key ++ [])) [] rest ∙ ap (λ t. codes "get " ++ (t ++ 13 ∷ 10 ∷ rest)) (append-nil key) in
    let size : length (command_text (Get (key ∷ []) false None)) ≡ length (codes "get " ++ (key ++ [])) + 2 + 0 = text_len (codes "get " ++ (key ++ [])) [] in
    let long : length line ≡ length key + 1 = ap length stripped ∙ length-append key (13 ∷ []) in
    let count : length line + 5 ≡ length (codes "get " ++ (key ++ [])) + 2 + 0 = omega (arith, long, length-append (codes "get ") (key ++ []), length-append key []) in
    record {
      is = (omega arith, (is_key, tt), fits);
      more = rest;
      text = here ∙ sym there;
      whole = count ∙ sym size;
    }

digits_push : (ds : List ℕ) (c : ℕ) → all_ascii_digits ds ≡ true → is_ascii_digit c ≡ true → all_ascii_digits (ds ++ c ∷ []) ≡ true
digits_push [] c all is = rw is refl
digits_push (d ∷ ds) c all is = let parts = both (is_ascii_digit d) (all_ascii_digits ds) all in rw (parts.0, digits_push ds c parts.1 is) refl

-- These digits were read as this number.
pub record IsRead (word : List ℕ) (number : ℕ) : Type 0 where
  pub digits : all_ascii_digits word ≡ true
  pub value : digits_value 10 word ≡ number

pub nothing_read : (text : List ℕ) → IsRead (take 0 text) 0
nothing_read text = record { digits = refl; value = refl }

pub digit_read : (text : List ℕ) (len number : ℕ) → len < length text → IsRead (take len text) number → is_ascii_digit (get_or text len 0) ≡ true → IsRead (take (len + 1) text) (number * 10 + (get_or text len 0 - 48))
digit_read text len number within read is = record {
  digits = ap all_ascii_digits (take_more text len 0 within) ∙ digits_push (take len text) (get_or text len 0) read.digits is;
  value = digits_value_more 10 text len within ∙ ap (λ n. n * 10 + digit_value (get_or text len 0)) read.value ∙ ap (λ d. number * 10 + d) (digit_is (get_or text len 0) is);
}

-- digits with no zero before them are how their number is spelled
pub spelled_number : (text word rest : List ℕ) (number : ℕ) → text ≡ word ++ rest → IsRead word number → 0 < length word → (get_or word 0 0 ≡ 48 → length word ≡ 1) → number ≤ 4294967295 → text ≡ decimal number ++ rest
spelled_number text word rest number parts read some plain small =
    let spelled : decimal (digits_value 10 word) ≡ word = decimal-digits_value own word read.digits some plain (omega (arith, read.value)) in
    parts ∙ ap (λ w. w ++ rest) (sym spelled ∙ ap decimal read.value)

lifetime_spelled : (n : ℕ) → n ≤ LAST_SAID → lifetime_text (lifetime_at n) ≡ decimal n
lifetime_spelled n low = go (eqb n 0) refl (nat_le n MAX_SECONDS)
  where
    go : (zero : Bool) → eqb n 0 ≡ zero → (short : Bool) → lifetime_text (cond zero Forever (cond short (For n) (cond (nat_le n LAST_SAID) (Until n) Over))) ≡ decimal n
    go true is short = let here : n ≡ 0 = eqb-true n 0 is in rw here (sym (decimal_digit 0 (omega arith)))
    go false is true = refl
    go false is false = rw (le-leb n LAST_SAID low) refl

-- words with a space between each two, and what stands behind them
regroup_words : (a b c d e x : List ℕ) → (a ++ 32 ∷ (b ++ 32 ∷ (c ++ 32 ∷ (d ++ e)))) ++ x ≡ a ++ 32 ∷ (b ++ 32 ∷ (c ++ 32 ∷ (d ++ (e ++ x))))
regroup_words a b c d e x =
    append_assoc a (32 ∷ (b ++ 32 ∷ (c ++ 32 ∷ (d ++ e)))) x
    ∙ ap (λ t. a ++ 32 ∷ t) (append_assoc b (32 ∷ (c ++ 32 ∷ (d ++ e))) x
    ∙ ap (λ t. b ++ 32 ∷ t) (append_assoc c (32 ∷ (d ++ e)) x ∙ ap (λ t. c ++ 32 ∷ t) (append_assoc d e x)))

-- the text of a set, with more behind it
set_text : (key value more : List ℕ) (flags expiry len : ℕ) (quiet : Bool) → length value ≡ len → expiry ≤ LAST_SAID
    → command_text (Store Whatever key flags (lifetime_at expiry) value quiet) ++ more ≡ codes "set " ++ (key ++ 32 ∷ (decimal flags ++ 32 ∷ (decimal expiry ++ 32 ∷ (decimal len ++ (asking quiet ++ 13 ∷ 10 ∷ (value ++ 13 ∷ 10 ∷ more))))))
set_text key value more flags expiry len quiet count near =
    regroup_text (codes "set " ++ (key ++ 32 ∷ (decimal flags ++ 32 ∷ (lifetime_text (lifetime_at expiry) ++ 32 ∷ (decimal (length value) ++ asking quiet))))) (value ++ codes "\r\n") more
    ∙ ap (λ t. codes "set " ++ t) (regroup_words key (decimal flags) (lifetime_text (lifetime_at expiry)) (decimal (length value)) (asking quiet) (13 ∷ 10 ∷ (value ++ codes "\r\n" ++ more)))
    ∙ ap (λ t. codes "set " ++ (key ++ 32 ∷ (decimal flags ++ 32 ∷ (t ++ 32 ∷ (decimal (length value) ++ (asking quiet ++ 13 ∷ 10 ∷ (value ++ codes "\r\n" ++ more))))))) (lifetime_spelled expiry near)
    ∙ ap (λ n. codes "set " ++ (key ++ 32 ∷ (decimal flags ++ 32 ∷ (decimal expiry ++ 32 ∷ (decimal n ++ (asking quiet ++ 13 ∷ 10 ∷ (value ++ codes "\r\n" ++ more))))))) count
    ∙ ap (λ t. codes "set " ++ (key ++ 32 ∷ (decimal flags ++ 32 ∷ (decimal expiry ++ 32 ∷ (decimal len ++ (asking quiet ++ 13 ∷ 10 ∷ t)))))) (append_assoc value (codes "\r\n") more)

-- what each step of reading a set found
pub record IsSetText (from key value more : List ℕ) (flags expiry len : ℕ) (quiet : Bool) : Type 0 where
  pub text : List ℕ
  pub behind_key : List ℕ
  pub numbers : List ℕ
  pub behind_flags : List ℕ
  pub behind_expiry : List ℕ
  pub tail : List ℕ
  pub block : List ℕ
  pub whole : from ≡ codes "set " ++ text
  pub parts : text ≡ key ++ behind_key
  pub space : behind_key ≡ 32 ∷ numbers
  pub flags_read : numbers ≡ decimal flags ++ 32 ∷ behind_flags
  pub expiry_read : behind_flags ≡ decimal expiry ++ 32 ∷ behind_expiry
  pub len_read : behind_expiry ≡ decimal len ++ tail
  pub tail_read : tail ≡ asking quiet ++ 13 ∷ 10 ∷ block
  pub block_read : block ≡ value ++ 13 ∷ 10 ∷ more

pub set_is : (from key value more : List ℕ) (flags expiry len : ℕ) (quiet : Bool) → IsSetText from key value more flags expiry len quiet → from ≡ codes "set " ++ (key ++ 32 ∷ (decimal flags ++ 32 ∷ (decimal expiry ++ 32 ∷ (decimal len ++ (asking quiet ++ 13 ∷ 10 ∷ (value ++ 13 ∷ 10 ∷ more))))))
set_is from key value more flags expiry len quiet is =
    is.whole ∙ ap (λ t. codes "set " ++ t) (is.parts ∙ ap (λ t. key ++ t) (is.space ∙ ap (λ t. 32 ∷ t) (is.flags_read
    ∙ ap (λ t. decimal flags ++ 32 ∷ t) (is.expiry_read ∙ ap (λ t. decimal expiry ++ 32 ∷ t) (is.len_read
    ∙ ap (λ t. decimal len ++ t) (is.tail_read ∙ ap (λ t. asking quiet ++ 13 ∷ 10 ∷ t) is.block_read))))))

pub set_begins : (from key value more : List ℕ) (flags expiry len : ℕ) (quiet : Bool) → IsSetText from key value more flags expiry len quiet → IsKey key → flags ≤ 4294967295 → expiry ≤ LAST_SAID → length value ≡ len → len ≤ MAX_TEXT_LEN → BeginsAs from (Store Whatever key flags (lifetime_at expiry) value quiet) (length from - length more)
set_begins from key value more flags expiry len quiet is is_key flags_is expiry_is count small =
    let text : from ≡ command_text (Store Whatever key flags (lifetime_at expiry) value quiet) ++ more = set_is from key value more flags expiry len quiet is ∙ sym (set_text key value more flags expiry len quiet count expiry_is) in
    let size : length from ≡ length (command_text (Store Whatever key flags (lifetime_at expiry) value quiet)) + length more = ap length text ∙ length-append (command_text (Store Whatever key flags (lifetime_at expiry) value quiet)) more in
    record {
      is = (tt, is_key, omega arith, at_said expiry expiry_is, omega arith);
      more = more;
      text = text;
      whole = omega arith;
    }

-- the text of a count, with more behind it
count_text : (direction : Direction) (key more : List ℕ) (delta : ℕ) (quiet : Bool)
    → command_text (Count direction key delta quiet) ++ more ≡ count_word direction ++ 32 ∷ (key ++ 32 ∷ (decimal delta ++ (asking quiet ++ 13 ∷ 10 ∷ more)))
count_text Up key more delta quiet =
    regroup_text (codes "incr " ++ (key ++ 32 ∷ (decimal delta ++ asking quiet))) [] more
    ∙ ap (λ t. codes "incr " ++ t) (append_assoc key (32 ∷ (decimal delta ++ asking quiet)) (13 ∷ 10 ∷ more) ∙ ap (λ t. key ++ 32 ∷ t) (append_assoc (decimal delta) (asking quiet) (13 ∷ 10 ∷ more)))
count_text Down key more delta quiet =
    regroup_text (codes "decr " ++ (key ++ 32 ∷ (decimal delta ++ asking quiet))) [] more
    ∙ ap (λ t. codes "decr " ++ t) (append_assoc key (32 ∷ (decimal delta ++ asking quiet)) (13 ∷ 10 ∷ more) ∙ ap (λ t. key ++ 32 ∷ t) (append_assoc (decimal delta) (asking quiet) (13 ∷ 10 ∷ more)))

-- what each step of reading a count found
pub record IsCountText (direction : Direction) (from key more : List ℕ) (delta : ℕ) (quiet : Bool) : Type 0 where
  pub text : List ℕ
  pub behind_key : List ℕ
  pub numbers : List ℕ
  pub tail : List ℕ
  pub whole : from ≡ count_word direction ++ 32 ∷ text
  pub parts : text ≡ key ++ behind_key
  pub space : behind_key ≡ 32 ∷ numbers
  pub delta_read : numbers ≡ decimal delta ++ tail
  pub tail_read : tail ≡ asking quiet ++ 13 ∷ 10 ∷ more

pub count_begins : (direction : Direction) (from key more : List ℕ) (delta : ℕ) (quiet : Bool) → IsCountText direction from key more delta quiet → IsKey key → delta ≤ 4294967295 → BeginsAs from (Count direction key delta quiet) (length from - length more)
count_begins direction from key more delta quiet is is_key small =
    let here : from ≡ count_word direction ++ 32 ∷ (key ++ 32 ∷ (decimal delta ++ (asking quiet ++ 13 ∷ 10 ∷ more))) =
    is.whole ∙ ap (λ t. count_word direction ++ 32 ∷ t) (is.parts ∙ ap (λ t. key ++ t) (is.space ∙ ap (λ t. 32 ∷ t) (is.delta_read ∙ ap (λ t. decimal delta ++ t) is.tail_read))) in
    let text : from ≡ command_text (Count direction key delta quiet) ++ more = here ∙ sym (count_text direction key more delta quiet) in
    let size : length from ≡ length (command_text (Count direction key delta quiet)) + length more = ap length text ∙ length-append (command_text (Count direction key delta quiet)) more in
    record {
      is = (is_key, omega arith);
      more = more;
      text = text;
      whole = omega arith;
    }
