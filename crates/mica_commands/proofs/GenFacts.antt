-- What valid options of a generated trace keep to.
use Rattle.std.proofs.Common.{◌≡◌, ℕ, ◌+◌, ◌<◌, ◌≤◌, ◌-◌, ◌%◌, ◌/◌, ◌&&◌, Bool, true, false, nat_lt, nat_le, max, length, cond, refl, arith}
use Rattle.std.specs.Int.{is_in_range}
use Rattle.std.specs.Fmt.{decimal}
use Rattle.std.proofs.lemmas.Bool.{false≢true, leb-true, ltb-true}
use Rattle.std.proofs.lemmas.Fmt.{length-decimal-le}
use Rattle.mica_trace.specs.declared.limits.TheConstants.{MAX_LINES, MAX_ROUNDS}
use Rattle.server_words.specs.declared.limits.TheConstants.{MAX_SOURCE_LEN}
use Rattle.mica_commands.specs.declared.gen_options.GenOptions.{GenOptions}
use Rattle.mica_commands.specs.GenOptions.{are_in_ranges, has_room, is_valid, syncs_of, longest_text}
use Rattle.mica_commands.specs.Generator.{key_number}

pub record GenFacts (options : GenOptions) : Type 0 where
  pub ops_low : 1 ≤ options.ops
  pub ops_high : options.ops ≤ 100000
  pub keys_low : 1 ≤ options.keys
  pub keys_high : options.keys ≤ 65536
  pub key_low : 8 ≤ options.key_len
  pub key_high : options.key_len ≤ 255
  pub value_low : 8 ≤ options.value_len
  pub value_high : options.value_len ≤ 1024
  pub every_low : 1 ≤ options.every
  pub shares : options.gets + options.dels ≤ 100
  pub rounds : syncs_of options < MAX_ROUNDS
  pub lines : options.ops + syncs_of options ≤ MAX_LINES
  pub bytes : longest_text options ≤ MAX_SOURCE_LEN

both : (a b : Bool) → (a && b) ≡ true → (a ≡ true) × (b ≡ true)
both true true is = (refl, refl)
both true false is = absurd (false≢true is)
both false b is = absurd (false≢true is)

within : (least most n : ℕ) → is_in_range least most n ≡ true → (least ≤ n) × (n ≤ most)
within least most n is = let parts = both (nat_le least n) (nat_le n most) is in (leb-true _ _ parts.0, leb-true _ _ parts.1)

pub gen_facts : (options : GenOptions) → is_valid options ≡ true → GenFacts options
gen_facts options is =
    let whole = both (are_in_ranges options) (has_room options) is in
    let to_every = both _ (is_in_range 1 100000 options.every) whole.0 in
    let to_hot = both _ (is_in_range 0 100 options.hot) to_every.0 in
    let to_dels = both _ (is_in_range 0 100 options.dels) to_hot.0 in
    let to_gets = both _ (is_in_range 0 100 options.gets) to_dels.0 in
    let to_value = both _ (is_in_range 8 1024 options.value_len) to_gets.0 in
    let to_key = both _ (is_in_range 8 255 options.key_len) to_value.0 in
    let to_keys = both (is_in_range 1 100000 options.ops) (is_in_range 1 65536 options.keys) to_key.0 in
    let ops = within _ _ _ to_keys.0 in
    let keys = within _ _ _ to_keys.1 in
    let key = within _ _ _ to_key.1 in
    let value = within _ _ _ to_value.1 in
    let every = within _ _ _ to_every.1 in
    let to_bytes = both _ (nat_le (longest_text options) MAX_SOURCE_LEN) whole.1 in
    let to_lines = both _ (nat_le (options.ops + syncs_of options) MAX_LINES) to_bytes.0 in
    let to_rounds = both (nat_le (options.gets + options.dels) 100) (nat_lt (syncs_of options) MAX_ROUNDS) to_lines.0 in
    record {
      ops_low = ops.0;
      ops_high = ops.1;
      keys_low = keys.0;
      keys_high = keys.1;
      key_low = key.0;
      key_high = key.1;
      value_low = value.0;
      value_high = value.1;
      every_low = every.0;
      shares = leb-true _ _ to_rounds.0;
      rounds = ltb-true _ _ to_rounds.1;
      lines = leb-true _ _ to_lines.1;
      bytes = leb-true _ _ to_bytes.1;
    }

-- a number below a hundred thousand has five digits at most
pub five_digits : (n : ℕ) → n < 100000 → length (decimal n) ≤ 5
five_digits n less = length-decimal-le 5 n (omega arith) less (omega arith)

pub few_keys : (options : GenOptions) → GenFacts options → (spot w : ℕ) → key_number options spot w < 65536
few_keys options facts spot w = go (nat_lt (spot % 100) options.hot)
  where
    go : (hot : Bool) → cond hot (w % max (options.keys / 100) 1) (w % options.keys) < 65536
    go true = let most = facts.keys_high in let low : 0 < max (options.keys / 100) 1 = omega arith in omega arith
    go false = let low = facts.keys_low in let most = facts.keys_high in omega arith

-- each number fits where it is written
pub key_fits : (options : GenOptions) (n : ℕ) → is_valid options ≡ true → n < 65536 → length (decimal n) ≤ options.key_len - 1
key_fits options n valid few = let low = (gen_facts options valid).key_low in let digits = five_digits n (omega arith) in omega arith

pub value_fits : (options : GenOptions) (n : ℕ) → is_valid options ≡ true → n < options.ops → length (decimal n) ≤ options.value_len
value_fits options n valid few =
    let facts = gen_facts options valid in
    let most = facts.ops_high in
    let low = facts.value_low in
    let digits = five_digits n (omega arith) in
    omega arith
