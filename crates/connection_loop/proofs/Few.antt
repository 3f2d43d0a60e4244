-- A command asks of no more keys than its line has words, so of no more than the line has bytes.
use Rattle.std.proofs.Common.{◌≡◌, ℕ, ◌+◌, ◌≤◌, Bool, true, false, ◌&&◌, ◌||◌, cond, List, [], ◌∷◌, ◌++◌, length, Option, Some, None, nat_lt, refl, sym, ap, subst, arith, codes, length-append}
use Rattle.std.specs.Prelude.{⊤, ◌==◌, bytes_eq, find, option_map, option_and_then}
use Rattle.std.specs.Option.{IfSome}
use Rattle.std.specs.List.{AllByRecursion, list_all, slice_split}
use Rattle.std.proofs.lemmas.Bool.{ltb-false, cond_both}
use Rattle.std.proofs.lemmas.List.{length-map}
use Rattle.std.proofs.lemmas.List.Splits.{length-slice_split}
use Rattle.std.proofs.lemmas.List.Sums.{count_by-le-length, length-filter}
use Rattle.memcached_text.specs.declared.limits.TheConstants.{MAX_TEXT_LEN, MAX_GET_LINE_LEN}
use Rattle.memcached_text.specs.declared.lifetime.Lifetime.{Lifetime}
use Rattle.memcached_text.specs.declared.command.Command.TheVariants as commands
use Rattle.memcached_text.specs.declared.command.Wants.TheVariants.{Whatever, Absent, Present, Numbered, AtLeast}
use Rattle.memcached_text.specs.declared.command.Direction.{Direction}
use Rattle.memcached_text.specs.declared.command.Direction.TheVariants.{Up, Down}
use Rattle.memcached_text.specs.declared.command.Side.TheVariants.{Front, Back}
use Rattle.memcached_text.specs.declared.command.Topic.{Topic}
use Rattle.memcached_text.specs.declared.storage_line.Verb.{Verb}
use Rattle.memcached_text.specs.declared.storage_line.Verb.TheVariants.{Store, Join}
use Rattle.memcached_text.specs.declared.storage_line.ItemLine.{ItemLine}
use Rattle.memcached_text.specs.declared.line.Line.{Line}
use Rattle.memcached_text.specs.declared.line.Line.TheVariants as lines
use Rattle.memcached_text.specs.declared.block.TheConstants.{END_LEN}
use Rattle.memcached_text.specs.declared.block.Block.{Block}
use Rattle.memcached_text.specs.declared.block.Block.TheVariants as blocks
use Rattle.memcached_text.specs.declared.next.Next.{Next}
use Rattle.memcached_text.specs.declared.next.Next.TheVariants.{Command, LongLine, More, Refused}
use Rattle.memcached_text.specs.declared.fault.Fault.TheVariants as faults
use Rattle.memcached_text.specs.Lines.{is_some_text, words_of, without_return, line_at}
use Rattle.memcached_text.specs.Numbers.{number_of}
use Rattle.memcached_text.specs.Lifetimes.{lifetime_of}
use Rattle.memcached_text.specs.Line.{is_key, is_noreply, refused, quiet_tail}
use Rattle.memcached_text.specs.StorageLine.{block_len, item_of, numbered_item_of, stored, set_line, cas_line, dropped, drop_meta_line, command_by, stale_by}
use Rattle.memcached_text.specs.KeyLine.{got, get_line, got_by, get_touch_line, deleted, delete_line, counted_by, counted, count_line, touched_by, touched, touch_line}
use Rattle.memcached_text.specs.ServerLine.{flushed, flush_line, line_on, stats_line, topic_of, verbosity_by, verbosity_line}
use Rattle.memcached_text.specs.Forms.{Form, forms, line_by, ends_as_http, or_unknown, line_of}
use Rattle.memcached_text.specs.Block.{block_at}
use Rattle.memcached_text.specs.Next.{blocked, storing_at, says_at, next_in, is_binary, most_line, next_of}
use Rattle.memcached_text.specs.Stream.{len_of}
use Rattle.memcached_text.proofs.LineLaws.{IsFound, line_found}
use Rattle.memcached_text.proofs.NextLaws.{binary_is, next_is, may_be_most}
use Rattle.memcached_commands.specs.Asks.{asked, get_ask, asks_of, asks_in}

-- Words

few_words : (text : List ℕ) → length (words_of text) ≤ length text + 1
unfolding words_of
few_words text =
    let parts = length-slice_split (λ b. b == 32) text in
    let some = length-filter is_some_text (slice_split (λ b. b == 32) text) in
    let fewer = count_by-le-length is_some_text (slice_split (λ b. b == 32) text) in
    let spaces = count_by-le-length (λ b. b == 32) text in
    omega (arith, parts, some, fewer, spaces)

shorter : (line : List ℕ) → length (without_return line) ≤ length line
shorter [] = omega arith
shorter (b ∷ []) = go (b == 13)
  where
    go : (t : Bool) → length (cond t [] (b ∷ [])) ≤ 1
    go true = omega arith
    go false = omega arith
shorter (b ∷ c ∷ line) = let rest = shorter (c ∷ line) in omega (arith, rest)

infixr 10 ◌&◌
abbrev ◌&◌ : {A B : Type 0} → A → B → A × B
a & b = (a, b)

-- Lines

module _ (most : ℕ) (some : 1 ≤ most) where
  abbrev IsFewLine : Line → Type 0
  IsFewLine (lines.Whole command) = length (asks_of command) ≤ most
  IsFewLine (lines.Storing item len quiet) = ⊤
  IsFewLine (lines.Refused fault quiet block) = ⊤

  abbrev IsFewOption : Option Line → Type 0
  IsFewOption o = IfSome o IsFewLine

  by_tail : (f : Bool → Line) → ((quiet : Bool) → IsFewLine (f quiet)) → (o : Option Bool) → IsFewOption (option_map f o)
  by_tail f fits None = tt
  by_tail f fits (Some quiet) = fits quiet

  either_few : (t : Bool) (x y : Line) → IsFewLine x → IsFewLine y → IsFewLine (cond t x y)
  either_few true x y left right = left
  either_few false x y left right = right

  got_few : (unique : Bool) (lifetime : Option Lifetime) (words : List (List ℕ)) → length words ≤ most → IsFewLine (got unique lifetime words)
  got_few unique lifetime words few =
      either_few (list_all is_key words) (lines.Whole (commands.Get words unique lifetime)) (refused faults.Format false)
      (let same = length-map words (asked (get_ask lifetime)) in omega (arith, same, few)) tt

  get_few : (unique : Bool) (words : List (List ℕ)) → length words ≤ most → IsFewOption (get_line unique words)
  unfolding get_line
  get_few unique [] few = tt
  get_few unique (key ∷ keys) few = got_few unique None (key ∷ keys) few

  get_touch_few : (unique : Bool) (words : List (List ℕ)) → length words ≤ most → IsFewOption (get_touch_line unique words)
  unfolding get_touch_line
  get_touch_few unique [] few = tt
  get_touch_few unique (expiry ∷ keys) few = go (lifetime_of expiry)
    where
      go : (o : Option Lifetime) → IsFewLine (got_by unique o keys)
      go None = tt
      go (Some lifetime) = got_few unique (Some lifetime) keys (omega (arith, few))

  stored_few : (item : Option ItemLine) (len : Option ℕ) (quiet : Bool) → IsFewLine (stored item len quiet)
  unfolding stored
  stored_few None None quiet = tt
  stored_few (Some item) None quiet = tt
  stored_few None (Some len) quiet = tt
  stored_few (Some item) (Some len) quiet = tt

  set_few : (verb : Verb) (words : List (List ℕ)) → IsFewOption (set_line verb words)
  unfolding set_line
  set_few verb [] = tt
  set_few verb (key ∷ []) = tt
  set_few verb (key ∷ flags ∷ []) = tt
  set_few verb (key ∷ flags ∷ expiry ∷ []) = tt
  set_few verb (key ∷ flags ∷ expiry ∷ len ∷ tail) = by_tail _ (λ quiet. stored_few (item_of verb key flags expiry) (block_len len) quiet) (quiet_tail len tail)

  cas_few : (words : List (List ℕ)) → IsFewOption (cas_line words)
  unfolding cas_line
  cas_few [] = tt
  cas_few (key ∷ []) = tt
  cas_few (key ∷ flags ∷ []) = tt
  cas_few (key ∷ flags ∷ expiry ∷ []) = tt
  cas_few (key ∷ flags ∷ expiry ∷ len ∷ []) = tt
  cas_few (key ∷ flags ∷ expiry ∷ len ∷ unique ∷ tail) = by_tail _ (λ quiet. stored_few (numbered_item_of unique key flags expiry) (block_len len) quiet) (quiet_tail unique tail)

  meta_few : (words : List (List ℕ)) → IsFewLine (drop_meta_line words)
  unfolding drop_meta_line
  meta_few [] = tt
  meta_few (key ∷ []) = tt
  meta_few (key ∷ len ∷ tail) = go (block_len len)
    where
      go : (o : Option ℕ) → IsFewLine (dropped o)
      go None = tt
      go (Some n) = tt

  deleted_few : (key : List ℕ) (quiet : Bool) → IsFewLine (deleted key quiet)
  unfolding deleted
  deleted_few key quiet = either_few (is_key key) (lines.Whole (commands.Delete key quiet)) (refused faults.Format quiet) some tt

  delete_few : (words : List (List ℕ)) → IsFewOption (delete_line words)
  unfolding delete_line
  delete_few [] = tt
  delete_few (key ∷ []) = deleted_few key false
  delete_few (key ∷ second ∷ []) = either_few (bytes_eq second (codes "0") || is_noreply second) (deleted key (is_noreply second)) (refused faults.DeleteUsage false) (deleted_few key (is_noreply second)) tt
  delete_few (key ∷ second ∷ third ∷ []) = either_few (bytes_eq second (codes "0") && is_noreply third) (deleted key true) (refused faults.DeleteUsage (is_noreply third)) (deleted_few key true) tt
  delete_few (key ∷ second ∷ third ∷ fourth ∷ words) = tt

  counted_few : (direction : Direction) (key delta : List ℕ) (quiet : Bool) → IsFewLine (counted direction key delta quiet)
  unfolding counted
  counted_few direction key delta quiet =
      either_few (is_key key) (counted_by direction key (number_of 18446744073709551615 delta) quiet) (refused faults.Format quiet) (go (number_of 18446744073709551615 delta)) tt
    where
      go : (o : Option ℕ) → IsFewLine (counted_by direction key o quiet)
      go None = tt
      go (Some n) = some

  count_few : (direction : Direction) (words : List (List ℕ)) → IsFewOption (count_line direction words)
  unfolding count_line
  count_few direction [] = tt
  count_few direction (key ∷ []) = tt
  count_few direction (key ∷ delta ∷ tail) = by_tail _ (λ quiet. counted_few direction key delta quiet) (quiet_tail delta tail)

  touched_few : (key expiry : List ℕ) (quiet : Bool) → IsFewLine (touched key expiry quiet)
  unfolding touched
  touched_few key expiry quiet = either_few (is_key key) (touched_by key (lifetime_of expiry) quiet) (refused faults.Format quiet) (go (lifetime_of expiry)) tt
    where
      go : (o : Option Lifetime) → IsFewLine (touched_by key o quiet)
      go None = tt
      go (Some lifetime) = some

  touch_few : (words : List (List ℕ)) → IsFewOption (touch_line words)
  unfolding touch_line
  touch_few [] = tt
  touch_few (key ∷ []) = tt
  touch_few (key ∷ expiry ∷ tail) = by_tail _ (λ quiet. touched_few key expiry quiet) (quiet_tail expiry tail)

  flushed_few : (o : Option Lifetime) (quiet : Bool) → IsFewLine (flushed o quiet)
  flushed_few None quiet = tt
  flushed_few (Some lifetime) quiet = omega arith

  flush_few : (words : List (List ℕ)) → IsFewOption (flush_line words)
  unfolding flush_line
  flush_few [] = omega arith
  flush_few (word ∷ []) = either_few (is_noreply word) _ _ (omega arith) (flushed_few (lifetime_of word) false)
  flush_few (expiry ∷ last ∷ []) = flushed_few (lifetime_of expiry) (is_noreply last)
  flush_few (a ∷ b ∷ c ∷ words) = tt

  stats_few : (words : List (List ℕ)) → IsFewOption (stats_line words)
  unfolding stats_line
  stats_few [] = omega arith
  stats_few (word ∷ words) = go (topic_of word)
    where
      go : (topic : Option Topic) → IsFewOption (option_map line_on topic)
      go (Some topic) = omega arith
      go None = tt

  verbosity_few : (words : List (List ℕ)) → IsFewOption (verbosity_line words)
  unfolding verbosity_line
  verbosity_few [] = tt
  verbosity_few (level ∷ tail) = by_tail _ (level_few (number_of 18446744073709551615 level)) (quiet_tail level tail)
    where
      level_few : (o : Option ℕ) (quiet : Bool) → IsFewLine (verbosity_by o quiet)
      level_few None quiet = tt
      level_few (Some n) quiet = omega arith

  abbrev IsFewForm : Form → Type 0
  IsFewForm form = (words : List (List ℕ)) → length words ≤ most → IsFewOption (form.meaning words)

  found_few : (test : Form → Bool) (all : List Form) → AllByRecursion IsFewForm all → (words : List (List ℕ)) → length words ≤ most → IsFewOption (option_and_then (λ (form : Form). form.meaning words) (find test all))
  found_few test [] fits words few = tt
  found_few test (form ∷ all) fits words few = go (test form) (found_few test all fits.1 words few)
    where
      go : (t : Bool) → IsFewOption (option_and_then (λ (form : Form). form.meaning words) (find test all)) → IsFewOption (option_and_then (λ (form : Form). form.meaning words) (cond t (Some form) (find test all)))
      go true later = fits.0 words few
      go false later = later

  forms_few : AllByRecursion IsFewForm forms
  forms_few =
      get_few false & (λ words few. set_few (Store Whatever) words) & get_few true & get_touch_few false & get_touch_few true
      & (λ words few. set_few (Store Absent) words) & (λ words few. set_few (Store Present) words) & (λ words few. set_few (Join Back) words) & (λ words few. set_few (Join Front) words)
      & (λ words few. cas_few words) & (λ words few. count_few Up words) & (λ words few. count_few Down words) & (λ words few. delete_few words) & (λ words few. touch_few words)
      & (λ words few. flush_few words) & (λ words few. stats_few words) & (λ words few. omega arith) & (λ words few. verbosity_few words) & (λ words few. omega arith) & (λ words few. omega arith)
      & (λ words few. meta_few words) & tt

  known_few : (words : List (List ℕ)) (o : Option Line) → IsFewOption o → IsFewLine (or_unknown words o)
  known_few words None fits = either_few (ends_as_http words) (lines.Whole commands.Quit) (refused faults.Unknown false) (omega arith) tt
  known_few words (Some line) fits = fits

  line_few : (words : List (List ℕ)) → length words ≤ most → IsFewLine (line_of words)
  unfolding line_of
  line_few [] few = tt
  line_few (name ∷ words) few = known_few (name ∷ words) (line_by forms name words) (found_few (λ form. bytes_eq name form.name) forms forms_few words (omega (arith, few)))

  -- What is said

  abbrev IsFewNext : Next → Type 0
  IsFewNext next = (length (asks_in next) ≤ most) × (length (asks_in next) ≤ len_of next)

  command_few : (verb : Verb) (item : ItemLine) (value : List ℕ) (quiet : Bool) (len : ℕ) → 1 ≤ len → IsFewNext (Command (command_by verb item value quiet) len)
  command_few (Store wants) item value quiet len there = (some, there)
  command_few (Join side) item value quiet len there = (some, there)

  stale_few : (verb : Verb) (key : List ℕ) (fault : _) (quiet : Bool) (len : ℕ) → 1 ≤ len → IsFewNext (Refused fault (stale_by verb key) quiet len)
  stale_few (Store Whatever) key fault quiet len there = (some, there)
  stale_few (Store Absent) key fault quiet len there = (omega arith, omega arith)
  stale_few (Store Present) key fault quiet len there = (omega arith, omega arith)
  stale_few (Store (Numbered u)) key fault quiet len there = (omega arith, omega arith)
  stale_few (Store (AtLeast u)) key fault quiet len there = (omega arith, omega arith)
  stale_few (Join side) key fault quiet len there = (omega arith, omega arith)

  blocked_few : (item : ItemLine) (quiet : Bool) (len : ℕ) (block : Block) → 1 ≤ len → IsFewNext (blocked item quiet len block)
  blocked_few item quiet len blocks.Waiting there = (omega arith, omega arith)
  blocked_few item quiet len blocks.Bad there = (omega arith, omega arith)
  blocked_few item quiet len (blocks.Whole value) there = command_few item.verb item value quiet len there

  either_next : (t : Bool) (x y : Next) → IsFewNext x → IsFewNext y → IsFewNext (cond t x y)
  either_next true x y left right = left
  either_next false x y left right = right

  storing_few : (item : ItemLine) (value_len : ℕ) (quiet : Bool) (len : ℕ) (rest : List ℕ) → IsFewNext (storing_at item value_len quiet len rest)
  unfolding storing_at
  storing_few item value_len quiet len rest =
      either_next (nat_lt MAX_TEXT_LEN value_len) _ _ (stale_few item.verb item.key faults.TooLarge quiet (len + value_len + END_LEN) (omega arith))
      (blocked_few item quiet (len + value_len + END_LEN) (block_at value_len rest) (omega arith))

  says_few : (line : Line) (rest : List ℕ) → IsFewLine line → IsFewNext (says_at line most rest)
  unfolding says_at
  says_few (lines.Whole command) rest fits = (fits, fits)
  says_few (lines.Storing item value_len quiet) rest fits = storing_few item value_len quiet most rest
  says_few (lines.Refused fault quiet block) rest fits = (omega arith, omega arith)

-- what a line says by itself: of no more keys than it has bytes with its line feed
line_says : (line rest : List ℕ) (some : 1 ≤ length line + 1) → IsFewNext (length line + 1) some (says_at (line_of (words_of (without_return line))) (length line + 1) rest)
line_says line rest some =
    let words = few_words (without_return line) in
    let less = shorter line in
    says_few (length line + 1) some (line_of (words_of (without_return line))) rest (line_few (length line + 1) some (words_of (without_return line)) (omega (arith, words, less)))

-- What a line asks is of no more keys than there are bytes, than a line has, and than it takes.
pub record AsksFew (come : ℕ) (next : Next) : Type 0 where
  pub within : length (asks_in next) ≤ come
  pub counted : length (asks_in next) ≤ MAX_GET_LINE_LEN + 1
  pub taken : length (asks_in next) ≤ len_of next

asks_none : (come : ℕ) (next : Next) → asks_in next ≡ [] → AsksFew come next
asks_none come next is = let none = ap length is in record { within = omega (arith, none); counted = omega (arith, none); taken = omega (arith, none) }

next_few : (bytes : List ℕ) (o : Option (List ℕ × List ℕ)) → IsFound bytes o → AsksFew (length bytes) (next_in bytes o)
unfolding next_in
next_few bytes None found = cond_both (nat_lt (most_line bytes) (length bytes)) LongLine More (AsksFew (length bytes)) (λ is. asks_none _ LongLine refl) (λ is. asks_none _ More refl)
next_few bytes (Some x) has = cond_both (nat_lt (most_line x.0) (length x.0)) LongLine _ (AsksFew (length bytes)) (λ is. asks_none _ LongLine refl) (λ is.
    let short = ltb-false _ _ is in
    let few = line_says x.0 x.1 (omega arith) in
    let whole : length bytes ≡ length (x.0 ++ 10 ∷ x.1) = ap length has.whole in
    let line = few.0 in
    record { within = omega (arith, line, whole, length-append x.0 (10 ∷ x.1)); counted = omega (arith, line, short, may_be_most x.0); taken = few.1 })

pub few_asked : (bytes : List ℕ) → AsksFew (length bytes) (next_of bytes)
few_asked bytes = either (is_binary bytes) refl
  where
    either : (t : Bool) → is_binary bytes ≡ t → AsksFew (length bytes) (next_of bytes)
    either true binary = subst (AsksFew (length bytes)) (sym (binary_is bytes binary)) (asks_none _ _ refl)
    either false text = subst (AsksFew (length bytes)) (sym (next_is bytes (line_at bytes) text refl)) (next_few bytes (line_at bytes) (line_found bytes))
