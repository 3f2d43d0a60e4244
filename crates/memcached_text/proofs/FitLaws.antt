-- The parts of a command that is read have the lengths that an item's may have.
use Rattle.std.proofs.Common.{◌≡◌, ℕ, ◌+◌, ◌%◌, ◌^◌, ◌<◌, ◌≤◌, Bool, true, false, ◌&&◌, ◌||◌, eqb, cond, List, [], ◌∷◌, length, take, Option, Some, None, nat_lt, nat_le, refl, sym, ap, subst, ◌∙◌, arith, codes, mod-lt}
use Rattle.std.specs.Prelude.{⊤, ◌==◌, bytes_eq, filter, find, option_map, option_and_then}
use Rattle.std.specs.Option.{IfSome}
use Rattle.std.specs.List.{AllByRecursion, list_all, slice_split}
use Rattle.std.specs.Str.Parse.{starts_with_minus}
use Rattle.std.proofs.lemmas.Bool.{ltb-false, le-ltb, le-leb, leb-true, leb-false, eqb-false}
use Rattle.std.proofs.lemmas.List.{length-take-le}
use Rattle.memcached_text.specs.declared.limits.TheConstants.{MAX_KEY_LEN, MAX_TEXT_LEN}
use Rattle.memcached_text.specs.declared.lifetime.TheConstants.{MAX_SECONDS, LAST_SAID, MOST_ABOVE, MOST_BELOW}
use Rattle.memcached_text.specs.declared.lifetime.Lifetime.{Lifetime}
use Rattle.memcached_text.specs.declared.lifetime.Lifetime.TheVariants.{Forever, Over, For, Until}
use Rattle.memcached_text.specs.declared.command.Command.TheVariants as commands
use Rattle.memcached_text.specs.declared.command.Wants.TheVariants.{Whatever, Absent, Present, Numbered, AtLeast}
use Rattle.memcached_text.specs.declared.command.Direction.{Direction}
use Rattle.memcached_text.specs.declared.command.Direction.TheVariants.{Up, Down}
use Rattle.memcached_text.specs.declared.command.Side.TheVariants.{Front, Back}
use Rattle.memcached_text.specs.declared.command.Topic.{Topic}
use Rattle.memcached_text.specs.declared.storage_line.Verb.{Verb}
use Rattle.memcached_text.specs.declared.storage_line.Verb.TheVariants.{Store, Join}
use Rattle.memcached_text.specs.declared.storage_line.ItemLine.{ItemLine}
use Rattle.memcached_text.specs.declared.line.Line.{Line}
use Rattle.memcached_text.specs.declared.line.Line.TheVariants as lines
use Rattle.memcached_text.specs.declared.block.TheConstants.{END_LEN}
use Rattle.memcached_text.specs.declared.block.Block.{Block}
use Rattle.memcached_text.specs.declared.block.Block.TheVariants as blocks
use Rattle.memcached_text.specs.declared.next.Next.{Next}
use Rattle.memcached_text.specs.declared.next.Next.TheVariants.{LongLine, More, Refused}
use Rattle.memcached_text.specs.declared.fault.Fault.TheVariants as faults
use Rattle.memcached_text.specs.Lines.{lacks, is_some_text, words_of, without_return, line_at}
use Rattle.memcached_text.specs.Numbers.{number_of}
use Rattle.memcached_text.specs.Lifetimes.{lifetime_at, lifetime_below, lifetime_of, due_of, IsLifetime, IsDue, IsSaid}
use Rattle.memcached_text.specs.Line.{is_short, is_key, is_noreply, refused, quiet_tail}
use Rattle.memcached_text.specs.StorageLine.{◌>>=◌, block_len, item_of, numbered_item_of, stored, set_line, cas_line, dropped, drop_meta_line, command_by, stale_by}
use Rattle.memcached_text.specs.KeyLine.{got, get_line, got_by, get_touch_line, deleted, delete_line, counted_by, counted, count_line, touched_by, touched, touch_line}
use Rattle.memcached_text.specs.ServerLine.{flushed, flush_line, line_on, stats_line, topic_of, verbosity_by, verbosity_line}
use Rattle.memcached_text.specs.Forms.{Form, forms, line_by, ends_as_http, or_unknown, line_of}
use Rattle.memcached_text.specs.Block.{block_at}
use Rattle.memcached_text.specs.Next.{blocked, storing_at, says_at, next_in, is_binary, next_of, most_line}
use Rattle.memcached_text.specs.Fit.{IsFitKey, IsWant, IsKept, IsFit, IsFitNext}
use Rattle.memcached_text.proofs.NumberLaws.{both, small_number}
use Rattle.memcached_text.proofs.NextLaws.{binary_is, next_is, block_has_come}

-- texts that are not empty
abbrev AreSome : List (List ℕ) → Type 0
AreSome words = AllByRecursion (λ w. 0 < length w) words

filter_some : (parts : List (List ℕ)) → AreSome (filter is_some_text parts)
filter_some [] = tt
filter_some ([] ∷ parts) = filter_some parts
filter_some ((b ∷ part) ∷ parts) = (omega arith, filter_some parts)

words_are_some : (text : List ℕ) → AreSome (words_of text)
unfolding words_of
words_are_some text = filter_some (slice_split (λ b. b == 32) text)

-- a lifetime that a word says
pub at_fits : (n : ℕ) → n ≤ 4294967295 → IsLifetime (lifetime_at n)
at_fits n low = go (eqb n 0) (nat_le n MAX_SECONDS) (nat_le n LAST_SAID) refl refl
  where
    go : (zero short near : Bool) → eqb n 0 ≡ zero → nat_le n MAX_SECONDS ≡ short → IsLifetime (cond zero Forever (cond short (For n) (cond near (Until n) Over)))
    go true short near none less = tt
    go false true near none less = (omega (arith, eqb-false n 0 none), leb-true _ _ less)
    go false false true none less = (leb-false _ _ less, omega arith)
    go false false false none less = tt

-- the lifetime of a number that is none below 0
pub at_said : (n : ℕ) → n ≤ LAST_SAID → IsSaid (lifetime_at n)
at_said n low = go (eqb n 0) (nat_le n MAX_SECONDS) refl refl
  where
    go : (zero short : Bool) → eqb n 0 ≡ zero → nat_le n MAX_SECONDS ≡ short → IsSaid (cond zero Forever (cond short (For n) (cond (nat_le n LAST_SAID) (Until n) Over)))
    go true short none less = tt
    go false true none less = (omega (arith, eqb-false n 0 none), leb-true _ _ less)
    go false false none less = rw (le-leb n LAST_SAID low) ((leb-false _ _ less, omega arith), low)

below_fits : (n : ℕ) → IsLifetime (lifetime_below n)
below_fits n = go (eqb n 0)
  where
    go : (zero : Bool) → IsLifetime (cond zero Forever Over)
    go true = tt
    go false = tt

lifetime_fits : (word : List ℕ) → IfSome (lifetime_of word) IsLifetime
unfolding lifetime_of
lifetime_fits word = go (starts_with_minus word) (number_of MOST_BELOW _) (number_of MOST_ABOVE word)
  where
    go : (t : Bool) (a b : Option ℕ) → IfSome (cond t (option_map lifetime_below a) (option_map (λ n. lifetime_at (n % 2 ^ 32)) b)) IsLifetime
    go true None b = tt
    go true (Some a) b = below_fits a
    go false a None = tt
    go false a (Some b) = let low : b % 2 ^ 32 < 2 ^ 32 = mod-lt b (omega arith) in at_fits (b % 2 ^ 32) (omega arith)

due_fits : (lifetime : Lifetime) → IsLifetime lifetime → IsDue (due_of lifetime)
due_fits Forever fits = tt
due_fits Over fits = tt
due_fits (For n) fits = fits
due_fits (Until n) fits = fits

abbrev IsFitVerb : Verb → Type 0
IsFitVerb (Store wants) = IsWant wants
IsFitVerb (Join side) = ⊤

-- an item whose key and numbers are fit
abbrev IsFitItem : ItemLine → Type 0
IsFitItem item = IsFitVerb item.verb × IsFitKey item.key × (item.flags < 2 ^ 32) × IsLifetime item.lifetime

-- a line whose command is fit, or whose item
abbrev IsFitLine : Line → Type 0
IsFitLine (lines.Whole command) = IsFit command
IsFitLine (lines.Storing item len quiet) = IsFitItem item
IsFitLine (lines.Refused fault quiet block) = ⊤

abbrev IsFitOption : Option Line → Type 0
IsFitOption o = IfSome o IsFitLine

-- a line by the last of its words
by_tail : (f : Bool → Line) → ((quiet : Bool) → IsFitLine (f quiet)) → (o : Option Bool) → IsFitOption (option_map f o)
by_tail f fits None = tt
by_tail f fits (Some quiet) = fits quiet

either_fits : (t : Bool) (x y : Line) → IsFitLine x → IsFitLine y → IsFitLine (cond t x y)
either_fits true x y left right = left
either_fits false x y left right = right

-- a word that may be a key
key_fits : (word : List ℕ) → is_key word ≡ true → length word ≤ MAX_KEY_LEN
key_fits word is = leb-true _ _ (both (is_short word) (lacks 0 word) is).0

keys_fit : (words : List (List ℕ)) → AreSome words → list_all is_key words ≡ true → AllByRecursion IsFitKey words
keys_fit [] some all = tt
keys_fit (word ∷ words) some all = let parts = both (is_key word) (list_all is_key words) all in ((some.0, key_fits word parts.0), keys_fit words some.1 parts.1)

got_fits : (unique : Bool) (lifetime : Option Lifetime) (words : List (List ℕ)) → AreSome words → IsKept lifetime → IsFitLine (got unique lifetime words)
got_fits unique lifetime words some kept = go (list_all is_key words) refl
  where
    go : (t : Bool) → list_all is_key words ≡ t → IsFitLine (cond t (lines.Whole (commands.Get words unique lifetime)) (refused faults.Format false))
    go true is = (keys_fit words some is, kept)
    go false is = tt

get_fits : (unique : Bool) (words : List (List ℕ)) → AreSome words → IsFitOption (get_line unique words)
unfolding get_line
get_fits unique [] some = tt
get_fits unique (key ∷ keys) some = got_fits unique None (key ∷ keys) some tt

get_touch_fits : (unique : Bool) (words : List (List ℕ)) → AreSome words → IsFitOption (get_touch_line unique words)
unfolding get_touch_line
get_touch_fits unique [] some = tt
get_touch_fits unique (expiry ∷ keys) some = go (lifetime_of expiry) (lifetime_fits expiry)
  where
    go : (o : Option Lifetime) → IfSome o IsLifetime → IsFitLine (got_by unique o keys)
    go None fits = tt
    go (Some lifetime) fits = got_fits unique (Some lifetime) keys some.1 fits

abbrev item_with : Verb → List ℕ → ℕ → Lifetime → Option ItemLine
item_with verb key flags lifetime = Some (record { verb = verb; key = key; flags = flags; lifetime = lifetime })

item_fits : (verb : Verb) (key flags expiry : List ℕ) → 0 < length key → IsFitVerb verb → IfSome (item_of verb key flags expiry) IsFitItem
unfolding item_of
item_fits verb key flags expiry some is = go (is_key key) refl (number_of 4294967295 flags) (lifetime_of expiry) (small_number 4294967295 flags) (lifetime_fits expiry)
  where
    go : (t : Bool) → is_key key ≡ t → (f : Option ℕ) (l : Option Lifetime) → IfSome f (λ n. n ≤ 4294967295) → IfSome l IsLifetime
        → IfSome (cond t (f >>= λ flags. l >>= λ lifetime. item_with verb key flags lifetime) None) IsFitItem
    go false here f l small kept = tt
    go true here None l small kept = tt
    go true here (Some f) None small kept = tt
    go true here (Some f) (Some l) small kept = (is, (some, key_fits key here), omega arith, kept)

numbered_fits : (unique key flags expiry : List ℕ) → 0 < length key → IfSome (numbered_item_of unique key flags expiry) IsFitItem
unfolding numbered_item_of
numbered_fits unique key flags expiry some = go (number_of 18446744073709551615 unique) (small_number 18446744073709551615 unique)
  where
    go : (o : Option ℕ) → IfSome o (λ n. n ≤ 18446744073709551615) → IfSome (o >>= λ unique. item_of (Store (Numbered unique)) key flags expiry) IsFitItem
    go None small = tt
    go (Some n) small = item_fits (Store (Numbered n)) key flags expiry some (omega arith)

stored_fits : (item : Option ItemLine) (len : Option ℕ) (quiet : Bool) → IfSome item IsFitItem → IsFitLine (stored item len quiet)
unfolding stored
stored_fits None None quiet fits = tt
stored_fits (Some item) None quiet fits = tt
stored_fits None (Some len) quiet fits = tt
stored_fits (Some item) (Some len) quiet fits = fits

set_fits : (verb : Verb) → IsFitVerb verb → (words : List (List ℕ)) → AreSome words → IsFitOption (set_line verb words)
unfolding set_line
set_fits verb is [] some = tt
set_fits verb is (key ∷ []) some = tt
set_fits verb is (key ∷ flags ∷ []) some = tt
set_fits verb is (key ∷ flags ∷ expiry ∷ []) some = tt
set_fits verb is (key ∷ flags ∷ expiry ∷ len ∷ tail) some = by_tail _ (λ quiet. stored_fits (item_of verb key flags expiry) (block_len len) quiet (item_fits verb key flags expiry some.0 is)) (quiet_tail len tail)

cas_fits : (words : List (List ℕ)) → AreSome words → IsFitOption (cas_line words)
unfolding cas_line
cas_fits [] some = tt
cas_fits (key ∷ []) some = tt
cas_fits (key ∷ flags ∷ []) some = tt
cas_fits (key ∷ flags ∷ expiry ∷ []) some = tt
cas_fits (key ∷ flags ∷ expiry ∷ len ∷ []) some = tt
cas_fits (key ∷ flags ∷ expiry ∷ len ∷ unique ∷ tail) some = by_tail _ (λ quiet. stored_fits (numbered_item_of unique key flags expiry) (block_len len) quiet (numbered_fits unique key flags expiry some.0)) (quiet_tail unique tail)

meta_fits : (words : List (List ℕ)) → IsFitLine (drop_meta_line words)
unfolding drop_meta_line
meta_fits [] = tt
meta_fits (key ∷ []) = tt
meta_fits (key ∷ len ∷ tail) = go (block_len len)
  where
    go : (o : Option ℕ) → IsFitLine (dropped o)
    go None = tt
    go (Some n) = tt

deleted_fits : (key : List ℕ) (quiet : Bool) → 0 < length key → IsFitLine (deleted key quiet)
unfolding deleted
deleted_fits key quiet some = go (is_key key) refl
  where
    go : (t : Bool) → is_key key ≡ t → IsFitLine (cond t (lines.Whole (commands.Delete key quiet)) (refused faults.Format quiet))
    go true is = (some, key_fits key is)
    go false is = tt

delete_fits : (words : List (List ℕ)) → AreSome words → IsFitOption (delete_line words)
unfolding delete_line
delete_fits [] some = tt
delete_fits (key ∷ []) some = deleted_fits key false some.0
delete_fits (key ∷ second ∷ []) some = either_fits (bytes_eq second (codes "0") || is_noreply second) (deleted key (is_noreply second)) (refused faults.DeleteUsage false) (deleted_fits key (is_noreply second) some.0) tt
delete_fits (key ∷ second ∷ third ∷ []) some = either_fits (bytes_eq second (codes "0") && is_noreply third) (deleted key true) (refused faults.DeleteUsage (is_noreply third)) (deleted_fits key true some.0) tt
delete_fits (key ∷ second ∷ third ∷ fourth ∷ words) some = tt

counted_fits : (direction : Direction) (key delta : List ℕ) (quiet : Bool) → 0 < length key → IsFitLine (counted direction key delta quiet)
unfolding counted
counted_fits direction key delta quiet some = go (is_key key) refl (number_of 18446744073709551615 delta) (small_number 18446744073709551615 delta)
  where
    go : (t : Bool) → is_key key ≡ t → (o : Option ℕ) → IfSome o (λ n. n ≤ 18446744073709551615) → IsFitLine (cond t (counted_by direction key o quiet) (refused faults.Format quiet))
    go false is o small = tt
    go true is None small = tt
    go true is (Some n) small = ((some, key_fits key is), omega arith)

count_fits : (direction : Direction) (words : List (List ℕ)) → AreSome words → IsFitOption (count_line direction words)
unfolding count_line
count_fits direction [] some = tt
count_fits direction (key ∷ []) some = tt
count_fits direction (key ∷ delta ∷ tail) some = by_tail _ (λ quiet. counted_fits direction key delta quiet some.0) (quiet_tail delta tail)

touched_fits : (key expiry : List ℕ) (quiet : Bool) → 0 < length key → IsFitLine (touched key expiry quiet)
unfolding touched
touched_fits key expiry quiet some = go (is_key key) refl (lifetime_of expiry) (lifetime_fits expiry)
  where
    go : (t : Bool) → is_key key ≡ t → (o : Option Lifetime) → IfSome o IsLifetime → IsFitLine (cond t (touched_by key o quiet) (refused faults.Format quiet))
    go false is o fits = tt
    go true is None fits = tt
    go true is (Some lifetime) fits = ((some, key_fits key is), fits)

touch_fits : (words : List (List ℕ)) → AreSome words → IsFitOption (touch_line words)
unfolding touch_line
touch_fits [] some = tt
touch_fits (key ∷ []) some = tt
touch_fits (key ∷ expiry ∷ tail) some = by_tail _ (λ quiet. touched_fits key expiry quiet some.0) (quiet_tail expiry tail)

flushed_fits : (o : Option Lifetime) (quiet : Bool) → IfSome o IsLifetime → IsFitLine (flushed o quiet)
flushed_fits None quiet fits = tt
flushed_fits (Some lifetime) quiet fits = due_fits lifetime fits

flush_fits : (words : List (List ℕ)) → IsFitOption (flush_line words)
unfolding flush_line
flush_fits [] = tt
flush_fits (word ∷ []) = either_fits (is_noreply word) _ _ tt (flushed_fits (lifetime_of word) false (lifetime_fits word))
flush_fits (expiry ∷ last ∷ []) = flushed_fits (lifetime_of expiry) (is_noreply last) (lifetime_fits expiry)
flush_fits (a ∷ b ∷ c ∷ words) = tt

stats_fits : (words : List (List ℕ)) → IsFitOption (stats_line words)
unfolding stats_line
stats_fits [] = tt
stats_fits (word ∷ words) = go (topic_of word)
  where
    go : (topic : Option Topic) → IsFitOption (option_map line_on topic)
    go (Some topic) = tt
    go None = tt

verbosity_fits : (words : List (List ℕ)) → IsFitOption (verbosity_line words)
unfolding verbosity_line
verbosity_fits [] = tt
verbosity_fits (level ∷ tail) = by_tail _ (level_fits (number_of 18446744073709551615 level)) (quiet_tail level tail)
  where
    level_fits : (o : Option ℕ) (quiet : Bool) → IsFitLine (verbosity_by o quiet)
    level_fits None quiet = tt
    level_fits (Some n) quiet = tt

-- a form all of whose lines are fit
abbrev IsFitForm : Form → Type 0
IsFitForm form = (words : List (List ℕ)) → AreSome words → IsFitOption (form.meaning words)

found_fits : (test : Form → Bool) (all : List Form) → AllByRecursion IsFitForm all → (words : List (List ℕ)) → AreSome words → IsFitOption (option_and_then (λ (form : Form). form.meaning words) (find test all))
found_fits test [] fits words some = tt
found_fits test (form ∷ all) fits words some = go (test form) (found_fits test all fits.1 words some)
  where
    go : (t : Bool) → IsFitOption (option_and_then (λ (form : Form). form.meaning words) (find test all)) → IsFitOption (option_and_then (λ (form : Form). form.meaning words) (cond t (Some form) (find test all)))
    go true later = fits.0 words some
    go false later = later

infixr 10 ◌&◌
abbrev ◌&◌ : {A B : Type 0} → A → B → A × B
a & b = (a, b)

forms_fit : AllByRecursion IsFitForm forms
forms_fit =
    get_fits false & set_fits (Store Whatever) tt & get_fits true & get_touch_fits false & get_touch_fits true
    & set_fits (Store Absent) tt & set_fits (Store Present) tt & set_fits (Join Back) tt & set_fits (Join Front) tt & cas_fits
    & count_fits Up & count_fits Down & delete_fits & touch_fits
    & (λ words some. flush_fits words) & (λ words some. stats_fits words) & (λ words some. tt) & (λ words some. verbosity_fits words) & (λ words some. tt) & (λ words some. tt)
    & (λ words some. meta_fits words) & tt

known_fits : (words : List (List ℕ)) (o : Option Line) → IsFitOption o → IsFitLine (or_unknown words o)
known_fits words None fits = either_fits (ends_as_http words) (lines.Whole commands.Quit) (refused faults.Unknown false) tt tt
known_fits words (Some line) fits = fits

line_fits : (words : List (List ℕ)) → AreSome words → IsFitLine (line_of words)
unfolding line_of
line_fits [] some = tt
line_fits (name ∷ words) some = known_fits (name ∷ words) (line_by forms name words) (found_fits (λ form. bytes_eq name form.name) forms forms_fit words some.1)

-- the value of a block has as many bytes as its line says
value_len_is : (len : ℕ) (bytes value : List ℕ) → block_at len bytes ≡ blocks.Whole value → length value ≡ len
unfolding block_at
value_len_is len bytes value is =
    let fits = block_has_come len bytes value is in
    let come : nat_lt (length bytes) (len + END_LEN) ≡ false = le-ltb _ _ fits in
    ends_with _ _ (rw come at is)
  where
    ends_with : (t : Bool) (v : List ℕ) → cond t (blocks.Whole (take len bytes)) blocks.Bad ≡ blocks.Whole v → length v ≡ len
    ends_with true v same = let here : take len bytes ≡ v = cc in let fits = block_has_come len bytes value is in sym (ap length here) ∙ length-take-le len bytes (omega arith)
    ends_with false v same = cc

command_fits : (verb : Verb) (item : ItemLine) (value : List ℕ) (quiet : Bool) → IsFitVerb verb → IsFitKey item.key → item.flags < 2 ^ 32 → IsLifetime item.lifetime → length value ≤ MAX_TEXT_LEN → IsFit (command_by verb item value quiet)
command_fits (Store wants) item value quiet want key flags kept small = (want, key, flags, kept, small)
command_fits (Join side) item value quiet want key flags kept small = (key, small)

stale_fits : (verb : Verb) (key : List ℕ) (fault : _) (quiet : Bool) (len : ℕ) → IsFitKey key → IsFitNext (Refused fault (stale_by verb key) quiet len)
stale_fits (Store Whatever) key fault quiet len fits = fits
stale_fits (Store Absent) key fault quiet len fits = tt
stale_fits (Store Present) key fault quiet len fits = tt
stale_fits (Store (Numbered u)) key fault quiet len fits = tt
stale_fits (Store (AtLeast u)) key fault quiet len fits = tt
stale_fits (Join side) key fault quiet len fits = tt

blocked_fits : (item : ItemLine) (quiet : Bool) (len : ℕ) (block : Block) → IsFitItem item → ((value : List ℕ) → block ≡ blocks.Whole value → length value ≤ MAX_TEXT_LEN) → IsFitNext (blocked item quiet len block)
blocked_fits item quiet len blocks.Waiting fits small = tt
blocked_fits item quiet len blocks.Bad fits small = tt
blocked_fits item quiet len (blocks.Whole value) fits small = command_fits item.verb item value quiet fits.0 fits.1 fits.2 fits.3 (small value refl)

storing_fits : (item : ItemLine) (value_len : ℕ) (quiet : Bool) (len : ℕ) (rest : List ℕ) → IsFitItem item → IsFitNext (storing_at item value_len quiet len rest)
unfolding storing_at
storing_fits item value_len quiet len rest fits = go (nat_lt MAX_TEXT_LEN value_len) refl
  where
    go : (large : Bool) → nat_lt MAX_TEXT_LEN value_len ≡ large → IsFitNext (storing_at item value_len quiet len rest)
    go true is = rw is (stale_fits item.verb item.key faults.TooLarge quiet (len + value_len + END_LEN) fits.1)
    go false is = rw is (blocked_fits item quiet _ (block_at value_len rest) fits (λ value whole. let small = ltb-false _ _ is in let count = value_len_is value_len rest value whole in omega arith))

says_fits : (line : Line) (len : ℕ) (rest : List ℕ) → IsFitLine line → IsFitNext (says_at line len rest)
unfolding says_at
says_fits (lines.Whole command) len rest fits = fits
says_fits (lines.Storing item value_len quiet) len rest fits = storing_fits item value_len quiet len rest fits
says_fits (lines.Refused fault quiet block) len rest fits = tt

either_next : (t : Bool) (x y : Next) → IsFitNext x → IsFitNext y → IsFitNext (cond t x y)
either_next true x y left right = left
either_next false x y left right = right

-- a command that bytes begin with is fit
pub is_fit : (bytes : List ℕ) → IsFitNext (next_of bytes)
unfolding next_in
is_fit bytes = either (is_binary bytes) refl
  where
    go : (o : Option (List ℕ × List ℕ)) → IsFitNext (next_in bytes o)
    go None = either_next (nat_lt (most_line bytes) (length bytes)) LongLine More tt tt
    go (Some x) = either_next (nat_lt (most_line x.0) (length x.0)) LongLine (says_at (line_of (words_of (without_return x.0))) (length x.0 + 1) x.1) tt (says_fits (line_of (words_of (without_return x.0))) (length x.0 + 1) x.1 (line_fits (words_of (without_return x.0)) (words_are_some (without_return x.0))))

    either : (t : Bool) → is_binary bytes ≡ t → IsFitNext (next_of bytes)
    either true binary = subst IsFitNext (sym (binary_is bytes binary)) tt
    either false text = subst IsFitNext (sym (next_is bytes (line_at bytes) text refl)) (go (line_at bytes))
