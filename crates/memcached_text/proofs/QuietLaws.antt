-- A command and a refusal are quiet just where that is asked for.
use Rattle.std.proofs.Common.{◌≡◌, ℕ, ◌+◌, Bool, true, false, ◌&&◌, ◌||◌, cond, List, [], ◌∷◌, ◌++◌, length, drop, Option, Some, None, nat_lt, refl, sym, subst, codes}
use Rattle.std.specs.Prelude.{⊤, bytes_eq, find, option_map, option_and_then}
use Rattle.std.specs.Option.{IfSome}
use Rattle.std.specs.List.{AllByRecursion, list_all}
use Rattle.std.proofs.lemmas.Slice.Eq.{bytes_eq-Decides}
use Rattle.memcached_text.specs.declared.limits.TheConstants.{MAX_TEXT_LEN}
use Rattle.memcached_text.specs.declared.lifetime.Lifetime.{Lifetime}
use Rattle.memcached_text.specs.declared.command.Command.{Command}
use Rattle.memcached_text.specs.declared.command.Command.TheVariants as commands
use Rattle.memcached_text.specs.declared.command.Direction.{Direction}
use Rattle.memcached_text.specs.declared.command.Direction.TheVariants.{Up, Down}
use Rattle.memcached_text.specs.declared.command.Side.TheVariants.{Front, Back}
use Rattle.memcached_text.specs.declared.command.Wants.TheVariants.{Whatever, Absent, Present}
use Rattle.memcached_text.specs.declared.command.Topic.{Topic}
use Rattle.memcached_text.specs.declared.lifetime.Due.TheVariants.{Now}
use Rattle.memcached_text.specs.declared.fault.Fault.{Fault}
use Rattle.memcached_text.specs.declared.fault.Fault.TheVariants as faults
use Rattle.memcached_text.specs.declared.storage_line.Verb.{Verb}
use Rattle.memcached_text.specs.declared.storage_line.Verb.TheVariants.{Store, Join}
use Rattle.memcached_text.specs.declared.storage_line.ItemLine.{ItemLine}
use Rattle.memcached_text.specs.declared.line.Line.{Line}
use Rattle.memcached_text.specs.declared.line.Line.TheVariants as lines
use Rattle.memcached_text.specs.declared.block.TheConstants.{END_LEN}
use Rattle.memcached_text.specs.declared.block.Block.{Block}
use Rattle.memcached_text.specs.declared.block.Block.TheVariants as blocks
use Rattle.memcached_text.specs.declared.next.Next.TheVariants as nexts
use Rattle.memcached_text.specs.Numbers.{number_of}
use Rattle.memcached_text.specs.Lifetimes.{lifetime_of}
use Rattle.memcached_text.specs.Line.{is_key, is_noreply, refused, quiet_tail}
use Rattle.memcached_text.specs.StorageLine.{block_len, item_of, numbered_item_of, stored, set_line, cas_line, dropped, drop_meta_line, command_by}
use Rattle.memcached_text.specs.KeyLine.{got, get_line, got_by, get_touch_line, deleted, delete_line, counted_by, counted, count_line, touched_by, touched, touch_line}
use Rattle.memcached_text.specs.ServerLine.{flushed, flush_line, line_on, stats_line, topic_of, verbosity_by, verbosity_line}
use Rattle.memcached_text.specs.Forms.{Form, forms, line_by, ends_as_http, or_unknown, line_of}
use Rattle.memcached_text.specs.Block.{block_at}
use Rattle.memcached_text.specs.Next.{blocked, storing_at, says_at, is_binary, next_of}
use Rattle.memcached_text.specs.Quiet.{is_quiet, asking_words, ends_quietly, IsQuietAs, IsQuiet}
use Rattle.memcached_text.proofs.NextLaws.{binary_is, text_more, a_line}

-- what a line says by itself is quiet just where that is asked for
abbrev IsQuietLine : Bool → Line → Type 0
IsQuietLine asked (lines.Whole commands.Quit) = ⊤
IsQuietLine asked (lines.Whole command) = is_quiet command ≡ asked
IsQuietLine asked (lines.Storing item len quiet) = quiet ≡ asked
IsQuietLine asked (lines.Refused faults.Unknown quiet block) = quiet ≡ false
IsQuietLine asked (lines.Refused fault quiet block) = quiet ≡ asked

abbrev IsQuietOption : Bool → Option Line → Type 0
IsQuietOption asked o = IfSome o (IsQuietLine asked)

either_quiet : (asked t : Bool) (x y : Line) → IsQuietLine asked x → IsQuietLine asked y → IsQuietLine asked (cond t x y)
either_quiet asked true x y left right = left
either_quiet asked false x y left right = right

-- a line by the last of its words
by_tail : (f : Bool → Line) → ((quiet : Bool) → IsQuietLine quiet (f quiet)) → (word : List ℕ) (tail : List (List ℕ)) → IsQuietOption (ends_quietly (word ∷ tail)) (option_map f (quiet_tail word tail))
unfolding quiet_tail ends_quietly
by_tail f quiet word [] = quiet (is_noreply word)
by_tail f quiet word (last ∷ []) = quiet (is_noreply last)
by_tail f quiet word (a ∷ b ∷ words) = tt

stored_quiet : (item : Option ItemLine) (len : Option ℕ) (quiet : Bool) → IsQuietLine quiet (stored item len quiet)
unfolding stored
stored_quiet None None quiet = refl
stored_quiet (Some item) None quiet = refl
stored_quiet None (Some len) quiet = refl
stored_quiet (Some item) (Some len) quiet = refl

set_quiet : (verb : Verb) (words : List (List ℕ)) → IsQuietOption (ends_quietly (drop 1 words)) (set_line verb words)
unfolding set_line ends_quietly
set_quiet verb [] = tt
set_quiet verb (key ∷ []) = tt
set_quiet verb (key ∷ flags ∷ []) = tt
set_quiet verb (key ∷ flags ∷ expiry ∷ []) = tt
set_quiet verb (key ∷ flags ∷ expiry ∷ len ∷ tail) = by_tail (stored (item_of verb key flags expiry) (block_len len)) (stored_quiet _ _) len tail

cas_quiet : (words : List (List ℕ)) → IsQuietOption (ends_quietly (drop 1 words)) (cas_line words)
unfolding cas_line ends_quietly
cas_quiet [] = tt
cas_quiet (key ∷ []) = tt
cas_quiet (key ∷ flags ∷ []) = tt
cas_quiet (key ∷ flags ∷ expiry ∷ []) = tt
cas_quiet (key ∷ flags ∷ expiry ∷ len ∷ []) = tt
cas_quiet (key ∷ flags ∷ expiry ∷ len ∷ unique ∷ tail) = by_tail (stored (numbered_item_of unique key flags expiry) (block_len len)) (stored_quiet _ _) unique tail

meta_quiet : (words : List (List ℕ)) → IsQuietLine false (drop_meta_line words)
unfolding drop_meta_line
meta_quiet [] = refl
meta_quiet (key ∷ []) = refl
meta_quiet (key ∷ len ∷ tail) = go (block_len len)
  where
    go : (o : Option ℕ) → IsQuietLine false (dropped o)
    go None = refl
    go (Some n) = refl

got_quiet : (unique : Bool) (lifetime : Option Lifetime) (words : List (List ℕ)) → IsQuietLine false (got unique lifetime words)
got_quiet unique lifetime words = either_quiet false (list_all is_key words) _ _ refl refl

get_quiet : (unique : Bool) (words : List (List ℕ)) → IsQuietOption false (get_line unique words)
unfolding get_line
get_quiet unique [] = tt
get_quiet unique (key ∷ keys) = got_quiet unique None (key ∷ keys)

get_touch_quiet : (unique : Bool) (words : List (List ℕ)) → IsQuietOption false (get_touch_line unique words)
unfolding get_touch_line
get_touch_quiet unique [] = tt
get_touch_quiet unique (expiry ∷ keys) = go (lifetime_of expiry)
  where
    go : (o : Option Lifetime) → IsQuietLine false (got_by unique o keys)
    go None = refl
    go (Some lifetime) = got_quiet unique (Some lifetime) keys

deleted_quiet : (key : List ℕ) (quiet : Bool) → IsQuietLine quiet (deleted key quiet)
unfolding deleted
deleted_quiet key quiet = either_quiet quiet (is_key key) _ _ refl refl

delete_quiet : (words : List (List ℕ)) → IsQuietOption (ends_quietly (drop 1 words)) (delete_line words)
unfolding delete_line ends_quietly
delete_quiet [] = tt
delete_quiet (key ∷ []) = deleted_quiet key false
delete_quiet (key ∷ second ∷ []) = go (bytes_eq second (codes "0")) (is_noreply second)
  where
    go : (hold quiet : Bool) → IsQuietLine quiet (cond (hold || quiet) (deleted key quiet) (refused faults.DeleteUsage false))
    go true quiet = deleted_quiet key quiet
    go false true = deleted_quiet key true
    go false false = refl
delete_quiet (key ∷ second ∷ third ∷ []) = go (bytes_eq second (codes "0")) (is_noreply third)
  where
    go : (hold quiet : Bool) → IsQuietLine quiet (cond (hold && quiet) (deleted key true) (refused faults.DeleteUsage quiet))
    go true true = deleted_quiet key true
    go true false = refl
    go false quiet = refl
delete_quiet (key ∷ second ∷ third ∷ fourth ∷ words) = tt

counted_quiet : (direction : Direction) (key delta : List ℕ) (quiet : Bool) → IsQuietLine quiet (counted direction key delta quiet)
unfolding counted
counted_quiet direction key delta quiet = either_quiet quiet (is_key key) _ _ (go (number_of 18446744073709551615 delta)) refl
  where
    go : (o : Option ℕ) → IsQuietLine quiet (counted_by direction key o quiet)
    go None = refl
    go (Some n) = refl

count_quiet : (direction : Direction) (words : List (List ℕ)) → IsQuietOption (ends_quietly (drop 1 words)) (count_line direction words)
unfolding count_line
count_quiet direction [] = tt
count_quiet direction (key ∷ []) = tt
count_quiet direction (key ∷ delta ∷ tail) = by_tail (counted direction key delta) (counted_quiet direction key delta) delta tail

touched_quiet : (key expiry : List ℕ) (quiet : Bool) → IsQuietLine quiet (touched key expiry quiet)
unfolding touched
touched_quiet key expiry quiet = either_quiet quiet (is_key key) _ _ (go (lifetime_of expiry)) refl
  where
    go : (o : Option Lifetime) → IsQuietLine quiet (touched_by key o quiet)
    go None = refl
    go (Some lifetime) = refl

touch_quiet : (words : List (List ℕ)) → IsQuietOption (ends_quietly (drop 1 words)) (touch_line words)
unfolding touch_line
touch_quiet [] = tt
touch_quiet (key ∷ []) = tt
touch_quiet (key ∷ expiry ∷ tail) = by_tail (touched key expiry) (touched_quiet key expiry) expiry tail

flushed_quiet : (o : Option Lifetime) (quiet : Bool) → IsQuietLine quiet (flushed o quiet)
flushed_quiet None quiet = refl
flushed_quiet (Some lifetime) quiet = refl

flush_quiet : (words : List (List ℕ)) → IsQuietOption (ends_quietly words) (flush_line words)
unfolding flush_line ends_quietly
flush_quiet [] = refl
flush_quiet (word ∷ []) = go (is_noreply word)
  where
    go : (quiet : Bool) → IsQuietLine quiet (cond quiet (lines.Whole (commands.Flush Now true)) (flushed (lifetime_of word) false))
    go true = refl
    go false = flushed_quiet (lifetime_of word) false
flush_quiet (expiry ∷ last ∷ []) = flushed_quiet (lifetime_of expiry) (is_noreply last)
flush_quiet (a ∷ b ∷ c ∷ words) = tt

stats_quiet : (words : List (List ℕ)) → IsQuietOption false (stats_line words)
unfolding stats_line
stats_quiet [] = refl
stats_quiet (word ∷ words) = go (topic_of word)
  where
    go : (topic : Option Topic) → IsQuietOption false (option_map line_on topic)
    go (Some topic) = refl
    go None = tt

verbosity_quiet : (words : List (List ℕ)) → IsQuietOption (ends_quietly words) (verbosity_line words)
unfolding verbosity_line
verbosity_quiet [] = tt
verbosity_quiet (level ∷ tail) = by_tail (verbosity_by (number_of 18446744073709551615 level)) (go (number_of 18446744073709551615 level)) level tail
  where
    go : (o : Option ℕ) (quiet : Bool) → IsQuietLine quiet (verbosity_by o quiet)
    go None quiet = refl
    go (Some n) quiet = refl

-- a form all of whose lines are quiet where that is asked for
abbrev IsQuietForm : Form → Type 0
IsQuietForm form = (words : List (List ℕ)) → IsQuietOption (ends_quietly (asking_words form.name words)) (form.meaning words)

found_quiet : (name : List ℕ) (all : List Form) → AllByRecursion IsQuietForm all → (words : List (List ℕ))
    → IsQuietOption (ends_quietly (asking_words name words)) (option_and_then (λ (form : Form). form.meaning words) (find (λ form. bytes_eq name form.name) all))
found_quiet name [] quiet words = tt
found_quiet name (form ∷ all) quiet words = go (bytes_eq name form.name) refl (found_quiet name all quiet.1 words)
  where
    go : (t : Bool) → bytes_eq name form.name ≡ t → IsQuietOption (ends_quietly (asking_words name words)) (option_and_then (λ (form : Form). form.meaning words) (find (λ form. bytes_eq name form.name) all))
        → IsQuietOption (ends_quietly (asking_words name words)) (option_and_then (λ (form : Form). form.meaning words) (cond t (Some form) (find (λ form. bytes_eq name form.name) all)))
    go true is later =
        let same : name ≡ form.name = (bytes_eq-Decides name form.name).0 is in
        subst (λ n. IsQuietOption (ends_quietly (asking_words n words)) (form.meaning words)) (sym same) (quiet.0 words)
    go false is later = later

infixr 10 ◌&◌
abbrev ◌&◌ : {A B : Type 0} → A → B → A × B
a & b = (a, b)

forms_quiet : AllByRecursion IsQuietForm forms
unfolding ends_quietly
forms_quiet =
    get_quiet false & set_quiet (Store Whatever) & get_quiet true & get_touch_quiet false & get_touch_quiet true
    & set_quiet (Store Absent) & set_quiet (Store Present) & set_quiet (Join Back) & set_quiet (Join Front) & cas_quiet
    & count_quiet Up & count_quiet Down & delete_quiet & touch_quiet & flush_quiet & stats_quiet
    & (λ words. refl) & verbosity_quiet & (λ words. refl) & (λ words. tt) & meta_quiet & tt

line_quiet : (name : List ℕ) (words : List (List ℕ)) → IsQuietLine (ends_quietly (asking_words name words)) (line_of (name ∷ words))
unfolding line_of
line_quiet name words = go (line_by forms name words) (found_quiet name forms forms_quiet words)
  where
    go : (o : Option Line) → IsQuietOption (ends_quietly (asking_words name words)) o → IsQuietLine (ends_quietly (asking_words name words)) (or_unknown (name ∷ words) o)
    go None is = either_quiet _ (ends_as_http (name ∷ words)) _ _ tt refl
    go (Some line) is = is

command_quiet : (asked : Bool) (verb : Verb) (item : ItemLine) (value : List ℕ) (quiet : Bool) (len : ℕ) → quiet ≡ asked → IsQuietAs asked (nexts.Command (command_by verb item value quiet) len)
command_quiet asked (Store wants) item value quiet len is = is
command_quiet asked (Join side) item value quiet len is = is

blocked_quiet : (asked : Bool) (item : ItemLine) (quiet : Bool) (len : ℕ) (block : Block) → quiet ≡ asked → IsQuietAs asked (blocked item quiet len block)
blocked_quiet asked item quiet len blocks.Waiting is = tt
blocked_quiet asked item quiet len blocks.Bad is = is
blocked_quiet asked item quiet len (blocks.Whole value) is = command_quiet asked item.verb item value quiet len is

storing_quiet : (asked : Bool) (item : ItemLine) (value_len : ℕ) (quiet : Bool) (len : ℕ) (rest : List ℕ) → quiet ≡ asked → IsQuietAs asked (storing_at item value_len quiet len rest)
unfolding storing_at
storing_quiet asked item value_len quiet len rest is = go (nat_lt MAX_TEXT_LEN value_len) refl
  where
    go : (large : Bool) → nat_lt MAX_TEXT_LEN value_len ≡ large → IsQuietAs asked (storing_at item value_len quiet len rest)
    go true here = rw here is
    go false here = rw here (blocked_quiet asked item quiet (len + value_len + END_LEN) (block_at value_len rest) is)

refused_quiet : (asked : Bool) (fault : Fault) (quiet : Bool) (block : Option ℕ) (len : ℕ) → IsQuietLine asked (lines.Refused fault quiet block) → IsQuietAs asked (nexts.Refused fault None quiet len)
refused_quiet asked faults.Unknown quiet block len is = is
refused_quiet asked faults.Format quiet block len is = is
refused_quiet asked faults.DeleteUsage quiet block len is = is
refused_quiet asked faults.ExpiryFormat quiet block len is = is
refused_quiet asked faults.DeltaFormat quiet block len is = is
refused_quiet asked faults.BadBlock quiet block len is = is
refused_quiet asked faults.TooLarge quiet block len is = is
refused_quiet asked faults.NotNumber quiet block len is = is
refused_quiet asked faults.NotSupported quiet block len is = is

whole_quiet : (asked : Bool) (command : Command) (len : ℕ) → IsQuietLine asked (lines.Whole command) → IsQuietAs asked (nexts.Command command len)
whole_quiet asked (commands.Get keys unique lifetime) len is = is
whole_quiet asked (commands.Store wants key flags lifetime value quiet) len is = is
whole_quiet asked (commands.Join side key value quiet) len is = is
whole_quiet asked (commands.Count direction key delta quiet) len is = is
whole_quiet asked (commands.Delete key quiet) len is = is
whole_quiet asked (commands.Touch key lifetime quiet) len is = is
whole_quiet asked (commands.Flush due quiet) len is = is
whole_quiet asked (commands.Stats topic) len is = is
whole_quiet asked commands.Version len is = is
whole_quiet asked (commands.Verbosity quiet) len is = is
whole_quiet asked commands.Noop len is = is
whole_quiet asked commands.Quit len is = is

says_quiet : (asked : Bool) (line : Line) (len : ℕ) (rest : List ℕ) → IsQuietLine asked line → IsQuietAs asked (says_at line len rest)
unfolding says_at
says_quiet asked (lines.Whole command) len rest is = whole_quiet asked command len is
says_quiet asked (lines.Storing item value_len quiet) len rest is = storing_quiet asked item value_len quiet len rest is
says_quiet asked (lines.Refused fault quiet block) len rest is = refused_quiet asked fault quiet block _ is

pub quiet_as_asked : IsQuiet
quiet_as_asked line rest name words lacks short spelled = go (is_binary line) refl
  where
    asked : Bool
    asked = ends_quietly (asking_words name words)

    go : (t : Bool) → is_binary line ≡ t → IsQuietAs asked (next_of (line ++ 10 ∷ rest))
    go true binary = subst (IsQuietAs asked) (sym (binary_is (line ++ 10 ∷ rest) (still line binary))) tt
      where
        still : (line : List ℕ) → is_binary line ≡ true → is_binary (line ++ 10 ∷ rest) ≡ true
        still [] is = absurd (cc)
        still (b ∷ line) is = is
    go false text =
        let next = a_line (line ++ 10 ∷ rest) line rest (text_more line (10 ∷ rest) text refl) (record { whole = refl; first = lacks }) short in
        subst (IsQuietAs asked) (sym next) (says_quiet asked _ (length line + 1) rest (subst (λ ws. IsQuietLine asked (line_of ws)) (sym spelled) (line_quiet name words)))
