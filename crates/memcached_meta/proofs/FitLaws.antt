-- A meta command that is read may be carried out.
use Rattle.std.proofs.Common.{◌≡◌, ◌≢◌, ℕ, ◌+◌, ◌<◌, ◌≤◌, Bool, true, false, ◌&&◌, cond, List, [], ◌∷◌, length, take, Option, Some, None, nat_lt, refl, sym, ap, ◌∙◌, arith}
use Rattle.std.specs.Prelude.{⊤, not, option_map}
use Rattle.std.specs.Option.{IfSome}
use Rattle.std.proofs.lemmas.Bool.{ltb-true, ltb-false, le-ltb, leb-true}
use Rattle.std.proofs.lemmas.List.{length-take-le}
use Rattle.memcached_text.specs.declared.limits.TheConstants.{MAX_LINE_LEN, MAX_TEXT_LEN}
use Rattle.memcached_text.specs.declared.block.TheConstants.{END_LEN}
use Rattle.memcached_text.specs.declared.block.Block.{Block}
use Rattle.memcached_text.specs.declared.block.Block.TheVariants as blocks
use Rattle.memcached_text.specs.Block.{block_at}
use Rattle.memcached_text.specs.Fit.{IsFitKey}
use Rattle.memcached_text.specs.Line.{is_short, is_key}
use Rattle.memcached_text.specs.Lines.{lacks, line_at, words_of, without_return}
use Rattle.memcached_text.proofs.NextLaws.{block_has_come}
use Rattle.memcached_text.specs.declared.fault.Fault.TheVariants.{TooLarge}
use Rattle.memcached_meta.specs.declared.fault.MetaFault.{MetaFault}
use Rattle.memcached_meta.specs.declared.fault.MetaFault.TheVariants as faults
use Rattle.memcached_meta.specs.declared.line.Verb.{Verb}
use Rattle.memcached_meta.specs.declared.line.Verb.TheVariants.{Get, Store, Delete, Count, Debug}
use Rattle.memcached_meta.specs.declared.line.Meta.{Meta}
use Rattle.memcached_meta.specs.declared.line.MetaLine.{MetaLine}
use Rattle.memcached_meta.specs.declared.line.MetaLine.TheVariants as lines
use Rattle.memcached_meta.specs.declared.next.MetaNext.{MetaNext}
use Rattle.memcached_meta.specs.declared.next.MetaNext.TheVariants.{Dropped}
use Rattle.memcached_meta.specs.Flags.{argument_of, flags_fault, or_else}
use Rattle.memcached_commands.specs.Keys.{spelled}
use Rattle.memcached_meta.specs.Lines.{verb_of, is_base64, mode_fault, told_by, is_fit_key, key_fault, meta_fault, meta_of, keyed, storing, stored_line, block_len, storing_line, debug_flags, line_of}
use Rattle.memcached_meta.specs.Next.{replaces_all, stale_of, blocked, stored_at, line_next, named_next, found_next, begins_meta, next_meta}
use Rattle.memcached_meta.specs.Fit.{IsFitMeta, IsFitManner, IsFitMetaNext}

both : (a b : Bool) → (a && b) ≡ true → (a ≡ true) × (b ≡ true)
both true b is = (refl, is)
both false b is = let no : ⊥ = cc in absurd no

-- where nothing speaks against the key, it is one
key_some : (verb : Verb) (key : List ℕ) (mode : Option MetaFault) → or_else (key_fault verb key) mode ≡ None → IsFitKey key
key_some verb key mode is = go (is_fit_key key) refl
  where
    go : (t : Bool) → is_fit_key key ≡ t → IsFitKey key
    go true fit = let parts = both (nat_lt 0 (length key)) (is_short key) fit in (ltb-true _ _ parts.0, leb-true _ _ parts.1)
    go false bad = let no : ⊥ = let here = rw bad at is in cc in absurd no

told_none : (verb : Verb) (fault later : Option MetaFault) → or_else (told_by verb fault) later ≡ None → (fault ≡ None) × (later ≡ None)
told_none verb None later is = (refl, is)
told_none verb (Some fault) later is = let no : ⊥ = cc in absurd no

pub record Lawful (verb : Verb) (word : List ℕ) (flags : List (List ℕ)) : Type 0 where
  word_fits : IsFitKey word
  flags_are : flags_fault flags ≡ None
  key_is : IsFitKey (spelled (is_base64 flags) word)

pub lawful : (verb : Verb) (word : List ℕ) (flags : List (List ℕ)) → meta_fault verb word flags ≡ None → Lawful verb word flags
unfolding meta_fault
lawful verb word flags is = go (nat_lt 0 (length word) && is_key word) refl
  where
    go : (t : Bool) → (nat_lt 0 (length word) && is_key word) ≡ t → Lawful verb word flags
    go false bad = let no : ⊥ = let here = rw bad at is in cc in absurd no
    go true good =
        let parts = both (nat_lt 0 (length word)) (is_key word) good in
        let short = both (is_short word) (lacks 0 word) parts.1 in
        let none = told_none verb (flags_fault flags) _ (rw good at is) in
        record {
          word_fits = (ltb-true _ _ parts.0, leb-true _ _ short.0);
          flags_are = none.0;
          key_is = key_some verb (spelled (is_base64 flags) word) (mode_fault verb (argument_of _ flags)) none.1;
        }

fit_of : (verb : Verb) (word : List ℕ) (flags : List (List ℕ)) → meta_fault verb word flags ≡ None → IsFitMeta (meta_of verb word flags)
fit_of verb word flags is = let l = lawful verb word flags is in record { word = l.word_fits; key = l.key_is; lawful = is; value = omega arith }

-- a line whose command may be carried out, once it has its value
abbrev pub IsFitLine : MetaLine → Type 0
IsFitLine (lines.Whole meta) = IsFitMeta meta
IsFitLine (lines.Storing meta len) = IsFitMeta meta
IsFitLine (lines.Refused fault block) = ⊤

keyed_fits : (verb : Verb) (word : List ℕ) (flags : List (List ℕ)) (o : Option MetaFault) → meta_fault verb word flags ≡ o → IsFitLine (keyed (meta_of verb word flags) o)
keyed_fits verb word flags None is = fit_of verb word flags is
keyed_fits verb word flags (Some fault) is = tt

storing_fits : (word : List ℕ) (flags : List (List ℕ)) (len : ℕ) (o : Option MetaFault) → meta_fault Store word flags ≡ o → IsFitLine (storing (meta_of Store word flags) len o)
storing_fits word flags len None is = fit_of Store word flags is
storing_fits word flags len (Some fault) is = tt

stored_fits : (word : List ℕ) (flags : List (List ℕ)) (len : Option ℕ) → IsFitLine (stored_line word flags len)
stored_fits word flags None = tt
stored_fits word flags (Some len) = storing_fits word flags len (meta_fault Store word flags) refl

pub line_fits : (verb : Verb) (words : List (List ℕ)) → IsFitLine (line_of verb words)
unfolding line_of storing_line
line_fits Get [] = tt
line_fits Store [] = tt
line_fits Delete [] = tt
line_fits Count [] = tt
line_fits Debug [] = tt
line_fits Get (word ∷ words) = keyed_fits Get word words (meta_fault Get word words) refl
line_fits Store (word ∷ []) = tt
line_fits Store (word ∷ len ∷ words) = stored_fits word words (block_len len)
line_fits Delete (word ∷ words) = keyed_fits Delete word words (meta_fault Delete word words) refl
line_fits Count (word ∷ words) = keyed_fits Count word words (meta_fault Count word words) refl
line_fits Debug (word ∷ words) = keyed_fits Debug word (debug_flags words) (meta_fault Debug word (debug_flags words)) refl

-- the value of a block has as many bytes as its line says
value_len_is : (len : ℕ) (bytes value : List ℕ) → block_at len bytes ≡ blocks.Whole value → length value ≡ len
unfolding block_at
value_len_is len bytes value is =
    let fits = block_has_come len bytes value is in
    let come : nat_lt (length bytes) (len + END_LEN) ≡ false = le-ltb _ _ fits in
    ends_with _ _ (rw come at is)
  where
    ends_with : (t : Bool) (v : List ℕ) → cond t (blocks.Whole (take len bytes)) blocks.Bad ≡ blocks.Whole v → length v ≡ len
    ends_with true v same = let here : take len bytes ≡ v = cc in let fits = block_has_come len bytes value is in sym (ap length here) ∙ length-take-le len bytes (omega arith)
    ends_with false v same = cc

blocked_fits : (meta : Meta) (len : ℕ) (block : Block) → IsFitMeta meta → ((value : List ℕ) → block ≡ blocks.Whole value → length value ≤ MAX_TEXT_LEN) → IsFitMetaNext (blocked meta len block)
blocked_fits meta len blocks.Waiting fits short = tt
blocked_fits meta len blocks.Bad fits short = tt
blocked_fits meta len (blocks.Whole value) fits short = record { word = fits.word; key = fits.key; lawful = fits.lawful; value = short value refl }

stale_fits : (meta : Meta) (fault : MetaFault) (len : ℕ) → IsFitMeta meta → IsFitMetaNext (Dropped fault (stale_of meta) len)
stale_fits meta fault len fits = go (replaces_all meta.flags)
  where
    go : (t : Bool) → IsFitMetaNext (Dropped fault (cond t (Some (spelled (is_base64 meta.flags) meta.word)) None) len)
    go true = fits.key
    go false = tt

at_fits : (meta : Meta) (value_len len : ℕ) (rest : List ℕ) → IsFitMeta meta → IsFitMetaNext (stored_at meta value_len len rest)
unfolding stored_at
at_fits meta value_len len rest fits = go (nat_lt MAX_TEXT_LEN value_len) refl
  where
    go : (t : Bool) → nat_lt MAX_TEXT_LEN value_len ≡ t → IsFitMetaNext (stored_at meta value_len len rest)
    go true is = rw is (stale_fits meta (faults.Line TooLarge) (len + value_len + 2) fits)
    go false is =
        let most = ltb-false _ _ is in
        rw is (blocked_fits meta (len + value_len + 2) (block_at value_len rest) fits (λ value whole. omega (arith, value_len_is value_len rest value whole)))

pub says_fits : (line : MetaLine) (len : ℕ) (rest : List ℕ) → IsFitLine line → IsFitMetaNext (line_next line len rest)
unfolding line_next
says_fits (lines.Whole meta) len rest fits = fits
says_fits (lines.Storing meta value_len) len rest fits = at_fits meta value_len len rest fits
says_fits (lines.Refused fault block) len rest fits = tt

pub manner_fits : (meta : Meta) → IsFitMeta meta → IsFitManner meta.word meta.flags
manner_fits meta fits = record { short = fits.word.1; lawful = (lawful meta.verb meta.word meta.flags fits.lawful).flags_are }
