-- Meta commands that may be carried out.
use Rattle.std.specs.Prelude.{◌≡◌, ⊤, ℕ, ◌≤◌, List, length, Some, None}
use Rattle.memcached_text.specs.declared.limits.TheConstants.{MAX_KEY_LEN, MAX_TEXT_LEN}
use Rattle.memcached_text.specs.Fit.{IsFitKey}
use Rattle.memcached_commands.specs.Keys.{spelled}
use Rattle.memcached_meta.specs.declared.line.Meta.{Meta}
use Rattle.memcached_meta.specs.declared.next.MetaNext.{MetaNext}
use Rattle.memcached_meta.specs.declared.next.MetaNext.TheVariants.{Whole, Dropped}
use Rattle.memcached_meta.specs.Flags.{flags_fault}
use Rattle.memcached_meta.specs.Lines.{is_base64, meta_fault}
use Rattle.memcached_meta.specs.Replies.{Manner}

-- its word is short enough for a key and spells one, it has no other fault, and its value is no longer than an item's may be
pub record IsFitMeta (meta : Meta) : Type 0 where
  pub word : IsFitKey meta.word
  pub key : IsFitKey (spelled (is_base64 meta.flags) meta.word)
  pub lawful : meta_fault meta.verb meta.word meta.flags ≡ None
  pub value : length meta.value ≤ MAX_TEXT_LEN

-- each flag is one, and stands once
pub record IsFitManner (word : List ℕ) (flags : List (List ℕ)) : Type 0 where
  pub short : length word ≤ MAX_KEY_LEN
  pub lawful : flags_fault flags ≡ None

abbrev pub manner_of : Meta → Manner
manner_of meta = record { verb = meta.verb; word = meta.word; flags = meta.flags }

abbrev pub IsFitMetaNext : MetaNext → Type 0
IsFitMetaNext (Whole meta len) = IsFitMeta meta
IsFitMetaNext (Dropped fault (Some key) len) = IsFitKey key
IsFitMetaNext _ = ⊤
