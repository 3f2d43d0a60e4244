-- The item that a write rewrites: its hash and its key are there.
use Rattle.std.proofs.Common.{rules}
use Rattle.std.proofs.Common.{ℕ, List}
use Rattle.mica_words.proofs.ItemWords.{hash_word, packed_key_word}
use Rattle.partition_words.specs.declared.state.OwnerState.{OwnerState}
use Rattle.partition_words.specs.ItemAt.{HasKeyWords}
use Rattle.circular_log.specs.LogWrite.{MayRewrite}

pub key_there : (o : OwnerState) (p : ℕ) (key value : List ℕ) → MayRewrite o p key value → HasKeyWords o p key
key_there o p key value may = search (rules, hash_word, packed_key_word)
