-- What is told for the flags of a command, one after another.
use Rattle.std.proofs.Common.{◌≡◌, ◌≤◌, ◌+◌, ◌++◌, ℕ, Bool, false, List, length}
use Rattle.memcached_meta.specs.declared.reply.Shown.{Shown}
use Rattle.memcached_meta.specs.Replies.{flags_text}
use Rattle.memcached_meta.specs.Short.{most_of_flags}

-- The bytes have grown by a text. With what is told of the flags that are left, it is what is told of all; and it is no longer than those may be that are not left.
pub record IsToldSoFar (old new : List ℕ) (word : List ℕ) (base64 : Bool) (shown : Shown) (flags : List (List ℕ)) (late : Bool) (left : List (List ℕ)) : Type 0 where
  pub text : List ℕ
  pub new_is : new ≡ old ++ text
  pub whole : text ++ flags_text word base64 shown late left ≡ flags_text word base64 shown false flags
  pub few : length text + most_of_flags (length word) left ≤ most_of_flags (length word) flags
