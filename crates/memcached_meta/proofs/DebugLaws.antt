-- The flags of `me`.
use Rattle.std.proofs.Common.{◌≡◌, ℕ, false, List, [], ◌∷◌, sym, ap, ◌∙◌, codes}
use Rattle.std.specs.Prelude.{bytes_eq, if◌then◌else◌}
use Rattle.memcached_text.specs.Lines.{words_of}
use Rattle.memcached_text.proofs.WordLaws.{words_of_none}
use Rattle.memcached_meta.specs.Lines.{debug_flags}

-- it has none where its first word is another
pub none_left : (words later : List (List ℕ)) (word text : List ℕ) → words ≡ word ∷ later → bytes_eq word (codes "b") ≡ false → text ≡ [] → words_of text ≡ debug_flags words
none_left words later word text is other empty = ap words_of empty ∙ words_of_none ∙ sym (ap debug_flags is ∙ ap (λ t. if t then codes "b" ∷ [] else []) other)
