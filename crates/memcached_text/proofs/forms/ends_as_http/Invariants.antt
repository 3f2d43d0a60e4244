use Rattle.std.proofs.Common.{◌≡◌, ◌∷◌, length}
use Rattle.memcached_text.specs.Forms.{ends_as_http}
use Rattle.memcached_text.proofs.forms.ends_as_http.Given as goal

abbrev pub invariant-loop-word : goal.invariant-loop-word
invariant-loop-word l = ends_as_http l.fn.words ≡ ends_as_http (l.last ∷ l.words)

abbrev pub decreases-loop-word : goal.decreases-loop-word
decreases-loop-word l = length l.words
