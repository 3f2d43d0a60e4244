-- In store mode the fact on all chains says that no spare bucket of a chain is in another.
use Rattle.std.proofs.Common.{arith}
use Rattle.std.proofs.lemmas.Grind.{common_steps}
use Rattle.partition_words.proofs.Vocabulary.{HasChain, HasChains, IsDense, IsMain, OwnerState, Store, ℕ, ◌≡◌}

pub has_chain : (o : OwnerState) → HasChains o → o.shape.mode ≡ Store → (b : ℕ) → IsMain o.shape b → IsDense o b → HasChain o.shape.mode o b
has_chain o chains mode b l dense = grind (arith, common_steps)
