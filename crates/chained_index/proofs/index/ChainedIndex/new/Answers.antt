use Rattle.chained_index.proofs.Words.{◌≡◌, ◌∙◌, ◌++◌, [], List, ℕ, ap, append-nil, rules, subst, sym, IsIndexOf, as_made}
use Rattle.chained_index.proofs.AsMade.{index_as_made}
use Rattle.chained_index.proofs.UnusedLaws.{unused_size, unused_at}
use Rattle.chained_index.specs.Unused.{unused_from}
use Rattle.chained_index.proofs.index.ChainedIndex.new.Goals as goal

pub returns : goal.returns
returns c =
    let shape = c.args.shape.now in
    let all = unused_from shape.buckets shape.spares in
    let none : c.in_ok-returned.returned.items ≡ [] = search rules in
    subst (λ (free : List ℕ). IsIndexOf (record { shape = shape; free = free }) (as_made shape)) (sym (ap (λ (xs : List ℕ). all ++ xs) none ∙ append-nil all))
    (index_as_made shape all (unused_size shape.buckets shape.spares) (unused_at shape.buckets shape.spares))
