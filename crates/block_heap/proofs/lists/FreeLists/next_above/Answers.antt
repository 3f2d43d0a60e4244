use Rattle.std.proofs.Common.{◌≡◌, ◌<◌, ℕ, Option, Some, None, List, length, ap, subst}
use Rattle.std.specs.Option.{IfNone, IfSome}
use Rattle.block_heap.specs.Marks.{mark_at}
use Rattle.block_heap.specs.Lists.{list_of}
use Rattle.block_heap.proofs.ListLaws.{marked, unmarked}
use Rattle.block_heap.proofs.lists.FreeLists.next_above.Goals as goal

pub returns-clause-some : goal.returns-clause-some
returns-clause-some c = by c.next_above.result c.next_above.ensures.some
  where
    by : (found : Option ℕ) → IfSome found (λ next. (c.args.rank < next) × (next < 1152) × (mark_at c.self.inside.filled next ≡ 1))
        → IfSome found (λ next. (c.args.rank < next) × (next < 1152) × (0 < length (list_of c.args.self.now next)))
    by None _ = tt
    by (Some next) is =
        (is.0, is.1, subst (λ (lists : ℕ → List ℕ). 0 < length (lists next)) (ap list_of c.self.view_is) (marked c.self.inside.words c.self.inside.links.items c.self.inside.filled next c.self.invariant.lists is.1 is.2))

pub returns-clause-none : goal.returns-clause-none
returns-clause-none c = by c.next_above.result c.next_above.ensures.none
  where
    by : (found : Option ℕ) → IfNone found ((next : ℕ) → c.args.rank < next → next < 1152 → mark_at c.self.inside.filled next ≡ 0)
        → IfNone found ((next : ℕ) → c.args.rank < next → next < 1152 → length (list_of c.args.self.now next) ≡ 0)
    by None off = λ next above few.
        subst (λ (lists : ℕ → List ℕ). length (lists next) ≡ 0) (ap list_of c.self.view_is) (unmarked c.self.inside.words c.self.inside.links.items c.self.inside.filled next c.self.invariant.lists few (off next above few))
    by (Some next) _ = tt
