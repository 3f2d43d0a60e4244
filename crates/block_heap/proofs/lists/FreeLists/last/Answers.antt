use Rattle.std.proofs.Common.{◌≡◌, ◌<◌, ℕ, Option, Some, None, List, length, ap, subst}
use Rattle.std.specs.Option.{IfNone, IfSome}
use Rattle.block_heap.specs.Marks.{mark_at}
use Rattle.block_heap.specs.Lists.{list_of}
use Rattle.block_heap.proofs.ListLaws.{marked, unmarked}
use Rattle.block_heap.proofs.lists.FreeLists.last.Goals as goal

pub returns-clause-some : goal.returns-clause-some
returns-clause-some c = by c.last.result c.last.ensures.some
  where
    by : (found : Option ℕ) → IfSome found (λ last. (last < 1152) × (mark_at c.self.inside.filled last ≡ 1) × ((above : ℕ) → last < above → above < 1152 → mark_at c.self.inside.filled above ≡ 0))
        → IfSome found (λ last. (last < 1152) × (0 < length (list_of c.args.self.now last)) × ((above : ℕ) → last < above → above < 1152 → length (list_of c.args.self.now above) ≡ 0))
    by None _ = tt
    by (Some last) is = (
      is.0,
      subst (λ (lists : ℕ → List ℕ). 0 < length (lists last)) (ap list_of c.self.view_is) (marked c.self.inside.words c.self.inside.links.items c.self.inside.filled last c.self.invariant.lists is.0 is.1),
      λ above lt few. subst (λ (lists : ℕ → List ℕ). length (lists above) ≡ 0) (ap list_of c.self.view_is) (unmarked c.self.inside.words c.self.inside.links.items c.self.inside.filled above c.self.invariant.lists few (is.2 above lt few)),
    )

pub returns-clause-none : goal.returns-clause-none
returns-clause-none c = by c.last.result c.last.ensures.none
  where
    by : (found : Option ℕ) → IfNone found ((at : ℕ) → at < 1152 → mark_at c.self.inside.filled at ≡ 0) → IfNone found ((rank : ℕ) → rank < 1152 → length (list_of c.args.self.now rank) ≡ 0)
    by None off = λ rank few.
        subst (λ (lists : ℕ → List ℕ). length (lists rank) ≡ 0) (ap list_of c.self.view_is) (unmarked c.self.inside.words c.self.inside.links.items c.self.inside.filled rank c.self.invariant.lists few (off rank few))
    by (Some last) _ = tt
