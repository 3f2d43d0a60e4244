use Rattle.chained_index.proofs.Words.{SLOTS, ◌≡◌, ℕ, ◌<◌, ◌≤◌, ◌≢◌, ◌∙◌, subst, OwnerState, entry_in}
use Rattle.chained_index.proofs.Filled.{view_read}
use Rattle.chained_index.proofs.Walking.{end_there}
use Rattle.chained_index.proofs.index.ChainedIndex.end_of.Goals as goal

pub returns-clause-end : goal.returns-clause-end
returns-clause-end g c =
    let same = c.used_slots.ensures.same ∙ c.last_two-before.ensures.same in
    let used : ℕ = c.used_slots.result in
    let last : ℕ = c.last_two-before.result.1 in
    end_there _ _ _ (view_read _ _ _ _ same c.used_slots.ensures.kept c.requires.index c.requires.bucket)
    c.last_two-before.result.0 last used c.last_two-before.ensures.last
    (subst (λ (z : OwnerState). (used ≤ SLOTS) × ((slot : ℕ) → slot < used → entry_in z last slot ≢ 0) × (used < SLOTS → entry_in z last used ≡ 0))
    c.last_two-before.ensures.same c.used_slots.ensures.used)
