use Rattle.std.proofs.Common.{◌≡◌, ◌≢◌, ◌≤◌, ◌<◌, ◌+◌, ◌*◌, ◌-◌, ◌⊎◌, ℕ, true, true≢false, List, [], ◌∷◌, length, inl, inr, refl, sym, arith}
use Rattle.std.specs.Prelude.{codes, is_some, sum_by, take}
use Rattle.std.specs.List.{AllByRecursion}
use Rattle.partition_model.specs.declared.options.Mode.TheVariants.{Cache, Store}
use Rattle.memcached_text.specs.Item.{item_text}
use Rattle.memcached_commands.specs.Decide.{decide}
use Rattle.memcached_commands.specs.Moments.{end_of}
use Rattle.memcached_page.specs.Shelf.{empty}
use Rattle.memcached_page.specs.Kept.{LacksRoom, room_in}
use Rattle.memcached_page.specs.Examples.{options, refusing_as_long, refusing_delete}
use Rattle.memcached_page.proofs.examples.refuses_where_full.Goals as goal

no_cache : Store ≢ Cache
no_cache same = absurd (cc)

-- no key has an item, so there is room for six words
not_full : (keys : List (List ℕ)) → AllByRecursion (λ key. is_some (empty.items key) ≡ true) keys
    → (256 ≤ (length keys + 1) * (6 - 1) + sum_by (λ key. room_in key empty 0 []) keys) ⊎ (15 * (1 + 1) ≤ length keys) → ⊥
not_full [] items (inl blocks) = omega (arith, blocks)
not_full [] items (inr spares) = omega (arith, spares)
not_full (key ∷ keys) items full = true≢false (sym items.0)

has_room : LacksRoom (options Store 256) empty [] (codes "n") 6 → ⊥
has_room (inl worn) = omega (arith, worn)
has_room (inr (inl full)) = not_full full.2.keys full.2.items full.2.full
has_room (inr (inr log)) = no_cache log.0

pub returns-clause-at_once : goal.returns-clause-at_once
unfolding decide end_of item_text
returns-clause-at_once c = λ refuses. has_room (refuses.0 refl)

has_as_long : LacksRoom (options Store 6) empty (take 1 refusing_as_long) (codes "n") 6 → ⊥
unfolding decide end_of item_text
has_as_long (inl worn) = let many : 1000 ≤ 1 = worn in omega (arith, many)
has_as_long (inr (inl full)) = let short : 6 < 6 = full.1 in omega (arith, short)
has_as_long (inr (inr log)) = no_cache log.0

pub returns-clause-as_long : goal.returns-clause-as_long
unfolding decide end_of item_text
returns-clause-as_long c = λ refuses. has_as_long (refuses.1.0 refl)

asks_none : LacksRoom (options Store 6) empty (take 1 refusing_delete) (codes "n") 0 → ⊥
unfolding decide end_of item_text
asks_none (inl worn) = let many : 1000 ≤ 1 = worn in omega (arith, many)
asks_none (inr (inl full)) = let short : 6 < 0 = full.1 in omega (arith, short)
asks_none (inr (inr log)) = no_cache log.0

pub returns-clause-delete : goal.returns-clause-delete
unfolding decide end_of item_text
returns-clause-delete c = λ refuses. asks_none (refuses.1.0 refl)

pub returns-clause-other : goal.returns-clause-other
unfolding decide end_of item_text
returns-clause-other c = (
  λ is. absurd (true≢false (sym is)),
  (
    λ is. inr (inl (refl, omega arith, record { keys = codes "n" ∷ []; items = (refl, tt); once = λ i j d less within. absurd (omega (arith, less, within)); full = inl (omega arith) })),
    tt,
  ),
)
