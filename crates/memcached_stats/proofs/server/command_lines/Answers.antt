use Rattle.std.proofs.Common.{◌+◌, ◌∷◌, [], codes, ap, ◌∙◌}
use Rattle.memcached_stats.specs.Stats.{stat}
use Rattle.memcached_stats.proofs.server.command_lines.Goals as goal

pub returns-clause-are : goal.returns-clause-are
returns-clause-are c =
    λ i.
    (c.told.ensures.is ∙ (λ j. stat (codes "cmd_get") (c.since-hits.ensures.count j + c.since-misses.ensures.count j))) i
    ∷ (c.told-2.ensures.is ∙ (λ j. stat (codes "cmd_set") (c.since.ensures.count j + c.since-swapped.ensures.count j + c.since-absent.ensures.count j + c.since-others.ensures.count j))) i
    ∷ (c.told-3.ensures.is ∙ ap (stat (codes "cmd_flush")) c.since-2.ensures.count) i
    ∷ (c.told-4.ensures.is ∙ (λ j. stat (codes "cmd_touch") (c.since-touched.ensures.count j + c.since-untouched.ensures.count j))) i
    ∷ (c.told-5.ensures.is ∙ ap (stat (codes "get_hits")) c.since-hits.ensures.count) i
    ∷ (c.told-6.ensures.is ∙ ap (stat (codes "get_misses")) c.since-misses.ensures.count) i
    ∷ (c.told-7.ensures.is ∙ ap (stat (codes "get_expired")) c.since-3.ensures.count) i
    ∷ (c.told-8.ensures.is ∙ ap (stat (codes "get_flushed")) c.since-4.ensures.count) i
    ∷ (c.told-9.ensures.is ∙ ap (stat (codes "delete_hits")) c.since-5.ensures.count) i
    ∷ (c.told-10.ensures.is ∙ ap (stat (codes "delete_misses")) c.since-6.ensures.count) i
    ∷ (c.told-11.ensures.is ∙ ap (stat (codes "incr_hits")) c.since-7.ensures.count) i
    ∷ (c.told-12.ensures.is ∙ ap (stat (codes "incr_misses")) c.since-8.ensures.count) i
    ∷ (c.told-13.ensures.is ∙ ap (stat (codes "decr_hits")) c.since-9.ensures.count) i
    ∷ (c.told-14.ensures.is ∙ ap (stat (codes "decr_misses")) c.since-10.ensures.count) i
    ∷ (c.told-15.ensures.is ∙ ap (stat (codes "cas_hits")) c.since-swapped.ensures.count) i
    ∷ (c.told-16.ensures.is ∙ ap (stat (codes "cas_misses")) c.since-absent.ensures.count) i
    ∷ (c.told-17.ensures.is ∙ ap (stat (codes "cas_badval")) c.since-others.ensures.count) i
    ∷ (c.told-18.ensures.is ∙ ap (stat (codes "touch_hits")) c.since-touched.ensures.count) i
    ∷ (c.told-19.ensures.is ∙ ap (stat (codes "touch_misses")) c.since-untouched.ensures.count) i
    ∷ (c.told-20.ensures.is ∙ ap (stat (codes "total_items")) c.since-11.ensures.count) i
    ∷ (c.told-21.ensures.is ∙ ap (stat (codes "store_too_large")) c.since-12.ensures.count) i
    ∷ (c.told-22.ensures.is ∙ ap (stat (codes "store_no_memory")) c.since-13.ensures.count) i
    ∷ []
