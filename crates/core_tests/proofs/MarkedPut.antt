-- What a marked put of `a` may store.
use Rattle.std.proofs.Common.{◌≡◌, ℕ, ◌+◌, ◌<◌, [], ◌∷◌, sym, ap, subst, arith}
use Rattle.mica_words.specs.Spelling.{item_words}
use Rattle.mica_words.proofs.ItemWords.{length-item_words}
use Rattle.partition_model.specs.declared.options.Mode.{Mode}
use Rattle.partition_model.specs.declared.options.Mode.TheVariants.{Cache, Store}
use Rattle.partition_model.specs.Cache as cache
use Rattle.partition_model.specs.History.{start, state_of}
use Rattle.partition_words.specs.declared.shape.Shape.{Shape}
use Rattle.partition_words.specs.declared.state.OwnerState.{OwnerState}
use Rattle.partition_words.specs.declared.state.Phase.{Phase}
use Rattle.partition_words.specs.OwnerState.{options_in}
use Rattle.partition_words.specs.Events.{WhenMarked, BelongsTo, MayPutWord, CanPlay, item_events}
use Rattle.partition_words.proofs.Puts.{can_put_cached}
use Rattle.core_tests.specs.CachePut.{put_of_a, IsMarked}

belongs : (o : OwnerState) (mode : Mode) → mode ≡ Cache → (p : ℕ) → p < 4 → BelongsTo o 0 put_of_a (start mode) p
unfolding cache.start
belongs o Cache is p l = (omega arith, omega arith)
belongs o Store is p l = cc is

module _ (o : OwnerState) (m : IsMarked o) where
  pub in_cache_mode : o.shape.mode ≡ Cache
  in_cache_mode = ap (λ (z : Shape). z.mode) m.shape

  pub may_put : (p : ℕ) → p < 4 → MayPutWord o p
  may_put p l = record {
    its_word = subst (λ (z : Phase). WhenMarked z (λ b write before. BelongsTo o b write (state_of (options_in o) before) p)) (sym m.phase)
        (belongs o o.shape.mode in_cache_mode p l);
    low = omega arith;
  }

  pub can_put_item : CanPlay (item_events o.shape.hashing 0 4 (97 ∷ []) (49 ∷ [])) o
  can_put_item = can_put_cached o in_cache_mode 0 (item_words o.shape.hashing 4 (97 ∷ []) (49 ∷ []))
      (λ i l. may_put (0 + i) (omega (arith, length-item_words o.shape.hashing 4 (97 ∷ []) (49 ∷ []))))
