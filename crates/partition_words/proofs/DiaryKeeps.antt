-- Each event keeps the rule of the one-word table whose seat has a diary.
use Rattle.partition_words.proofs.Vocabulary.{Bool, ◌≡◌, CanPlay, Event, IsAllowed, IsPossibleShape, List, OwnerState, [], after, ap, arith, as_made, cond}
use Rattle.partition_words.proofs.Vocabulary.{false}
use Rattle.partition_words.proofs.Vocabulary.{length, ltb-false, ltb-true, nat_lt, plays, refl, set, subst, suc, sym, true, zero, ℕ, ⊎_elim, ◌++◌, ◌∙◌}
use Rattle.partition_words.proofs.Vocabulary.{◌∷◌, ◌≡◌}
use mathlib.Core.Option.{some, none, some-injective}
use lib.ListN.{get_elem?}
use Rattle.atomic_table.specs.Table.{Me, step, keeps, opening, Allows}
use Rattle.atomic_table.proofs.Lists.{at_set}
use Rattle.partition_words.specs.declared.plain.Diary.{Diary}
use Rattle.partition_words.specs.declared.plain.Blank.{Blank}
use Rattle.partition_words.specs.Diary.{blank_diary, diary_after, DiaryFits, AllFit, knows, happened}
use Rattle.partition_words.proofs.Made.{kept_as_made}
use Rattle.partition_words.proofs.Keeps.{kept_after}

can_more : (es : List Event) (e : Event) (o : OwnerState) → CanPlay es o → IsAllowed e (plays es o) → CanPlay (es ++ e ∷ []) o
can_more [] e o can allowed = (allowed, tt)
can_more (x ∷ es) e o can allowed = (can.0, can_more es e (after x o) can.1 allowed)

pub plays_more : (es : List Event) (e : Event) (o : OwnerState) → plays (es ++ e ∷ []) o ≡ after e (plays es o)
plays_more [] e o = refl
plays_more (x ∷ es) e o = plays_more es e (after x o)

diary_fits : (e : Event) (d : Diary) → DiaryFits d → IsAllowed e d.owner → DiaryFits (diary_after e d)
diary_fits e d f a = by_room (nat_lt (length d.kept) d.room) refl
  where
    by_room : (b : Bool) → nat_lt (length d.kept) d.room ≡ b
        → DiaryFits (record { owner = after e d.owner; kept = cond b (d.kept ++ e ∷ []) d.kept; room = d.room })
    by_room true is = let led = f.whole (ltb-true (length d.kept) d.room is) in record {
      owner = kept_after d.owner f.owner e a;
      kept = can_more d.kept e (as_made d.owner.shape) f.kept (subst (IsAllowed e) (sym led) a);
      whole = λ less. plays_more d.kept e (as_made d.owner.shape) ∙ ap (after e) led;
    }
    by_room false is =
        record { owner = kept_after d.owner f.owner e a; kept = f.kept; whole = λ less. absurd (omega (arith, ltb-false (length d.kept) d.room is)) }

-- what each view has, each has once one is changed
pub set_fit : {V : Type 0} (P : V → Type 0) (views : List V) (id : ℕ) (now : V) → P now → ((j : ℕ) (v : V) → get_elem? views j ≡ some v → P v)
    → (j : ℕ) (v : V) → get_elem? (set views id now) j ≡ some v → P v
set_fit {V} P views id now fit all j v at = ⊎_elim (λ (t : (j ≡ id) × (now ≡ v)). subst P t.1 fit) (λ t. all j v t.1) (at_set views id j now v at)

pub one_fits : {V : Type 0} (P : V → Type 0) (view : V) → P view → (j : ℕ) (v : V) → get_elem? (view ∷ []) j ≡ some v → P v
one_fits P view fit zero v at = subst P (some-injective _ _ at) fit
one_fits P view fit (suc j) v at = absurd (cc at)

module _ (slots id : ℕ) (me : Me (Unit {0}) Diary) where
  pub knows_at : (i : ℕ) → Allows AllFit slots id me i (λ n. n) (knows (step slots i 0 0 none) me)
  knows_at i s all _ at _ = let f = all id me.0 at in (me.0, keeps, tt, set_fit DiaryFits s.views id me.0 f all, (refl, f))

  pub happens_at : (e : Event) (i n : ℕ) → IsAllowed e me.0.owner → Allows AllFit slots id me i (λ _. n) (λ _. happened e (step slots i n 0 none) me n)
  happens_at e i n allowed s all _ at _ =
      let f = all id me.0 at in
      let now : Diary = diary_after e me.0 in
      (now, keeps, tt, set_fit DiaryFits s.views id now (diary_fits e me.0 f allowed) all, (refl, f.owner, kept_after me.0.owner f.owner e allowed))

pub starts : (blank : Blank) (words : List ℕ) → IsPossibleShape blank.shape → AllFit (opening words [] (blank_diary blank))
starts blank words valid =
    one_fits DiaryFits (blank_diary blank) record { owner = kept_as_made blank.shape valid; kept = tt; whole = λ less. refl }
