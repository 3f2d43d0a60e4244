-- The flags of the receiver, one for each sender.
use Rattle.std.proofs.Common.{◌≡◌, ◌≢◌, ℕ, ◌<◌, Bool, true, false, ◌||◌, List, [], ◌∷◌, ◌++◌, length, set, Some, sym, refl, ap, ◌∙◌, subst, ⊎_elim, arith}
use Rattle.std.specs.List.{list_any, slice_get}
use Rattle.std.proofs.lemmas.List.{get_or-set_same, get_or-set_other}
use Rattle.std.proofs.lemmas.List.Folds.{list_any-append}
use Rattle.std.proofs.lemmas.Option.{slice_get_within, slice_get-get_or}
use Rattle.std.proofs.Math.ListN.{length-set}
use Rattle.owner_queue.specs.declared.message.Message.{Message}
use Rattle.owner_queue.specs.declared.message.Message.TheVariants as kind
use Rattle.ruled_queue.specs.declared.rule.PassView.{PassView}
use Rattle.owner_queue.specs.Messages.{sender_of, is_end, sent_by, has_end}
use Rattle.ruled_queue.specs.Delivery.{receiver}
use Rattle.owner_queue.specs.JobEnds.{HasFlags}
use Rattle.ruled_queue.proofs.Keeps.{from_own, from_other, from_append, same_or_not}

or_false : (b : Bool) → (b || false) ≡ b
or_false true = refl
or_false false = refl

or_true : (b : Bool) → (b || true) ≡ true
or_true true = refl
or_true false = refl

has_end_more : (p : ℕ) (taken : List Message) (m : Message) → has_end p (taken ++ m ∷ []) ≡ (has_end p taken || list_any is_end (sent_by p (m ∷ [])))
has_end_more p taken m = ap (list_any is_end) (from_append sender_of p taken (m ∷ [])) ∙ list_any-append is_end (sent_by p taken) (sent_by p (m ∷ []))

other_end : (p : ℕ) (taken : List Message) (m : Message) → sender_of m ≢ p → has_end p (taken ++ m ∷ []) ≡ has_end p taken
other_end p taken m n = has_end_more p taken m ∙ (ap (λ l. has_end p taken || list_any is_end l) (from_other sender_of p m n) ∙ or_false (has_end p taken))

own_more : (p : ℕ) (taken : List Message) (m : Message) (b : Bool) → sender_of m ≡ p → is_end m ≡ b → has_end p (taken ++ m ∷ []) ≡ (has_end p taken || (b || false))
own_more p taken m b e is = has_end_more p taken m ∙ (ap (λ l. has_end p taken || list_any is_end l) (from_own sender_of p m e) ∙ ap (λ b. has_end p taken || (b || false)) is)

get_set_same : (flags : List Bool) (i : ℕ) (b : Bool) → i < length flags → slice_get (set flags i b) i ≡ Some b
get_set_same flags i b l = slice_get-get_or (set flags i b) i b (omega (arith, length-set flags i b)) ∙ ap Some (get_or-set_same flags i b b l)

get_set_other : (flags : List Bool) (i j : ℕ) (b : Bool) → j < length flags → j ≢ i → slice_get (set flags i b) j ≡ slice_get flags j
get_set_other flags i j b l n = slice_get-get_or (set flags i b) j b (omega (arith, length-set flags i b)) ∙ (ap Some (get_or-set_other flags i j b b n) ∙ sym (slice_get-get_or flags j b l))

flags_end : (flags : List Bool) (taken : List Message) (m : Message) (s : ℕ) → sender_of m ≡ s → is_end m ≡ true → s < 16 → HasFlags flags taken → HasFlags (set flags s true) (taken ++ m ∷ [])
flags_end flags taken m s of is l has p lp =
    ⊎_elim
    (λ (e : s ≡ p). subst (λ (q : ℕ). slice_get (set flags s true) q ≡ Some (has_end q (taken ++ m ∷ []))) e
    (get_set_same flags s true (slice_get_within flags s (has_end s taken) (has s l)) ∙ ap Some (sym (own_more s taken m true of is ∙ or_true (has_end s taken)))))
    (λ (n : s ≢ p). get_set_other flags s p true (slice_get_within flags p (has_end p taken) (has p lp)) (λ e. n (sym e)) ∙ (has p lp ∙ ap Some (sym (other_end p taken m (λ e. n (sym of ∙ e))))))
    (same_or_not s p)

-- the flags fit what a pass knows that took one message more
pub flags_after_end : (flags : List Bool) (u v : PassView Message ℕ) (m : Message) (s : ℕ) → m ≡ kind.End s → s < 16 → u ≡ receiver v.number v.terms (v.taken ++ m ∷ []) → HasFlags flags v.taken → HasFlags (set flags s true) u.taken
flags_after_end flags u v m s is l e has = subst (λ (t : PassView Message ℕ). HasFlags (set flags s true) t.taken) (sym e) (flags_end flags v.taken m s (ap sender_of is) (ap is_end is) l has)
