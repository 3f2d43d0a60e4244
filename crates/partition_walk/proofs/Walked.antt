-- A walk over the items that were listed is a walk of the partition.
use Rattle.std.proofs.Common.{◌≡◌, ◌≢◌, inl, inr, ℕ, Bool, true, false, List, [], ◌∷◌, map, Option, Some, None, bytes_eq, refl, sym, ap, ◌∙◌, arith}
use Rattle.std.specs.List.{list_all}
use Rattle.std.specs.Prelude.{Contains}
use Rattle.std.proofs.lemmas.Bool.{false_from_ne_true}
use Rattle.std.proofs.lemmas.Option.{same_Some}
use Rattle.std.proofs.lemmas.Slice.Eq.{bytes_eq-Decides}
use Rattle.partition_model.specs.History.{answer_of}
use Rattle.partition_words.specs.declared.state.OwnerState.{OwnerState}
use Rattle.partition_words.specs.declared.state.Phase.TheVariants.{Idle}
use Rattle.partition_words.specs.OwnerState.{options_in}
use Rattle.partition_words.specs.Kept.{Kept}
use Rattle.partition_words.proofs.Failing.{in_cons, in_head, in_tail, in_none}
use Rattle.kept_items.specs.Kept.{stored_under, AreOnce}
use Rattle.kept_items.specs.Walk.{IsWalk}
use Rattle.partition_walk.specs.Listed.{IsItemAt, AreListed}
use Rattle.partition_walk.specs.PairAt.{key_at, value_at, pair_at, pairs_from, is_item}
use Rattle.partition_walk.proofs.Rising.{Rises, rises_of}
use Rattle.partition_walk.proofs.Found.{item_answer, item_fits, answer_there, one_item}
use Rattle.partition_walk.proofs.Ordered.{in_order}

-- what is stored under a key, among the pairs of these offsets

module _ (o : OwnerState) (key : List ℕ) where
  stored_none : (ps : List ℕ) → ((p : ℕ) → Contains ps p → key_at o p ≢ key) → stored_under key (map (pair_at o) ps) ≡ None
  stored_none [] others = refl
  stored_none (p ∷ ps) others =
      let other : bytes_eq (key_at o p) key ≡ false = false_from_ne_true (bytes_eq (key_at o p) key) (λ is. others p (in_head p ps) ((bytes_eq-Decides (key_at o p) key).0 is)) in
      rw other (stored_none ps (λ q i. others q (in_tail p q ps i)))

  stored_some : (value : List ℕ) (ps : List ℕ) → ((p : ℕ) → Contains ps p → key_at o p ≡ key → value_at o p ≡ value) → (p : ℕ) → Contains ps p → key_at o p ≡ key
      → stored_under key (map (pair_at o) ps) ≡ Some value
  stored_some value [] values p i is = absurd (in_none p i)
  stored_some value (q ∷ ps) values p i is =
      go (bytes_eq (key_at o q) key) refl (λ more. stored_some value ps (λ r j. values r (in_tail q r ps j)) p more is)
    where
      go : (b : Bool) → bytes_eq (key_at o q) key ≡ b → (Contains ps p → stored_under key (map (pair_at o) ps) ≡ Some value) → stored_under key (map (pair_at o) (q ∷ ps)) ≡ Some value
      go true b rest = rw b (ap (λ (v : List ℕ). Some v) (values q (in_head q ps) ((bytes_eq-Decides (key_at o q) key).0 b)))
      go false b rest = rw b (elim (in_cons q p ps i) [
        | inl same ↦ absurd (let e : true ≡ false = sym ((bytes_eq-Decides (key_at o q) key).1 (ap (key_at o) same ∙ is)) ∙ b in cc)
        | inr more ↦ rest more
      ])

module _ (o : OwnerState) (s : Kept o) (idle : o.phase ≡ Idle) (offsets : List ℕ) (l : AreListed o offsets) where
  each : (key : List ℕ) → stored_under key (map (pair_at o) offsets) ≡ answer_of (options_in o) o.history key
  each key = go (answer_of (options_in o) o.history key) refl
    where
      answer : (p : ℕ) → Contains offsets p → key_at o p ≡ key → answer_of (options_in o) o.history key ≡ Some (value_at o p)
      answer p i is = ap (answer_of (options_in o) o.history) (sym is) ∙ item_answer o s idle p (l.nothing_else p i)

      go : (found : Option (List ℕ)) → answer_of (options_in o) o.history key ≡ found → stored_under key (map (pair_at o) offsets) ≡ found
      go None none = stored_none o key offsets (λ p i is. let e : None ≡ Some (value_at o p) = sym none ∙ answer p i is in cc)
      go (Some value) some =
          let there = answer_there o s idle key value some in
          stored_some o key value offsets (λ p i is. same_Some (value_at o p) value (sym (answer p i is) ∙ some)) there.0 (l.each there.0 there.1) there.2

  once : (ps : List ℕ) → Rises ps → ((p : ℕ) → Contains ps p → IsItemAt o p) → AreOnce (map (pair_at o) ps)
  once [] rises are = tt
  once (p ∷ ps) rises are = (
    stored_none o (key_at o p) ps
        (λ q i same.
        let above = rises.0 q i in
        let one = one_item o s idle q p (are q (in_tail p q ps i)) (are p (in_head p ps)) same in
        omega arith),
    once ps rises.1 (λ q i. are q (in_tail p q ps i)),
  )

  pub is_walk : IsWalk (options_in o) o.history (pairs_from o 0 offsets)
  is_walk = record { each = each; once = once offsets (rises_of offsets l.rise) l.nothing_else; order = in_order o s idle offsets l }

  items_from : (ps : List ℕ) → ((p : ℕ) → Contains ps p → IsItemAt o p) → list_all (is_item o) ps ≡ true
  items_from [] are = refl
  items_from (p ∷ ps) are = rw (item_fits o s idle p (are p (in_head p ps))) (items_from ps (λ q i. are q (in_tail p q ps i)))

  pub all_items : list_all (is_item o) offsets ≡ true
  all_items = items_from offsets l.nothing_else
