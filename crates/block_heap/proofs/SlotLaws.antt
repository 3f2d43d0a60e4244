-- Slots that stay kept where one is taken or comes back.
use Rattle.std.proofs.Common.{◌≡◌, ◌≢◌, ℕ, zero, suc, ◌+◌, ◌-◌, ◌<◌, ◌≤◌, ◌⊎◌, inl, inr, List, [], ◌∷◌, ◌++◌, length, sym, ap, ◌∙◌, subst, arith, length-append}
use Rattle.std.specs.List.{Contains}
use Rattle.std.proofs.lemmas.List.Elements.{Contains-append_cases, Contains-append_left, Contains-append_right}
use Rattle.std.proofs.lemmas.Bool.{cases_eq}
use Rattle.block_heap.specs.declared.links.Link.{Link}
use Rattle.block_heap.specs.Links.{node_of, slots_after}
use Rattle.block_heap.specs.Slots.{most_slots, AreApart, IsPlaced, IsReused, IsNew, IsSlotFor}
use Rattle.block_heap.specs.Lists.{IsUnlisted, KeepsLists, KeepsSlots}
use Rattle.block_heap.proofs.LinkLaws.{once, leads_to}
use Rattle.block_heap.proofs.ListLaws.{Left}
use Rattle.block_heap.proofs.Places.{in_middle}

pub last_among : (old new : List ℕ) (slot : ℕ) → old ≡ new ++ slot ∷ [] → Contains old slot
last_among old new slot was = subst (λ (xs : List ℕ). Contains xs slot) (sym was) (in_middle new [] slot)

pub reused : (old new : List Link) (old_spares spares : List ℕ) (slot place : ℕ) → IsPlaced old new (node_of slot) place → old_spares ≡ spares ++ slot ∷ [] → node_of slot < length old → IsSlotFor old new old_spares spares slot place
reused old new old_spares spares slot place placed was within = record {
  within = omega (arith, placed.len);
  next = placed.next;
  prev = placed.prev;
  here = placed.here;
  others = λ other ne. placed.others (node_of other) (λ e. ne (omega arith));
  from = inl (record { was = was; len = placed.len });
}

-- numbers that stand once, with one more at the end
apart_more : (xs : List ℕ) (x : ℕ) → AreApart xs → (Contains xs x → ⊥) → AreApart (xs ++ x ∷ [])
apart_more [] x apart none = ((λ among. let lt = among.1 in absurd (omega arith)), tt)
apart_more (y ∷ xs) x apart none =
    ((λ among. by (Contains-append_cases xs (x ∷ []) y among)), apart_more xs x apart.1 (λ among. none (suc among.0, (let lt = among.1 in omega arith), among.2)))
  where
    by : Contains xs y ⊎ Contains (x ∷ []) y → ⊥
    by (inl there) = apart.0 there
    by (inr (zero, lt, is)) = none (0, omega arith, sym is)
    by (inr (suc k, lt, is)) = absurd (omega arith)

-- and without the last
apart_less : (xs : List ℕ) (x : ℕ) → AreApart (xs ++ x ∷ []) → AreApart xs × (Contains xs x → ⊥)
apart_less [] x apart = (tt, λ among. let lt = among.1 in absurd (omega arith))
apart_less (y ∷ xs) x apart = by (apart_less xs x apart.1)
  where
    none : (Contains xs x → ⊥) → Contains (y ∷ xs) x → ⊥
    none rest (zero, lt, is) = apart.0 (subst (λ (z : ℕ). Contains (xs ++ x ∷ []) z) (sym is) (in_middle xs [] x))
    none rest (suc k, lt, is) = rest (k, omega arith, is)

    by : AreApart xs × (Contains xs x → ⊥) → AreApart (y ∷ xs) × (Contains (y ∷ xs) x → ⊥)
    by rest = (((λ there. apart.0 (Contains-append_left xs (x ∷ []) y there)), rest.0), none rest.1)

-- a slot of a list has a node
pub listed_node : (words : ℕ) (links : List Link) (filled : List ℕ) (rank slot : ℕ) → KeepsLists words links filled → rank < 1152 → Contains (slots_after links words rank) slot → node_of slot < length links
listed_node words links filled rank slot h few among =
    let at = once links rank slot (slots_after links words rank) few (h.rings rank few) among in
    (leads_to links rank at.before at.after slot rank at.leads).1

-- The slot that a place gets is in no list.
module _ (words : ℕ) (links reached : List Link) (room : ℕ) (filled spares left : List ℕ) (spare_room slot place : ℕ) (h : KeepsLists words links filled) (k : KeepsSlots words links room spares spare_room)
    (got : IsSlotFor links reached spares left slot place) where
  pub got_unlisted : IsUnlisted (slots_after links words) slot
  got_unlisted = by got.from
    where
      by : IsReused links reached spares left slot ⊎ IsNew links reached spares left slot → IsUnlisted (slots_after links words) slot
      by (inl again) = k.unlisted slot (last_among spares left slot again.was)
      by (inr fresh) = λ rank few among. (let within = listed_node words links filled rank slot h few among in let at = fresh.here in absurd (omega arith))

  pub got_longer : length links ≤ length reached
  got_longer = by got.from
    where
      by : IsReused links reached spares left slot ⊎ IsNew links reached spares left slot → length links ≤ length reached
      by (inl again) = (let e = again.len in omega arith)
      by (inr fresh) = (let e = fresh.len in omega arith)

  pub got_within : length links - 1152 - length spares < most_slots words → length reached ≤ most_slots words + 1152
  got_within more = by got.from
    where
      by : IsReused links reached spares left slot ⊎ IsNew links reached spares left slot → length reached ≤ most_slots words + 1152
      by (inl again) = omega (arith, again.len, k.within)
      by (inr fresh) = omega (arith, fresh.len, more, ap length fresh.were_none, k.few)

  -- how many slots are in lists, with this one
  pub got_count : length reached - 1152 - length left ≡ length links - 1152 - length spares + 1
  got_count = by got.from
    where
      by : IsReused links reached spares left slot ⊎ IsNew links reached spares left slot → length reached - 1152 - length left ≡ length links - 1152 - length spares + 1
      by (inl again) = omega (arith, again.len, ap length again.was, length-append left (slot ∷ []), k.few)
      by (inr fresh) = omega (arith, fresh.len, ap length fresh.were_none, ap length fresh.none, k.few)

  -- the other spares are kept, once the slot is in a list
  pub got_kept : (new : List Link) (new_room new_spare_room rank : ℕ) → length new ≡ length reached → room ≤ new_room → spare_room ≤ new_spare_room → length links - 1152 - length spares < most_slots words
      → slots_after new words rank ≡ slots_after links words rank ++ slot ∷ [] → ((other : ℕ) → other < 1152 → other ≢ rank → slots_after new words other ≡ slots_after links words other)
      → KeepsSlots words new new_room left new_spare_room
  got_kept new new_room new_spare_room rank len enough spare_enough more own others = by got.from
    where
      -- a slot that is left is in no list
      free : (s : ℕ) → IsUnlisted (slots_after links words) s → (s ≡ slot → ⊥) → (c : ℕ) → c < 1152 → (c ≡ rank) ⊎ (c ≡ rank → ⊥) → Contains (slots_after new words c) s → ⊥
      free s none ne c few (inl e) among = cases (Contains-append_cases (slots_after links words rank) (slot ∷ []) s (subst (λ (xs : List ℕ). Contains xs s) (ap (slots_after new words) e ∙ own) among))
        where
          cases : Contains (slots_after links words rank) s ⊎ Contains (slot ∷ []) s → ⊥
          cases (inl there) = none rank (subst (λ n. n < 1152) e few) there
          cases (inr (zero, lt, is)) = ne (sym is)
          cases (inr (suc j, lt, is)) = absurd (omega arith)
      free s none ne c few (inr other) among = none c few (subst (λ (xs : List ℕ). Contains xs s) (others c few other) among)

      by : IsReused links reached spares left slot ⊎ IsNew links reached spares left slot → KeepsSlots words new new_room left new_spare_room
      by (inl again) =
          let less = apart_less left slot (subst AreApart again.was k.apart) in
          let among : (s : ℕ) → Contains left s → Contains spares s = λ s there. subst (λ (xs : List ℕ). Contains xs s) (sym again.was) (Contains-append_left left (slot ∷ []) s there) in
          record {
            within = omega (arith, len, got_within more);
            enough = omega (arith, enough, k.enough);
            spare_enough = omega (arith, spare_enough, k.spare_enough);
            few = omega (arith, len, again.len, ap length again.was, length-append left (slot ∷ []), k.few);
            apart = less.0;
            nodes = λ s there. (let node = k.nodes s (among s there) in omega (arith, len, again.len));
            unlisted = λ s there c few. free s (k.unlisted s (among s there)) (λ e. less.1 (subst (Contains left) e there)) c few (cases_eq c rank);
          }
      by (inr fresh) = record {
        within = omega (arith, len, got_within more);
        enough = omega (arith, enough, k.enough);
        spare_enough = omega (arith, spare_enough, k.spare_enough);
        few = omega (arith, len, fresh.len, ap length fresh.none, k.few);
        apart = subst AreApart (sym fresh.none) tt;
        nodes = λ s there. absurd (let lt = there.1 in omega (arith, ap length fresh.none));
        unlisted = λ s there. absurd (let lt = there.1 in omega (arith, ap length fresh.none));
      }

-- A slot that has left its list is spare.
pub spare_more : (words : ℕ) (links new : List Link) (room new_room : ℕ) (filled spares now : List ℕ) (spare_room new_spare_room rank slot : ℕ) (marks : List ℕ) → KeepsLists words links filled → KeepsSlots words links room spares spare_room → rank < 1152
    → Contains (slots_after links words rank) slot → Left words links new marks rank slot → length new ≡ length links → now ≡ spares ++ slot ∷ [] → room ≤ new_room → spare_room ≤ new_spare_room
    → 0 < length links - 1152 - length spares → KeepsSlots words new new_room now new_spare_room
spare_more words links new room new_room filled spares now spare_room new_spare_room rank slot marks h k few listed left len is enough spare_enough some = subst (λ xs. KeepsSlots words new new_room xs new_spare_room) (sym is) (record {
  within = omega (arith, len, k.within);
  enough = omega (arith, enough, k.enough);
  spare_enough = omega (arith, spare_enough, k.spare_enough);
  few = omega (arith, len, k.few, length-append spares (slot ∷ []));
  apart = apart_more spares slot k.apart (λ among. k.unlisted slot among rank few listed);
  nodes = λ s among. nodes s (Contains-append_cases spares (slot ∷ []) s among);
  unlisted = λ s among c less. unlisted s (Contains-append_cases spares (slot ∷ []) s among) c less (cases_eq c rank);
})
  where
    nodes : (s : ℕ) → Contains spares s ⊎ Contains (slot ∷ []) s → node_of s < length new
    nodes s (inl there) = (let node = k.nodes s there in omega (arith, len))
    nodes s (inr (zero, lt, e)) = (let node = listed_node words links filled rank slot h few listed in omega (arith, len, e))
    nodes s (inr (suc j, lt, e)) = absurd (omega arith)

    -- what is in the list now was in it
    was_in : (s : ℕ) → Contains (slots_after new words rank) s → Contains (slots_after links words rank) s
    was_in s among = still left.without.before left.without.after left.without.was (Contains-append_cases left.without.before left.without.after s (subst (λ (xs : List ℕ). Contains xs s) left.without.now among))
      where
        still : (before after : List ℕ) → slots_after links words rank ≡ before ++ slot ∷ after → Contains before s ⊎ Contains after s → Contains (slots_after links words rank) s
        still before after was (inl first) = subst (λ (xs : List ℕ). Contains xs s) (sym was) (Contains-append_left before (slot ∷ after) s first)
        still before after was (inr later) = subst (λ (xs : List ℕ). Contains xs s) (sym was) (Contains-append_right before (slot ∷ after) s (suc later.0, (let lt = later.1 in omega arith), later.2))

    unlisted : (s : ℕ) → Contains spares s ⊎ Contains (slot ∷ []) s → (c : ℕ) → c < 1152 → (c ≡ rank) ⊎ (c ≡ rank → ⊥) → Contains (slots_after new words c) s → ⊥
    unlisted s (inl there) c less (inl e) among = k.unlisted s there rank few (was_in s (subst (λ n. Contains (slots_after new words n) s) e among))
    unlisted s (inl there) c less (inr ne) among = k.unlisted s there c less (subst (λ (xs : List ℕ). Contains xs s) (left.all.others c less ne) among)
    unlisted s (inr (suc j, lt, e)) c less _ among = absurd (omega arith)
    unlisted s (inr (zero, lt, e)) c less _ among = left.gone c less (subst (Contains (slots_after new words c)) (sym e) among)
