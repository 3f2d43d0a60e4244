-- Rings of links that stay rings where a slot is added or leaves.
use Rattle.std.proofs.Common.{◌≡◌, ◌≢◌, ℕ, zero, suc, ◌-◌, ◌<◌, ◌≤◌, Bool, true, false, cond, List, [], ◌∷◌, ◌++◌, length, get_or, refl, sym, ap, ◌∙◌, subst, arith, length-append, append_assoc}
use Rattle.std.specs.List.{Contains}
use Rattle.std.proofs.lemmas.List.{get_or_default}
use Rattle.std.proofs.lemmas.Bool.{lt-ltb}
use Rattle.std.proofs.Math.Dec.{ltb}
use Rattle.std.proofs.lemmas.Grind.{common_steps}
use Rattle.block_heap.specs.declared.links.Link.{Link}
use Rattle.block_heap.specs.Links.{node_of, link_of, next_of, prev_of, slots_after, LeadOver, AreJoined}
use Rattle.block_heap.proofs.Places.{parted}

-- the links tell the slots that they lead over
pub told_slots : (links : List Link) (most node : ℕ) (slots : List ℕ) (end : ℕ) → LeadOver links node slots end → end < 1152 → length slots ≤ most → slots_after links most node ≡ slots
unfolding slots_after
told_slots links zero node [] end leads few enough = refl
told_slots links (suc most) node [] end leads few enough = rw (leads.0, lt-ltb end 1152 few) refl
told_slots links zero node (slot ∷ slots) end leads few enough = absurd (omega arith)
told_slots links (suc most) node (slot ∷ slots) end leads few enough =
    grind (arith, common_steps, told_slots links most (node_of slot) slots end leads.3 few (omega arith))

pub few_slots : (links : List Link) (most node : ℕ) → length (slots_after links most node) ≤ most
unfolding slots_after
few_slots links zero node = omega arith
few_slots links (suc most) node = by (ltb (next_of links node) 1152) (few_slots links most (next_of links node))
  where
    by : (b : Bool) → length (slots_after links most (next_of links node)) ≤ most → length (cond b [] ((next_of links node - 1152) ∷ slots_after links most (next_of links node))) ≤ suc most
    by true few = omega arith
    by false few = omega arith

-- the links as far as a slot, and from there on
pub leads_to : (links : List Link) (node : ℕ) (before after : List ℕ) (slot end : ℕ) → LeadOver links node (before ++ slot ∷ after) end
    → LeadOver links node before (node_of slot) × (node_of slot < length links) × LeadOver links (node_of slot) after end
leads_to links node [] after slot end leads = ((leads.0, leads.1), leads.2, leads.3)
leads_to links node (p ∷ before) after slot end leads = grind (arith, common_steps, leads_to links (node_of p) before after slot end leads.3)

-- from a node there is one way to a head
one_way : (links : List Link) (node : ℕ) (xs ys : List ℕ) (end other : ℕ) → end < 1152 → other < 1152 → LeadOver links node xs end → LeadOver links node ys other → (length xs ≡ length ys) × (end ≡ other)
one_way links node [] [] end other few less a b = (refl, sym a.0 ∙ b.0)
one_way links node [] (y ∷ ys) end other few less a b = absurd (let e : end ≡ node_of y = sym a.0 ∙ b.0 in omega arith)
one_way links node (x ∷ xs) [] end other few less a b = absurd (let e : node_of x ≡ other = sym a.0 ∙ b.0 in omega arith)
one_way links node (x ∷ xs) (y ∷ ys) end other few less a b = grind (arith, common_steps, one_way links (node_of x) xs ys end other few less a.3)

-- none of the slots is this one
abbrev pub Lack : List ℕ → ℕ → Type 0
Lack [] slot = Unit {0}
Lack (x ∷ xs) slot = (x ≢ slot) × Lack xs slot

pub lack : (xs : List ℕ) (slot : ℕ) → (Contains xs slot → ⊥) → Lack xs slot
lack [] slot none = tt
lack (x ∷ xs) slot none = (λ e. none (0, omega arith, e), lack xs slot (λ among. none (suc among.0, (let lt = among.1 in omega arith), among.2)))

pub lacked : (xs : List ℕ) (slot : ℕ) → Lack xs slot → Contains xs slot → ⊥
lacked [] slot none among = absurd (let lt = among.1 in omega arith)
lacked (x ∷ xs) slot none (zero, lt, is) = none.0 is
lacked (x ∷ xs) slot none (suc k, lt, is) = lacked xs slot none.1 (k, omega arith, is)

-- a slot stands once in its ring
pub record Once (links : List Link) (rank slot : ℕ) (list : List ℕ) : Type 0 where
  pub before : List ℕ
  pub after : List ℕ
  pub whole : list ≡ before ++ slot ∷ after
  pub none_before : Lack before slot
  pub none_after : Lack after slot
  pub leads : LeadOver links rank (before ++ slot ∷ after) rank
  pub on : LeadOver links (node_of slot) after rank

-- no way to a head comes back to the node that it leads from
no_return : (links : List Link) (rank slot : ℕ) (before after : List ℕ) → rank < 1152 → LeadOver links (node_of slot) (before ++ slot ∷ after) rank → ⊥
no_return links rank slot before after few leads =
    let same = (one_way links (node_of slot) (before ++ slot ∷ after) after rank rank few few leads (leads_to links (node_of slot) before after slot rank leads).2).0 in
    omega (arith, length-append before (slot ∷ after))

pub once : (links : List Link) (rank slot : ℕ) (list : List ℕ) → rank < 1152 → LeadOver links rank list rank → Contains list slot → Once links rank slot list
once links rank slot list few leads among = record {
  before = parts.0;
  after = parts.1;
  whole = parts.2;
  none_before = lack parts.0 slot (λ more. first (parted parts.0 slot more));
  none_after = lack parts.1 slot (λ more. later (parted parts.1 slot more));
  leads = here;
  on = on;
}
  where
    parts : (before : List ℕ) × (after : List ℕ) × (list ≡ before ++ slot ∷ after)
    parts = parted list slot among

    here : LeadOver links rank (parts.0 ++ slot ∷ parts.1) rank
    here = subst (λ xs. LeadOver links rank xs rank) parts.2 leads

    on : LeadOver links (node_of slot) parts.1 rank
    on = (leads_to links rank parts.0 parts.1 slot rank here).2

    first : (before : List ℕ) × (after : List ℕ) × (parts.0 ≡ before ++ slot ∷ after) → ⊥
    first (u, v, is) =
        let whole : parts.0 ++ slot ∷ parts.1 ≡ u ++ slot ∷ (v ++ slot ∷ parts.1) = ap (λ xs. xs ++ slot ∷ parts.1) is ∙ append_assoc u (slot ∷ v) (slot ∷ parts.1) in
        no_return links rank slot v parts.1 few (leads_to links rank u (v ++ slot ∷ parts.1) slot rank (subst (λ xs. LeadOver links rank xs rank) whole here)).2

    later : (before : List ℕ) × (after : List ℕ) × (parts.1 ≡ before ++ slot ∷ after) → ⊥
    later (u, v, is) = no_return links rank slot u v few (subst (λ xs. LeadOver links (node_of slot) xs rank) is on)

-- a slot of one ring stands in no other
pub elsewhere : (links : List Link) (rank other slot : ℕ) (after list : List ℕ) → rank < 1152 → other < 1152 → other ≢ rank → LeadOver links (node_of slot) after rank → LeadOver links other list other → Lack list slot
elsewhere links rank other slot after list few less ne on leads = lack list slot (λ among.
    (let there = once links other slot list less leads among in
    ne (sym (one_way links (node_of slot) after there.after rank other few less on there.on).1)))

-- a link as the code reads it
pub read_link : (links : List Link) (node : ℕ) (link : Link) → node < length links → link ≡ get_or links node link → link ≡ link_of links node
read_link links node link within read = read ∙ get_or_default links node link _ within

-- the nodes at both ends of a way
pub last_leads : (links : List Link) (node : ℕ) (slots : List ℕ) (end : ℕ) → node < length links → LeadOver links node slots end → (next_of links (prev_of links end) ≡ end) × (prev_of links end < length links)
last_leads links node [] end within leads = (ap (next_of links) leads.1 ∙ leads.0, subst (λ n. n < length links) (sym leads.1) within)
last_leads links node (slot ∷ slots) end within leads = last_leads links (node_of slot) slots end leads.2 leads.3

-- the last one is no other slot's
pub last_differs : (links : List Link) (node : ℕ) (slots : List ℕ) (end slot : ℕ) → node ≢ node_of slot → Lack slots slot → LeadOver links node slots end → prev_of links end ≢ node_of slot
last_differs links node [] end slot ne none leads = λ e. ne (sym leads.1 ∙ e)
last_differs links node (p ∷ slots) end slot ne none leads = last_differs links (node_of p) slots end slot (λ e. none.0 (omega arith)) none.1 leads.3

pub first_leads : (links : List Link) (node : ℕ) (slots : List ℕ) (end : ℕ) → end < length links → LeadOver links node slots end → (prev_of links (next_of links node) ≡ node) × (next_of links node < length links)
first_leads links node [] end within leads = (ap (prev_of links) leads.0 ∙ leads.1, subst (λ n. n < length links) (sym leads.0) within)
first_leads links node (slot ∷ slots) end within leads = (ap (prev_of links) leads.0 ∙ leads.1, subst (λ n. n < length links) (sym leads.0) leads.2)

-- A slot leaves: the node before it and the node after it are joined.
module _ (old new : List Link) (slot : ℕ) (joined : AreJoined old new (prev_of old (node_of slot)) (next_of old (node_of slot)))
    (before : next_of old (prev_of old (node_of slot)) ≡ node_of slot) (after : prev_of old (next_of old (node_of slot)) ≡ node_of slot) where
  -- nodes that are not its own stay side by side
  stay : (node next : ℕ) → node ≢ node_of slot → next ≢ node_of slot → next_of old node ≡ next → prev_of old next ≡ node → (next_of new node ≡ next) × (prev_of new next ≡ node)
  stay node next ne other on back = (
    joined.others_next node (λ e. other (sym on ∙ ap (next_of old) e ∙ before)) ∙ on,
    joined.others_prev next (λ e. ne (sym back ∙ ap (prev_of old) e ∙ after)) ∙ back,
  )

  pub stay_beside : (node : ℕ) (slots : List ℕ) (end : ℕ) → node ≢ node_of slot → end ≢ node_of slot → Lack slots slot → LeadOver old node slots end → LeadOver new node slots end
  stay_beside node [] end ne other none leads = stay node end ne other leads.0 leads.1
  stay_beside node (p ∷ slots) end ne other none leads = grind (arith, common_steps, stay node (node_of p) ne, stay_beside (node_of p) slots end)

  -- the two nodes beside it are side by side
  meet : (node next : ℕ) → prev_of old (node_of slot) ≡ node → next_of old (node_of slot) ≡ next → (next_of new node ≡ next) × (prev_of new next ≡ node)
  meet node next from to = (ap (next_of new) (sym from) ∙ joined.next ∙ to, ap (prev_of new) (sym to) ∙ joined.prev ∙ from)

  pub leads_without : (node : ℕ) (xs ys : List ℕ) (end : ℕ) → node ≢ node_of slot → end ≢ node_of slot → Lack xs slot → Lack ys slot → LeadOver old node (xs ++ slot ∷ ys) end → LeadOver new node (xs ++ ys) end
  leads_without node [] [] end ne other none none_after leads = meet node end leads.1 leads.3.0
  leads_without node [] (y ∷ ys) end ne other none none_after leads = grind (arith, common_steps, meet node (node_of y) leads.1 leads.3.0, stay_beside (node_of y) ys end)
  leads_without node (x ∷ xs) ys end ne other none none_after leads = grind (arith, common_steps, stay node (node_of x) ne, leads_without (node_of x) xs ys end)

-- A slot is added: its node stands between the last node of a ring and the head.
pub record Adds (old new : List Link) (last node rank : ℕ) : Type 0 where
  pub within : node < length new
  pub len : length old ≤ length new
  pub last_next : next_of new last ≡ node
  pub node_next : next_of new node ≡ rank
  pub node_prev : prev_of new node ≡ last
  pub class_prev : prev_of new rank ≡ node
  pub others_next : (other : ℕ) → other ≢ last → other ≢ node → next_of new other ≡ next_of old other
  pub others_prev : (other : ℕ) → other ≢ node → other ≢ rank → prev_of new other ≡ prev_of old other

pub adds : (old reached mid new : List Link) (last node rank : ℕ) → last ≢ node → node ≢ rank → node < length reached → length old ≤ length reached → ((at : ℕ) → next_of reached at ≡ next_of old at) → ((at : ℕ) → prev_of reached at ≡ prev_of old at) → AreJoined reached mid last node → AreJoined mid new node rank
    → Adds old new last node rank
adds old reached mid new last node rank apart ne within len same_next same_prev first second = grind (arith, common_steps)

module _ (old new : List Link) (slot rank : ℕ) (few : rank < 1152) (added : Adds old new (prev_of old rank) (node_of slot) rank) (last : next_of old (prev_of old rank) ≡ rank) where
  go_on : (node next : ℕ) → node ≢ node_of slot → next ≢ node_of slot → next ≢ rank → next_of old node ≡ next → prev_of old next ≡ node → (next_of new node ≡ next) × (prev_of new next ≡ node)
  go_on node next ne other not_class on back = grind (arith, common_steps)

  pub added_beside : (node : ℕ) (slots : List ℕ) (end : ℕ) → node ≢ node_of slot → end ≢ node_of slot → end ≢ rank → Lack slots slot → LeadOver old node slots end → LeadOver new node slots end
  added_beside node [] end ne other not_class none leads = go_on node end ne other not_class leads.0 leads.1
  added_beside node (p ∷ slots) end ne other not_class none leads = grind (arith, common_steps, added_beside (node_of p) slots end)

  pub leads_with : (node : ℕ) (slots : List ℕ) → node ≢ node_of slot → Lack slots slot → LeadOver old node slots rank → LeadOver new node (slots ++ slot ∷ []) rank
  leads_with node [] ne none leads = (ap (next_of new) (sym leads.1) ∙ added.last_next, added.node_prev ∙ leads.1, added.within, (added.node_next, added.class_prev))
  leads_with node (p ∷ slots) ne none leads = grind (arith, common_steps, leads_with (node_of p) slots)
