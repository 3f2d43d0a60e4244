-- Lists of slots that stay kept where a slot is added or leaves.
use Rattle.std.proofs.Common.{◌≡◌, ◌≢◌, ℕ, ◌-◌, ◌<◌, ◌≤◌, ◌⊎◌, inl, inr, min, cond, Option, Some, None, List, [], ◌∷◌, ◌++◌, length, get_or, refl, sym, ap, ◌∙◌, subst, arith, length-append}
use Rattle.std.specs.Option.{SomeIff}
use Rattle.std.specs.List.{Contains}
use Rattle.std.proofs.Math.Dec.{leb}
use Rattle.std.proofs.lemmas.Bool.{cases_eq, le-leb, lt-leb}
use Rattle.std.proofs.lemmas.List.Elements.{Contains-append_cases}
use Rattle.std.proofs.lemmas.Grind.{common_steps}
use Rattle.block_heap.specs.declared.block.TheConstants.{MOST_WORDS}
use Rattle.block_heap.specs.declared.links.Link.{Link}
use Rattle.block_heap.specs.Links.{node_of, link_of, next_of, prev_of, slots_after, LeadOver, AreJoined}
use Rattle.block_heap.specs.Marks.{mark_at}
use Rattle.block_heap.specs.Lists.{KeepsLists, IsUnlisted, IsWithout, left_from}
use Rattle.block_heap.proofs.LinkLaws.{told_slots, few_slots, leads_to, lack, lacked, Once, once, elsewhere, read_link, last_leads, last_differs, first_leads, stay_beside, leads_without, Adds, adds, added_beside, leads_with}

-- the list of a rank, as the links of its ring tell it
ring_is : (words : ℕ) (links : List Link) (rank : ℕ) (list : List ℕ) → rank < 1152 → LeadOver links rank list rank → length list ≤ words → (slots_after links words rank ≡ list) × LeadOver links rank (slots_after links words rank) rank
ring_is words links rank list few leads enough = grind (arith, common_steps, told_slots links words rank list rank leads few enough)

-- the slot that a node leads to, as the code reads it
walked : (words : ℕ) (links : List Link) (node : ℕ) (list : List ℕ) (rank : ℕ) (link : Link) (next : Option ℕ) → link.next ≡ next_of links node → LeadOver links node list rank → rank < 1152 → length list ≤ words
    → SomeIff next (1152 ≤ link.next) (link.next - 1152) → left_from (slots_after links words) next ≡ list
walked words links node [] rank link None at leads few enough none = refl
walked words links node (slot ∷ slots) rank link None at leads few enough none = absurd (none (omega (arith, at, leads.0)))
walked words links node [] rank link (Some x) at leads few enough is = absurd (let more = is.0 in omega (arith, at, leads.0))
walked words links node (slot ∷ slots) rank link (Some x) at leads few enough is =
    grind (arith, common_steps, told_slots links words (node_of slot) slots rank leads.3 few (omega arith))

-- The list of one rank is another now, and those of the others are as they were.
pub record Changed (words : ℕ) (links new : List Link) (filled : List ℕ) (rank : ℕ) (now : List ℕ) : Type 0 where
  pub keeps : KeepsLists words new filled
  pub own : slots_after new words rank ≡ now
  pub others : (other : ℕ) → other < 1152 → other ≢ rank → slots_after new words other ≡ slots_after links words other

-- its mark tells whether the list has a slot
changed : (words : ℕ) (links new : List Link) (filled marks : List ℕ) (rank : ℕ) (now : List ℕ) → KeepsLists words links filled → length links ≤ length new → rank < 1152
    → mark_at marks rank ≡ min 1 (length now) → ((i : ℕ) → i ≢ rank → mark_at marks i ≡ mark_at filled i)
    → (slots_after new words rank ≡ now) × LeadOver new rank (slots_after new words rank) rank
    → ((other : ℕ) → other < 1152 → other ≢ rank → (slots_after new words other ≡ slots_after links words other) × LeadOver new other (slots_after new words other) other)
    → Changed words links new marks rank now
changed words links new filled marks rank now h longer few on stay own others = record {
  keeps = record {
    limit = h.limit;
    heads = omega (arith, h.heads);
    rings = λ c lt. ring c lt (cases_eq c rank);
    marks = λ c lt. mark c lt (cases_eq c rank);
  };
  own = own.0;
  others = λ other less ne. (others other less ne).0;
}
  where
    ring : (c : ℕ) → c < 1152 → (c ≡ rank) ⊎ (c ≡ rank → ⊥) → LeadOver new c (slots_after new words c) c
    ring c lt (inl e) = subst (λ c. LeadOver new c (slots_after new words c) c) (sym e) own.1
    ring c lt (inr ne) = (others c lt ne).1

    mark : (c : ℕ) → c < 1152 → (c ≡ rank) ⊎ (c ≡ rank → ⊥) → mark_at marks c ≡ min 1 (length (slots_after new words c))
    mark c lt (inl e) = subst (λ c. mark_at marks c ≡ min 1 (length (slots_after new words c))) (sym e) (on ∙ ap (λ xs. min 1 (length xs)) (sym own.0))
    mark c lt (inr ne) = stay c ne ∙ h.marks c lt ∙ ap (λ xs. min 1 (length xs)) (sym (others c lt ne).0)

-- A slot has left the list of its rank.
pub record Left (words : ℕ) (links new : List Link) (filled : List ℕ) (rank slot : ℕ) : Type 0 where
  pub without : IsWithout (slots_after links words rank) (slots_after new words rank) slot
  pub all : Changed words links new filled rank (without.before ++ without.after)
  pub gone : IsUnlisted (slots_after new words) slot

module _ (words : ℕ) (links : List Link) (filled : List ℕ) (h : KeepsLists words links filled) (rank : ℕ) (few : rank < 1152) where
  abbrev list : List ℕ
  list = slots_after links words rank

  pub last_node : (next_of links (prev_of links rank) ≡ rank) × (prev_of links rank < length links)
  last_node = last_leads links rank list rank (omega (arith, h.heads)) (h.rings rank few)

  pub head_link : (link : Link) → link ≡ get_or links rank link → link ≡ link_of links rank
  head_link link read = read_link links rank link (omega (arith, h.heads)) read

  pub first_slot : (link : Link) (next : Option ℕ) → link ≡ get_or links rank link → SomeIff next (1152 ≤ link.next) (link.next - 1152) → left_from (slots_after links words) next ≡ list
  first_slot link next read is = walked words links rank list rank link next (ap (λ (l : Link). l.next) (head_link link read)) (h.rings rank few) few (few_slots links words rank) is

  -- a slot can be added behind the last one
  pub adds_last : (reached mid new : List Link) (slot : ℕ) (link : Link) → IsUnlisted (slots_after links words) slot → node_of slot < length reached → length links ≤ length reached → ((at : ℕ) → next_of reached at ≡ next_of links at) → ((at : ℕ) → prev_of reached at ≡ prev_of links at)
      → link ≡ get_or links rank link → AreJoined reached mid link.prev (node_of slot) → AreJoined mid new (node_of slot) rank → Adds links new (prev_of links rank) (node_of slot) rank
  adds_last reached mid new slot link unlisted within len same_next same_prev read first second =
      grind (arith, common_steps, head_link link read, adds links reached mid new (prev_of links rank) (node_of slot) rank, last_differs links rank list rank slot, lack list slot (unlisted rank few))

  pub added : (new : List Link) (slot : ℕ) (marks : List ℕ) → IsUnlisted (slots_after links words) slot → length list < words → Adds links new (prev_of links rank) (node_of slot) rank
      → mark_at marks rank ≡ 1 → ((i : ℕ) → i ≢ rank → mark_at marks i ≡ mark_at filled i) → Changed words links new marks rank (list ++ slot ∷ [])
  added new slot marks unlisted more adds on stay =
      changed words links new filled marks rank (list ++ slot ∷ []) h adds.len few (on ∙ omega (arith, length-append list (slot ∷ []))) stay
      (ring_is words new rank (list ++ slot ∷ []) few (leads_with links new slot rank few adds last_node.0 rank list (λ e. omega arith) (lack list slot (unlisted rank few)) (h.rings rank few)) (omega (arith, length-append list (slot ∷ []))))
      (λ other less ne. ring_is words new other (slots_after links words other) less
      (added_beside links new slot rank few adds last_node.0 other (slots_after links words other) other (λ e. omega arith) (λ e. omega arith) ne (lack (slots_after links words other) slot (unlisted other less)) (h.rings other less))
      (few_slots links words other))

  -- a slot of the list, between its neighbours
  module _ (slot : ℕ) (among : Contains list slot) where
    pub where_it_is : Once links rank slot list
    where_it_is = once links rank slot list few (h.rings rank few) among

    -- its node is there, and so are the nodes beside it
    pub record Node : Type 0 where
      pub within : node_of slot < length links
      pub before : next_of links (prev_of links (node_of slot)) ≡ node_of slot
      pub before_within : prev_of links (node_of slot) < length links
      pub after : prev_of links (next_of links (node_of slot)) ≡ node_of slot
      pub after_within : next_of links (node_of slot) < length links

    pub node_there : Node
    node_there =
        let at = where_it_is in
        let parts = leads_to links rank at.before at.after slot rank at.leads in
        let head : rank < length links = omega (arith, h.heads) in
        let last = last_leads links rank at.before (node_of slot) head parts.0 in
        let first = first_leads links (node_of slot) at.after rank head at.on in
        record { within = parts.1; before = last.0; before_within = last.1; after = first.0; after_within = first.1 }

    pub after_is : (slots_after links words (node_of slot) ≡ where_it_is.after)
    after_is =
        let all = few_slots links words rank in
        told_slots links words (node_of slot) where_it_is.after rank where_it_is.on few (omega (arith, ap length where_it_is.whole, length-append where_it_is.before (slot ∷ where_it_is.after)))

    pub next_slot : (link : Link) (next : Option ℕ) → link ≡ get_or links (node_of slot) link → SomeIff next (1152 ≤ link.next) (link.next - 1152)
        → left_from (slots_after links words) next ≡ slots_after links words (node_of slot)
    next_slot link next read is =
        let at = ap (λ (l : Link). l.next) (read_link links (node_of slot) link node_there.within read) in
        let on = subst (λ xs. LeadOver links (node_of slot) xs rank) (sym after_is) where_it_is.on in
        walked words links (node_of slot) (slots_after links words (node_of slot)) rank link next at on few (few_slots links words (node_of slot)) is

    pub left : (new : List Link) (link head : Link) (marks : List ℕ) → link ≡ get_or links (node_of slot) link → AreJoined links new link.prev link.next
        → head ≡ get_or new rank head → mark_at marks rank ≡ cond (leb 1152 head.next) 1 0 → ((i : ℕ) → i ≢ rank → mark_at marks i ≡ mark_at filled i) → Left words links new marks rank slot
    left new link head marks read joined read_head on stay = record { without = record { before = at.before; after = at.after; was = at.whole; now = all.own }; all = all; gone = λ c less. gone c less (cases_eq c rank) }
      where
        at : Once links rank slot list
        at = where_it_is

        both : AreJoined links new (prev_of links (node_of slot)) (next_of links (node_of slot))
        both = subst (λ (l : Link). AreJoined links new l.prev l.next) (read_link links (node_of slot) link node_there.within read) joined

        own : LeadOver new rank (at.before ++ at.after) rank
        own = leads_without links new slot both node_there.before node_there.after rank at.before at.after rank (λ e. omega arith) (λ e. omega arith) at.none_before at.none_after at.leads

        next : head.next ≡ next_of new rank
        next = ap (λ (l : Link). l.next) (read_link new rank head (omega (arith, both.len, h.heads)) read_head)

        -- a head that leads to a slot has one
        has_one : (xs : List ℕ) → LeadOver new rank xs rank → cond (leb 1152 head.next) 1 0 ≡ min 1 (length xs)
        has_one [] leads = rw (next ∙ leads.0, lt-leb 1152 rank few) (omega arith)
        has_one (x ∷ xs) leads = rw (next ∙ leads.0, le-leb 1152 (node_of x) (omega arith)) (omega arith)

        all : Changed words links new marks rank (at.before ++ at.after)
        all = changed words links new filled marks rank (at.before ++ at.after) h (omega (arith, both.len)) few (on ∙ has_one (at.before ++ at.after) own) stay
            (ring_is words new rank (at.before ++ at.after) few own (omega (arith, few_slots links words rank, ap length at.whole, length-append at.before (slot ∷ at.after), length-append at.before at.after)))
            (λ other less ne. ring_is words new other (slots_after links words other) less
            (stay_beside links new slot both node_there.before node_there.after other (slots_after links words other) other (λ e. omega arith) (λ e. omega arith)
            (elsewhere links rank other slot at.after (slots_after links words other) few less ne at.on (h.rings other less)) (h.rings other less))
            (few_slots links words other))

        -- its list has it no more, and no other list had it
        gone : (c : ℕ) → c < 1152 → (c ≡ rank) ⊎ (c ≡ rank → ⊥) → Contains (slots_after new words c) slot → ⊥
        gone c less (inl e) among = here (Contains-append_cases at.before at.after slot (subst (λ (xs : List ℕ). Contains xs slot) (ap (slots_after new words) e ∙ all.own) among))
          where
            here : Contains at.before slot ⊎ Contains at.after slot → ⊥
            here (inl first) = lacked at.before slot at.none_before first
            here (inr later) = lacked at.after slot at.none_after later
        gone c less (inr ne) among =
            lacked (slots_after links words c) slot (elsewhere links rank c slot at.after (slots_after links words c) few less ne at.on (h.rings c less))
            (subst (λ (xs : List ℕ). Contains xs slot) (all.others c less ne) among)

-- a list whose mark is on has a slot, and one whose mark is off has none
pub marked : (words : ℕ) (links : List Link) (filled : List ℕ) (rank : ℕ) → KeepsLists words links filled → rank < 1152 → mark_at filled rank ≡ 1 → 0 < length (slots_after links words rank)
marked words links filled rank h few on = omega (arith, h.marks rank few)

pub unmarked : (words : ℕ) (links : List Link) (filled : List ℕ) (rank : ℕ) → KeepsLists words links filled → rank < 1152 → mark_at filled rank ≡ 0 → length (slots_after links words rank) ≡ 0
unmarked words links filled rank h few off = omega (arith, h.marks rank few)

-- heads that lead to themselves have no slots
pub no_slots : (words : ℕ) (links : List Link) (rank : ℕ) → rank < 1152 → (next_of links rank ≡ rank) × (prev_of links rank ≡ rank) → slots_after links words rank ≡ []
no_slots words links rank few leads = told_slots links words rank [] rank leads few (omega arith)

pub keeps_none : (words : ℕ) (links : List Link) (filled : List ℕ) → words ≤ MOST_WORDS → 1152 ≤ length links → ((rank : ℕ) → mark_at filled rank ≡ 0) → ((rank : ℕ) → rank < 1152 → (next_of links rank ≡ rank) × (prev_of links rank ≡ rank)) → KeepsLists words links filled
keeps_none words links filled limit heads none alone = grind (arith, common_steps, no_slots words links)
