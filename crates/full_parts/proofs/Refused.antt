-- What is refused finds no room.
use Rattle.std.specs.Prelude.{is_some, sum_by, AllPairs, IsSomeAnd}
use Rattle.std.specs.List.{AllByRecursion}
use Rattle.std.specs.Ordering.{nat_cmp}
use Rattle.std.specs.Cmp.Lexicographic.{slice_cmp, nat_list_cmp_total}
use Rattle.std.specs.FinMap.{get, entries, keys, entries_sorted, len-entries}
use Rattle.std.proofs.lemmas.Bool.{true≢false}
use Rattle.std.proofs.lemmas.List.{length-map}
use Rattle.std.proofs.lemmas.List.Sums.{sum_by-cons}
use Rattle.std.proofs.Common.{◌≡◌, ◌≢◌, ◌≤◌, ◌<◌, ◌+◌, ◌-◌, ◌*◌, ◌⊎◌, inl, inr, ℕ, true, false, List, [], ◌∷◌, length, map, Option, Some, None, option_map, refl, sym, ap, subst, ◌∙◌, arith}
use Rattle.mica_words.specs.declared.entry.TheConstants.{SLOTS}
use Rattle.partition_model.specs.declared.options.Options.{Options}
use Rattle.partition_model.specs.declared.options.Mode.TheVariants.{Store}
use Rattle.partition_model.specs.declared.write.Write.{Write}
use Rattle.partition_model.specs.declared.write.Op.TheVariants.{Put, Del, Add}
use Rattle.partition_model.specs.declared.write.Outcome.{Outcome}
use Rattle.partition_model.specs.declared.write.Outcome.TheVariants.{Stored, Deleted, Absent, Touched, FullSpare, FullBlock, Worn, Exists}
use Rattle.partition_model.specs.Write.{GivesValue, size_of, is_accepted}
use Rattle.partition_model.specs.Store as store
use Rattle.partition_model.specs.Store.{Cell}
use Rattle.partition_model.specs.StoreStep as ss
use Rattle.partition_model.specs.History.{History, MayGive, State, store_state, Allows, accepted_in, state_of}
use Rattle.partition_model.proofs.Histories.{stored_in, accepted_is_length}
use Rattle.memcached_text.specs.Item.{item_in}
use Rattle.memcached_page.specs.Shelf.{empty}
use Rattle.memcached_page.specs.Course.{Done}
use Rattle.memcached_page.specs.Kept.{shelf_in, writes_in, room_in, IsFull, LacksRoom}
use Rattle.part_courses.proofs.Shelves.{Stands}
use Rattle.full_parts.proofs.Rooms.{room_at, before_is, value_is}
use Rattle.full_parts.proofs.Sums.{all_once, entries_found, spares_full}

-- A store's part behind so many writes, with the rooms of its keys on the page.
module _ (options : Options) (base : ℕ) (is_store : options.mode ≡ Store) (h : History) (earlier : List Done) (stands : Stands options base h (shelf_in empty earlier))
    (count : length h ≤ writes_in empty earlier) (rooms : (key : List ℕ) → room_in key empty 0 earlier ≡ room_at options h key) where
  abbrev now : store.Store
  now = (stored_in options is_store h).0

  is_it : state_of options h ≡ store_state now
  is_it = (stored_in options is_store h).1

  abbrev held : List (List ℕ)
  held = keys now.cells

  abbrev HasItem : List ℕ → Type 0
  HasItem key = is_some ((shelf_in empty earlier).items key) ≡ true

  -- its keys have items, each once
  item_of : (key : List ℕ) (cell : Cell) → get now.cells key ≡ Some cell → HasItem key
  item_of key cell is = ap is_some
      (stands.items key ∙ ap (option_map item_in) (value_is options is_store h key ∙ ap (option_map (λ (c : Cell). c.value)) (before_is options is_store h key ∙ is)))

  all_items : (es : List (List ℕ × Cell)) → AllByRecursion (λ e. get now.cells e.0 ≡ Some e.1) es → AllByRecursion HasItem (map (λ (e : List ℕ × Cell). e.0) es)
  all_items [] all = tt
  all_items (e ∷ es) all = (item_of e.0 e.1 all.0, all_items es all.1)

  each_once : AllPairs (λ one other. one ≢ other) held
  each_once = all_once (slice_cmp nat_cmp) nat_list_cmp_total (entries now.cells) (entries_sorted now.cells)

  -- the page counts their rooms as the machine does
  room_of_key : (key : List ℕ) → room_in key empty 0 earlier ≡ store.room_of (get now.cells key)
  room_of_key key = rooms key ∙ ap store.room_of (before_is options is_store h key)

  same_rooms : (es : List (List ℕ × Cell)) → AllByRecursion (λ e. get now.cells e.0 ≡ Some e.1) es
      → sum_by (λ key. room_in key empty 0 earlier) (map (λ (e : List ℕ × Cell). e.0) es) ≡ sum_by (λ (e : List ℕ × Cell). e.1.room) es
  same_rooms [] all = refl
  same_rooms (e ∷ es) all =
      let first = room_of_key e.0 ∙ ap store.room_of all.0 in
      let rest = same_rooms es all.1 in
      sum_by-cons (λ key. room_in key empty 0 earlier) e.0 (map (λ (e : List ℕ × Cell). e.0) es)
      ∙ (λ i. first i + rest i)
      ∙ sym (sum_by-cons (λ (e : List ℕ × Cell). e.1.room) e es)

  full_by : (words : ℕ) → (options.words ≤ (length held + 1) * (words - 1) + sum_by (λ key. room_in key empty 0 earlier) held) ⊎ (SLOTS * (options.spares + 1) ≤ length held)
      → IsFull options empty earlier words
  full_by words full = record { keys = held; items = all_items (entries now.cells) (entries_found now.cells); once = each_once; full = full }

  worn : options.wear ≤ now.accepted → options.wear ≤ writes_in empty earlier
  worn many = let same = sym (ap accepted_in is_it) ∙ accepted_is_length options h in omega (arith, many, same, count)

  block_lacks : (write : Write) → ss.MayLackBlock options now write → IsFull options empty earlier (size_of write)
  block_lacks write lacks =
      let many = len-entries now.cells in
      let long = length-map (entries now.cells) (λ (e : List ℕ × Cell). e.0) in
      let all = same_rooms (entries now.cells) (entries_found now.cells) in
      full_by (size_of write) (inl (subst (λ (w : ℕ × ℕ). options.words ≤ (w.0 + 1) * (size_of write - 1) + w.1) (λ i. ((many ∙ sym long) i, sym all i)) lacks))

  spare_lacks : (write : Write) → ss.NeedsSpare options now write.key → IsFull options empty earlier (size_of write)
  spare_lacks write needs = full_by (size_of write)
      (inr (subst (λ spares. SLOTS * (spares + 1) ≤ length held) needs.none_left (spares_full options.hashing options.buckets write.key now.cells needs.some needs.full)))

  -- a delete is refused only where no more writes are borne
  pub refused_delete : (write : Write) (outcome : Outcome) → write.op ≡ Del → MayGive options h write outcome → is_accepted outcome ≡ false → options.wear ≤ writes_in empty earlier
  refused_delete write outcome deletes may off = by outcome off (subst (λ (s : State). Allows options s write outcome) is_it may)
    where
      gives : GivesValue write.op → ⊥
      gives = subst GivesValue deletes

      by : (o : Outcome) → is_accepted o ≡ false → ss.Allows options now write o → options.wear ≤ writes_in empty earlier
      by Stored denied is = absurd (true≢false denied)
      by Deleted denied is = absurd (true≢false denied)
      by Absent denied is = absurd (true≢false denied)
      by Touched denied is = absurd (true≢false denied)
      by FullSpare denied is = absurd (gives is.1.0)
      by FullBlock denied is = absurd (gives is.1.0.stores.0)
      by Worn denied is = worn is
      by Exists denied is = let both : Del ≡ Add = sym deletes ∙ is.1.0 in absurd (cc)

  -- and a put where there is no room for its item
  pub refused_put : (write : Write) (outcome : Outcome) → write.op ≡ Put → MayGive options h write outcome → is_accepted outcome ≡ false → LacksRoom options empty earlier write.key (size_of write)
  refused_put write outcome puts may off = by outcome off (subst (λ (s : State). Allows options s write outcome) is_it may)
    where
      short : (o : Option Cell) → get now.cells write.key ≡ o → (ss.FitsRoom now write → ⊥) → room_in write.key empty 0 earlier < size_of write
      short None is long = let same = room_of_key write.key ∙ ap store.room_of is in omega (arith, same)
      short (Some cell) is long =
          let same = room_of_key write.key ∙ ap store.room_of is in
          let less : ¬ (size_of write ≤ cell.room) = λ fits. long (subst (λ o. IsSomeAnd o (λ (c : Cell). size_of write ≤ c.room)) (sym is) fits) in
          omega (arith, same, less)

      by : (o : Outcome) → is_accepted o ≡ false → ss.Allows options now write o → LacksRoom options empty earlier write.key (size_of write)
      by Stored denied is = absurd (true≢false denied)
      by Deleted denied is = absurd (true≢false denied)
      by Absent denied is = absurd (true≢false denied)
      by Touched denied is = absurd (true≢false denied)
      by FullSpare denied is = inr (inl (is_store, let same = room_of_key write.key ∙ ap store.room_of is.1.1.is_new in omega (arith, same), spare_lacks write is.1.1))
      by FullBlock denied is = inr (inl (is_store, short (get now.cells write.key) refl is.1.0.no_room, block_lacks write is.1.1))
      by Worn denied is = inl (worn is)
      by Exists denied is = let both : Put ≡ Add = sym puts ∙ is.1.0 in absurd (cc)
