-- Behind each answer the page has the rooms of the machine.
use Rattle.std.specs.Prelude.{is_some}
use Rattle.std.proofs.lemmas.Bool.{true≢false, eqb-true}
use Rattle.std.proofs.lemmas.Slice.Eq.{bytes_eq-Decides}
use Rattle.std.proofs.Common.{◌≡◌, ◌≢◌, ◌<◌, ◌==◌, ℕ, Bool, true, false, cond, List, [], ◌∷◌, ◌++◌, map, Option, Some, None, option_map, bytes_eq, refl, sym, ap, subst, ◌∙◌, arith}
use Rattle.partition_model.specs.declared.options.Options.{Options}
use Rattle.partition_model.specs.declared.options.Mode.TheVariants.{Store}
use Rattle.partition_model.specs.declared.write.Write.{Write}
use Rattle.partition_model.specs.declared.write.Op.TheVariants.{Put}
use Rattle.partition_model.specs.Write.{write_of, size_of}
use Rattle.partition_model.specs.Rooms.{keeps}
use Rattle.partition_model.specs.History.{History, answer_of}
use Rattle.memcached_text.specs.declared.item.Item.{Item}
use Rattle.memcached_text.specs.Item.{item_text, item_in}
use Rattle.memcached_commands.specs.declared.asks.Asked.{Asked}
use Rattle.memcached_commands.specs.declared.ask.Says.{Says}
use Rattle.memcached_page.specs.Shelf.{Shelf}
use Rattle.memcached_page.specs.Course.{Deed, carried, went, after}
use Rattle.memcached_page.specs.Kept.{Written, words_of, written, room_then, room_in}
use Rattle.part_courses.specs.Courses.{Served, done_by}
use Rattle.part_courses.proofs.Shelves.{Stands}
use Rattle.part_courses.proofs.Written.{other_key}
use Rattle.full_parts.proofs.Rooms.{cell_of, room_at, no_room_of, other_room_at, put_room_at, room_is, room_by, same_room, other_room, own_room}

none_there : {X Y : Type 0} (f : X → Y) (o : Option X) → is_some (option_map f o) ≡ false → o ≡ None
none_there f None is = refl
none_there f (Some x) is = absurd (true≢false is)

zero_is : (n : ℕ) → 0 < n → (n == 0) ≡ false
zero_is n some = by (n == 0) refl
  where
    by : (b : Bool) → (n == 0) ≡ b → (n == 0) ≡ false
    by true is = absurd (let none = eqb-true n 0 is in omega (arith, none, some))
    by false is = is

module _ (options : Options) (base : ℕ) (is_store : options.mode ≡ Store) (served : Served) (h : History) (shelf : Shelf) (room : List ℕ → ℕ) (rooms : (key : List ℕ) → room key ≡ room_at options h key) where
  -- what the room of each key is behind these deeds
  abbrev pub RoomsBehind : History → List Deed → Type 0
  RoomsBehind then_h deeds = (key : List ℕ) → room_in key shelf (room key) (map (done_by served) deeds) ≡ room_at options then_h key

  no_item : (then_h : History) (left : Shelf) → Stands options base then_h left → (key : List ℕ) → is_some (left.items key) ≡ false → room_at options then_h key ≡ 0
  no_item then_h left stands key none = no_room_of options is_store then_h key (none_there item_in (answer_of options then_h key) (ap is_some (sym (stands.items key)) ∙ none))

  has_item : (then_h : History) (left : Shelf) → Stands options base then_h left → (key : List ℕ) → is_some (left.items key) ≡ true → answer_of options then_h key ≢ None
  has_item then_h left stands key some none = true≢false (sym some ∙ ap is_some (stands.items key ∙ ap (option_map item_in) none))

  -- one deed
  single : (then_h : History) (d : Deed) → Stands options base then_h (after d shelf) → (key : List ℕ)
      → (is_some ((after d shelf).items key) ≡ true → room_then key (written shelf d) (room key) ≡ room_at options then_h key) → room_by key shelf d (room key) ≡ room_at options then_h key
  single then_h d stands key there = by (is_some ((after d shelf).items key)) refl
    where
      by : (b : Bool) → is_some ((after d shelf).items key) ≡ b → cond b (room_then key (written shelf d) (room key)) 0 ≡ room_at options then_h key
      by true is = there is
      by false is = sym (no_item then_h (after d shelf) stands key is)

  -- that stores nothing, and behind which the machine is as it was
  pub kept_rooms : (d : Deed) → Stands options base h (after d shelf) → (written shelf d).words ≡ 0 → RoomsBehind h (d ∷ [])
  kept_rooms d stands none key = single h d stands key (λ is. same_room key (written shelf d) (room key) none ∙ rooms key)

  abbrev behind : Write → History
  behind write = h ++ write ∷ []

  by_key : (P : Type 0) (key own : List ℕ) → (key ≡ own → P) → (key ≢ own → P) → P
  by_key P key own same other = by (bytes_eq key own) refl
    where
      by : (b : Bool) → bytes_eq key own ≡ b → P
      by true is = same ((bytes_eq-Decides key own).0 is)
      by false differ = other (λ e. true≢false (sym ((bytes_eq-Decides key own).1 e) ∙ differ))

  -- or a write that leaves no value of its key
  pub gone_rooms : (write : Write) (d : Deed) → Stands options base (behind write) (after d shelf) → answer_of options (behind write) write.key ≡ None → (written shelf d).words ≡ 0
      → RoomsBehind (behind write) (d ∷ [])
  gone_rooms write d stands gone none key = single (behind write) d stands key (λ is.
      by_key (room_then key (written shelf d) (room key) ≡ room_at options (behind write) key) key write.key
      (λ same. absurd (has_item (behind write) (after d shelf) stands key is (ap (answer_of options (behind write)) same ∙ gone)))
      (λ differ. same_room key (written shelf d) (room key) none ∙ rooms key ∙ sym (other_room_at options is_store h write key differ)))

  -- an item went first
  pub went_rooms : (write : Write) (second : ℕ) (d : Deed) → Stands options base (behind write) (after d (after (went second write.key) shelf)) → answer_of options (behind write) write.key ≡ None
      → Stands options base h shelf → (written (after (went second write.key) shelf) d).words ≡ 0 → RoomsBehind (behind write) (went second write.key ∷ d ∷ [])
  went_rooms write second d stands gone before none key = by (is_some (left.items key)) refl
    where
      mid : Shelf
      mid = after (went second write.key) shelf

      left : Shelf
      left = after d (after (went second write.key) shelf)

      first : ℕ
      first = room_by key shelf (went second write.key) (room key)

      still : key ≢ write.key → first ≡ room_at options (behind write) key
      still differ = one (is_some (mid.items key)) refl
        where
          one : (b : Bool) → is_some (mid.items key) ≡ b → cond b (room_then key (written shelf (went second write.key)) (room key)) 0 ≡ room_at options (behind write) key
          one true some = same_room key (written shelf (went second write.key)) (room key) refl ∙ rooms key ∙ sym (other_room_at options is_store h write key differ)
          one false none_mid =
              sym (other_room_at options is_store h write key differ ∙ no_item h shelf before key (ap is_some (sym (other_key key write.key None (shelf.items key) differ)) ∙ none_mid))

      by : (b : Bool) → is_some (left.items key) ≡ b → cond b (room_then key (written mid d) first) 0 ≡ room_at options (behind write) key
      by true is =
          same_room key (written mid d) first none
          ∙ by_key (first ≡ room_at options (behind write) key) key write.key
          (λ same. absurd (has_item (behind write) left stands key is (ap (answer_of options (behind write)) same ∙ gone))) still
      by false is = sym (no_item (behind write) left stands key is)

  -- or a value that is put
  pub put_rooms : (second number : ℕ) (asked : Asked) (says : Says) (item : Item)
      → Stands options base (behind (write_of Put asked.key (item_text item))) (after (carried second number asked says) shelf)
      → written shelf (carried second number asked says) ≡ record { key = asked.key; words = words_of asked.key item; count = 1 }
      → RoomsBehind (behind (write_of Put asked.key (item_text item))) (carried second number asked says ∷ [])
  put_rooms second number asked says item stands put key = single (behind write) (carried second number asked says) stands key (λ is.
      ap (λ one. room_then key one (room key)) put ∙ by_key (room_then key one (room key) ≡ room_at options (behind write) key) key asked.key
      (λ same. subst (λ k. room_then k one (room k) ≡ room_at options (behind write) k) (sym same) own) other)
    where
      write : Write
      write = write_of Put asked.key (item_text item)

      one : Written
      one = record { key = asked.key; words = words_of asked.key item; count = 1 }

      some : 0 < size_of write
      some = omega arith

      own : room_then asked.key one (room asked.key) ≡ room_at options (behind write) asked.key
      own =
          own_room asked.key one (room asked.key) (zero_is (size_of write) some) ((bytes_eq-Decides asked.key asked.key).1 refl)
          ∙ ap (λ n. cond (keeps (size_of write) n) n (size_of write)) (rooms asked.key)
          ∙ sym (room_is (cell_of options h asked.key) (size_of write) some)
          ∙ sym (put_room_at options is_store h asked.key (item_text item))

      other : key ≢ asked.key → room_then key one (room key) ≡ room_at options (behind write) key
      other differ = other_room key one (room key) (apart (bytes_eq asked.key key) refl) ∙ rooms key ∙ sym (other_room_at options is_store h write key differ)
        where
          apart : (b : Bool) → bytes_eq asked.key key ≡ b → bytes_eq asked.key key ≡ false
          apart true is = absurd (differ (sym ((bytes_eq-Decides asked.key key).0 is)))
          apart false is = is
