-- A `cas` that stores replaces what was shown with its number.
use Rattle.std.proofs.Common.{◌≡◌, ℕ, ◌^◌, ◌<◌, ◌⊎◌, inl, inr, Bool, true, false, Option, Some, None, List, [], ◌∷◌, ◌++◌, length, drop, nat_lt, nat_le, ◌==◌, option_map, refl, sym, ap, ◌∙◌, subst, arith, append_assoc, length-append}
use Rattle.std.specs.Int.{w32, w64, from_le_bytes}
use Rattle.std.proofs.lemmas.Bool.{cond_both, le-ltb, eqb-true, and_parts}
use Rattle.std.proofs.lemmas.List.{append-nil}
use Rattle.std.proofs.lemmas.Nat.{from_le_bytes-to_le_bytes_4, from_le_bytes-to_le_bytes_8}
use Rattle.std.proofs.lemmas.Option.{same_Some}
use Rattle.mica_words.specs.declared.item.TheConstants.{MAX_STORED_LEN}
use Rattle.partition_model.specs.declared.options.Options.{Options}
use Rattle.partition_model.specs.declared.write.Write.{Write}
use Rattle.partition_model.specs.declared.write.Op.TheVariants.{Del}
use Rattle.partition_model.specs.declared.write.Outcome.{Outcome}
use Rattle.partition_model.specs.Write.{GivesValue, is_accepted, write_of}
use Rattle.partition_model.specs.History.{History, IsPrefix, answer_of}
use Rattle.memcached_text.specs.declared.limits.TheConstants.{HEADER_LEN}
use Rattle.memcached_text.specs.declared.command.Wants.TheVariants.{Numbered}
use Rattle.memcached_text.specs.declared.lifetime.Lifetime.{Lifetime}
use Rattle.memcached_text.specs.declared.item.Item.{Item}
use Rattle.memcached_text.specs.Item.{marked, item_text, item_in}
use Rattle.memcached_text.proofs.ItemLaws.{reads as word_reads}
use Rattle.memcached_commands.specs.declared.ask.Ask.{Ask}
use Rattle.memcached_commands.specs.declared.ask.Ask.TheVariants.{Store}
use Rattle.memcached_commands.specs.declared.ask.Says.{Says}
use Rattle.memcached_commands.specs.declared.ask.Says.TheVariants.{Line, Shows, Stores as StoresOf}
use Rattle.memcached_commands.specs.declared.moment.Moment.{Moment}
use Rattle.memcached_commands.specs.Answers.{no_room}
use Rattle.memcached_commands.specs.Asks.{get_ask}
use Rattle.memcached_commands.specs.Changes.{only_gets, without_dead, ends_with_flush, becoming_of}
use Rattle.memcached_commands.specs.Decide.{Becoming, stays, becomes, goes, decide, is_wanted, stored, leaves, missed}
use Rattle.memcached_commands.specs.Laws.{IsSameValue}
use Rattle.memcached_commands.specs.Moments.{is_there, found_in}
use Rattle.memcached_commands.proofs.DecideLaws.{one_number_one_value}
use Rattle.fronts.specs.declared.changing.When.{When}
use Rattle.fronts.specs.Changing.{write_for}
use Rattle.memcached_decisions.specs.Numbered.{numbered, moment_at, value_in, stored_becoming, unless_refused}
use Rattle.memcached_decisions.specs.Swaps.{IsSaid, IsOfCommand, OnlyCommandsStore, IsStill, SwapsWhatStands, StoredIsDrawn}
use Rattle.memcached_decisions.proofs.Values.{behind, none_at_first}

-- What is read of an item's text

module _ (item : Item) (fits : item.unique < 2 ^ 62) where
  long : nat_lt (length (item_text item)) HEADER_LEN ≡ false
  unfolding item_text
  long = le-ltb _ _ (omega arith)

  reads_unique : item.unique ≡ (item_in (item_text item)).unique
  unfolding item_text item_in
  reads_unique =
      let all = word_reads item.unique item.stale item.won fits in
      let word : from_le_bytes w64 (drop 8 (item_text item)) ≡ marked item = from_le_bytes-to_le_bytes_8 (marked item) all.fits in
      rw (long, word) (sym all.number_is)

  reads_still : item.flags < 2 ^ 32 → IsStill item (Some (item_text item))
  unfolding item_text item_in
  reads_still few = let flags : from_le_bytes w32 (item_text item) ≡ item.flags = from_le_bytes-to_le_bytes_4 item.flags few in (reads_unique, rw long (sym flags), rw long refl)

-- What is found is what is stored, or nothing.
found_stored : (P : Option Item → Type 0) (at : Moment) (value : Option (List ℕ)) → P (found_in at (value_in value)) → P None ⊎ P (option_map item_in value)
found_stored P at None is = inl is
found_stored P at (Some s) is =
    cond_both (nat_le (length s) MAX_STORED_LEN) (Some s) None (λ v. P (found_in at v) → P None ⊎ P (Some (item_in s)))
    (λ _. cond_both (is_there at (item_in s)) (Some (item_in s)) None (λ f. P f → P None ⊎ P (Some (item_in s))) (λ _ here. inr here) (λ _ gone. inl gone)) (λ _ none. inl none) is

-- What a command stores has a new number, or it is what was found, but for its end.

abbrev IfItem : (Item → Type 0) → Becoming → Type 0
IfItem P stays = Unit {0}
IfItem P (becomes item) = P item
IfItem P goes = Unit {0}

if_item : (P : Item → Type 0) (becoming : Becoming) → ((item : Item) → becoming ≡ becomes item → P item) → IfItem P becoming
if_item P stays each = tt
if_item P (becomes item) each = each item refl
if_item P goes each = tt

if_alive : (P : Item → Type 0) (reads : Bool) (value : Option (List ℕ)) (found : Option Item) (becoming : Becoming) → IfItem P becoming → IfItem P (without_dead reads value found becoming)
if_alive P true value found becoming is = is
if_alive P false None found becoming is = is
if_alive P false (Some s) (Some old) becoming is = is
if_alive P false (Some s) None stays is = is
if_alive P false (Some s) None (becomes item) is = is
if_alive P false (Some s) None goes is = is

module _ (at : Moment) where
  abbrev IsNumbered : Option Item → Item → Type 0
  IsNumbered found item = (item.unique ≡ at.unique) ⊎ IsSameValue found item

  flush_keeps : (found : Option Item) (becoming : Becoming) → IfItem (IsNumbered found) becoming → IfItem (IsNumbered found) (ends_with_flush at becoming)
  flush_keeps found stays is = is
  flush_keeps None (becomes item) is = is
  flush_keeps (Some old) (becomes item) is = is
  flush_keeps found goes is = is

  is_numbered : (ask : Ask) (value : Option (List ℕ)) → IfItem (IsNumbered (found_in at value)) (becoming_of at ask value)
  is_numbered ask value =
      let found = found_in at value in
      if_alive (IsNumbered found) (only_gets ask) value found _ (flush_keeps found _ (if_item (IsNumbered found) _ (one_number_one_value at ask found)))

-- the text of the item is what is written
writes_item : (P : Item → Type 0) (key : List ℕ) (value : Option (List ℕ)) (becoming : Becoming) (write : Write) → IfItem P becoming
    → write_for key value (stored_becoming becoming) ≡ Some write → GivesValue write.op → (item : Item) × (write.value ≡ item_text item) × P item
writes_item P key value stays write is writes gives = cc
writes_item P key value (becomes item) write is writes gives = (item, sym (ap (λ (w : Write). w.value) (same_Some _ write writes)), is)
writes_item P key None goes write is writes gives = cc
writes_item P key (Some s) goes write is writes gives = absurd (subst (λ (w : Write). GivesValue w.op) (sym (same_Some (write_of Del key []) write writes)) gives)

-- so it has the number of its place, or it is what was there
pub record Stores (options : Options) (base : ℕ) (history : History) (key value : List ℕ) : Type 0 where
  pub item : Item
  pub text : value ≡ item_text item
  pub number : (item.unique ≡ numbered base (length history)) ⊎ IsStill item (answer_of options history key)

stores : (options : Options) (base : ℕ) (history : History) (write : Write) → IsOfCommand options base history write → GivesValue write.op → Stores options base history write.key write.value
stores options base history write by gives = record { item = written.0; text = written.1; number = number written.0 written.2 }
  where
    at : Moment
    at = moment_at base by.look.when

    found : Option (List ℕ)
    found = value_in by.look.value

    written : (item : Item) × (write.value ≡ item_text item) × IsNumbered at (found_in at found) item
    written = writes_item (IsNumbered at (found_in at found)) write.key by.look.value (becoming_of at by.ask found) write (is_numbered at by.ask found) by.decided gives

    number : (item : Item) → IsNumbered at (found_in at found) item → (item.unique ≡ numbered base (length history)) ⊎ IsStill item (answer_of options history write.key)
    number item (inl new) = inl (new ∙ ap (λ (w : When). numbered base w.written) by.looked.when)
    number item (inr same) = elim (found_stored (λ f. IsSameValue f item) at by.look.value same) [
      | inl none ↦ absurd none
      | inr stood ↦ inr (subst (IsStill item) by.looked.value stood)
    ]

-- what is stored, if anything is, has a number of these
abbrev HasNumber : (ℕ → Type 0) → Option (List ℕ) → Type 0
HasNumber N None = Unit {0}
HasNumber N (Some s) = N (item_in s).unique

its_number : (N : ℕ → Type 0) (stored : Option (List ℕ)) (item : Item) → HasNumber N stored → IsStill item stored → N item.unique
its_number N None item has still = absurd still
its_number N (Some s) item has still = subst N (sym still.0) has

still_both : (found : Option Item) (one two : Item) → IsSameValue found one → IsSameValue found two → IsSameValue (Some two) one
still_both None one two first second = absurd first
still_both (Some old) one two first second = (first.0 ∙ sym second.0, first.1 ∙ sym second.1, first.2 ∙ sym second.2)

-- Histories

longer : (a b c : History) → IsPrefix a b → IsPrefix a (b ++ c)
longer a b c is = (is.0 ++ c, ap (λ (h : History). h ++ c) is.1 ∙ append_assoc a is.0 c)

shorter : (a b c : History) → IsPrefix (a ++ b) c → IsPrefix a c
shorter a b c is = (b ++ is.0, is.1 ∙ append_assoc a b is.0)

itself : (a : History) → IsPrefix a a
itself a = ([], sym (append-nil a))

-- From one history on to a later one, where commands store under the key.
module _ (options : Options) (base : ℕ) (key : List ℕ) (first last : History) (commands : OnlyCommandsStore options base key first last) where
  -- what each write keeps holds on
  holds_on : (P : History → Type 0) → ((now : History) (write : Write) → IsPrefix first now → IsPrefix (now ++ write ∷ []) last → P now → P (now ++ write ∷ []))
      → (now more : History) → IsPrefix first now → IsPrefix (now ++ more) last → P now → P (now ++ more)
  holds_on P step now [] begins ends here = subst P (sym (append-nil now)) here
  holds_on P step now (write ∷ more) begins ends here =
      let same = append_assoc now (write ∷ []) more in
      let more_ends = subst (λ (h : History). IsPrefix h last) (sym same) ends in
      subst P same (holds_on P step (now ++ write ∷ []) more (longer first now (write ∷ []) begins) more_ends (step now write begins (shorter (now ++ write ∷ []) more last more_ends) here))

  module _ (N : ℕ → Type 0) (small : (n : ℕ) → N n → n < 2 ^ 62)
      (new : (now : History) (write : Write) → IsPrefix first now → IsPrefix (now ++ write ∷ []) last → N (numbered base (length now))) where
    module _ (now : History) (write : Write) (begins : IsPrefix first now) (ends : IsPrefix (now ++ write ∷ []) last) where
      its_stores : write.key ≡ key → GivesValue write.op → Stores options base now key write.value
      its_stores same gives = subst (λ (k : List ℕ). Stores options base now k write.value) same (stores options base now write (commands now write begins ends same gives) gives)

      reads : (it : Stores options base now key write.value) → N it.item.unique → N (item_in write.value).unique
      reads it is = subst (λ v. N (item_in v).unique) (sym it.text) (subst N (reads_unique it.item (small it.item.unique is)) is)

      number_then : HasNumber N (answer_of options now key) → HasNumber N (answer_of options (now ++ write ∷ []) key)
      number_then has = behind options now write key (HasNumber N) tt has (λ same gives.
          let it = its_stores same gives in reads it (elim it.number [
            | inl drawn ↦ subst N (sym drawn) (new now write begins ends)
            | inr old ↦ its_number N (answer_of options now key) it.item has old
          ]))

      -- An item stands, or what is there then has a number of these.
      still_then : (item : Item) → item.flags < 2 ^ 32 → item.unique < 2 ^ 62 → IsStill item (answer_of options now key)
          → IsStill item (answer_of options (now ++ write ∷ []) key) ⊎ HasNumber N (answer_of options (now ++ write ∷ []) key)
      still_then item flags fits still = behind options now write key (λ v. IsStill item v ⊎ HasNumber N v) (inr tt) (inl still) (λ same gives.
          let it = its_stores same gives in elim it.number [
            | inl drawn ↦ inr (reads it (subst N (sym drawn) (new now write begins ends)))
            | inr old ↦ inl (kept it (still_both (option_map item_in (answer_of options now key)) item it.item still old))
          ])
        where
          kept : (it : Stores options base now key write.value) → IsSameValue (Some it.item) item → IsStill item (Some write.value)
          kept it same =
              let read = reads_still it.item (omega (arith, fits, same.0)) (omega (arith, flags, same.1)) in
              subst (λ v. IsStill item (Some v)) (sym it.text) (same.0 ∙ read.0, same.1 ∙ read.1, same.2 ∙ read.2)

    number_on : (now more : History) → IsPrefix first now → IsPrefix (now ++ more) last → HasNumber N (answer_of options now key) → HasNumber N (answer_of options (now ++ more) key)
    number_on = holds_on (λ h. HasNumber N (answer_of options h key)) number_then

    -- An item stands where what is there at last has none of these numbers.
    still_on : (item : Item) → item.flags < 2 ^ 32 → item.unique < 2 ^ 62 → (HasNumber N (answer_of options last key) → ⊥)
        → (now more : History) → IsPrefix first now → IsPrefix (now ++ more) last → IsStill item (answer_of options now key) → IsStill item (answer_of options (now ++ more) key)
    still_on item flags fits lasts = holds_on (λ h. IsStill item (answer_of options h key)) (λ now write begins ends still. elim (still_then now write begins ends item flags fits still) [
      | inl stands ↦ stands
      | inr lost ↦
          let whole : IsPrefix ((now ++ write ∷ []) ++ ends.0) last = ([], ends.1 ∙ sym (append-nil ((now ++ write ∷ []) ++ ends.0))) in
          absurd (lasts (subst (λ (h : History). HasNumber N (answer_of options h key)) (sym ends.1) (number_on (now ++ write ∷ []) ends.0 (longer first now (write ∷ []) begins) whole lost)))
    ])

-- What is said

-- what is said is so of nothing, or of what is stored
said_stored : (options : Options) (base : ℕ) (history : History) (key : List ℕ) (ask : Ask) (says : Says) → (says ≡ Line (no_room ask) → ⊥) → IsSaid options base history key ask says
    → (at : Moment) × (((decide at ask None).says ≡ says) ⊎ ((decide at ask (option_map item_in (answer_of options history key))).says ≡ says))
said_stored options base history key ask says wanted is = (
  at,
  subst (λ v. ((decide at ask None).says ≡ says) ⊎ ((decide at ask (option_map item_in v)).says ≡ says)) is.looked.value
      (found_stored (λ found. (decide at ask found).says ≡ says) at is.look.value (unrefused is.outcome _ is.said)),
)
  where
    at : Moment
    at = moment_at base is.look.when

    unrefused : (outcome : Option Outcome) (said : Says) → unless_refused ask outcome said ≡ says → said ≡ says
    unrefused None said same = same
    unrefused (Some o) said same = cond_both (is_accepted o) said (Line (no_room ask)) (λ answer. answer ≡ says → said ≡ says) (λ _ same. same) (λ _ refused. absurd (wanted (sym refused))) same

shows : (at : Moment) (touched : Option Lifetime) (found : Option Item) (item : Item) → (decide at (get_ask touched) found).says ≡ Shows item → found ≡ Some item
unfolding decide
shows at None None item says = cc
shows at None (Some old) item says = cc
shows at (Some lifetime) None item says = cc
shows at (Some lifetime) (Some old) item says = cc

swaps_one : (at : Moment) (unique flags : ℕ) (lifetime : Lifetime) (value : List ℕ) (told : Option ℕ) (found : Option Item)
    → (decide at (Store (Numbered unique) flags lifetime value) found).says ≡ StoresOf told → (item : Item) × (found ≡ Some item) × (unique ≡ item.unique)
unfolding decide
swaps_one at unique flags lifetime value told None says = cc
swaps_one at unique flags lifetime value told (Some item) says = (
  item,
  refl,
  cond_both (is_wanted (Numbered unique) (Some item)) (stored at flags lifetime value) (leaves (Line (missed (Numbered unique) (Some item)))) (λ d. d.says ≡ StoresOf told → unique ≡ item.unique)
      (λ wanted _. eqb-true unique item.unique (and_parts (unique == item.unique) (nat_lt 0 unique) wanted).0) (λ _ other. cc) says,
)

still_found : (item : Item) (stored : Option (List ℕ)) → option_map item_in stored ≡ Some item → IsStill item stored
still_found item stored is = subst (λ found. IsSameValue found item) (sym is) (refl, refl, refl)

pub swaps : SwapsWhatStands
swaps options base key item touched flags lifetime value told first now last begins ends numbers drawn commands got swap =
    subst (λ (h : History). IsStill item (answer_of options h key)) (sym begins.1)
    (still_on options base key first last commands N (λ n is. is.1) new item numbers.flags numbers.unique lasts first begins.0 (itself first) (subst (λ (h : History). IsPrefix h last) begins.1 ends) stands)
  where
    -- a number behind that of the item
    N : ℕ → Type 0
    N n = (item.unique < n) × (n < 2 ^ 62)

    new : (now : History) (write : Write) → IsPrefix first now → IsPrefix (now ++ write ∷ []) last → N (numbered base (length now))
    new now write is _ = let len = ap length is.1 ∙ length-append first is.0 in (omega (arith, drawn, len), omega arith)

    stands : IsStill item (answer_of options first key)
    stands =
        elim (said_stored options base first key (get_ask touched) (Shows item) (λ e. cc) got).1 [
          | inl none ↦ absurd (let e = shows _ touched None item none in cc)
          | inr found ↦ still_found item (answer_of options first key) (shows _ touched _ item found)
        ]

    lasts : HasNumber N (answer_of options last key) → ⊥
    lasts has =
        elim (said_stored options base last key (Store (Numbered item.unique) flags lifetime value) (StoresOf told) (λ e. cc) swap).1 [
          | inl none ↦ let e = (swaps_one _ item.unique flags lifetime value told None none).1 in cc
          | inr found ↦
              let one = swaps_one _ item.unique flags lifetime value told _ found in
              let above = (its_number N (answer_of options last key) one.0 has (still_found one.0 (answer_of options last key) one.1)).0 in
              omega (arith, above, one.2)
        ]

pub drawn : StoredIsDrawn
drawn options base key item history fits commands still =
    its_number N (answer_of options history key) item
    (number_on options base key [] history commands N (λ n below. omega (arith, below)) new [] history (itself []) (itself history) (subst (HasNumber N) (sym (none_at_first options key)) tt)) still
  where
    N : ℕ → Type 0
    N n = n < numbered base (length history)

    new : (now : History) (write : Write) → IsPrefix [] now → IsPrefix (now ++ write ∷ []) history → N (numbered base (length now))
    new now write _ is = let len = ap length is.1 ∙ length-append (now ++ write ∷ []) is.0 in let one = length-append now (write ∷ []) in omega (arith, fits, len, one)
