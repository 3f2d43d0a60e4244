-- What the answer to a command does to the shelf of a store's part.
use Rattle.std.proofs.Common.{◌≡◌, ◌≢◌, ◌≤◌, ◌<◌, ◌^◌, ◌&&◌, ◌⊎◌, inl, inr, not, ℕ, Bool, true, false, cond, List, [], ◌∷◌, ◌++◌, length, Option, Some, None, is_some, option_map, bytes_eq, refl, sym, ap, subst, ◌∙◌, append-nil, arith}
use Rattle.std.specs.Prelude.{IfSome}
use Rattle.std.specs.List.{cons_option}
use Rattle.std.proofs.lemmas.Bool.{true≢false}
use Rattle.std.proofs.lemmas.Slice.Eq.{bytes_eq-Decides}
use Rattle.mica_words.specs.Mark.{is_mark, has_marks}
use Rattle.partition_model.specs.declared.options.Options.{Options}
use Rattle.partition_model.specs.declared.options.Mode.TheVariants.{Store}
use Rattle.partition_model.specs.declared.write.Op.TheVariants.{Put, Del}
use Rattle.partition_model.specs.declared.write.Write.{Write}
use Rattle.partition_model.specs.declared.write.Outcome.{Outcome}
use Rattle.partition_model.specs.Write.{write_of, is_accepted}
use Rattle.partition_model.specs.History.{History, MayGive, answer_of}
use Rattle.partition_model.specs.Run.{RunStep}
use Rattle.memcached_text.specs.declared.item.Item.{Item}
use Rattle.memcached_text.specs.Item.{item_text, item_in}
use Rattle.memcached_commands.specs.declared.asks.Asked.{Asked}
use Rattle.memcached_commands.specs.declared.ask.Says.{Says}
use Rattle.memcached_commands.specs.declared.ask.Says.TheVariants.{Line}
use Rattle.memcached_commands.specs.declared.moment.Moment.{Moment}
use Rattle.memcached_commands.specs.Answers.{no_room}
use Rattle.memcached_commands.specs.Changes.{only_gets, ends_with_flush, becoming_of}
use Rattle.memcached_commands.specs.Decide.{Becoming, stays, becomes, goes, Decision, decide}
use Rattle.memcached_commands.specs.Fit.{IsFitAsked}
use Rattle.memcached_commands.specs.Laws.{IsFitItem, IsFitFound, BecomesKept, IsKept}
use Rattle.memcached_commands.specs.Moments.{found_in}
use Rattle.memcached_commands.proofs.DecideLaws.{fits, left}
use Rattle.fronts.specs.Answered.{changed, kept}
use Rattle.fronts.specs.Changing.{write_for}
use Rattle.fronts.specs.Flushes.{is_delete, is_in_first, marks}
use Rattle.fronts.specs.Looks.{Look, IsLookAt}
use Rattle.memcached_decisions.specs.Numbered.{numbered, moment_at, value_in, stored_becoming}
use Rattle.command_answers.specs.AskAnswers.{AnswersAsk}
use Rattle.memcached_page.specs.Shelf.{Shelf, at, there, with_item, becomes_of}
use Rattle.memcached_page.specs.Course.{carried, went, decided, becoming, after, IsDeed}
use Rattle.memcached_page.specs.Kept.{words_in}
use Rattle.part_courses.specs.Courses.{is_dead}
use Rattle.part_courses.proofs.Values.{put_is, del_is}
use Rattle.part_courses.proofs.Refusals.{has_room}
use Rattle.part_courses.proofs.Written.{written, unwritten, stays_so, becomes_so, goes_so, refused_line, found_none, there_alike, never_flushes, no_mark_flushes, own_key, other_key, dead_then}
use Rattle.part_courses.proofs.Shelves.{IsStored, value_same, found_stored, found_fit, Stands, moment_same}
use Rattle.part_courses.proofs.Steps.{Begun, One, below_next, stands_next, same_flushes}

module _ {options : Options} {base : ℕ} {h : History} {shelf : Shelf} (g : Begun options base h shelf) where
  abbrev n : ℕ
  n = length h

  module _ (asked : Asked) (look : Look) (looked : IsLookAt options h asked.key look) (fit : IsFitAsked asked) (spelled : is_mark asked.key ≡ false) where
    abbrev key : List ℕ
    key = asked.key

    abbrev second : ℕ
    second = look.when.second

    abbrev number : ℕ
    number = numbered base n

    abbrev moment : Moment
    moment = moment_at base look.when

    abbrev found : Option Item
    found = found_in moment (value_in look.value)

    abbrev decision : Decision
    decision = decide moment asked.ask found

    abbrev becoming_is : Becoming
    becoming_is = ends_with_flush moment decision.becoming

    stored : IfSome look.value (IsStored key)
    stored = subst (λ o. IfSome o (IsStored key)) (sym looked.value) (g.stands.stored key)

    value_is : value_in look.value ≡ look.value
    value_is = value_same key look.value stored

    on_shelf : shelf.items key ≡ option_map item_in look.value
    on_shelf = g.stands.items key ∙ ap (option_map item_in) (sym looked.value)

    at_moment : (now : Shelf) → now.flushes ≡ shelf.flushes → at second number now ≡ moment
    at_moment now same = moment_same options base h shelf.flushes second g.stands.flushes now same ∙ ap (moment_at base) (sym looked.when)

    found_there : there moment (shelf.items key) ≡ found
    found_there = ap (there moment) on_shelf ∙ found_stored moment key look.value stored

    found_fits : IsFitFound found
    found_fits = subst IsFitFound (found_stored moment key look.value stored) (found_fit moment key look.value stored)

    low : moment.unique < 2 ^ 62
    low = omega arith

    kept_item : (item : Item) → becoming_is ≡ becomes item → IsKept item
    kept_item item is = subst BecomesKept is (fits moment asked.ask found low fit.1 found_fits)

    -- the shelf before it is carried out, where a dead item has gone or not
    pub record Now (now : Shelf) : Type 0 where
      pub flushes : now.flushes ≡ shelf.flushes
      pub free : now.free ≡ shelf.free
      pub others : (k : List ℕ) → k ≢ key → now.items k ≡ shelf.items k
      pub found_is : there moment (now.items key) ≡ found

    pub now_itself : Now shelf
    now_itself = record { flushes = refl; free = refl; others = λ k differ. refl; found_is = found_there }

    pub now_without : found ≡ None → Now (with_item key None shelf)
    now_without none = record {
      flushes = refl;
      free = refl;
      others = λ k differ. other_key k key None (shelf.items k) differ;
      found_is = ap (there moment) (own_key key None (shelf.items key)) ∙ sym none;
    }

    module _ (now : Shelf) (is_now : Now now) where
      decided_is : decided second number asked now ≡ decision
      decided_is =
          ap (λ m. decide m asked.ask (there m (now.items key))) (at_moment now is_now.flushes)
          ∙ ap (decide moment asked.ask) is_now.found_is

      becoming_same : becoming second number asked now ≡ becoming_is
      becoming_same =
          ap (λ m. ends_with_flush m (decided second number asked now).becoming) (at_moment now is_now.flushes)
          ∙ ap (λ (d : Decision). ends_with_flush moment d.becoming) decided_is

      free_below : now.free ≤ number
      free_below = let most = g.stands.free in omega (arith, most, is_now.free)

      -- what it leaves, where there was room
      leaves_is : after (carried second number asked decision.says) now ≡ becomes_of (at second number now) key becoming_is now
      leaves_is =
          ap (λ b. cond b now (becomes_of (at second number now) key (becoming second number asked now) now)) (has_room moment asked.ask found)
          ∙ ap (λ b. becomes_of (at second number now) key b now) becoming_same

      may_carry : IsDeed Store now (carried second number asked decision.says)
      may_carry = (free_below, inl (ap (λ (d : Decision). d.says) (sym decided_is)))

    -- nothing was written

    kept_leaves : write_for key look.value (stored_becoming (becoming_of moment asked.ask (value_in look.value))) ≡ None → Stands options base h (becomes_of (at second number shelf) key becoming_is shelf)
    kept_leaves none = elim (unwritten (becoming_of moment asked.ask (value_in look.value)) key look.value none) [
      | inl stay ↦ subst (λ b. Stands options base h (becomes_of (at second number shelf) key b shelf)) (sym (stays_so (only_gets asked.ask) (value_in look.value) found becoming_is stay)) g.stands
      | inr go ↦ subst (λ b. Stands options base h (becomes_of (at second number shelf) key b shelf)) (sym (goes_none go.0 go.1)) (absent go.1)
    ]
      where
        goes_none : becoming_of moment asked.ask (value_in look.value) ≡ goes → look.value ≡ None → becoming_is ≡ goes
        goes_none is empty = elim (goes_so (only_gets asked.ask) (value_in look.value) found becoming_is is) [
          | inl same ↦ same
          | inr dead ↦ absurd (true≢false (sym dead.1 ∙ ap (λ o. is_some o && not (is_some found)) (value_is ∙ empty)))
        ]

        absent : look.value ≡ None → Stands options base h (with_item key None shelf)
        absent empty = record {
          accepted = g.stands.accepted;
          items = λ k. by (bytes_eq k key) k refl;
          stored = g.stands.stored;
          free = g.stands.free;
          flushes = g.stands.flushes;
        }
          where
            by : (b : Bool) (k : List ℕ) → bytes_eq k key ≡ b → cond b None (shelf.items k) ≡ option_map item_in (answer_of options h k)
            by true k same = sym (ap (λ z. option_map item_in (answer_of options h z)) ((bytes_eq-Decides k key).0 same) ∙ sym (g.stands.items key) ∙ on_shelf ∙ ap (option_map item_in) empty)
            by false k differ = g.stands.items k

    pub kept_one : (stamp : ℕ) → AnswersAsk base asked (kept key stamp look) → One options base shelf h (carried second number asked decision.says ∷ [])
    kept_one stamp is = record {
      steps = (may_carry shelf now_itself, tt);
      stands_then = subst (Stands options base h) (sym (leaves_is shelf now_itself)) (kept_leaves is.1);
    }

    -- something was written, and accepted

    module _ (write : Write) (outcome : Outcome) (may : MayGive options h write outcome) (on : is_accepted outcome ≡ true)
        (is : write_for key look.value (stored_becoming (becoming_of moment asked.ask (value_in look.value))) ≡ Some write) (now : Shelf) (is_now : Now now)
        (taken : write ≡ write_of Del key [] → found ≡ None → look.value ≢ None → now.items key ≡ None) where
      abbrev left_shelf : Becoming → Shelf
      left_shelf b = becomes_of (at second number now) key b now

      puts : (item : Item) → becoming_is ≡ becomes item → write ≡ write_of Put key (item_text item) → Stands options base (h ++ write ∷ []) (left_shelf (becomes item))
      puts item b w = subst (λ z. Stands options base (h ++ z ∷ []) (left_shelf (becomes item))) (sym w) (stands_next g (write_of Put key (item_text item)) outcome (left_shelf (becomes item)) (record {
        may = subst (λ z. MayGive options h z outcome) w may;
        on = on;
        own = own_key key (Some item) (now.items key) ∙ sym (ap (option_map item_in) value ∙ ap Some whole.reads);
        others = λ k differ. other_key k key (Some item) (now.items k) differ ∙ is_now.others k differ;
        stored = subst (λ o. IfSome o (IsStored key)) (sym value) (record { short = whole.fits; fit = subst IsFitItem (sym whole.reads) whole.fit; spelled = spelled });
        free = let most = below_next g write outcome may on in omega (arith, most);
        flushes = is_now.flushes ∙ g.stands.flushes ∙ same_flushes g (write_of Put key (item_text item)) (never_flushes (is_in_first options.hashing options.buckets (write_of Put key (item_text item))) (marks options.hashing key));
      }))
        where
          whole : IsKept item
          whole = kept_item item b

          value : answer_of options (h ++ write_of Put key (item_text item) ∷ []) key ≡ Some (item_text item)
          value = put_is options g.is_store h key (item_text item)

      deletes : (next : Shelf) → next.items key ≡ None → ((k : List ℕ) → k ≢ key → next.items k ≡ shelf.items k) → next.free ≡ shelf.free → next.flushes ≡ shelf.flushes → write ≡ write_of Del key []
          → Stands options base (h ++ write ∷ []) next
      deletes next own others free flushes w = subst (λ z. Stands options base (h ++ z ∷ []) next) (sym w) (stands_next g (write_of Del key []) outcome next (record {
        may = subst (λ z. MayGive options h z outcome) w may;
        on = on;
        own = own ∙ sym (ap (option_map item_in) value);
        others = others;
        stored = subst (λ o. IfSome o (IsStored key)) (sym value) tt;
        free = let most = g.stands.free in omega (arith, most, free);
        flushes = flushes ∙ g.stands.flushes ∙ same_flushes g (write_of Del key []) (ap (λ mark. is_in_first options.hashing options.buckets (write_of Del key []) && true && (mark && has_marks options.hashing)) spelled ∙ no_mark_flushes (is_in_first options.hashing options.buckets (write_of Del key [])) true);
      }))
        where
          value : answer_of options (h ++ write_of Del key [] ∷ []) key ≡ None
          value = del_is options g.is_store h key

      accepted_leaves : Stands options base (h ++ write ∷ []) (left_shelf becoming_is)
      accepted_leaves = elim (written (becoming_of moment asked.ask (value_in look.value)) key look.value write is) [
        | inl put ↦
            let b = becomes_so (only_gets asked.ask) (value_in look.value) found becoming_is put.0 put.1 in
            subst (λ z. Stands options base (h ++ write ∷ []) (left_shelf z)) (sym b) (puts put.0 b put.2)
        | inr del ↦ elim (goes_so (only_gets asked.ask) (value_in look.value) found becoming_is del.0) [
          | inl go ↦ subst (λ z. Stands options base (h ++ write ∷ []) (left_shelf z)) (sym go)
              (deletes (left_shelf goes) (own_key key None (now.items key)) (λ k differ. other_key k key None (now.items k) differ ∙ is_now.others k differ) is_now.free is_now.flushes del.1)
          | inr dead ↦ subst (λ z. Stands options base (h ++ write ∷ []) (left_shelf z)) (sym dead.0)
              (deletes (left_shelf stays) (taken del.1 (found_none (value_in look.value) found dead.1) (some_value dead.1)) is_now.others is_now.free is_now.flushes del.1)
        ]
      ]
        where
          some_value : (is_some (value_in look.value) && not (is_some found)) ≡ true → look.value ≢ None
          some_value dead none = true≢false (sym dead ∙ ap (λ o. is_some o && not (is_some found)) (value_is ∙ none))

      accepted_is : Stands options base (h ++ write ∷ []) (after (carried second number asked decision.says) now)
      accepted_is = subst (Stands options base (h ++ write ∷ [])) (sym (leaves_is now is_now)) accepted_leaves

    -- or refused

    wrote_no_get : (write : Write) → write_for key look.value (stored_becoming (becoming_of moment asked.ask (value_in look.value))) ≡ Some write → only_gets asked.ask ≡ false
    wrote_no_get write is = by (only_gets asked.ask) refl
      where
        by : (b : Bool) → only_gets asked.ask ≡ b → only_gets asked.ask ≡ false
        by true gets = absurd (none (ap (λ b. write_for key look.value (stored_becoming b)) (left asked.ask gets moment (value_in look.value))))
          where
            none : write_for key look.value (stored_becoming (becoming_of moment asked.ask (value_in look.value))) ≡ None → ⊥
            none off = let both : Some write ≡ None = sym is ∙ off in absurd (cc)
        by false other = other

    abbrev refusal : Says
    refusal = Line (no_room asked.ask)

    refused_leaves : after (carried second number asked refusal) shelf ≡ shelf
    refused_leaves = ap (λ b. cond b shelf (becomes_of (at second number shelf) key (becoming second number asked shelf) shelf)) (refused_line asked.ask)

    refused_one : (write : Write) → write_for key look.value (stored_becoming (becoming_of moment asked.ask (value_in look.value))) ≡ Some write → One options base shelf h (carried second number asked refusal ∷ [])
    refused_one write is = record {
      steps = ((free_below shelf now_itself, inr (refl, wrote_no_get write is)), tt);
      stands_then = subst (Stands options base h) (sym refused_leaves) g.stands;
    }

    -- how many words are written of it

    gone_words : becoming_of moment asked.ask (value_in look.value) ≡ goes → words_in key becoming_is ≡ 0
    gone_words is = elim (goes_so (only_gets asked.ask) (value_in look.value) found becoming_is is) [
      | inl same ↦ ap (words_in key) same
      | inr dead ↦ ap (words_in key) dead.0
    ]

    pub no_words : (now : Shelf) → Now now → write_for key look.value (stored_becoming (becoming_of moment asked.ask (value_in look.value))) ≡ None → words_in key (becoming second number asked now) ≡ 0
    no_words now is_now none = ap (words_in key) (becoming_same now is_now) ∙ elim (unwritten (becoming_of moment asked.ask (value_in look.value)) key look.value none) [
      | inl stay ↦ ap (words_in key) (stays_so (only_gets asked.ask) (value_in look.value) found becoming_is stay)
      | inr go ↦ gone_words go.0
    ]

    -- a value is put, or a delete leaves none, which was decided where it was not dead
    pub words_of_write : (now : Shelf) → Now now → (write : Write) → write_for key look.value (stored_becoming (becoming_of moment asked.ask (value_in look.value))) ≡ Some write
        → ((item : Item) × (becoming second number asked now ≡ becomes item) × (write ≡ write_of Put key (item_text item)))
        ⊎ ((words_in key (becoming second number asked now) ≡ 0) × (write ≡ write_of Del key []) × (is_dead base look ≡ false → becoming second number asked now ≡ goes))
    words_of_write now is_now write is = elim (written (becoming_of moment asked.ask (value_in look.value)) key look.value write is) [
      | inl put ↦ inl (put.0, becoming_same now is_now ∙ becomes_so (only_gets asked.ask) (value_in look.value) found becoming_is put.0 put.1, put.2)
      | inr del ↦ inr (ap (words_in key) (becoming_same now is_now) ∙ gone_words del.0, del.1, λ alive. becoming_same now is_now ∙ decided_so del.0 alive)
    ]
      where
        decided_so : becoming_of moment asked.ask (value_in look.value) ≡ goes → is_dead base look ≡ false → becoming_is ≡ goes
        decided_so go alive = elim (goes_so (only_gets asked.ask) (value_in look.value) found becoming_is go) [
          | inl same ↦ same
          | inr dead ↦ absurd (true≢false (sym dead.1 ∙ ap (λ o. is_some o && not (is_some found)) value_is ∙ alive))
        ]

    -- so in each case

    abbrev Came : RunStep → (on dead delete : Bool) → Type 0
    Came step on dead delete =
        One options base shelf (h ++ cons_option (cond on (Some step.write) None) []) (cond (dead && delete && on) (went second key ∷ []) [] ++ carried second number asked (cond on decision.says refusal) ∷ [])

    pub changed_one : (step : RunStep) → MayGive options h step.write step.outcome → AnswersAsk base asked (changed step look)
        → Came step (is_accepted step.outcome) (is_dead base look) (is_delete step.write.op)
    changed_one step may is = by (is_accepted step.outcome) (is_dead base look) (is_delete step.write.op) refl refl refl
      where
        refused_came : One options base shelf (h ++ []) (carried second number asked refusal ∷ [])
        refused_came = subst (λ z. One options base shelf z (carried second number asked refusal ∷ [])) (sym (append-nil h)) (refused_one step.write is)

        carried_came : is_accepted step.outcome ≡ true → (step.write ≡ write_of Del key [] → found ≡ None → look.value ≢ None → shelf.items key ≡ None)
            → One options base shelf (h ++ step.write ∷ []) (carried second number asked decision.says ∷ [])
        carried_came on taken = record {
          steps = (may_carry shelf now_itself, tt);
          stands_then = accepted_is step.write step.outcome may on is shelf now_itself taken;
        }

        by : (on dead delete : Bool) → is_accepted step.outcome ≡ on → is_dead base look ≡ dead → is_delete step.write.op ≡ delete → Came step on dead delete
        by false true true off is_it deletes_it = refused_came
        by false true false off is_it deletes_it = refused_came
        by false false delete off is_it deletes_it = refused_came
        by true true true on is_it deletes_it = let none = found_none look.value found is_it in record {
          steps = (
            there_alike second shelf.free number shelf (shelf.items key) ∙ ap (λ m. there m (shelf.items key)) (at_moment shelf refl) ∙ found_there ∙ none,
            (may_carry (with_item key None shelf) (now_without none), tt),
          );
          stands_then = accepted_is step.write step.outcome may on is (with_item key None shelf) (now_without none) (λ _ _ _. own_key key None (shelf.items key));
        }
        by true true false on is_it deletes_it = carried_came on (λ write none some. absurd (true≢false (sym (ap (λ (w : Write). is_delete w.op) write) ∙ deletes_it)))
        by true false delete on is_it deletes_it = carried_came on (λ write none some. absurd (true≢false (sym (dead_then look.value found none some) ∙ is_it)))
