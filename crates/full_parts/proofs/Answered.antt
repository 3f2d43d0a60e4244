-- One answer behind another, each refuses something only where there is no room.
use Rattle.std.specs.Prelude.{◌&&◌, is_some}
use Rattle.std.specs.List.{cons_option}
use Rattle.std.proofs.lemmas.Bool.{true≢false}
use Rattle.std.proofs.Common.{◌≡◌, ◌≤◌, ◌+◌, ◌⊎◌, inl, inr, ℕ, Bool, true, false, cond, List, [], ◌∷◌, ◌++◌, length, map, Option, Some, None, option_map, refl, sym, ap, subst, ◌∙◌, append-nil, length-append, arith}
use Rattle.mica_words.specs.Mark.{is_mark}
use Rattle.partition_model.specs.declared.options.Options.{Options}
use Rattle.partition_model.specs.declared.options.Mode.TheVariants.{Store, Cache}
use Rattle.partition_model.specs.declared.write.Write.{Write}
use Rattle.partition_model.specs.declared.write.Op.TheVariants.{Put, Del}
use Rattle.partition_model.specs.Write.{write_of, is_accepted}
use Rattle.partition_model.specs.History.{History, MayGive, answer_of}
use Rattle.partition_model.specs.Run.{RunStep}
use Rattle.memcached_text.specs.declared.item.Item.{Item}
use Rattle.memcached_text.specs.Item.{item_text, item_in}
use Rattle.memcached_commands.specs.declared.asks.Asked.{Asked}
use Rattle.memcached_commands.specs.declared.ask.Says.{Says}
use Rattle.memcached_commands.specs.declared.ask.Says.TheVariants.{Line}
use Rattle.memcached_commands.specs.Answers.{no_room}
use Rattle.memcached_commands.specs.Changes.{becoming_of}
use Rattle.memcached_commands.specs.Decide.{Becoming, stays, becomes, goes, decide}
use Rattle.memcached_commands.specs.Fit.{IsFitAsked}
use Rattle.memcached_commands.specs.Moments.{found_in}
use Rattle.memcached_decisions.specs.Numbered.{numbered, moment_at, value_in, stored_becoming}
use Rattle.memcached_decisions.proofs.Values.{none_at_first}
use Rattle.fronts.specs.declared.flushes.Flush.{Flush}
use Rattle.fronts.specs.Answered.{Answered, wrote, got, changed, kept}
use Rattle.fronts.specs.Changing.{write_for}
use Rattle.fronts.specs.Flushes.{is_delete, is_in_first, marks}
use Rattle.fronts.specs.Looks.{Look, IsLookAt}
use Rattle.command_answers.specs.FlushAnswers.{FlushesOne}
use Rattle.one_order.specs.Order.{IsAnswerBehind, behind}
use Rattle.memcached_page.specs.Shelf.{Shelf, empty, with_item}
use Rattle.memcached_page.specs.Course.{Deed, carried, flushed, went, Done, is_no_room, becoming, after}
use Rattle.memcached_page.specs.Kept.{words_in, words_of, Written, no_item, written_by, written, shelf_in, writes_in, room_in, LacksRoom, RefusedForCause, AtEach}
use Rattle.part_courses.specs.Courses.{Purpose, asks, flushes, sweeps, Served, is_dead, IsFor, AreServed, deeds_of, done_by, course_of}
use Rattle.part_courses.proofs.Values.{del_is, flushed_none}
use Rattle.part_courses.proofs.Refusals.{has_room}
use Rattle.part_courses.proofs.Shelves.{Stands, stands_empty}
use Rattle.part_courses.proofs.Steps.{left_by, Begun, One}
use Rattle.part_courses.proofs.Written.{found_none, refused_line, deletes_of}
use Rattle.part_courses.proofs.Carried.{now_itself, now_without, no_words, words_of_write}
use Rattle.part_courses.proofs.Courses.{one, own_key, no_mark}
use Rattle.full_parts.specs.Full.{StoreRefusesWhereFull}
use Rattle.full_parts.proofs.Rooms.{room_at, no_room_of, room_append, writes_append, shelf_append, at_each_append, left_is}
use Rattle.full_parts.proofs.Roomy.{RoomsBehind, kept_rooms, gone_rooms, went_rooms, put_rooms}
use Rattle.full_parts.proofs.Refused.{refused_delete, refused_put}

-- what is written of a command

by_words : (key : List ℕ) (found : Option Item) (b : Becoming) → (written_by key found b).words ≡ words_in key b
by_words key found stays = refl
by_words key found (becomes item) = refl
by_words key found goes = refl

no_words_of : (shelf : Shelf) (second number : ℕ) (asked : Asked) (says : Says) → words_in asked.key (becoming second number asked shelf) ≡ 0 → (written shelf (carried second number asked says)).words ≡ 0
no_words_of shelf second number asked says none = by (is_no_room says)
  where
    b : Becoming
    b = becoming second number asked shelf

    by : (refused : Bool) → (cond refused (no_item asked.key false) (written_by asked.key (shelf.items asked.key) b)).words ≡ 0
    by true = refl
    by false = by_words asked.key (shelf.items asked.key) b ∙ none

written_as : (shelf : Shelf) (second number : ℕ) (asked : Asked) (says : Says) (b : Becoming) → is_no_room says ≡ false → becoming second number asked shelf ≡ b
    → written shelf (carried second number asked says) ≡ written_by asked.key (shelf.items asked.key) b
written_as shelf second number asked says b room is =
    ap (λ r. cond r (no_item asked.key false) (written_by asked.key (shelf.items asked.key) (becoming second number asked shelf))) room
    ∙ ap (written_by asked.key (shelf.items asked.key)) is

-- a delete has something to delete

abbrev deletes : Option Write → Bool
deletes None = false
deletes (Some write) = is_delete write.op

deletes_some : (key : List ℕ) (value : Option (List ℕ)) (b : Becoming) → write_for key value (stored_becoming b) ≡ Some (write_of Del key []) → is_some value ≡ true
deletes_some key value stays is = absurd (cc)
deletes_some key value (becomes item) is = absurd (true≢false (sym (ap deletes is)))
deletes_some key None goes is = absurd (cc)
deletes_some key (Some stored) goes is = refl

some_mapped : (o : Option (List ℕ)) → is_some (option_map item_in o) ≡ is_some o
some_mapped None = refl
some_mapped (Some stored) = refl

-- A part of a store behind so many writes, with what was done so far.
record Counted (options : Options) (base : ℕ) (h : History) (earlier : List Done) : Type 0 where
  pub begun : Begun options base h (shelf_in empty earlier)
  pub rooms : (key : List ℕ) → room_in key empty 0 earlier ≡ room_at options h key
  pub count : length h ≤ writes_in empty earlier

module _ {options : Options} {base : ℕ} (part : ℕ) {h : History} {earlier : List Done} (c : Counted options base h earlier) (served : Served) where
  abbrev shelf : Shelf
  shelf = shelf_in empty earlier

  -- what an answer came to
  record Stepped (then_h : History) (deeds : List Deed) : Type 0 where
    pub causes : AtEach (RefusedForCause options empty) earlier (map (done_by served) deeds)
    pub rooms_then : (key : List ℕ) → room_in key shelf (room_in key empty 0 earlier) (map (done_by served) deeds) ≡ room_at options then_h key
    pub count_then : length then_h ≤ writes_in empty earlier + writes_in shelf (map (done_by served) deeds)

  one_more : (write : Write) → length (h ++ write ∷ []) ≡ length h + 1
  one_more write = length-append h (write ∷ [])

  abbrev room : List ℕ → ℕ
  room key = room_in key empty 0 earlier

  -- nothing was done, or nothing was written

  nothing_done : Stepped h []
  nothing_done = record { causes = tt; rooms_then = c.rooms; count_then = (let few = c.count in omega (arith, few)) }

  unwritten : (d : Deed) → RefusedForCause options empty earlier d → Stands options base h (after d shelf) → (written shelf d).words ≡ 0 → Stepped h (d ∷ [])
  unwritten d cause stands none = record {
    causes = (cause, tt);
    rooms_then = kept_rooms options base c.begun.is_store served h shelf room c.rooms d stands none;
    count_then = let few = c.count in omega (arith, few);
  }

  same_history : {deeds : List Deed} → Stepped h deeds → Stepped (h ++ []) deeds
  same_history {deeds} is = subst (λ z. Stepped z deeds) (sym (append-nil h)) is

  same_stands : (left : Shelf) → Stands options base (h ++ []) left → Stands options base h left
  same_stands left is = subst (λ z. Stands options base z left) (append-nil h) is

  -- a delete, with one deed
  deleted : (write : Write) (d : Deed) → RefusedForCause options empty earlier d → Stands options base (h ++ write ∷ []) (after d shelf) → answer_of options (h ++ write ∷ []) write.key ≡ None
      → (written shelf d).words ≡ 0 → (written shelf d).count ≡ 1 → Stepped (h ++ write ∷ []) (d ∷ [])
  deleted write d cause stands gone none one = record {
    causes = (cause, tt);
    rooms_then = gone_rooms options base c.begun.is_store served h shelf room c.rooms write d stands gone none;
    count_then = let few = c.count in let more = one_more write in omega (arith, few, more, one);
  }

  -- A command

  module _ (asked : Asked) (look : Look) (looked : IsLookAt options h asked.key look) (fit : IsFitAsked asked) where
    abbrev key : List ℕ
    key = asked.key

    abbrev second : ℕ
    second = look.when.second

    abbrev number : ℕ
    number = numbered base (length h)

    abbrev found : Option Item
    found = found_in (moment_at base look.when) (value_in look.value)

    abbrev says : Says
    says = (decide (moment_at base look.when) asked.ask found).says

    abbrev decided_for : Becoming
    decided_for = becoming_of (moment_at base look.when) asked.ask (value_in look.value)

    spelled : is_mark key ≡ false
    spelled = no_mark key fit.0

    room_for : is_no_room says ≡ false
    room_for = has_room (moment_at base look.when) asked.ask found

    -- what is decided never says that there is no room
    no_cause : (before : List Done) → RefusedForCause options empty before (carried second number asked says)
    no_cause before = λ is. absurd (true≢false (sym is ∙ room_for))

    kept_so : write_for key look.value (stored_becoming decided_for) ≡ None → Stands options base h (after (carried second number asked says) shelf) → Stepped h (carried second number asked says ∷ [])
    kept_so none stands = unwritten (carried second number asked says) (no_cause earlier) stands
        (no_words_of shelf second number asked says (no_words c.begun asked look looked fit spelled shelf (now_itself c.begun asked look looked fit spelled) none))

    abbrev refusal : Says
    refusal = Line (no_room asked.ask)

    module _ (step : RunStep) (may : MayGive options h step.write step.outcome) (is : write_for key look.value (stored_becoming decided_for) ≡ Some step.write) where
      -- what is written, on a shelf where a dead item has gone or not
      abbrev Writes : Shelf → Type 0
      Writes now =
          ((item : Item) × (becoming second number asked now ≡ becomes item) × (step.write ≡ write_of Put key (item_text item)))
          ⊎ ((words_in key (becoming second number asked now) ≡ 0) × (step.write ≡ write_of Del key []) × (is_dead base look ≡ false → becoming second number asked now ≡ goes))

      writes : Writes shelf
      writes = words_of_write c.begun asked look looked fit spelled shelf (now_itself c.begun asked look looked fit spelled) step.write is

      gone : (write : Write) → write ≡ write_of Del key [] → answer_of options (h ++ write ∷ []) write.key ≡ None
      gone write w = subst (λ (z : Write). answer_of options (h ++ z ∷ []) z.key ≡ None) (sym w) (del_is options c.begun.is_store h key)

      -- refused

      lacks : is_accepted step.outcome ≡ false → Writes shelf → LacksRoom options empty earlier key (words_in key (becoming second number asked shelf))
      lacks off (inl put) = subst (λ words. LacksRoom options empty earlier key words) (sym (ap (words_in key) put.1))
          (refused_put options base c.begun.is_store h earlier c.begun.stands c.count c.rooms (write_of Put key (item_text put.0)) step.outcome refl
          (subst (λ z. MayGive options h z step.outcome) put.2 may) off)
      lacks off (inr del) =
          inl (refused_delete options base c.begun.is_store h earlier c.begun.stands c.count c.rooms step.write step.outcome (ap (λ (w : Write). w.op) del.1) may off)

      refused : is_accepted step.outcome ≡ false → Stands options base (h ++ []) (after (carried second number asked refusal) shelf) → Stepped (h ++ []) (carried second number asked refusal ∷ [])
      refused off stands = same_history (unwritten (carried second number asked refusal) (λ _. lacks off writes) (same_stands (after (carried second number asked refusal) shelf) stands)
          (ap (λ b. (cond b (no_item key false) (written_by key (shelf.items key) (becoming second number asked shelf))).words) (refused_line asked.ask)))

      -- accepted

      alive_writes : Writes shelf → (is_delete step.write.op ≡ true → is_dead base look ≡ false) → Stands options base (h ++ step.write ∷ []) (after (carried second number asked says) shelf)
          → Stepped (h ++ step.write ∷ []) (carried second number asked says ∷ [])
      alive_writes (inl put) alive stands = record {
        causes = (no_cause earlier, tt);
        rooms_then = subst (λ z. RoomsBehind options base c.begun.is_store served h shelf room c.rooms (h ++ z ∷ []) (carried second number asked says ∷ [])) (sym put.2)
            (put_rooms options base c.begun.is_store served h shelf room c.rooms second number asked says put.0
            (subst (λ z. Stands options base (h ++ z ∷ []) (after (carried second number asked says) shelf)) put.2 stands) wrote_it);
        count_then = let few = c.count in let more = one_more step.write in let one = ap (λ (w : Written). w.count) wrote_it in omega (arith, few, more, one);
      }
        where
          wrote_it : written shelf (carried second number asked says) ≡ record { key = key; words = words_of key put.0; count = 1 }
          wrote_it = written_as shelf second number asked says (becomes put.0) room_for put.1
      alive_writes (inr del) alive stands =
          deleted step.write (carried second number asked says) (no_cause earlier) stands (gone step.write del.1) (no_words_of shelf second number asked says del.0)
          (ap (λ (w : Written). w.count) (written_as shelf second number asked says goes room_for (del.2 (alive (ap (λ (w : Write). is_delete w.op) del.1)))) ∙ ap (λ b. cond b 1 0) there_is)
        where
          there_is : is_some (shelf.items key) ≡ true
          there_is =
              ap is_some (c.begun.stands.items key ∙ ap (option_map item_in) (sym looked.value)) ∙ some_mapped look.value
              ∙ deletes_some key look.value decided_for (is ∙ ap Some del.1)

      dead_went : found ≡ None → is_delete step.write.op ≡ true → Stands options base (h ++ step.write ∷ []) (after (carried second number asked says) (after (went second key) shelf))
          → Stepped (h ++ step.write ∷ []) (went second key ∷ carried second number asked says ∷ [])
      dead_went none deletes stands = by (words_of_write c.begun asked look looked fit spelled (with_item key None shelf) (now_without c.begun asked look looked fit spelled none) step.write is)
        where
          by : Writes (with_item key None shelf) → Stepped (h ++ step.write ∷ []) (went second key ∷ carried second number asked says ∷ [])
          by (inl put) = absurd (true≢false (sym deletes ∙ ap (λ (w : Write). is_delete w.op) put.2))
          by (inr del) = record {
            causes = (tt, (no_cause (earlier ++ done_by served (went second key) ∷ []), tt));
            rooms_then = subst (λ z. RoomsBehind options base c.begun.is_store served h shelf room c.rooms (h ++ z ∷ []) (went second key ∷ carried second number asked says ∷ [])) (sym del.1)
                (went_rooms options base c.begun.is_store served h shelf room c.rooms (write_of Del key []) second (carried second number asked says)
                (subst (λ z. Stands options base (h ++ z ∷ []) (after (carried second number asked says) (after (went second key) shelf))) del.1 stands)
                (del_is options c.begun.is_store h key) c.begun.stands (no_words_of (with_item key None shelf) second number asked says del.0));
            count_then = let few = c.count in let more = one_more step.write in omega (arith, few, more);
          }

      abbrev Deeds : (on dead delete : Bool) → List Deed
      Deeds on dead delete = cond (dead && delete && on) (went second key ∷ []) [] ++ carried second number asked (cond on says refusal) ∷ []

      changed_so : Stands options base (h ++ cons_option (cond (is_accepted step.outcome) (Some step.write) None) [])
          (left_by shelf (Deeds (is_accepted step.outcome) (is_dead base look) (is_delete step.write.op)))
          → Stepped (h ++ cons_option (cond (is_accepted step.outcome) (Some step.write) None) []) (Deeds (is_accepted step.outcome) (is_dead base look) (is_delete step.write.op))
      changed_so stands = by (is_accepted step.outcome) (is_dead base look) (is_delete step.write.op) refl refl refl stands
        where
          by : (on dead delete : Bool) → is_accepted step.outcome ≡ on → is_dead base look ≡ dead → is_delete step.write.op ≡ delete
              → Stands options base (h ++ cons_option (cond on (Some step.write) None) []) (left_by shelf (Deeds on dead delete))
              → Stepped (h ++ cons_option (cond on (Some step.write) None) []) (Deeds on dead delete)
          by false true true off dead_is delete_is stands = refused off stands
          by false true false off dead_is delete_is stands = refused off stands
          by false false delete off dead_is delete_is stands = refused off stands
          by true true true on dead_is delete_is stands = dead_went (found_none look.value found dead_is) delete_is stands
          by true true false on dead_is delete_is stands = alive_writes writes (λ is. absurd (true≢false (sym is ∙ delete_is))) stands
          by true false delete on dead_is delete_is stands = alive_writes writes (λ _. dead_is) stands

  -- A flush, and a sweep

  flushed_so : (step : RunStep) (flush : Flush) → MayGive options h step.write step.outcome → FlushesOne options flush part (wrote step)
      → Stands options base (behind h (wrote step)) (left_by shelf (flushed part (numbered base (length h + 1)) flush (is_accepted step.outcome) ∷ []))
      → Stepped (behind h (wrote step)) (flushed part (numbered base (length h + 1)) flush (is_accepted step.outcome) ∷ [])
  flushed_so step flush may for stands = by (is_accepted step.outcome) refl stands
    where
      deletes : step.write.op ≡ Del
      deletes = deletes_of (is_in_first options.hashing options.buckets step.write) step.write.op (marks options.hashing step.write.key) for.0

      by : (on : Bool) → is_accepted step.outcome ≡ on
          → Stands options base (h ++ cons_option (cond on (Some step.write) None) []) (left_by shelf (flushed part (numbered base (length h + 1)) flush on ∷ []))
          → Stepped (h ++ cons_option (cond on (Some step.write) None) []) (flushed part (numbered base (length h + 1)) flush on ∷ [])
      by false off stands = same_history (unwritten (flushed part (numbered base (length h + 1)) flush false)
          (λ _. inl (refused_delete options base c.begun.is_store h earlier c.begun.stands c.count c.rooms step.write step.outcome deletes may off))
          (same_stands (after (flushed part (numbered base (length h + 1)) flush false) shelf) stands) refl)
      by true on stands = deleted step.write (flushed part (numbered base (length h + 1)) flush true) (λ is. absurd (true≢false is)) stands
          (flushed_none options c.begun.is_store h step.write deletes) refl refl

  swept_so : (step : RunStep) (look : Look) → step.write ≡ write_of Del step.write.key []
      → Stands options base (behind h (changed step look)) (left_by shelf (cond (is_accepted step.outcome) (went look.when.second step.write.key ∷ []) []))
      → Stepped (behind h (changed step look)) (cond (is_accepted step.outcome) (went look.when.second step.write.key ∷ []) [])
  swept_so step look deletes stands = by (is_accepted step.outcome) stands
    where
      by : (on : Bool) → Stands options base (h ++ cons_option (cond on (Some step.write) None) []) (left_by shelf (cond on (went look.when.second step.write.key ∷ []) []))
          → Stepped (h ++ cons_option (cond on (Some step.write) None) []) (cond on (went look.when.second step.write.key ∷ []) [])
      by false stands = same_history nothing_done
      by true stands = deleted step.write (went look.when.second step.write.key) tt stands
          (subst (λ w. answer_of options (h ++ w ∷ []) step.write.key ≡ None) (sym deletes) (del_is options c.begun.is_store h step.write.key)) refl refl

  -- so each answer

  stepped : (purpose : Purpose) (answered : Answered) → IsAnswerBehind options h answered → IsFor options base part purpose answered
      → Stands options base (behind h answered) (left_by shelf (deeds_of base part (length h) purpose answered)) → Stepped (behind h answered) (deeds_of base part (length h) purpose answered)
  stepped (asks asked) (wrote step) answer for stands = absurd (for.1)
  stepped (asks asked) (got key stamp value) answer for stands = absurd (for.1)
  stepped (asks asked) (changed step look) answer for stands =
      let looked = subst (λ key. IsLookAt options h key look) (own_key asked.key look.value _ step.write for.1) answer.1 in
      changed_so asked look looked for.0 step answer.0.0 for.1 stands
  stepped (asks asked) (kept key stamp look) answer for stands =
      let looked = subst (λ k. IsLookAt options h k look) for.1.0 answer.1 in
      kept_so asked look looked for.0 for.1.1 stands
  stepped (flushes flush) (wrote step) answer for stands = flushed_so step flush answer.0 for stands
  stepped (flushes flush) (got key stamp value) answer for stands = absurd (for)
  stepped (flushes flush) (changed step look) answer for stands = absurd (for)
  stepped (flushes flush) (kept key stamp look) answer for stands = absurd (for)
  stepped sweeps (wrote step) answer for stands = let both : Store ≡ Cache = sym c.begun.is_store ∙ for.0 in absurd (cc)
  stepped sweeps (got key stamp value) answer for stands = absurd (for)
  stepped sweeps (changed step look) answer for stands = swept_so step look for.0 stands
  stepped sweeps (kept key stamp look) answer for stands = nothing_done

-- and all of them

all_refuse : (options : Options) (base part : ℕ) (all : List Served) (h : History) (earlier : List Done) → Counted options base h earlier → AreServed options base part h all
    → AtEach (RefusedForCause options empty) earlier (course_of base part h all)
all_refuse options base part [] h earlier c served = tt
all_refuse options base part (first ∷ later) h earlier c served = at_each_append (RefusedForCause options empty) earlier dones (course_of base part then_h later) it.causes
    (all_refuse options base part later then_h (earlier ++ dones) (record {
      begun = record { is_store = c.begun.is_store; small = c.begun.small; stands = subst (Stands options base then_h) (sym left) came.stands_then };
      rooms = λ key. room_append key empty 0 earlier dones ∙ it.rooms_then key;
      count = subst (λ n. length then_h ≤ n) (sym (writes_append empty earlier dones)) it.count_then;
    }) served.2)
  where
    deeds : List Deed
    deeds = deeds_of base part (length h) first.purpose first.answered

    dones : List Done
    dones = map (done_by first) deeds

    then_h : History
    then_h = behind h first.answered

    came : One options base (shelf_in empty earlier) then_h deeds
    came = one part c.begun first.purpose first.answered served.0 served.1

    left : shelf_in empty (earlier ++ dones) ≡ left_by (shelf_in empty earlier) deeds
    left = shelf_append empty earlier dones ∙ left_is first (shelf_in empty earlier) deeds

    it : Stepped part c first then_h deeds
    it = stepped part c first first.purpose first.answered served.0 served.1 came.stands_then

pub law : StoreRefusesWhereFull
law options base part all is_store small served = all_refuse options base part all [] []
    (record { begun = record { is_store = is_store; small = small; stands = stands_empty options base }; rooms = λ key. sym (no_room_of options is_store [] key (none_at_first options key)); count = omega arith }) served
