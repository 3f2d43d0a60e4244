-- An exchange goes on.
use Rattle.std.proofs.Common.{◌≡◌, ◌<◌, ◌≤◌, ◌+◌, ◌==◌, ◌⊎◌, inl, inr, ℕ, Bool, true, false, true≢false, cond, List, [], ◌∷◌, ◌++◌, length, drop, refl, sym, ap, ◌∙◌, subst, arith, length-append}
use Rattle.std.proofs.lemmas.List.{append-nil, length-drop, nil_from_length}
use Rattle.std.proofs.lemmas.Bool.{eq-eqb, ne_eqb}
use Rattle.partition_model.specs.declared.options.Options.{Options}
use Rattle.memcached_requests.specs.declared.request.Next.{Next}
use Rattle.memcached_requests.specs.declared.request.Next.TheVariants.{Whole, More}
use Rattle.memcached_requests.specs.declared.request.Request.TheVariants.{Keys, Flush, Stats, Said}
use Rattle.memcached_requests.specs.Requests.{asks_in}
use Rattle.memcached_commands.specs.declared.asks.Asked.{Asked}
use Rattle.fronts.specs.Answered.{Answered}
use Rattle.memcached_stats.specs.Stats.{Told, stats_text}
use Rattle.memcached_stats.proofs.Untold.{untold}
use Rattle.command_answers.specs.AskAnswers.{AnswersAsks, asks_by, asks_text}
use Rattle.command_answers.specs.FlushAnswers.{FlushesFrom, flush_at}
use Rattle.command_answers.specs.Exchange.{Exchange, AnswersBy, AnswersNext, asks_stats, asks_to, is_flush_all, flush_due, count_of_answers, is_answered, style_of, plain_text, keyed_text, flush_text, text_by, due_to, due_before, IsOpenAt, longer, topic_of}
use Rattle.fronts.specs.Session.{Sessions, AnswersInOrder}
use Rattle.command_answers.specs.declared.answer.Limits.{Limits}
use Rattle.command_answers.specs.declared.answer.Progress.{Progress}
use Rattle.command_answers.specs.Going.{StandsAt, AnswersFirst, RepliesFirst, GoesOn, Replies}
use Rattle.command_answers.proofs.Flushing.{flushed_at}
use Rattle.command_answers.proofs.AskLaws.{none_flushed_yet, all_by, part_by, more_by, more_text, some_left}

-- some of what is asked is still to be answered
pub is_below : (next : Next) (done : ℕ) → IsOpenAt next done → 0 < length (asks_in next) → done < length (asks_in next)
is_below next done stands some =
    elim stands as (λ _. done < length (asks_in next)) [ inl none ↦ omega (arith, none, some) | inr less ↦ less ]

module _ (options : Options) (base : ℕ) (next : Next) (done : ℕ) where
  -- Asks of keys

  keyed_is : (told : Told) (asks : List Asked) (answers : List Answered) → 0 < length asks
      → keyed_text options.partitions base told next asks answers ≡ asks_text base (style_of next) asks answers
  keyed_is told [] answers some = absurd (omega (arith, some))
  keyed_is told (asked ∷ asks) answers some = refl

  text_is : (told : Told) (answers : List Answered) → is_flush_all next ≡ false → 0 < length (asks_in next)
      → text_by options base told next answers ≡ asks_text base (style_of next) (asks_in next) answers
  text_is told answers keyed some =
      ap (λ t. cond t (flush_text (style_of next) (length answers == options.partitions) answers) (keyed_text options.partitions base told next (asks_in next) answers)) keyed
      ∙ keyed_is told (asks_in next) answers some

  module _ (told : Told) (answers : List Answered) (keyed : is_flush_all next ≡ false) where
    pub asks_go_on : done < length (asks_in next) → AnswersAsks base (asks_by (style_of next) (drop done (asks_in next)) answers) answers
        → (e : Exchange) → StandsAt options base next done e → AnswersNext options base e.next (e.answers ++ answers)
    asks_go_on less is e at =
        let style = style_of next in
        let here : AnswersNext options base next e.answers = subst (λ n. AnswersNext options base n e.answers) at.next_is at.answers in
        let first : AnswersAsks base (asks_to next e.answers) e.answers = subst (λ t. AnswersBy t options base (flush_due next) (asks_to next e.answers) e.answers) keyed here in
        let then : AnswersAsks base (asks_by style (drop (length e.answers) (asks_in next)) answers) answers =
        subst (λ n. AnswersAsks base (asks_by style (drop n (asks_in next)) answers) answers) (sym at.count) is in
        let all = more_by base style (asks_in next) e.answers answers (let count = at.count in omega (arith, count, less)) first then in
        subst (λ n. AnswersNext options base n (e.answers ++ answers)) (sym at.next_is)
        (subst (λ t. AnswersBy t options base (flush_due next) (asks_to next (e.answers ++ answers)) (e.answers ++ answers)) (sym keyed) all)

    -- whether all is answered
    pub asks_answered : done < length (asks_in next) → (e : Exchange) → StandsAt options base next done e
        → is_answered options (longer e answers told) ≡ (length answers == length (asks_by (style_of next) (drop done (asks_in next)) answers))
    asks_answered less e at =
        let all = e.answers ++ answers in
        ap (λ n. length all == count_of_answers options n all) at.next_is
        ∙ ap (λ t. length all == cond t options.partitions (length (asks_to next all))) keyed
        ∙ all_by (style_of next) (asks_in next) e.answers answers (let count = at.count in omega (arith, count, less))
        ∙ ap (λ n. length answers == length (asks_by (style_of next) (drop n (asks_in next)) answers)) at.count

    pub asks_are_due : IsOpenAt next done → 0 < length (asks_in next) → (e : Exchange) → StandsAt options base next done e
        → due_to options base (longer e answers told)
        ≡ due_before options base e ++ asks_text base (style_of next) (drop done (asks_in next)) answers
    asks_are_due stands some e at =
        let style = style_of next in
        let less = is_below next done stands some in
        let not_yet : is_answered options e ≡ false =
        ap (λ n. length e.answers == count_of_answers options n e.answers) at.next_is ∙ ap (λ t. length e.answers == cond t options.partitions (length (asks_to next e.answers))) keyed
        ∙ ne_eqb (length e.answers) (length (asks_to next e.answers)) (λ all.
        let many = ap length (part_by style (asks_in next) e.answers (let count = at.count in omega (arith, count, less))) in absurd (omega (arith, less, at.count, all, many))) in
        let before : due_before options base e ≡ asks_text base style (asks_in next) e.answers =
        ap (λ t. cond t [] (due_to options base e)) not_yet ∙ ap (λ n. text_by options base e.told n e.answers) at.next_is ∙ text_is e.told e.answers keyed some in
        let after : due_to options base (longer e answers told) ≡ asks_text base style (asks_in next) (e.answers ++ answers) =
        ap (λ n. text_by options base told n (e.answers ++ answers)) at.next_is ∙ text_is told (e.answers ++ answers) keyed some in
        after ∙ more_text base style (asks_in next) e.answers answers ∙ ap (λ n. asks_text base style (asks_in next) e.answers ++ asks_text base style (drop n (asks_in next)) answers) at.count
        ∙ ap (λ text. text ++ asks_text base style (drop done (asks_in next)) answers) (sym before)

  -- Nothing is asked

  pub nothing_more : (e : Exchange) → StandsAt options base next done e → AnswersNext options base e.next (e.answers ++ [])
  nothing_more e at = subst (AnswersNext options base e.next) (sym (append-nil e.answers)) at.answers

  pub plain_is_due : (told : Told) → is_flush_all next ≡ false → asks_in next ≡ [] → done ≡ 0 → (e : Exchange) → StandsAt options base next done e
      → due_to options base (longer e [] told) ≡ due_before options base e ++ plain_text options.partitions told next
  plain_is_due told keyed none first e at =
      let whole : is_answered options e ≡ true =
      ap (λ given. length given == count_of_answers options e.next given) (nil_from_length e.answers (at.count ∙ first))
      ∙ ap (λ n. 0 == count_of_answers options n []) at.next_is ∙ ap (λ t. 0 == cond t options.partitions (length (asks_in next))) keyed ∙ ap (λ asks. 0 == length asks) none in
      let text : text_by options base told next (e.answers ++ []) ≡ plain_text options.partitions told next =
      ap (λ t. cond t (flush_text (style_of next) (length (e.answers ++ []) == options.partitions) (e.answers ++ [])) (keyed_text options.partitions base told next (asks_in next) (e.answers ++ []))) keyed
      ∙ ap (λ asks. keyed_text options.partitions base told next asks (e.answers ++ [])) none in
      ap (λ n. text_by options base told n (e.answers ++ [])) at.next_is ∙ text
      ∙ ap (λ t. cond t [] (due_to options base e) ++ plain_text options.partitions told next) (sym whole)

  pub plain_answered : (told : Told) → is_flush_all next ≡ false → asks_in next ≡ [] → done ≡ 0 → (e : Exchange) → StandsAt options base next done e
      → is_answered options (longer e [] told) ≡ true
  plain_answered told keyed none first e at =
      ap (λ given. length (given ++ []) == count_of_answers options e.next (given ++ [])) (nil_from_length e.answers (at.count ∙ first))
      ∙ ap (λ n. 0 == count_of_answers options n []) at.next_is ∙ ap (λ t. 0 == cond t options.partitions (length (asks_in next))) keyed ∙ ap (λ asks. 0 == length asks) none

-- Flushes

-- a flush asks nothing of keys
pub no_asks : (next : Next) → is_flush_all next ≡ true → asks_in next ≡ []
no_asks (Whole (Keys asks) style len last) is = absurd (true≢false (sym is))
no_asks (Whole (Flush due) style len last) is = refl
no_asks (Whole (Stats topic) style len last) is = refl
no_asks (Whole (Said says) style len last) is = refl
no_asks More is = refl

-- how many bytes are due before a flush, and after it
module _ (options : Options) (base : ℕ) (next : Next) (flushes : is_flush_all next ≡ true) (e : Exchange) (at : StandsAt options base next 0 e) (told : Told) (answers : List Answered) where
  empty : e.answers ≡ []
  empty = nil_from_length e.answers at.count

  pub flush_goes_on : ((second : ℕ) × FlushesFrom options (flush_at second (flush_due next)) 0 answers) → AnswersNext options base e.next (e.answers ++ answers)
  flush_goes_on is =
      subst (λ given. AnswersNext options base e.next (given ++ answers)) (sym empty)
      (subst (λ n. AnswersNext options base n answers) (sym at.next_is) (subst (λ t. AnswersBy t options base (flush_due next) (asks_to next answers) answers) (sym flushes) is))

  pub flush_is_due : length answers ≡ options.partitions → due_to options base (longer e answers told) ≡ due_before options base e ++ flush_text (style_of next) true answers
  flush_is_due many =
      let text : (t : Told) (given : List Answered) → text_by options base t next given ≡ flush_text (style_of next) (length given == options.partitions) given =
      λ t given. ap (λ is. cond is (flush_text (style_of next) (length given == options.partitions) given) (keyed_text options.partitions base t next (asks_in next) given)) flushes in
      let after : due_to options base (longer e answers told) ≡ flush_text (style_of next) true answers =
      ap (λ n. text_by options base told n (e.answers ++ answers)) at.next_is ∙ ap (λ given. text_by options base told next (given ++ answers)) empty ∙ text told answers
      ∙ ap (λ t. flush_text (style_of next) t answers) (eq-eqb (length answers) options.partitions many) in
      let before : due_before options base e ≡ [] =
      ap (λ n. cond (length e.answers == count_of_answers options n e.answers) [] (text_by options base e.told n e.answers)) at.next_is
      ∙ ap (λ given. cond (length given == count_of_answers options next given) [] (text_by options base e.told next given)) empty
      ∙ ap (λ t. cond (0 == cond t options.partitions (length (asks_in next))) [] (text_by options base e.told next [])) flushes
      ∙ ap (λ text. cond (0 == options.partitions) [] text) (text e.told []) ∙ none_flushed_yet next (0 == options.partitions) in
      after ∙ ap (λ text. text ++ flush_text (style_of next) true answers) (sym before)

  pub flush_answered : length answers ≡ options.partitions → is_answered options (longer e answers told) ≡ true
  flush_answered many =
      let all = e.answers ++ answers in
      let grown = length-append e.answers answers in
      ap (λ n. length all == count_of_answers options n all) at.next_is ∙ ap (λ t. length all == cond t options.partitions (length (asks_to next all))) flushes
      ∙ eq-eqb (length all) options.partitions (omega (arith, grown, at.count, many))

-- What the server tells of itself

-- what is due where that is asked: nothing is asked of keys
pub record AsksStats (next : Next) : Type 0 where
  pub keyed : is_flush_all next ≡ false
  pub none : asks_in next ≡ []
  pub due : (partitions : ℕ) (told : Told) → plain_text partitions told next ≡ stats_text (style_of next) partitions (topic_of next) told

pub of_stats : (next : Next) → asks_stats next ≡ true → AsksStats next
of_stats (Whole (Stats topic) style len last) is = record { keyed = refl; none = refl; due = λ partitions told. refl }
of_stats (Whole (Keys asks) style len last) is = absurd (true≢false (sym is))
of_stats (Whole (Flush due) style len last) is = absurd (true≢false (sym is))
of_stats (Whole (Said says) style len last) is = absurd (true≢false (sym is))
of_stats More is = absurd (true≢false (sym is))

-- What one call makes

-- nothing was answered before, where nothing is asked of keys
pub at_first : (next : Next) (done : ℕ) → IsOpenAt next done → asks_in next ≡ [] → done ≡ 0
at_first next done stands none =
    elim stands as (λ _. done ≡ 0) [ inl first ↦ first | inr less ↦ let many : length (asks_in next) ≡ 0 = ap length none in absurd (omega (arith, less, many)) ]

module _ (options : Options) (is_alone : Bool) (base second : ℕ) (next : Next) (done : ℕ) (stands : IsOpenAt next done) (old new : Sessions) where
  -- A flush

  module _ (flushes : is_flush_all next ≡ true) (answers : List Answered) (is : FlushesFrom options (flush_at second (flush_due next)) 0 answers) where
    first : done ≡ 0
    first = at_first next done stands (no_asks next flushes)

    here : (e : Exchange) → StandsAt options base next done e → StandsAt options base next 0 e
    here e at = subst (λ n. StandsAt options base next n e) first at

    pub flush_goes : AnswersInOrder options is_alone old answers new → GoesOn options is_alone base second next done old new answers
    flush_goes in_order = record {
      in_order = in_order;
      seconds = flushed_at options second (flush_due next) 0 answers is;
      next_ones = λ e at. flush_goes_on options base next flushes e (here e at) untold answers (second, is);
    }

    pub flush_replies : (limits : Limits) (before after : List ℕ) (progress : Progress) → length answers ≡ options.partitions
        → progress ≡ record { done = options.partitions; is_whole = true } → after ≡ before ++ flush_text (style_of next) true answers
        → Replies options base next done limits answers before after progress
    flush_replies limits before after progress many is_all text = record {
      text = flush_text (style_of next) true answers;
      told = untold;
      appended = text;
      due = λ e at. flush_is_due options base next flushes e (here e at) untold answers many;
      count = let done_is = ap (λ (p : Progress). p.done) is_all in omega (arith, done_is, many, first);
      whole = λ e at. flush_answered options base next flushes e (here e at) untold answers many ∙ sym (ap (λ (p : Progress). p.is_whole) is_all);
      stops = λ part. absurd (true≢false (sym (ap (λ (p : Progress). p.is_whole) is_all) ∙ part));
    }

  -- What asks nothing

  module _ (keyed : is_flush_all next ≡ false) (none : asks_in next ≡ []) where
    pub plain_goes : GoesOn options is_alone base second next done old old []
    plain_goes = record { in_order = λ q. refl; seconds = tt; next_ones = nothing_more options base next done }

    pub plain_replies : (said : Told) (limits : Limits) (before after : List ℕ) → after ≡ before ++ plain_text options.partitions said next
        → Replies options base next done limits [] before after (record { done = done; is_whole = true })
    plain_replies said limits before after text =
        let first = at_first next done stands none in record {
          text = plain_text options.partitions said next;
          told = said;
          appended = text;
          due = plain_is_due options base next done said keyed none first;
          count = omega arith;
          whole = plain_answered options base next done said keyed none first;
          stops = λ part. absurd (true≢false part);
        }

  -- Asks of keys

  module _ (keyed : is_flush_all next ≡ false) (some : 0 < length (asks_in next)) (answers : List Answered) where
    less : done < length (asks_in next)
    less = is_below next done stands some

    pub asks_go : AnswersFirst options is_alone base second (style_of next) (drop done (asks_in next)) old new answers → GoesOn options is_alone base second next done old new answers
    asks_go first = record {
      in_order = first.in_order;
      seconds = first.seconds;
      next_ones = asks_go_on options base next done untold answers keyed less first.to_asks;
    }

    pub asks_reply : (limits : Limits) (before after : List ℕ) (count : ℕ) (left : List Asked)
        → RepliesFirst base (style_of next) (drop done (asks_in next)) limits answers before after count left
        → Replies options base next done limits answers before after (record { done = done + count; is_whole = length left == 0 })
    asks_reply limits before after count left r = record {
      text = asks_text base (style_of next) (drop done (asks_in next)) answers;
      told = untold;
      appended = r.text;
      due = asks_are_due options base next done untold answers keyed stands some;
      count = ap (λ n. done + n) r.many;
      whole = λ e at. asks_answered options base next done untold answers keyed less e at ∙ sym r.whole;
      stops = λ part.
          let more = some_left left part in
          let len = length-drop done (asks_in next) in
          let rest = ap length r.left_is ∙ length-drop count (drop done (asks_in next)) in (
            inr (omega (arith, more, len, rest)),
            elim r.stops as (λ _. (length answers ≡ limits.asks) ⊎ (limits.bytes ≤ length after)) [
              | inl none ↦ absurd (true≢false (sym (ap (λ l. length l == 0) none) ∙ part))
              | inr why ↦ elim why as (λ _. (length answers ≡ limits.asks) ⊎ (limits.bytes ≤ length after)) [ inl all ↦ inl (sym r.many ∙ all) | inr full ↦ inr full ]
            ],
          );
    }
