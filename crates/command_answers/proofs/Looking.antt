-- What a look under a hold answers.
use Rattle.std.proofs.Common.{◌≡◌, ℕ, Bool, true, false, true≢false, inl, inr, cond, List, [], ◌∷◌, Option, Some, None, refl, sym, ap, ◌∙◌, subst}
use Rattle.std.proofs.lemmas.Option.{same_Some}
use Rattle.mica_words.specs.declared.hashing.Hashing.{Hashing}
use Rattle.mica_words.specs.Hash.{partition_of}
use Rattle.partition_model.specs.declared.options.Options.{Options}
use Rattle.partition_model.specs.declared.write.Answer.{Answer}
use Rattle.partition_model.specs.declared.write.Answer.TheVariants.{Hit, Miss}
use Rattle.partition_model.specs.declared.write.Outcome.{Outcome}
use Rattle.partition_model.specs.declared.write.Write.{Write}
use Rattle.partition_model.specs.Run.{RunStep}
use Rattle.partition_model.specs.Write.{is_accepted}
use Rattle.memcached_text.specs.declared.fault.Fault.TheVariants.{TooLarge}
use Rattle.memcached_text.specs.declared.item.Item.{Item}
use Rattle.memcached_text.specs.declared.command.Wants.TheVariants.{Whatever, Absent, Present, Numbered, AtLeast}
use Rattle.memcached_commands.specs.declared.ask.Ask.{Ask}
use Rattle.memcached_commands.specs.declared.ask.Ask.TheVariants.{Get, GetTouch, Leased, Store, Join, Count, Touch, Delete, Mark, Spoil}
use Rattle.memcached_commands.specs.declared.asks.Asked.{Asked}
use Rattle.memcached_commands.specs.declared.moment.Moment.{Moment}
use Rattle.memcached_commands.specs.declared.ask.Says.{Says}
use Rattle.memcached_commands.specs.declared.ask.Says.TheVariants.{Line, Refusal, Stores}
use Rattle.memcached_commands.specs.Answers.{no_room}
use Rattle.memcached_commands.specs.Moments.{end_of, found_in}
use Rattle.memcached_commands.specs.Changes.{looks}
use Rattle.memcached_commands.specs.Decide as decided
use Rattle.memcached_decisions.specs.Numbered.{Order, moment_at, value_in, becoming_by, unless_refused, says_by}
use Rattle.memcached_stats.specs.declared.counter.Counter.{Counter}
use Rattle.memcached_stats.specs.Counted.{counter_beside, counter_of_stored}
use Rattle.memcached_stats.specs.Tallies.{Numbers}
use Rattle.fronts.specs.declared.changing.Changed.{Changed}
use Rattle.fronts.specs.declared.changing.When.{When}
use Rattle.fronts.specs.Answered.{Answered, changed, kept, count_of_writes}
use Rattle.fronts.specs.Changing.{Becoming, count_of, stays, becomes, goes, write_for, write_by, IsFound, DoesWrite, ComesTo, TellsWhen}
use Rattle.fronts.specs.Looks.{Look}
use Rattle.fronts.specs.Session.{Sessions, AnswersOne, ChangesOnly}
use Rattle.fronts.proofs.WhenLaws.{told_all}
use Rattle.memcached_decisions.proofs.Becomings.{says_alike}
use Rattle.command_answers.specs.AskAnswers.{order_of, said_of, is_refused, was_refused}
use Rattle.command_answers.specs.Going.{AnswersAt, value_found}
use Rattle.command_answers.specs.Counting.{beside_of, noted_if, noted_by}

-- What is said

-- what is said does not depend on what is found, where that is not looked at
blind : (at : Moment) (ask : Ask) (one other : Option Item) → looks ask ≡ false → (decided.decide at ask one).says ≡ (decided.decide at ask other).says
unfolding decided.decide
blind at Get one other is = absurd (true≢false is)
blind at (GetTouch lifetime) one other is = absurd (true≢false is)
blind at (Leased lease) one other is = absurd (true≢false is)
blind at (Store Whatever flags lifetime value) one other is = refl
blind at (Store Absent flags lifetime value) one other is = absurd (true≢false is)
blind at (Store Present flags lifetime value) one other is = absurd (true≢false is)
blind at (Store (Numbered unique) flags lifetime value) one other is = absurd (true≢false is)
blind at (Store (AtLeast unique) flags lifetime value) one other is = absurd (true≢false is)
blind at (Join side unique more) one other is = absurd (true≢false is)
blind at (Count direction delta unique lifetime initial) one other is = absurd (true≢false is)
blind at (Touch lifetime) one other is = absurd (true≢false is)
blind at (Delete unique) one other is = absurd (true≢false is)
blind at (Mark unique lifetime) one other is = absurd (true≢false is)
blind at Spoil one other is = refl

pub says_stored : (order : Order) (when : When) (found : Option Answer) (buffer : List ℕ) (value : Option (List ℕ)) (outcome : Option Outcome)
    → IsFound (looks order.ask) found buffer value → says_by order when (value_found found buffer) outcome ≡ says_by order when value outcome
says_stored order when None buffer value outcome is =
    let at = moment_at order.base when in
    ap (unless_refused order.ask outcome) (blind at order.ask (found_in at (value_in None)) (found_in at (value_in value)) is)
says_stored order when (Some Hit) buffer value outcome is = ap (λ v. says_by order when v outcome) (sym is)
says_stored order when (Some Miss) buffer value outcome is = ap (λ v. says_by order when v outcome) (sym is.0)

-- What is counted of it

-- nor does what is counted of what is said
counted_blind : (at : Moment) (ask : Ask) (found : Option Item) (outcome : Option Outcome) (one other : Option Counter) → looks ask ≡ false
    → counter_beside (unless_refused ask outcome (decided.decide at ask found).says) one ≡ counter_beside (unless_refused ask outcome (decided.decide at ask found).says) other
unfolding decided.decide
counted_blind at Get found outcome one other is = absurd (true≢false is)
counted_blind at (GetTouch lifetime) found outcome one other is = absurd (true≢false is)
counted_blind at (Leased lease) found outcome one other is = absurd (true≢false is)
counted_blind at (Store Whatever flags lifetime value) found None one other is = refl
counted_blind at (Store Whatever flags lifetime value) found (Some outcome) one other is = accepted (is_accepted outcome)
  where
    said : Bool → Says
    said t = cond t (Stores (decided.number_until at (end_of at.second lifetime))) (Line (no_room (Store Whatever flags lifetime value)))

    accepted : (t : Bool) → counter_beside (said t) one ≡ counter_beside (said t) other
    accepted true = refl
    accepted false = refl
counted_blind at (Store Absent flags lifetime value) found outcome one other is = absurd (true≢false is)
counted_blind at (Store Present flags lifetime value) found outcome one other is = absurd (true≢false is)
counted_blind at (Store (Numbered unique) flags lifetime value) found outcome one other is = absurd (true≢false is)
counted_blind at (Store (AtLeast unique) flags lifetime value) found outcome one other is = absurd (true≢false is)
counted_blind at (Join side unique more) found outcome one other is = absurd (true≢false is)
counted_blind at (Count direction delta unique lifetime initial) found outcome one other is = absurd (true≢false is)
counted_blind at (Touch lifetime) found outcome one other is = absurd (true≢false is)
counted_blind at (Delete unique) found outcome one other is = absurd (true≢false is)
counted_blind at (Mark unique lifetime) found outcome one other is = absurd (true≢false is)
counted_blind at Spoil found None one other is = refl
counted_blind at Spoil found (Some outcome) one other is = accepted (is_accepted outcome)
  where
    accepted : (t : Bool) → counter_beside (cond t (Refusal TooLarge) (Line (no_room Spoil))) one ≡ counter_beside (cond t (Refusal TooLarge) (Line (no_room Spoil))) other
    accepted true = refl
    accepted false = refl

-- nor on how many writes there were
gone_alike : (base : ℕ) (becoming : When → Option (List ℕ) → Becoming) (told when : When) (stored : Option (List ℕ)) → TellsWhen becoming told when
    → counter_of_stored (moment_at base told) stored ≡ counter_of_stored (moment_at base when) stored
gone_alike base becoming told when stored (inl same) = ap (λ w. counter_of_stored (moment_at base w) stored) same
gone_alike base becoming told when None (inr alike) = refl
gone_alike base becoming told when (Some stored) (inr alike) = ap (λ w. counter_of_stored (moment_at base w) (Some stored)) alike.1

pub beside_stored : (order : Order) (told when : When) (found : Option Answer) (buffer : List ℕ) (value : Option (List ℕ)) (outcome : Option Outcome)
    → IsFound (looks order.ask) found buffer value → TellsWhen (becoming_by order) told when
    → counter_beside (says_by order when value outcome) (counter_of_stored (moment_at order.base told) (value_found found buffer))
    ≡ counter_beside (says_by order when value outcome) (counter_of_stored (moment_at order.base when) value)
beside_stored order told when None buffer value outcome is tells =
    counted_blind (moment_at order.base when) order.ask (found_in (moment_at order.base when) (value_in value)) outcome _ _ is
beside_stored order told when (Some Hit) buffer value outcome is tells =
    ap (counter_beside (says_by order when value outcome)) (ap (counter_of_stored (moment_at order.base told)) (sym is) ∙ gone_alike order.base (becoming_by order) told when value tells)
beside_stored order told when (Some Miss) buffer value outcome is tells =
    ap (counter_beside (says_by order when value outcome)) (ap (counter_of_stored (moment_at order.base told)) (sym is.0) ∙ gone_alike order.base (becoming_by order) told when value tells)

-- What is written

key_for : (key : List ℕ) (value : Option (List ℕ)) (becoming : Becoming) (write : Write) → write_for key value becoming ≡ Some write → write.key ≡ key
key_for key value stays write is = absurd (cc)
key_for key value (becomes next) write is = ap (λ (w : Write). w.key) (sym (same_Some _ _ is))
key_for key None goes write is = absurd (cc)
key_for key (Some value) goes write is = ap (λ (w : Write). w.key) (sym (same_Some _ _ is))

module _ (options : Options) (is_alone : Bool) (base second : ℕ) (asked : Asked) (old new : Sessions) where
  -- an answer, and what is said of it
  pub record IsAnsweredBy (changed : Changed) (buffer : List ℕ) : Type 0 where
    pub answered : Answered
    pub at : AnswersAt options is_alone base second old asked new answered
    pub said : says_by (order_of base asked) changed.when (value_found changed.found buffer) changed.outcome ≡ said_of base asked answered
    pub count : count_of_writes (answered ∷ []) ≡ count_of changed.outcome
    pub refused : is_refused answered ≡ was_refused changed.outcome
    pub beside : counter_beside (said_of base asked answered) (counter_of_stored (moment_at base changed.when) (value_found changed.found buffer)) ≡ beside_of base asked answered
    pub noted : (hashing : Hashing) (partitions : ℕ) (tally : Numbers) → noted_if hashing partitions asked.key changed.when changed.outcome changed.stamp tally ≡ noted_by hashing partitions answered tally

  pub answered_by : (c : Changed) (buffer : List ℕ)
      → ComesTo options is_alone second asked.key (looks asked.ask) (becoming_by (order_of base asked)) (old (partition_of options.hashing asked.key options.partitions)) c buffer
      (new (partition_of options.hashing asked.key options.partitions))
      → ChangesOnly (partition_of options.hashing asked.key options.partitions) old new → IsAnsweredBy c buffer
  answered_by c buffer comes others = go (write_by becoming asked.key look) c.outcome refl refl comes.does
    where
      order : Order
      order = order_of base asked

      becoming : When → Option (List ℕ) → Becoming
      becoming = becoming_by order

      look : Look
      look = comes.look

      -- what is said by what is told of it
      said : (outcome : Option Outcome) → c.outcome ≡ outcome → says_by order c.when (value_found c.found buffer) c.outcome ≡ says_by order look.when look.value outcome
      said outcome is =
          says_stored order c.when c.found buffer look.value c.outcome comes.found
          ∙ says_alike order c.when look.when look.value c.outcome comes.tells ∙ ap (says_by order look.when look.value) is

      go : (write : Option Write) (outcome : Option Outcome) → write_by becoming asked.key look ≡ write → c.outcome ≡ outcome
          → DoesWrite options is_alone (old (partition_of options.hashing asked.key options.partitions)) asked.key write outcome c.stamp look (new (partition_of options.hashing asked.key options.partitions))
          → IsAnsweredBy c buffer
      go None None writes is does = record {
        answered = kept asked.key c.stamp look;
        at = record { one = record { one = does; others = others }; to_ask = (refl, writes); at = ap Some comes.at };
        said = said None is;
        count = sym (ap count_of is);
        refused = sym (ap was_refused is);
        beside = beside_stored order c.when look.when c.found buffer look.value None comes.found comes.tells;
        noted = λ hashing partitions tally. ap (λ o. noted_if hashing partitions asked.key c.when o c.stamp tally) is;
      }
      go None (Some outcome) writes is does = absurd does
      go (Some write) None writes is does = absurd does
      go (Some write) (Some outcome) writes is does =
          let key = key_for asked.key look.value (becoming look.when look.value) write writes in
          let when = told_all becoming c.when asked.key look write writes comes.tells in
          let step : RunStep = record { write = write; outcome = outcome; stamp = c.stamp } in record {
            answered = changed step look;
            at = record {
              one = record {
                one = subst (λ (k : List ℕ). AnswersOne options is_alone (old (partition_of options.hashing k options.partitions)) (changed step look) (new (partition_of options.hashing k options.partitions)))
                    (sym key) does;
                others = subst (λ (k : List ℕ). ChangesOnly (partition_of options.hashing k options.partitions) old new) (sym key) others;
              };
              to_ask = writes;
              at = ap Some comes.at;
            };
            said = said (Some outcome) is;
            count = sym (ap count_of is);
            refused = sym (ap was_refused is);
            beside = beside_stored order c.when look.when c.found buffer look.value (Some outcome) comes.found comes.tells;
            noted = λ hashing partitions tally i. noted_if hashing partitions (sym key i) (when i) (is i) c.stamp tally;
          }
