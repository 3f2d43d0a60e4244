-- What was talked with a client, by answers, is a talk on the page, by deeds.
use Rattle.std.specs.Prelude.{⊤, ◌&&◌, ◌||◌, not, nat_le, filter_map, flat_map}
use Rattle.std.specs.List.{AllZip, list_all}
use Rattle.std.proofs.Common.{◌≡◌, ◌==◌, inl, inr, ℕ, suc, Bool, true, false, cond, List, [], ◌∷◌, ◌++◌, length, take, drop, map, Some, refl, sym, ap, subst, ◌∙◌, append-nil, arith, length-append}
use Rattle.std.proofs.lemmas.List.{length-map}
use Rattle.std.proofs.Math.Dec.{eqb-suc-zero}
use Rattle.std.proofs.lemmas.Bool.{le-leb, leb-true, leb-false}
use Rattle.partition_model.specs.declared.options.Options.{Options}
use Rattle.partition_model.specs.Write.{is_accepted}
use Rattle.memcached_text.specs.declared.reply.Reply.TheVariants.{Done as Okay, NoRoom}
use Rattle.memcached_commands.specs.declared.asks.Asked.{Asked}
use Rattle.memcached_commands.specs.declared.ask.Says.{Says}
use Rattle.memcached_commands.specs.declared.ask.Says.TheVariants.{Line}
use Rattle.memcached_commands.specs.Moments.{found_in}
use Rattle.memcached_commands.specs.Answers.{no_room}
use Rattle.memcached_requests.specs.declared.request.Next.{Next}
use Rattle.memcached_requests.specs.declared.request.Style.{Style}
use Rattle.memcached_requests.specs.Replies.{said_text}
use Rattle.memcached_requests.specs.Requests.{asks_in, is_last, len_of}
use Rattle.memcached_stats.specs.Stats.{Told}
use Rattle.memcached_decisions.specs.Numbered.{moment_at, value_in}
use Rattle.fronts.specs.declared.flushes.Flush.{Flush}
use Rattle.fronts.specs.Answered.{Answered, wrote, got, changed, kept, accepts, partition_in}
use Rattle.command_answers.specs.Seconds.{second_in}
use Rattle.command_answers.specs.AskAnswers.{AnswersAsk, AnswersAsks, is_refused, is_set, spoiled, asks_with, asks_by, asks_text, said_of}
use Rattle.command_answers.specs.FlushAnswers.{FlushesFrom, flush_at}
use Rattle.command_answers.specs.Exchange as front
use Rattle.command_answers.specs.Exchange.{is_flush_all, flush_due, style_of, plain_text, AnswersBy, keyed_text}
use Rattle.command_answers.specs.Spells.{MayGoOn, Spells, answers_to_all, due_to_all}
use Rattle.memcached_page.specs.Course.{Deed, carried, flushed, went, lost, moved, is_no_room}
use Rattle.memcached_page.specs.Exchange.{Exchange, refuses, asks_to, CarryAsks, FlushParts, CarryOut, is_done, said_in, took, saids_text, flush_text, text_for, due_to}
use Rattle.memcached_page.specs.Talk.{ReadAs, MayBeFollowed, due_in_all, wants_end, Talks}
use Rattle.connection_loop.specs.Talk.{Talk, has_left}
use Rattle.part_courses.specs.Courses.{Purpose, asks, flushes}
use Rattle.part_courses.proofs.Refusals.{has_room}
use Rattle.part_courses.proofs.Written.{refused_line}
use Rattle.client_stories.proofs.Purposes.{asked_of, flush_by, purposes_by, purposes_in, purposes_of}

module _ (options : Options) (base : ℕ) where
  -- the deed that an answer came to, for what it was given for
  abbrev pub IsDeedOf : Answered → Purpose → Deed → Type 0
  IsDeedOf a (asks asked) (carried second number own says) = (own ≡ asked) × (says ≡ said_of base asked a) × (second_in options a ≡ Some second)
  IsDeedOf a (flushes flush) (flushed part number own accepted) = (own ≡ flush) × (part ≡ partition_in options a) × (accepted ≡ accepts a)
  IsDeedOf a _ _ = ⊥

  abbrev pub AreDeeds : List Answered → List Purpose → List Deed → Type 0
  AreDeeds [] [] [] = ⊤
  AreDeeds (a ∷ answers) (x ∷ purposes) (d ∷ deeds) = IsDeedOf a x d × AreDeeds answers purposes deeds
  AreDeeds _ _ _ = ⊥

  pub deeds_long : (answers : List Answered) (purposes : List Purpose) (deeds : List Deed) → AreDeeds answers purposes deeds → (length deeds ≡ length answers) × (length purposes ≡ length answers)
  deeds_long [] [] [] are = (refl, refl)
  deeds_long [] [] (d ∷ deeds) are = absurd are
  deeds_long [] (x ∷ purposes) deeds are = absurd are
  deeds_long (a ∷ answers) [] deeds are = absurd are
  deeds_long (a ∷ answers) (x ∷ purposes) [] are = absurd are
  deeds_long (a ∷ answers) (x ∷ purposes) (d ∷ deeds) are = let rest = deeds_long answers purposes deeds are.1 in (omega (arith, rest.0), omega (arith, rest.1))

  record DeedsParted (xa bs : List Answered) (xs ys : List Purpose) (deeds : List Deed) : Type 0 where
    pub first : List Deed
    pub later : List Deed
    pub whole : deeds ≡ first ++ later
    pub firsts : AreDeeds xa xs first
    pub laters : AreDeeds bs ys later

  deeds_parted : (xa bs : List Answered) (xs ys : List Purpose) (deeds : List Deed) → length xs ≡ length xa → AreDeeds (xa ++ bs) (xs ++ ys) deeds → DeedsParted xa bs xs ys deeds
  deeds_parted [] bs [] ys deeds long are = record { first = []; later = deeds; whole = refl; firsts = tt; laters = are }
  deeds_parted [] bs (x ∷ xs) ys deeds long are = absurd (omega (arith, long))
  deeds_parted (a ∷ xa) bs [] ys deeds long are = absurd (omega (arith, long))
  deeds_parted (a ∷ xa) bs (x ∷ xs) ys [] long are = absurd are
  deeds_parted (a ∷ xa) bs (x ∷ xs) ys (d ∷ deeds) long are =
      let p = deeds_parted xa bs xs ys deeds (omega (arith, long)) are.1 in
      record { first = d ∷ p.first; later = p.later; whole = ap (λ l. d ∷ l) p.whole; firsts = (are.0, p.firsts); laters = p.laters }

  -- Carried out

  refused_alike : (asked : Asked) (a : Answered) → AnswersAsk base asked a → is_no_room (said_of base asked a) ≡ is_refused a
  refused_alike asked (wrote step) is = absurd is
  refused_alike asked (got key stamp value) is = absurd is
  refused_alike asked (kept key stamp look) is = has_room (moment_at base look.when) asked.ask (found_in (moment_at base look.when) (value_in look.value))
  refused_alike asked (changed step look) is = by (is_accepted step.outcome)
    where
      says : Says
      says = said_of base asked (kept asked.key 0 look)

      by : (b : Bool) → is_no_room (cond b says (Line (no_room asked.ask))) ≡ not b
      by true = has_room (moment_at base look.when) asked.ask (found_in (moment_at base look.when) (value_in look.value))
      by false = refused_line asked.ask

  abbrev AreAlike : List Answered → List Deed → Type 0
  AreAlike answers deeds = AllZip (λ a d. refuses d ≡ is_refused a) answers deeds

  deed_alike : (asked : Asked) (a : Answered) (d : Deed) → AnswersAsk base asked a → IsDeedOf a (asks asked) d → refuses d ≡ is_refused a
  deed_alike asked a (carried second number own says) is deed = ap is_no_room deed.1 ∙ refused_alike asked a is
  deed_alike asked a (flushed part number own accepted) is deed = absurd deed
  deed_alike asked a (went second key) is deed = absurd deed
  deed_alike asked a (lost key) is deed = absurd deed
  deed_alike asked a (moved key) is deed = absurd deed

  all_alike : (all : List Asked) (answers : List Answered) (deeds : List Deed) → AnswersAsks base all answers → AreDeeds answers (asked_of all answers) deeds → AreAlike answers deeds
  all_alike all [] [] is are = tt
  all_alike all [] (d ∷ deeds) is are = absurd are
  all_alike [] (a ∷ answers) deeds is are = absurd is
  all_alike (asked ∷ all) (a ∷ answers) [] is are = absurd are
  all_alike (asked ∷ all) (a ∷ answers) (d ∷ deeds) is are = (deed_alike asked a d is.0 are.0, all_alike all answers deeds is.1 are.1)

  same_asks : (style : Style) (all : List Asked) (answers : List Answered) (deeds : List Deed) → AreAlike answers deeds → asks_with refuses style all deeds ≡ asks_with is_refused style all answers
  same_asks style all [] [] alike = refl
  same_asks style all [] (d ∷ deeds) alike = absurd alike
  same_asks style all (a ∷ answers) [] alike = absurd alike
  same_asks style [] (a ∷ answers) (d ∷ deeds) alike = refl
  same_asks style (asked ∷ []) (a ∷ answers) (d ∷ deeds) alike = ap (λ b. asked ∷ cond (b && is_set style asked.ask) (spoiled asked ∷ []) []) alike.0
  same_asks style (asked ∷ next ∷ all) (a ∷ answers) (d ∷ deeds) alike = ap (λ l. asked ∷ l) (same_asks style (next ∷ all) answers deeds alike.1)

  carry_asks : (all : List Asked) (answers : List Answered) (deeds : List Deed) → AnswersAsks base all answers → AreDeeds answers (asked_of all answers) deeds → CarryAsks all deeds
  carry_asks all [] [] is are = tt
  carry_asks all [] (d ∷ deeds) is are = absurd are
  carry_asks [] (a ∷ answers) deeds is are = absurd is
  carry_asks (asked ∷ all) (a ∷ answers) [] is are = absurd are
  carry_asks (asked ∷ all) (a ∷ answers) (carried second number own says ∷ deeds) is are = (are.0.0, carry_asks all answers deeds is.1 are.1)
  carry_asks (asked ∷ all) (a ∷ answers) (flushed part number own accepted ∷ deeds) is are = absurd are.0
  carry_asks (asked ∷ all) (a ∷ answers) (went second key ∷ deeds) is are = absurd are.0
  carry_asks (asked ∷ all) (a ∷ answers) (lost key ∷ deeds) is are = absurd are.0
  carry_asks (asked ∷ all) (a ∷ answers) (moved key ∷ deeds) is are = absurd are.0

  flush_parts : (flush : Flush) (k : ℕ) (answers : List Answered) (deeds : List Deed) → FlushesFrom options flush k answers → AreDeeds answers (map flush_by answers) deeds → FlushParts flush k deeds
  flush_parts flush k [] [] is are = tt
  flush_parts flush k [] (d ∷ deeds) is are = absurd are
  flush_parts flush k (a ∷ answers) [] is are = absurd are
  flush_parts flush k (wrote step ∷ answers) (flushed part number own accepted ∷ deeds) is are =
      (are.0.1 ∙ is.0.2, are.0.0 ∙ is.0.1, flush_parts flush (suc k) answers deeds is.1 are.1)
  flush_parts flush k (wrote step ∷ answers) (carried second number own says ∷ deeds) is are = absurd are.0
  flush_parts flush k (wrote step ∷ answers) (went second key ∷ deeds) is are = absurd are.0
  flush_parts flush k (wrote step ∷ answers) (lost key ∷ deeds) is are = absurd are.0
  flush_parts flush k (wrote step ∷ answers) (moved key ∷ deeds) is are = absurd are.0
  flush_parts flush k (got key stamp value ∷ answers) deeds is are = absurd is.0
  flush_parts flush k (changed step look ∷ answers) deeds is are = absurd is.0
  flush_parts flush k (kept key stamp look ∷ answers) deeds is are = absurd is.0

  took_alike : (answers : List Answered) (deeds : List Deed) → AreDeeds answers (map flush_by answers) deeds → list_all took deeds ≡ list_all accepts answers
  took_alike [] [] are = refl
  took_alike [] (d ∷ deeds) are = absurd are
  took_alike (a ∷ answers) [] are = absurd are
  took_alike (wrote step ∷ answers) (flushed part number own accepted ∷ deeds) are = ap (λ b. b && list_all took deeds) are.0.2 ∙ ap (λ b. is_accepted step.outcome && b) (took_alike answers deeds are.1)
  took_alike (wrote step ∷ answers) (carried second number own says ∷ deeds) are = absurd are.0
  took_alike (wrote step ∷ answers) (went second key ∷ deeds) are = absurd are.0
  took_alike (wrote step ∷ answers) (lost key ∷ deeds) are = absurd are.0
  took_alike (wrote step ∷ answers) (moved key ∷ deeds) are = absurd are.0
  took_alike (got key stamp value ∷ answers) (d ∷ deeds) are = absurd are.0
  took_alike (changed step look ∷ answers) (d ∷ deeds) are = absurd are.0
  took_alike (kept key stamp look ∷ answers) (d ∷ deeds) are = absurd are.0

  -- Due

  abbrev saids : List Asked → List Answered → List (List ℕ × Says)
  saids [] answers = []
  saids (asked ∷ all) [] = []
  saids (asked ∷ all) (a ∷ answers) = (asked.key, said_of base asked a) ∷ saids all answers

  saids_are : (style : Style) (all : List Asked) (answers : List Answered) (deeds : List Deed) → AreDeeds answers (asked_of (asks_by style all answers) answers) deeds
      → take (length all) (filter_map said_in deeds) ≡ saids all answers
  saids_are style [] answers deeds are = refl
  saids_are style (asked ∷ all) [] [] are = refl
  saids_are style (asked ∷ all) [] (d ∷ deeds) are = absurd are
  saids_are style (asked ∷ []) (a ∷ answers) [] are = absurd are
  saids_are style (asked ∷ []) (a ∷ answers) (carried second number own says ∷ deeds) are = λ i. ((are.0.0 i).key, are.0.1 i) ∷ []
  saids_are style (asked ∷ []) (a ∷ answers) (flushed part number own accepted ∷ deeds) are = absurd are.0
  saids_are style (asked ∷ []) (a ∷ answers) (went second key ∷ deeds) are = absurd are.0
  saids_are style (asked ∷ []) (a ∷ answers) (lost key ∷ deeds) are = absurd are.0
  saids_are style (asked ∷ []) (a ∷ answers) (moved key ∷ deeds) are = absurd are.0
  saids_are style (asked ∷ next ∷ all) (a ∷ answers) [] are = absurd are
  saids_are style (asked ∷ next ∷ all) (a ∷ answers) (carried second number own says ∷ deeds) are =
      let rest = saids_are style (next ∷ all) answers deeds are.1 in λ i. ((are.0.0 i).key, are.0.1 i) ∷ rest i
  saids_are style (asked ∷ next ∷ all) (a ∷ answers) (flushed part number own accepted ∷ deeds) are = absurd are.0
  saids_are style (asked ∷ next ∷ all) (a ∷ answers) (went second key ∷ deeds) are = absurd are.0
  saids_are style (asked ∷ next ∷ all) (a ∷ answers) (lost key ∷ deeds) are = absurd are.0
  saids_are style (asked ∷ next ∷ all) (a ∷ answers) (moved key ∷ deeds) are = absurd are.0

  le_suc : (m n : ℕ) → nat_le (suc m) (suc n) ≡ nat_le m n
  le_suc m n = go (nat_le m n) refl
    where
      go : (b : Bool) → nat_le m n ≡ b → nat_le (suc m) (suc n) ≡ nat_le m n
      go true is = let le = leb-true m n is in le-leb (suc m) (suc n) (omega (arith, le)) ∙ sym is
      go false is = by (nat_le (suc m) (suc n)) refl
        where
          by : (c : Bool) → nat_le (suc m) (suc n) ≡ c → nat_le (suc m) (suc n) ≡ nat_le m n
          by true le = absurd (let a = leb-true (suc m) (suc n) le in let b = leb-false m n is in omega (arith, a, b))
          by false gt = gt ∙ sym is

  no_text : (style : Style) (answers : List Answered) → [] ≡ asks_text base style [] answers
  no_text style [] = refl
  no_text style (a ∷ answers) = refl

  not_last : (m : ℕ) → nat_le (suc (suc m)) 1 ≡ false
  not_last m = by (nat_le (suc (suc m)) 1) refl
    where
      by : (b : Bool) → nat_le (suc (suc m)) 1 ≡ b → nat_le (suc (suc m)) 1 ≡ false
      by true le = absurd (let is = leb-true (suc (suc m)) 1 le in omega (arith, is))
      by false is = is

  texts_are : (style : Style) (all : List Asked) (answers : List Answered) → saids_text style (nat_le (length all) (length answers)) (saids all answers) ≡ asks_text base style all answers
  texts_are style [] answers = no_text style answers
  texts_are style (asked ∷ all) [] = refl
  texts_are style (asked ∷ []) (a ∷ answers) =
      ap (λ b. said_text style b asked.key (said_of base asked a)) (le-leb 1 (suc (length answers)) (omega arith)) ∙ sym (append-nil (said_text style true asked.key (said_of base asked a)))
      ∙ ap (λ l. said_text style true asked.key (said_of base asked a) ++ l) (no_text style answers)
  texts_are style (asked ∷ next ∷ all) (a ∷ []) =
      ap (λ b. said_text style b asked.key (said_of base asked a)) (not_last (length all)) ∙ sym (append-nil (said_text style false asked.key (said_of base asked a)))
      ∙ ap (λ b. said_text style b asked.key (said_of base asked a) ++ []) (sym (eqb-suc-zero (length all)))
  texts_are style (asked ∷ next ∷ all) (a ∷ b ∷ answers) =
      ap (λ t. said_text style false asked.key (said_of base asked a) ++ saids_text style t (saids (next ∷ all) (b ∷ answers))) (le_suc (suc (length all)) (suc (length answers)))
      ∙ ap (λ l. said_text style false asked.key (said_of base asked a) ++ l) (texts_are style (next ∷ all) (b ∷ answers))
      ∙ ap (λ t. said_text style t asked.key (said_of base asked a) ++ asks_text base style (next ∷ all) (b ∷ answers)) (sym (eqb-suc-zero (length all)))

  -- One exchange

  abbrev pub as_deeds : front.Exchange → List Deed → Exchange
  as_deeds e deeds = record { next = e.next; deeds = deeds; told = e.told; lacked = false }

  pub carries : (b : Bool) (next : Next) (answers : List Answered) (deeds : List Deed) → AnswersBy b options base (flush_due next) (front.asks_to next answers) answers
      → AreDeeds answers (purposes_by b (style_of next) (asks_in next) answers) deeds → CarryOut b next deeds
  carries true next answers deeds is are = (is.0, flush_parts (flush_at is.0 (flush_due next)) 0 answers deeds is.1 are)
  carries false next answers deeds is are =
      subst (λ l. CarryAsks l deeds) (sym (same_asks (style_of next) (asks_in next) answers deeds (all_alike (front.asks_to next answers) answers deeds is are)))
      (carry_asks (front.asks_to next answers) answers deeds is are)

  counts_alike : (b : Bool) (next : Next) (answers : List Answered) (deeds : List Deed) → AnswersBy b options base (flush_due next) (front.asks_to next answers) answers
      → AreDeeds answers (purposes_by b (style_of next) (asks_in next) answers) deeds
      → (length deeds == cond b options.partitions (length (asks_to next deeds))) ≡ (length answers == cond b options.partitions (length (front.asks_to next answers)))
  counts_alike true next answers deeds is are = ap (λ n. n == options.partitions) (deeds_long answers _ deeds are).0
  counts_alike false next answers deeds is are =
      let long = (deeds_long answers (asked_of (front.asks_to next answers) answers) deeds are).0 in
      let same = same_asks (style_of next) (asks_in next) answers deeds (all_alike (front.asks_to next answers) answers deeds is are) in
      λ i. long i == length (same i)

  pub done_alike : (e : front.Exchange) (deeds : List Deed) → front.AnswersNext options base e.next e.answers → AreDeeds e.answers (purposes_in e) deeds
      → is_done options.partitions (as_deeds e deeds) ≡ front.is_answered options e
  done_alike e deeds is are = counts_alike (is_flush_all e.next) e.next e.answers deeds is are

  text_alike : (next : Next) (told : Told) (answers : List Answered) (deeds : List Deed) (all : List Asked) → AreDeeds answers (asked_of (asks_by (style_of next) all answers) answers) deeds
      → text_for options.partitions (record { next = next; deeds = deeds; told = told; lacked = false }) all ≡ keyed_text options.partitions base told next all answers
  text_alike next told answers deeds [] are = refl
  text_alike next told answers deeds (asked ∷ later) are =
      let long = (deeds_long answers _ deeds are).0 in
      ap (λ (w : ℕ × List (List ℕ × Says)). saids_text (style_of next) (nat_le (length (asked ∷ later)) w.0) w.1) (λ i. (long i, saids_are (style_of next) (asked ∷ later) answers deeds are i))
      ∙ texts_are (style_of next) (asked ∷ later) answers

  due_by : (b : Bool) (next : Next) (told : Told) (answers : List Answered) (deeds : List Deed) → AnswersBy b options base (flush_due next) (front.asks_to next answers) answers
      → AreDeeds answers (purposes_by b (style_of next) (asks_in next) answers) deeds
      → cond b (flush_text (style_of next) (length deeds == cond b options.partitions (length (asks_to next deeds))) deeds) (text_for options.partitions (record { next = next; deeds = deeds; told = told; lacked = false }) (asks_in next))
      ≡ cond b (front.flush_text (style_of next) (length answers == options.partitions) answers) (keyed_text options.partitions base told next (asks_in next) answers)
  due_by true next told answers deeds is are =
      let long = (deeds_long answers _ deeds are).0 in
      ap (λ n. flush_text (style_of next) (n == options.partitions) deeds) long ∙ by (length answers == options.partitions)
    where
      by : (b : Bool) → flush_text (style_of next) b deeds ≡ front.flush_text (style_of next) b answers
      by true = ap (λ b. said_text (style_of next) true [] (Line (cond b Okay NoRoom))) (took_alike answers deeds are)
      by false = refl
  due_by false next told answers deeds is are = text_alike next told answers deeds (asks_in next) are

  pub due_alike : (e : front.Exchange) (deeds : List Deed) → front.AnswersNext options base e.next e.answers → AreDeeds e.answers (purposes_in e) deeds
      → due_to options.partitions (as_deeds e deeds) ≡ front.due_to options base e
  due_alike e deeds is are = due_by (is_flush_all e.next) e.next e.told e.answers deeds is are

  -- All exchanges

  asked_long : (all : List Asked) (answers : List Answered) → AnswersAsks base all answers → length (asked_of all answers) ≡ length answers
  asked_long all [] is = refl
  asked_long [] (a ∷ answers) is = absurd is
  asked_long (asked ∷ all) (a ∷ answers) is = let rest = asked_long all answers is.1 in omega (arith, rest)

  long_by : (b : Bool) (next : Next) (answers : List Answered) → AnswersBy b options base (flush_due next) (front.asks_to next answers) answers → length (purposes_by b (style_of next) (asks_in next) answers) ≡ length answers
  long_by true next answers is = length-map answers flush_by
  long_by false next answers is = asked_long (front.asks_to next answers) answers is

  pub purposes_long : (bytes : List ℕ) (said : List front.Exchange) (rest : List ℕ) → Spells options base bytes said rest → length (purposes_of said) ≡ length (answers_to_all said)
  purposes_long bytes [] rest spells = refl
  purposes_long bytes (e ∷ said) rest spells =
      let first = long_by (is_flush_all e.next) e.next e.answers spells.0.answers in
      let later = purposes_long (drop (len_of e.next) bytes) said rest spells.2 in
      let here = length-append (purposes_in e) (purposes_of said) in
      let there = length-append e.answers (answers_to_all said) in
      omega (arith, first, later, here, there)

  abbrev Alike : front.Exchange → Exchange → Type 0
  Alike old new = (new.next ≡ old.next) × (is_done options.partitions new ≡ front.is_answered options old)

  pub record Paged (bytes : List ℕ) (said : List front.Exchange) (rest : List ℕ) (deeds : List Deed) : Type 0 where
    pub exchanges : List Exchange
    pub reads : ReadAs options.partitions bytes exchanges rest
    pub done : flat_map (λ e. e.deeds) exchanges ≡ deeds
    pub due : due_in_all options.partitions exchanges ≡ due_to_all options base said
    pub alike : AllZip Alike said exchanges

  none_paged : (said : List front.Exchange) (exchanges : List Exchange) → AllZip Alike said exchanges → said ≡ [] → exchanges ≡ []
  none_paged [] [] alike none = refl
  none_paged [] (e ∷ exchanges) alike none = absurd alike
  none_paged (e ∷ said) exchanges alike none = absurd (cc)

  pub paged : (bytes : List ℕ) (said : List front.Exchange) (rest : List ℕ) (deeds : List Deed) → Spells options base bytes said rest → AreDeeds (answers_to_all said) (purposes_of said) deeds
      → Paged bytes said rest deeds
  paged bytes [] rest [] spells are = record { exchanges = []; reads = spells; done = refl; due = refl; alike = tt }
  paged bytes [] rest (d ∷ deeds) spells are = absurd are
  paged bytes (e ∷ said) rest deeds spells are = more (paged (drop (len_of e.next) bytes) said rest p.later spells.2 p.laters)
    where
      p : DeedsParted e.answers (answers_to_all said) (purposes_in e) (purposes_of said) deeds
      p = deeds_parted e.answers (answers_to_all said) (purposes_in e) (purposes_of said) deeds (long_by (is_flush_all e.next) e.next e.answers spells.0.answers) are

      whole : is_done options.partitions (as_deeds e p.first) ≡ front.is_answered options e
      whole = done_alike e p.first spells.0.answers p.firsts

      follows : (exchanges : List Exchange) → AllZip Alike said exchanges → MayBeFollowed options.partitions (as_deeds e p.first) exchanges
      follows exchanges alike = elim spells.1 [
        | inl none ↦ inl (none_paged said exchanges alike none)
        | inr goes ↦ inr (whole ∙ goes.0, goes.1)
      ]

      more : Paged (drop (len_of e.next) bytes) said rest p.later → Paged bytes (e ∷ said) rest deeds
      more later = record {
        exchanges = as_deeds e p.first ∷ later.exchanges;
        reads = (
          record { next = spells.0.next; some = spells.0.some; carried_out = carries (is_flush_all e.next) e.next e.answers p.first spells.0.answers p.firsts; held = refl },
          follows later.exchanges later.alike,
          later.reads,
        );
        done = ap (λ l. p.first ++ l) later.done ∙ sym p.whole;
        due = ap (λ l. l ++ due_in_all options.partitions later.exchanges) (due_alike e p.first spells.0.answers p.firsts) ∙ ap (λ l. front.due_to options base e ++ l) later.due;
        alike = ((refl, whole), later.alike);
      }

  -- What ends a talk

  or_true : (b : Bool) → (b || true) ≡ true
  or_true true = refl
  or_true false = refl

  pub has_left_so : (said : List front.Exchange) (exchanges : List Exchange) → AllZip Alike said exchanges → has_left said ≡ true → wants_end exchanges ≡ true
  has_left_so [] exchanges alike left = absurd (cc)
  has_left_so (e ∷ said) [] alike left = absurd alike
  has_left_so (e ∷ []) (new ∷ exchanges) alike left = ap (λ t. t || wants_end exchanges) (ap is_last alike.0.0 ∙ left)
  has_left_so (e ∷ other ∷ said) (new ∷ exchanges) alike left = ap (λ t. is_last new.next || t) (has_left_so (other ∷ said) exchanges alike.1 left) ∙ or_true (is_last new.next)

  pub all_done_so : (bytes : List ℕ) (said : List front.Exchange) (rest : List ℕ) (exchanges : List Exchange) → Spells options base bytes said rest → AllZip Alike said exchanges → MayGoOn options said
      → (list_all (is_done options.partitions) exchanges ≡ true) × (wants_end exchanges ≡ false)
  all_done_so bytes [] rest [] spells alike goes = (refl, refl)
  all_done_so bytes [] rest (new ∷ exchanges) spells alike goes = absurd alike
  all_done_so bytes (e ∷ said) rest [] spells alike goes = absurd alike
  all_done_so bytes (e ∷ []) rest (new ∷ exchanges) spells alike goes =
      let later = all_done_so (drop (len_of e.next) bytes) [] rest exchanges spells.2 alike.1 tt in
      (ap (λ t. t && list_all (is_done options.partitions) exchanges) (alike.0.1 ∙ goes.0) ∙ later.0, ap (λ t. t || wants_end exchanges) (ap is_last alike.0.0 ∙ goes.1) ∙ later.1)
  all_done_so bytes (e ∷ other ∷ said) rest (new ∷ exchanges) spells alike goes = elim spells.1 [
    | inl none ↦ absurd (cc)
    | inr whole ↦
        let later = all_done_so (drop (len_of e.next) bytes) (other ∷ said) rest exchanges spells.2 alike.1 goes in
        (ap (λ t. t && list_all (is_done options.partitions) exchanges) (alike.0.1 ∙ whole.0) ∙ later.0, ap (λ t. t || wants_end exchanges) (ap is_last alike.0.0 ∙ whole.1) ∙ later.1)
  ]

  -- A talk

  pub record OnPage (received sent : List ℕ) (deeds : List Deed) (said : List front.Exchange) (rest : List ℕ) : Type 0 where
    pub talk : Talks options.partitions received sent deeds
    pub rest_is : talk.rest ≡ rest
    pub due : due_in_all options.partitions talk.said ≡ due_to_all options base said
    pub alike : AllZip Alike said talk.said

  pub on_page : (received sent : List ℕ) (answers : List Answered) (talk : Talk options base received sent answers) (deeds : List Deed) → AreDeeds answers (purposes_of talk.said) deeds
      → OnPage received sent deeds talk.said talk.rest
  on_page received sent answers talk deeds are =
      let page = paged received talk.said talk.rest deeds talk.spells (subst (λ l. AreDeeds l (purposes_of talk.said) deeds) (sym talk.answered) are) in
      record {
        talk = record { said = page.exchanges; rest = talk.rest; reads = page.reads; done = page.done; unsent = talk.begins.0; begins = page.due ∙ talk.begins.1 };
        rest_is = refl;
        due = page.due;
        alike = page.alike;
      }
