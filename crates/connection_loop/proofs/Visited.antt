-- What a visit makes of a talk, by what each part of it did.
use Rattle.std.proofs.Common.{◌≡◌, ◌≢◌, ℕ, ◌+◌, ◌*◌, ◌<◌, ◌≤◌, inl, inr, Bool, true, false, true≢false, List, [], ◌++◌, length, take, drop, refl, sym, ap, ◌∙◌, subst, arith, length-append}
use Rattle.std.specs.Prelude.{slice_get, Option, Some, None, IfSome, Ok, Err}
use Rattle.std.proofs.lemmas.List.{append-nil, take-append-drop}
use Rattle.partition_model.specs.declared.options.Options.{Options}
use Rattle.memcached_text.specs.declared.limits.TheConstants.{MAX_WAITING_LEN}
use Rattle.memcached_requests.specs.Next.{next_of}
use Rattle.connections.specs.declared.schedule.Step.{Step}
use Rattle.connections.specs.declared.connections.Broken.{Broken}
use Rattle.connections.specs.declared.connections.Input.{Input}
use Rattle.connections.specs.declared.connections.Input.TheVariants.{Bytes, All, Later, Ended}
use Rattle.connections.specs.Log.{Log, state_of, connections_of, received_of, second_of, sent_of}
use Rattle.fronts.specs.Answered.{Answered}
use Rattle.command_answers.specs.Seconds.{AreAt}
use Rattle.connection_loop.specs.declared.answer.Halt.{Halt}
use Rattle.connection_loop.specs.declared.answer.Halt.TheVariants.{Needs, Enough, Leaves}
use Rattle.connection_loop.specs.declared.client.Client.{Client}
use Rattle.connection_loop.specs.declared.desk.TheConstants.{MOST_UNSENT}
use Rattle.connection_loop.specs.declared.visit.After.{After}
use Rattle.connection_loop.specs.declared.visit.After.TheVariants.{Waits, Again, Over}
use Rattle.connection_loop.specs.Given.{Given, given_to}
use Rattle.connection_loop.specs.Reached.{Position, Reaches, Ends, HaltsAs, Spoke, position_of}
use Rattle.connection_loop.specs.Closing.{MayClose}
use Rattle.connection_loop.specs.Moments.{TalksThrough, is_timed}
use Rattle.connection_loop.specs.Turns.{moved, most_answers}
use Rattle.connection_loop.specs.Clients.{IsClient}
use Rattle.connection_loop.specs.Traffic.{Sends, SendsFrom, Reads, IsIn, HasEnded, EndsBy, is_drained}
use Rattle.connection_loop.specs.Resting.{idle, Rests}
use Rattle.connection_loop.specs.Held.{IsAtRest, KeepsWhole, Passes, Holds, goes_on, left, ended, all_to, Becomes, Visits, leaves_by, Looks, Lacks, VisitLacks}
use Rattle.connection_loop.proofs.Talking.{may_leave, may_end}
use Rattle.connection_loop.proofs.Staying.{passes_then, passes_sends, passes_reads, looks_passes}
use Rattle.connection_loop.proofs.Earning.{looked_earns}
use Rattle.connection_loop.proofs.Drying.{sends_ended}
use Rattle.connection_loop.proofs.Moments.{given_more}
use Rattle.connection_loop.proofs.Visiting.{if_some, for_any, ends_on, ends_drained, rests_shut, Stage, stage_held, stage_sent, due_same, received_same, stage_breaks, stage_read, received_now, sent_now, stage_answered, stage_lacking}

waits_not_over : Waits ≢ Over
waits_not_over is = cc

waits_not_again : Waits ≢ Again
waits_not_again is = cc

over_not_again : Over ≢ Again
over_not_again is = cc

module _ (options : Options) (base : ℕ) where
  -- What is said of some bytes and answers is said of equal ones

  reaches_as : {position p : Position} {received r : List ℕ} {given : List Answered} {due d : List ℕ} → p ≡ position → r ≡ received → d ≡ due → Reaches options base position received given due
      → Reaches options base p r given d
  reaches_as {position} {p} {received} {r} {given} {due} {d} p_is r_is d_is at =
      subst (λ x. Reaches options base x r given d) (sym p_is) (subst (λ x. Reaches options base position x given d) (sym r_is)
      (subst (λ x. Reaches options base position received given x) (sym d_is) at))

  ends_as : {most : ℕ} {received r : List ℕ} {given : List Answered} {due d : List ℕ} → r ≡ received → d ≡ due → Ends options base most received given due → Ends options base most r given d
  ends_as {most} {received} {r} {given} {due} {d} r_is d_is at =
      subst (λ x. Ends options base most x given d) (sym r_is) (subst (λ x. Ends options base most received given x) (sym d_is) at)

  halts_as : (halt : Halt) (given : List Answered) {position p : Position} {received r : List ℕ} {due d : List ℕ} → p ≡ position → r ≡ received → d ≡ due
      → HaltsAs options base MAX_WAITING_LEN halt position received given due → HaltsAs options base MAX_WAITING_LEN halt p r given d
  halts_as halt given {position} {p} {received} {r} {due} {d} p_is r_is d_is at =
      subst (λ x. HaltsAs options base MAX_WAITING_LEN halt x r given d) (sym p_is) (subst (λ x. HaltsAs options base MAX_WAITING_LEN halt position x given d) (sym r_is)
      (subst (λ x. HaltsAs options base MAX_WAITING_LEN halt position received given x) (sym d_is) at))

  module _ (most c : ℕ) where
    -- What is held

    -- more was sent of what is unsent
    pub held_sent : {old new : Log} {given : List Answered} (client now : Client) → position_of now ≡ position_of client → now.leaving ≡ client.leaving → length now.unsent ≤ length client.unsent
        → received_of c new.entries ≡ received_of c old.entries → sent_of c new.entries ++ now.unsent ≡ sent_of c old.entries ++ client.unsent
        → (IsIn HasEnded c old → IsIn HasEnded c new) → Holds options base most c old given client → Holds options base most c new given now
    held_sent {old} {new} {given} client now position leaving fewer received due over holds = elim holds as (λ _. Holds options base most c new given now) [
      | goes_on stays few at ↦ goes_on (leaving ∙ stays) (omega (arith, few, fewer)) (reaches_as position received due at)
      | left leaves few ends ↦ left (leaving ∙ leaves) (omega (arith, few, fewer)) (ends_as received due ends)
      | ended leaves few at none is ↦ ended (leaving ∙ leaves) (omega (arith, few, fewer)) (reaches_as position received due at)
          (ap (λ (p : Position). next_of p.bytes) position ∙ none) (over is)
    ]

    -- once all is sent, it may be closed where no more is read
    pub held_over : (client : Client) → IsClient client → (log : Log) (given : List Answered) → client.leaving ≡ true → client.unsent ≡ [] → Holds options base most c log given client
        → IfSome (slice_get (connections_of log) c) (λ x. MayClose options base x (received_of c log.entries) (sent_of c log.entries) given)
    held_over client is log given leaving none holds = elim holds as (λ _. IfSome (slice_get (connections_of log) c) (λ x. MayClose options base x (received_of c log.entries) (sent_of c log.entries) given)) [
      | goes_on stays few at ↦ absurd (true≢false (sym leaving ∙ stays))
      | left leaves few ends ↦ for_any (slice_get (connections_of log) c) (λ x. may_leave options base (ends_as refl all_sent ends))
      | ended leaves few at more over ↦ if_some (slice_get (connections_of log) c) (λ x e. may_end options base (reaches_as refl refl all_sent at) is.begun more e) over
    ]
      where
        all_sent : sent_of c log.entries ≡ sent_of c log.entries ++ client.unsent
        all_sent = sym (append-nil (sent_of c log.entries)) ∙ ap (λ u. sent_of c log.entries ++ u) (sym none)

    -- what is held once it was looked at
    pub holds_now : (halt : Halt) (input : Option Input) (client : Client) (log : Log) (given : List Answered) → client.leaving ≡ leaves_by halt input → EndsBy input c log
        → length client.unsent ≤ most
        → HaltsAs options base MAX_WAITING_LEN halt (position_of client) (received_of c log.entries) given (sent_of c log.entries ++ client.unsent) → Holds options base most c log given client
    holds_now Leaves input client log given leaving over few at = left leaving few at
    holds_now Enough input client log given leaving over few at = goes_on leaving few at
    holds_now Needs None client log given leaving over few at = goes_on leaving few at.0
    holds_now Needs (Some (Bytes count)) client log given leaving over few at = goes_on leaving few at.0
    holds_now Needs (Some (All count)) client log given leaving over few at = goes_on leaving few at.0
    holds_now Needs (Some Later) client log given leaving over few at = goes_on leaving few at.0
    holds_now Needs (Some Ended) client log given leaving over few at = ended leaving few at.0 at.1 over

    -- From moment to moment

    module _ {schedule : List Step} (lacking : List ℕ) (all : List Given) {old mid : Log} (client : Client) (same : old.schedule ≡ schedule) (timed : is_timed old.entries ≡ true) (is : IsClient client)
        (holds : Holds options base most c old (given_to c all) client) (through : TalksThrough options base most schedule lacking old.entries all) {text : List ℕ} (rest : List ℕ)
        (sends : Sends c text old mid) (parts : client.unsent ≡ text ++ rest) where
      before : Stage options base most c schedule lacking old all client.unsent
      before = stage_held options base most c same timed is holds through

      pub stage_unsent : Stage options base most c schedule lacking mid all rest
      stage_unsent = stage_sent options base most c rest before sends parts

      pub holds_unsent : (now : Client) → position_of now ≡ position_of client → now.leaving ≡ client.leaving → now.unsent ≡ rest → Holds options base most c mid (given_to c all) now
      holds_unsent now position leaving rest_is =
          held_sent client now position leaving (let len = ap length parts ∙ length-append text rest in let same = ap length rest_is in omega (arith, len, same))
          (received_same options base most c rest before sends parts) (ap (λ r. sent_of c mid.entries ++ r) rest_is ∙ due_same options base most c rest before sends parts)
          (sends_ended sends c) holds

    -- where nothing waits and more may be read, it came to the position that is kept
    pub held_reaches : {log : Log} {client : Client} {given : List Answered} → Holds options base most c log given client → client.leaving ≡ false → client.unsent ≡ []
        → Reaches options base (position_of client) (received_of c log.entries) given (sent_of c log.entries ++ [])
    held_reaches {log} {client} {given} holds reading none = elim holds as (λ _. Reaches options base (position_of client) (received_of c log.entries) given (sent_of c log.entries ++ [])) [
      | goes_on stays few at ↦ reaches_as refl refl (ap (λ u. sent_of c log.entries ++ u) (sym none)) at
      | left leaves few ends ↦ absurd (true≢false (sym leaves ∙ reading))
      | ended leaves few at more over ↦ absurd (true≢false (sym leaves ∙ reading))
    ]

    -- A moment at which more was answered

    pub record Looked (schedule : List Step) (lacking : List ℕ) (log : Log) (all : List Given) (answers : List Answered) (replies : List ℕ) (client : Client) (r : Halt × Option Input) : Type 0 where
      pub stage : Stage options base most c schedule lacking log (all ++ all_to c answers) replies
      pub stands : HaltsAs options base MAX_WAITING_LEN r.0 (position_of client) (received_of c log.entries) (given_to c all ++ answers) (sent_of c log.entries ++ replies)
      pub ends : EndsBy r.1 c log

    module _ {schedule : List Step} {lacking : List ℕ} {all : List Given} {mid : Log} (client : Client) (stage : Stage options base most c schedule lacking mid all [])
        (holds : Holds options base most c mid (given_to c all) client) (reading : client.leaving ≡ false) (none : client.unsent ≡ []) where
      at : Reaches options base (position_of client) (received_of c mid.entries) (given_to c all) (sent_of c mid.entries ++ [])
      at = held_reaches holds reading none

      -- it was broken, and nothing was read
      pub stage_unread : {log : Log} → client.done ≡ 0 → Reads c [] mid log → IsClient client → Stage options base most c schedule lacking log all []
      stage_unread first reads is =
          stage_read options base most c client stage reads at first (let len = ap length (append-nil client.kept) in let s = is.short in omega (arith, len, s))

      module _ (log : Log) (answers : List Answered) (replies : List ℕ) {now : Client} (is_now : IsClient now) (few : length replies ≤ most) where
        due_now : {text : List ℕ} → replies ≡ [] ++ text → sent_of c log.entries ≡ sent_of c mid.entries → sent_of c log.entries ++ replies ≡ (sent_of c mid.entries ++ []) ++ text
        due_now {text} text_is sent = ap (λ s. s ++ replies) sent ∙ ap (λ t. sent_of c mid.entries ++ t) text_is ∙ ap (λ s. s ++ text) (sym (append-nil (sent_of c mid.entries)))

        looked_by : (r : Halt × Option Input) → AreAt options (second_of log.entries) answers → Stage options base most c schedule lacking log all [] → EndsBy r.1 c log
            → HaltsAs options base MAX_WAITING_LEN r.0 (position_of now) (received_of c log.entries) (given_to c all ++ answers) (sent_of c log.entries ++ replies)
            → Looked schedule lacking log all answers replies now r
        looked_by r told here ends stands = record { stage = stage_answered options base most c r.0 answers told here is_now few stands; stands = stands; ends = ends }

        pub looked : (r : Halt × Option Input) → Looks options base client answers replies now (Ok r) c mid log → Looked schedule lacking log all answers replies now r
        looked r looks = elim looks as (λ _. Looked schedule lacking log all answers replies now r) [
          | inl further ↦ looked_by r further.at (subst (λ (l : Log). Stage options base most c schedule lacking l all []) (sym further.same) stage) further.ends
              (halts_as r.0 (given_to c all ++ answers) refl (ap (λ (l : Log). received_of c l.entries) further.same)
              (due_now further.goes.appended (ap (λ (l : Log). sent_of c l.entries) further.same))
              (further.goes.on (received_of c mid.entries) (given_to c all) (sent_of c mid.entries ++ []) at))
          | inr reads ↦ looked_by r reads.at (stage_read options base most c client stage reads.reads at reads.first reads.short) reads.ends
              (halts_as r.0 (given_to c all ++ answers) refl (received_now options base most c client stage reads.reads at reads.first reads.short)
              (due_now reads.goes.appended (sent_now options base most c client stage reads.reads at reads.first reads.short))
              (reads.goes.on (received_of c mid.entries) (given_to c all) (sent_of c mid.entries ++ []) at))
        ]

  -- Visits

  module _ (c : ℕ) where
    -- nothing was answered
    still_through : (most : ℕ) (log : Log) (schedule : List Step) (lacking : List ℕ) (all : List Given) → TalksThrough options base most schedule lacking log.entries all
        → TalksThrough options base most schedule lacking log.entries (all ++ all_to c [])
    still_through most log schedule lacking all through = subst (λ l. TalksThrough options base most schedule lacking log.entries l) (sym (append-nil all)) through

    still_becomes : (most : ℕ) (log : Log) (given : List Answered) (now : Client) (becomes : After) → Becomes options base most c log given now becomes
        → Becomes options base most c log (given ++ []) now becomes
    still_becomes most log given now becomes is = subst (λ g. Becomes options base most c log g now becomes) (sym (append-nil given)) is

    module _ {old mid : Log} {client : Client} (is : IsClient client) where
      -- replies that waited were not all sent
      pub visit_breaks : (now : Client) (broken : Broken) → SendsFrom {X = Bool} client.unsent now.unsent (Err broken) c old mid
          → Visits options base 1 client [] now Over c old mid
      visit_breaks now broken sends = record {
        passes = passes_sends 1 sends.0.1;
        few_answers = omega arith;
        earns = λ is. absurd (over_not_again is);
        talks = λ lacking all timed holds through.
            let most = MOST_UNSENT in
            let stage = stage_unsent most c lacking all client refl timed is holds through (drop sends.0.0 client.unsent) sends.0.1 (sym (take-append-drop sends.0.0 client.unsent)) in
            (still_through most mid old.schedule lacking all stage.through, still_becomes most mid (given_to c all) now Over (stage_breaks options base most c stage sends.1));
      }

      module _ (now : Client) (position : position_of now ≡ position_of client) (leaving : now.leaving ≡ client.leaving) (all_sent : Bool)
          (sends : SendsFrom client.unsent now.unsent (Ok all_sent) c old mid) where
        module _ (most : ℕ) (lacking : List ℕ) (all : List Given) (timed : is_timed old.entries ≡ true) (holds : Holds options base most c old (given_to c all) client)
            (through : TalksThrough options base most old.schedule lacking old.entries all) where
          held_then : Holds options base most c mid (given_to c all) now
          held_then = holds_unsent most c lacking all client refl timed is holds through now.unsent sends.1 sends.2 now position leaving refl

          stage_then : Stage options base most c old.schedule lacking mid all now.unsent
          stage_then = stage_unsent most c lacking all client refl timed is holds through now.unsent sends.1 sends.2

        pub visit_waits : now.unsent ≢ [] → Visits options base 1 client [] now Waits c old mid
        visit_waits some = record {
          passes = passes_sends 1 sends.1;
          few_answers = omega arith;
          earns = λ is. absurd (waits_not_again is);
          talks = λ lacking all timed holds through.
              let most = MOST_UNSENT in
              let stage = stage_then most lacking all timed holds through in
              (still_through most mid old.schedule lacking all stage.through, still_becomes most mid (given_to c all) now Waits (held_then most lacking all timed holds through, rests_shut now c mid some (sends.3 some)));
        }

        pub visit_leaves : IsClient now → now.leaving ≡ true → now.unsent ≡ [] → Visits options base 1 client [] now Over c old mid
        visit_leaves is_now ends none = record {
          passes = passes_sends 1 sends.1;
          few_answers = omega arith;
          earns = λ is. absurd (over_not_again is);
          talks = λ lacking all timed holds through.
              let most = MOST_UNSENT in
              let stage = stage_then most lacking all timed holds through in (
                still_through most mid old.schedule lacking all stage.through,
                still_becomes most mid (given_to c all) now Over (held_over most c now is_now mid (given_to c all) ends none (held_then most lacking all timed holds through)),
              );
        }

        module _ (is_now : IsClient now) (reading : now.leaving ≡ false) (none : now.unsent ≡ []) {log : Log} (then : Client) (replies : List ℕ) {answers : List Answered} where
          -- it was broken as it was read
          pub visit_unread : (broken : Broken) → Looks options base now answers replies then (Err broken) c mid log → Visits options base 1 client answers then Over c old log
          visit_unread broken looks =
              let still : Visits options base 1 client [] then Over c old log = record {
                passes = passes_then (passes_sends 0 sends.1) (passes_reads looks.2);
                few_answers = omega arith;
                earns = λ is. absurd (over_not_again is);
                talks = λ lacking all timed holds through.
                    let most = MOST_UNSENT in
                    let before = subst (λ r. Stage options base most c old.schedule lacking mid all r) none (stage_then most lacking all timed holds through) in
                    let stage = stage_unread most c now before (held_then most lacking all timed holds through) reading none looks.1 looks.2 is_now in
                    (still_through most log old.schedule lacking all stage.through, still_becomes most log (given_to c all) then Over (stage_breaks options base most c stage looks.3));
              } in
              subst (λ a. Visits options base 1 client a then Over c old log) (sym looks.0) still

          -- memory lacked as it was looked at
          pub visit_lacks : Lacks options base now answers c mid log → VisitLacks options base 1 client answers c old log
          visit_lacks lacks = elim lacks as (λ _. VisitLacks options base 1 client answers c old log) [
            | inl further ↦ record {
              passes = subst (λ (l : Log). Passes 1 c old l) (sym further.same) (passes_sends 1 sends.1);
              few_answers = let few = further.few_answers in omega (arith, few);
              talks = λ lacking all timed among holds through.
                  let most = MOST_UNSENT in
                  let before = subst (λ s. Stage options base most c old.schedule lacking mid all s) none (stage_then most lacking all timed holds through) in
                  let at = held_reaches most c (held_then most lacking all timed holds through) reading none in
                  let all_through = stage_lacking options base most c answers (subst (λ (l : Log). AreAt options (second_of l.entries) answers) further.same further.at) among before (further.spoke (received_of c mid.entries) (given_to c all) (sent_of c mid.entries ++ []) at) in
                  subst (λ (l : Log). TalksThrough options base most old.schedule lacking l.entries (all ++ all_to c answers)) (sym further.same) all_through;
            }
            | inr read ↦ record {
              passes = passes_then (passes_sends 0 sends.1) (passes_reads read.reads);
              few_answers = let few = read.few_answers in omega (arith, few);
              talks = λ lacking all timed among holds through.
                  let most = MOST_UNSENT in
                  let before = subst (λ s. Stage options base most c old.schedule lacking mid all s) none (stage_then most lacking all timed holds through) in
                  let at = held_reaches most c (held_then most lacking all timed holds through) reading none in
                  let here = stage_read options base most c now before read.reads at read.first read.short in
                  let spoke = read.spoke (received_of c mid.entries) (given_to c all) (sent_of c mid.entries ++ []) at in
                  stage_lacking options base most c answers read.at among here (subst (λ r. Spoke options base MAX_WAITING_LEN r (given_to c all ++ answers) (sent_of c log.entries ++ []))
                  (sym (received_now options base most c now before read.reads at read.first read.short))
                  (subst (λ s. Spoke options base MAX_WAITING_LEN (received_of c mid.entries ++ read.bytes) (given_to c all ++ answers) (s ++ []))
                  (sym (sent_now options base most c now before read.reads at read.first read.short)) spoke));
            }
          ]

          -- it was looked at, and the replies were sent

          module _ (r : Halt × Option Input) (looks : Looks options base now answers replies then (Ok r) c mid log) (is_then : IsClient then) where
            module _ (most : ℕ) (lacking : List ℕ) (all : List Given) (few : length replies ≤ most) (timed : is_timed old.entries ≡ true) (holds : Holds options base most c old (given_to c all) client)
                (through : TalksThrough options base most old.schedule lacking old.entries all) where
              found : Looked most c old.schedule lacking log all answers replies then r
              found =
                  let before = subst (λ s. Stage options base most c old.schedule lacking mid all s) none (stage_then most lacking all timed holds through) in
                  looked most c now before (held_then most lacking all timed holds through) reading none log answers replies is_then few r looks

            looks_few : length replies ≤ MOST_UNSENT
            looks_few = elim looks as (λ _. length replies ≤ MOST_UNSENT) [ inl further ↦ further.few | inr reads ↦ reads.few ]

            answers_few : length answers ≤ 1 * most_answers options
            answers_few = elim looks as (λ _. length answers ≤ 1 * most_answers options) [
              | inl further ↦ let few = further.few_answers in omega (arith, few)
              | inr reads ↦ let few = reads.few_answers in omega (arith, few)
            ]

            looked_passes : Passes 1 c old log
            looked_passes = passes_then (passes_sends 0 sends.1) (looks_passes options base now answers replies then (Ok r) c mid log looks)

            module _ {new : Log} (last : Client) where
              -- memory lacked for those that were not taken
              pub visit_keeps_none : (n : ℕ) → Sends c (take n replies) log new → VisitLacks options base 1 client answers c old new
              visit_keeps_none n then_sends = record {
                passes = passes_then looked_passes (passes_sends 0 then_sends);
                few_answers = answers_few;
                talks = λ lacking all timed among holds through.
                    let most = MOST_UNSENT in
                    let f = found most lacking all looks_few timed holds through in
                    (stage_sent options base most c (drop n replies) f.stage then_sends (sym (take-append-drop n replies))).through;
              }

              pub visit_unsent : (broken : Broken) → SendsFrom {X = Bool} replies last.unsent (Err broken) c log new → Visits options base 1 client answers last Over c old new
              visit_unsent broken then_sends = record {
                passes = passes_then looked_passes (passes_sends 0 then_sends.0.1);
                few_answers = answers_few;
                earns = λ is. absurd (over_not_again is);
                talks = λ lacking all timed holds through.
                    let most = MOST_UNSENT in
                    let f = found most lacking all looks_few timed holds through in
                    let stage = stage_sent options base most c (drop then_sends.0.0 replies) f.stage then_sends.0.1 (sym (take-append-drop then_sends.0.0 replies)) in
                    (stage.through, subst (λ g. Becomes options base most c new g last Over) (given_more c all answers) (stage_breaks options base most c stage then_sends.1));
              }

              module _ (position_is : position_of last ≡ position_of then) (leaves : last.leaving ≡ leaves_by r.0 r.1) (all_taken : Bool)
                  (then_sends : SendsFrom replies last.unsent (Ok all_taken) c log new) where
                module _ (most : ℕ) (lacking : List ℕ) (all : List Given) (few : length replies ≤ most) (timed : is_timed old.entries ≡ true) (holds : Holds options base most c old (given_to c all) client)
                    (through : TalksThrough options base most old.schedule lacking old.entries all) where
                  end : Looked most c old.schedule lacking log all answers replies then r
                  end = found most lacking all few timed holds through

                  stage_end : Stage options base most c old.schedule lacking new (all ++ all_to c answers) last.unsent
                  stage_end = stage_sent options base most c last.unsent end.stage then_sends.1 then_sends.2

                  held_end : Holds options base most c new (given_to c all ++ answers) last
                  held_end =
                      holds_now most c r.0 r.1 last new (given_to c all ++ answers) leaves (ends_on r.1 then_sends.1 end.ends) stage_end.few
                      (halts_as r.0 (given_to c all ++ answers) position_is (received_same options base most c last.unsent end.stage then_sends.1 then_sends.2)
                      (due_same options base most c last.unsent end.stage then_sends.1 then_sends.2) end.stands)

                -- so it waits
                abbrev WaitsFor : After → Type 0
                WaitsFor becomes = becomes ≡ Waits → (lacking : List ℕ) (all : List Given) → Looked MOST_UNSENT c old.schedule lacking log all answers replies then r
                    → Rests last c new.script.piece (state_of new)

                waits_idle : (becomes : After) → last.leaving ≡ false → last.unsent ≡ [] → (becomes ≡ Waits → (r.0 ≡ Needs) × (is_drained r.1 ≡ true)) → WaitsFor becomes
                waits_idle becomes reading none_left waits = λ is lacking all looked.
                    let w = waits is in
                    let over = ends_drained r.1 c new w.1 (ends_on r.1 then_sends.1 looked.ends) in
                    let more = (subst (λ s. HaltsAs options base MAX_WAITING_LEN s (position_of then) (received_of c log.entries) (given_to c all ++ answers) (sent_of c log.entries ++ replies)) w.0 looked.stands).1 in
                    elim over as (λ _. Rests last c new.script.piece (state_of new)) [
                      | inl come ↦ inl come
                      | inr drained ↦ inr (λ moving. if_some (slice_get (connections_of new) c) (λ x e. idle none_left reading (ap (λ (p : Position). next_of p.bytes) position_is ∙ more) e) drained)
                    ]

                -- where there is more to do at once, something was done
                abbrev Earned : After → Type 0
                Earned becomes = becomes ≡ Again → KeepsWhole client last → moved c old.entries < moved c new.entries + length answers

                earns_again : (becomes : After) → last.unsent ≡ [] → (IsAtRest r.0 r.1 → becomes ≢ Again) → Earned becomes
                earns_again becomes none_left busy = λ again whole.
                    let all = ap length then_sends.2 ∙ length-append then_sends.0 last.unsent in
                    let none = ap length none_left in
                    looked_earns options base client now then last answers replies r position position_is sends.1 looks then_sends.1 (omega (arith, all, none)) (λ rest. busy rest again) whole

                visit_goes_on : (becomes : After) → becomes ≢ Over → WaitsFor becomes → Earned becomes → Visits options base 1 client answers last becomes c old new
                visit_goes_on Over other rests earned = absurd (other refl)
                visit_goes_on Waits other rests earned = record {
                  passes = passes_then looked_passes (passes_sends 0 then_sends.1);
                  few_answers = answers_few;
                  earns = λ is. absurd (waits_not_again is);
                  talks = λ lacking all timed holds through.
                      let most = MOST_UNSENT in
                      let stage = stage_end most lacking all looks_few timed holds through in
                      (stage.through, (held_end most lacking all looks_few timed holds through, rests refl lacking all (end most lacking all looks_few timed holds through)));
                }
                visit_goes_on Again other rests earned = record {
                  passes = passes_then looked_passes (passes_sends 0 then_sends.1);
                  few_answers = answers_few;
                  earns = λ is whole. earned is (whole refl);
                  talks = λ lacking all timed holds through.
                      let most = MOST_UNSENT in
                      let stage = stage_end most lacking all looks_few timed holds through in (stage.through, held_end most lacking all looks_few timed holds through);
                }

                pub visit_shut : last.unsent ≢ [] → Visits options base 1 client answers last Waits c old new
                visit_shut some = visit_goes_on Waits waits_not_over (λ is lacking all looked. rests_shut last c new some (then_sends.3 some)) (λ is. absurd (waits_not_again is))

                pub visit_ends : IsClient last → last.leaving ≡ true → last.unsent ≡ [] → Visits options base 1 client answers last Over c old new
                visit_ends is_last over none_left = record {
                  passes = passes_then looked_passes (passes_sends 0 then_sends.1);
                  few_answers = answers_few;
                  earns = λ is. absurd (over_not_again is);
                  talks = λ lacking all timed holds through.
                      let most = MOST_UNSENT in
                      let stage = stage_end most lacking all looks_few timed holds through in
                      (stage.through, held_over most c last is_last new (given_to c all ++ answers) over none_left (held_end most lacking all looks_few timed holds through));
                }

                pub visit_after : (becomes : After) → (last.leaving ≡ true → becomes ≡ Over) → (last.leaving ≡ false → becomes ≢ Over) → (becomes ≡ Waits → (r.0 ≡ Needs) × (is_drained r.1 ≡ true))
                    → (IsAtRest r.0 r.1 → becomes ≢ Again) → IsClient last → last.unsent ≡ [] → Visits options base 1 client answers last becomes c old new
                visit_after becomes over stays waits busy is_last none_left = by last.leaving refl
                  where
                    by : (b : Bool) → last.leaving ≡ b → Visits options base 1 client answers last becomes c old new
                    by true is_over = subst (λ (a : After). Visits options base 1 client answers last a c old new) (sym (over is_over)) (visit_ends is_last is_over none_left)
                    by false is_open = visit_goes_on becomes (stays is_open) (waits_idle becomes is_open none_left waits) (earns_again becomes none_left busy)
