-- One visit of a connection, from moment to moment.
use Rattle.std.proofs.Common.{◌≡◌, ◌≢◌, ℕ, ◌+◌, ◌-◌, ◌≤◌, inl, inr, true, true≢false, cond, List, [], ◌∷◌, ◌++◌, length, drop, refl, sym, ap, ◌∙◌, subst, arith, append_assoc, length-append, length-drop}
use Rattle.std.specs.Prelude.{slice_get, Option, Some, None, IfSome}
use Rattle.std.proofs.lemmas.List.{append-nil}
use Rattle.std.proofs.lemmas.Bool.{eq-eqb}
use Rattle.partition_model.specs.declared.options.Options.{Options}
use Rattle.memcached_text.specs.declared.limits.TheConstants.{MAX_WAITING_LEN}
use Rattle.connections.specs.declared.schedule.Step.{Step}
use Rattle.connections.specs.declared.connections.Input.{Input}
use Rattle.connections.specs.declared.connections.Input.TheVariants.{Bytes, All, Later, Ended}
use Rattle.connections.specs.State.{Entry}
use Rattle.connections.specs.State as entry
use Rattle.connections.specs.Log.{Log, state_of, connections_of, received_of, second_of, sent_of}
use Rattle.fronts.specs.Answered.{Answered}
use Rattle.command_answers.specs.Seconds.{AreAt}
use Rattle.connection_loop.specs.declared.answer.Halt.{Halt}
use Rattle.connection_loop.specs.declared.answer.Halt.TheVariants.{Needs, Enough, Leaves}
use Rattle.connection_loop.specs.declared.client.Client.{Client}
use Rattle.connection_loop.specs.Given.{Given, given_to}
use Rattle.connection_loop.specs.Talk.{IsBeginning, TalksKept, TalksWith}
use Rattle.connection_loop.specs.Reached.{Reaches, HaltsAs, Spoke, position_of}
use Rattle.connection_loop.specs.Closing.{MayClose}
use Rattle.connection_loop.specs.Moments.{IsAmong, TalksThrough, is_timed}
use Rattle.connection_loop.specs.Clients.{IsClient}
use Rattle.connection_loop.specs.Traffic.{Sends, Reads, IsIn, IsBroken, IsShutIn, IsDrainedIn, EndsBy, is_drained, after_receiving}
use Rattle.connection_loop.specs.Resting.{shut, Rests}
use Rattle.connection_loop.specs.Held.{Holds, goes_on, left, ended, all_to}
use Rattle.connection_loop.proofs.Reaching.{read_more}
use Rattle.connection_loop.proofs.Talking.{Told, talk_at, talk_ends, may_break}
use Rattle.connection_loop.proofs.Moving.{moves_sends}
use Rattle.connection_loop.proofs.Drying.{sends_ended}
use Rattle.connection_loop.proofs.Staying.{receiving_others, receiving_sent}
use Rattle.connection_loop.proofs.Traffic.{sends_received, mets_received, mets_sent, mets_send}
use Rattle.connection_loop.proofs.Moments.{with_all, last_moment, since_told, sends_timed, reads_timed, through_entry, through_second, through_answers, through_sends, given_more, given_others}

pub if_some : {X : Type 0} {P Q : X → Type 0} (o : Option X) → ((x : X) → P x → Q x) → IfSome o P → IfSome o Q
if_some None then is = tt
if_some (Some x) then is = then x is

pub for_any : {X : Type 0} {Q : X → Type 0} (o : Option X) → ((x : X) → Q x) → IfSome o Q
for_any None then = tt
for_any (Some x) then = then x

-- where nothing waited, nothing does
drained_on : {c : ℕ} {text : List ℕ} {old new : Log} → Sends c text old new → IsDrainedIn c old → IsDrainedIn c new
drained_on {c} {text} {old} {new} sends is =
    let moves = moves_sends sends in
    elim is as (λ _. IsDrainedIn c new) [
      | inl come ↦ inl (moves.to_come c come)
      | inr drained ↦ elim moves.own as (λ _. IsDrainedIn c new) [ inl come ↦ inl come | inr on ↦ inr (on drained) ]
    ]

-- an end that a read told stays
pub ends_on : (input : Option Input) {c : ℕ} {text : List ℕ} {old new : Log} → Sends c text old new → EndsBy input c old → EndsBy input c new
ends_on None sends is = tt
ends_on (Some (Bytes count)) sends is = tt
ends_on (Some (All count)) sends is = drained_on sends is
ends_on (Some Later) sends is = drained_on sends is
ends_on (Some Ended) {c} sends is = sends_ended sends c is

-- a read said that nothing more has come
pub ends_drained : (input : Option Input) (c : ℕ) (log : Log) → is_drained input ≡ true → EndsBy input c log → IsDrainedIn c log
ends_drained None c log drained is = absurd (true≢false (sym drained))
ends_drained (Some (Bytes count)) c log drained is = absurd (true≢false (sym drained))
ends_drained (Some (All count)) c log drained is = is
ends_drained (Some Later) c log drained is = is
ends_drained (Some Ended) c log drained is = absurd (true≢false (sym drained))

-- replies wait, and the peer takes none
pub rests_shut : (client : Client) (c : ℕ) (log : Log) → client.unsent ≢ [] → IsShutIn c log → Rests client c log.script.piece (state_of log)
rests_shut client c log some is = inr (λ moving. if_some (slice_get (connections_of log) c) (λ x e. shut some e) (is moving))

-- a connection has its own bytes
own_received : (c : ℕ) (bytes : List ℕ) (entries : List Entry) → received_of c (entry.received c bytes ∷ entries) ≡ received_of c entries ++ bytes
own_received c bytes entries = ap (λ t. cond t (received_of c entries ++ bytes) (received_of c entries)) (eq-eqb c c refl)

module _ (options : Options) (base most c : ℕ) where
  told_few : {received sent : List ℕ} {given : List Answered} {due : List ℕ} {few : ℕ} → few ≤ MAX_WAITING_LEN → Told options base received sent given due few
      → Told options base received sent given due MAX_WAITING_LEN
  told_few less t = record { talk = t.talk; due_is = t.due_is; few = let f = t.few in omega (arith, less, f) }

  -- the talk, by what is kept of a client
  told_halts : (halt : Halt) (client : Client) → IsClient client → (received : List ℕ) (given : List Answered) (due : List ℕ)
      → HaltsAs options base MAX_WAITING_LEN halt (position_of client) received given due
      → (sent : List ℕ) → IsBeginning sent due → Told options base received sent given due MAX_WAITING_LEN
  told_halts Needs client is received given due stands sent begins = told_few is.short (talk_at options base stands.0 is.begun sent begins)
  told_halts Enough client is received given due stands sent begins = told_few is.short (talk_at options base stands is.begun sent begins)
  told_halts Leaves client is received given due stands sent begins = talk_ends options base stands sent begins

  told_held : (client : Client) → IsClient client → (log : Log) (given : List Answered) → Holds options base most c log given client
      → (sent : List ℕ) → IsBeginning sent (sent_of c log.entries ++ client.unsent)
      → Told options base (received_of c log.entries) sent given (sent_of c log.entries ++ client.unsent) MAX_WAITING_LEN
  told_held client is log given holds sent begins = elim holds as (λ _. Told options base (received_of c log.entries) sent given (sent_of c log.entries ++ client.unsent) MAX_WAITING_LEN) [
    | goes_on stays few at ↦ told_few is.short (talk_at options base at is.begun sent begins)
    | left leaves few ends ↦ talk_ends options base ends sent begins
    | ended leaves few at none over ↦ told_few is.short (talk_at options base at is.begun sent begins)
  ]

  held_few : (client : Client) (log : Log) (given : List Answered) → Holds options base most c log given client → length client.unsent ≤ most
  held_few client log given holds = elim holds as (λ _. length client.unsent ≤ most) [
    | goes_on stays few at ↦ few
    | left leaves few ends ↦ few
    | ended leaves few at none over ↦ few
  ]

  few_due : (log : Log) (rest : List ℕ) → length rest ≤ most → length (sent_of c log.entries ++ rest) ≤ length (sent_of c log.entries) + most
  few_due log rest few = let len = length-append (sent_of c log.entries) rest in omega (arith, len, few)

  -- At a moment, these answers were given, and this is due that was not sent.
  pub record Stage (schedule : List Step) (lacking : List ℕ) (log : Log) (all : List Given) (rest : List ℕ) : Type 0 where
    pub same : log.schedule ≡ schedule
    pub timed : is_timed log.entries ≡ true
    pub told : (sent : List ℕ) → IsBeginning sent (sent_of c log.entries ++ rest)
        → Told options base (received_of c log.entries) sent (given_to c all) (sent_of c log.entries ++ rest) MAX_WAITING_LEN
    pub few : length rest ≤ most
    pub through : TalksThrough options base most schedule lacking log.entries all

  module _ {schedule : List Step} {lacking : List ℕ} {all : List Given} where
    pub stage_held : {client : Client} {log : Log} → log.schedule ≡ schedule → is_timed log.entries ≡ true → IsClient client → Holds options base most c log (given_to c all) client
        → TalksThrough options base most schedule lacking log.entries all → Stage schedule lacking log all client.unsent
    stage_held {client} {log} same timed is holds through = record {
      same = same;
      timed = timed;
      told = told_held client is log (given_to c all) holds;
      few = held_few client log (given_to c all) holds;
      through = through;
    }

    -- Some of it is sent

    module _ {old new : Log} {before text : List ℕ} (after : List ℕ) (stage : Stage schedule lacking old all before) (sends : Sends c text old new) (parts : before ≡ text ++ after) where
      pub due_same : sent_of c new.entries ++ after ≡ sent_of c old.entries ++ before
      due_same = ap (λ s. s ++ after) sends.sent ∙ append_assoc (sent_of c old.entries) text after ∙ ap (λ b. sent_of c old.entries ++ b) (sym parts)

      pub received_same : received_of c new.entries ≡ received_of c old.entries
      received_same = ap (received_of c) sends.entries ∙ sends_received c sends.more old.entries sends.each c

      sent_begins : IsBeginning (sent_of c (sends.more ++ old.entries)) (sent_of c old.entries ++ before)
      sent_begins = (after, sym due_same ∙ ap (λ e. sent_of c e ++ after) sends.entries)

      pub stage_sent : Stage schedule lacking new all after
      stage_sent = record {
        same = sends.schedule ∙ stage.same;
        timed = sends_timed sends stage.timed;
        told = λ sent begins. subst (λ r. Told options base r sent (given_to c all) (sent_of c new.entries ++ after) MAX_WAITING_LEN) (sym received_same)
            (subst (λ d. Told options base (received_of c old.entries) sent (given_to c all) d MAX_WAITING_LEN) (sym due_same)
            (stage.told sent (begins.0, sym due_same ∙ begins.1)));
        few = let len = ap length parts ∙ length-append text after in let few = stage.few in omega (arith, len, few);
        through = subst (λ (e : List Entry). TalksThrough options base most schedule lacking e all) (sym sends.entries)
            (through_sends options base most schedule lacking c old.entries all stage.through sends.more sends.each (sent_of c old.entries ++ before) (few_due old before stage.few) stage.told
            sent_begins);
      }

    -- where it is broken, it may be closed
    pub stage_breaks : {log : Log} {rest : List ℕ} → Stage schedule lacking log all rest → IsIn IsBroken c log
        → IfSome (slice_get (connections_of log) c) (λ x. MayClose options base x (received_of c log.entries) (sent_of c log.entries) (given_to c all))
    stage_breaks {log} {rest} stage broken =
        if_some (slice_get (connections_of log) c) (λ x is. may_break options base (stage.told (sent_of c log.entries) (rest, refl)) is) broken

    -- Bytes are read

    module _ (client : Client) {old new : Log} {bytes : List ℕ} (stage : Stage schedule lacking old all []) (reads : Reads c bytes old new)
        (at : Reaches options base (position_of client) (received_of c old.entries) (given_to c all) (sent_of c old.entries ++ []))
        (first : client.done ≡ 0) (short : length (client.kept ++ bytes) ≤ MAX_WAITING_LEN) where
      entries_received : (b : List ℕ) (entries : List Entry) → received_of c (after_receiving reads.at c b entries) ≡ received_of c entries ++ b
      entries_received [] entries = sym (append-nil (received_of c entries))
      entries_received (byte ∷ b) entries = own_received c (byte ∷ b) entries

      pub received_now : received_of c new.entries ≡ received_of c old.entries ++ bytes
      received_now =
          ap (received_of c) reads.entries ∙ entries_received bytes (reads.mets ++ old.entries) ∙ ap (λ r. r ++ bytes) (mets_received c reads.mets old.entries reads.each)

      pub sent_now : sent_of c new.entries ≡ sent_of c old.entries
      sent_now = ap (sent_of c) reads.entries ∙ receiving_sent reads.at c c bytes (reads.mets ++ old.entries) ∙ mets_sent c reads.mets old.entries reads.each

      reached : Reaches options base (record { bytes = drop client.dropping (client.kept ++ bytes); done = 0; dropping = client.dropping - length (client.kept ++ bytes) })
          (received_of c old.entries ++ bytes) (given_to c all) (sent_of c old.entries ++ [])
      reached = read_more options base at first bytes

      told_now : (sent : List ℕ) → IsBeginning sent (sent_of c old.entries ++ []) → Told options base (received_of c old.entries ++ bytes) sent (given_to c all) (sent_of c old.entries ++ []) MAX_WAITING_LEN
      told_now sent begins = told_few (let len = length-drop client.dropping (client.kept ++ bytes) in omega (arith, len, short)) (talk_at options base reached (inl refl) sent begins)

      -- after the steps that were met
      met_through : TalksThrough options base most schedule lacking (reads.mets ++ old.entries) all
      met_through =
          through_sends options base most schedule lacking c old.entries all stage.through reads.mets (mets_send c reads.mets reads.each) (sent_of c old.entries ++ [])
          (few_due old [] stage.few) stage.told ([], ap (λ s. s ++ []) (sym (mets_sent c reads.mets old.entries reads.each)))

      read_through : (b : List ℕ) → b ≡ bytes → TalksThrough options base most schedule lacking (after_receiving reads.at c b (reads.mets ++ old.entries)) all
      read_through [] is = met_through
      read_through (byte ∷ b) is =
          let entries = reads.mets ++ old.entries in
          let sent_same : sent_of c entries ≡ sent_of c old.entries = mets_sent c reads.mets old.entries reads.each in
          let t = told_now (sent_of c entries) ([], sym (ap (λ s. s ++ []) sent_same)) in
          let received_is : received_of c (entry.received c (byte ∷ b) ∷ entries) ≡ received_of c old.entries ++ bytes =
          own_received c (byte ∷ b) entries ∙ ap (λ x. received_of c entries ++ x) is ∙ ap (λ r. r ++ bytes) (mets_received c reads.mets old.entries reads.each) in
          let here : TalksWith options base most (received_of c old.entries ++ bytes) (sent_of c entries) (given_to c all) =
          (t.talk, record { kept = t.few; unsent = let all_due = ap length (t.due_is ∙ append-nil (sent_of c old.entries) ∙ sym sent_same) in omega (arith, all_due) }) in
          through_second options base most schedule lacking reads.at (entry.received c (byte ∷ b) ∷ entries) all
          (through_entry options base most schedule lacking (entry.received c (byte ∷ b)) entries all
          (with_all options base most lacking c entries (entry.received c (byte ∷ b) ∷ entries) all all
          (λ d other. record { came = receiving_others reads.at c d other (byte ∷ b) entries; went = refl; given = refl })
          (inl (subst (λ r. TalksWith options base most r (sent_of c entries) (given_to c all)) (sym received_is) here)) (last_moment options base most schedule lacking entries all met_through))
          tt met_through)

      pub stage_read : Stage schedule lacking new all []
      stage_read = record {
        same = reads.schedule ∙ stage.same;
        timed = reads_timed reads stage.timed;
        told = λ sent begins. subst (λ r. Told options base r sent (given_to c all) (sent_of c new.entries ++ []) MAX_WAITING_LEN) (sym received_now)
            (subst (λ s. Told options base (received_of c old.entries ++ bytes) sent (given_to c all) (s ++ []) MAX_WAITING_LEN) (sym sent_now)
            (told_now sent (begins.0, ap (λ s. s ++ []) (sym sent_now) ∙ begins.1)));
        few = stage.few;
        through = subst (λ (e : List Entry). TalksThrough options base most schedule lacking e all) (sym reads.entries) (read_through bytes refl);
      }

    -- More is answered

    pub stage_answered : (halt : Halt) (answers : List Answered) {log : Log} {replies : List ℕ} {client : Client} → AreAt options (second_of log.entries) answers → Stage schedule lacking log all [] → IsClient client → length replies ≤ most
        → HaltsAs options base MAX_WAITING_LEN halt (position_of client) (received_of c log.entries) (given_to c all ++ answers) (sent_of c log.entries ++ replies)
        → Stage schedule lacking log (all ++ all_to c answers) replies
    stage_answered halt answers {log} {replies} {client} at stage is few stands =
        let told : (sent : List ℕ) → IsBeginning sent (sent_of c log.entries ++ replies)
        → Told options base (received_of c log.entries) sent (given_to c (all ++ all_to c answers)) (sent_of c log.entries ++ replies) MAX_WAITING_LEN =
        λ sent begins. subst (λ g. Told options base (received_of c log.entries) sent g (sent_of c log.entries ++ replies) MAX_WAITING_LEN) (sym (given_more c all answers))
        (told_halts halt client is (received_of c log.entries) (given_to c all ++ answers) (sent_of c log.entries ++ replies) stands sent begins) in
        let t = told (sent_of c log.entries) (replies, refl) in
        record {
          same = stage.same;
          timed = stage.timed;
          told = told;
          few = few;
          through = through_answers options base most schedule lacking log.entries all (all_to c answers) (since_told options c log.entries answers stage.timed at)
              (with_all options base most lacking c log.entries log.entries all (all ++ all_to c answers)
              (λ d other. record { came = refl; went = refl; given = given_others c d all answers other })
              (inl (t.talk, record { kept = t.few; unsent = let all_due = ap length t.due_is in let len = length-append (sent_of c log.entries) replies in omega (arith, all_due, len, few) }))
              (last_moment options base most schedule lacking log.entries all stage.through)) stage.through;
        }

    -- Memory lacked

    pub stage_lacking : (answers : List Answered) {log : Log} → AreAt options (second_of log.entries) answers → IsAmong c lacking → Stage schedule lacking log all []
        → Spoke options base MAX_WAITING_LEN (received_of c log.entries) (given_to c all ++ answers) (sent_of c log.entries ++ [])
        → TalksThrough options base most schedule lacking log.entries (all ++ all_to c answers)
    stage_lacking answers {log} at among stage spoke =
        let talk = subst (λ s. TalksKept options base (received_of c log.entries) s (given_to c all ++ answers)) (append-nil (sent_of c log.entries)) (spoke.talk, spoke.few) in
        let here = subst (λ g. TalksKept options base (received_of c log.entries) (sent_of c log.entries) g) (sym (given_more c all answers)) talk in
        through_answers options base most schedule lacking log.entries all (all_to c answers) (since_told options c log.entries answers stage.timed at)
        (with_all options base most lacking c log.entries log.entries all (all ++ all_to c answers)
        (λ d other. record { came = refl; went = refl; given = given_others c d all answers other }) (inr (among, here))
        (last_moment options base most schedule lacking log.entries all stage.through)) stage.through
