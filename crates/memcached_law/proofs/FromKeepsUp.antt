-- From the contract of a server to its shares.
use Rattle.std.specs.Prelude.{Result, Ok, Err, IfSome, option_map, sum, slice_get, codes}
use Rattle.std.proofs.Common.{◌≡◌, ℕ, ◌+◌, ◌^◌, ◌<◌, ◌≤◌, inl, inr, List, [], ◌∷◌, ◌++◌, length, map, Option, Some, None, refl, sym, ap, subst, ◌∙◌, append-nil, arith}
use Rattle.std.proofs.lemmas.List.Sums.{get_or-le-sum_by}
use Rattle.std.proofs.lemmas.Option.{same_Some, slice_get_within, get_or_from_slice_get}
use Rattle.list_laws.proofs.Places.{element_at}
use Rattle.connections.specs.Log.{Log, received_of}
use Rattle.connections.specs.Shares.{ShareLogs, ShareFacts}
use Rattle.partition_model.specs.declared.options.Mode.TheVariants.{Store}
use Rattle.partition_model.specs.declared.write.Write.{Write}
use Rattle.partition_model.specs.History.{History}
use Rattle.outside.specs.PortStates.{PortStates}
use Rattle.fronts.specs.Answered.{Answered}
use Rattle.fronts.specs.declared.totals.Totals.{Totals}
use Rattle.fronts.specs.declared.totals.ServeFault.TheVariants as faults
use Rattle.datagram_answers.specs.Dealing.{Dealing, answered_in}
use Rattle.connection_loop.specs.declared.desk.TheConstants.{MOST_UNSENT}
use Rattle.connection_loop.specs.Open.{OnLogs}
use Rattle.connection_loop.specs.Turns.{TakesTurns}
use Rattle.served.specs.Served.{empty_origin, AnswersLawfully}
use Rattle.served.specs.NetRun.{OnPorts, IsCauseOnceBound}
use Rattle.locked_server.specs.declared.service.Service.{Service as LockedService}
use Rattle.locked_server.specs.declared.stop.Stop.{Stop}
use Rattle.locked_server.specs.declared.stop.Stop.TheVariants.{Refused, Unbound, Unheard, Unannounced, Fault}
use Rattle.locked_server.specs.Filled.{origin_of}
use Rattle.locked_server.specs.Streams.{ServesClients, ServesFrom, others_of, with_shares}
use Rattle.locked_server.specs.Causes.{HasCause, IsCauseOfStop}
use Rattle.daemon_words.specs.DaemonWords.{Service}
use Rattle.server_words.specs.Output.{SinkFacts, with_line_feed}
use Rattle.daemon.specs.declared.status.DaemonStatus.{DaemonStatus}
use Rattle.daemon.specs.declared.status.DaemonStatus.TheVariants.{Usage, NoMemory, TraceLong, ReadFault, WriteFault, NetFault, ImageRefused, UsedUp, Stopped}
use Rattle.daemon.specs.Files.{FilesFacts}
use Rattle.daemon.specs.Filling.{Fills, IsDueOfFile}
use Rattle.daemon.specs.Written.{IsDue, IsWritten, IsTold}
use Rattle.daemon.specs.Daemon.{DaemonOutside, KeepsUp, FillsAndServes, WritesLast, unbound_text, buffers_of, placed, places_of}
use Rattle.daemon.proofs.LeftLogs.{left_of}
use Rattle.memcached_page.specs.Shelf.{empty}
use Rattle.memcached_page.specs.Page.{ServesAsMemcached}
use Rattle.client_stories.specs.Stories.{AsksFit, Talked}
use Rattle.client_stories.proofs.Grammar.{fit_asks}
use Rattle.client_stories.proofs.Law.{law as of_store}
use Rattle.memcached_law.specs.Law.{IsCarriedOut, TellsLogs, MemcachedInStore}

-- With these statuses the fronts came to totals.

not_told : (due status : DaemonStatus) (text : List ℕ) (old new : SinkFacts) → (IsCarriedOut due → ⊥) → IsCarriedOut status → IsWritten due text old new status → ⊥
not_told due status text old new other is (inl written) = other (subst IsCarriedOut written.0 is)
not_told due status text old new other is (inr failed) = subst IsCarriedOut failed.0 is

not_said : (due status : DaemonStatus) (text : List ℕ) (old new : SinkFacts) → (IsCarriedOut due → ⊥) → IsCarriedOut status → IsTold due text old new status → ⊥
not_said due status text old new other is (inl none) = subst IsCarriedOut none.0 is
not_said due status text old new other is (inr written) = not_told due status text old new other is written

totals_of : (first : ℕ) (answer : Result Totals Stop) (old new : SinkFacts) (status : DaemonStatus) → IsCarriedOut status → WritesLast first answer old new status → (totals : Totals) × (answer ≡ Ok totals)
totals_of first (Ok totals) old new status is last = (totals, refl)
totals_of first (Err (Unbound port)) old new status is last = absurd (not_said NetFault status (unbound_text port) old new (λ no. no) is last)
totals_of first (Err (Unheard place)) old new status is last = absurd (not_said NetFault status (unbound_text first) old new (λ no. no) is last)
totals_of first (Err (Fault faults.Net)) old new status is last = absurd (not_told NetFault status (with_line_feed (codes "net fault")) old new (λ no. no) is last)
totals_of first (Err (Fault faults.NoMemory)) old new status is last = absurd (subst IsCarriedOut last.0 is)
totals_of first (Err Refused) old new status is last = absurd (not_told ImageRefused status (with_line_feed (codes "pair refused")) old new (λ no. no) is last)
totals_of first (Err Unannounced) old new status is last = absurd (subst IsCarriedOut last.0 is)

-- where there is no image, nothing is due of one
none_due : (before after : FilesFacts) (status : DaemonStatus) (text : List ℕ) → IsDue (IsDueOfFile before after None) status text → ⊥
none_due before after Usage text is = is
none_due before after NoMemory text is = is
none_due before after TraceLong text is = is
none_due before after ReadFault text is = is
none_due before after WriteFault text is = is
none_due before after NetFault text is = is
none_due before after ImageRefused text is = is
none_due before after UsedUp text is = is
none_due before after Stopped text is = is

on_ports_then : {P Q : PortStates → PortStates → Type 0} (b a : Option PortStates) → OnPorts P b a → ((x y : PortStates) → P x y → Q x y) → OnPorts Q b a
on_ports_then None a is f = is
on_ports_then (Some b) None is f = absurd is
on_ports_then (Some b) (Some a) is f = f b a is

both_logs : (P : Log → Log → Type 0) (b a : Option Log) (x y : Log) → b ≡ Some x → a ≡ Some y → OnLogs P b a → P x y
both_logs P b a x y b_is a_is on = subst (λ (w : Option Log × Option Log). OnLogs P w.0 w.1) (λ i. (b_is i, a_is i)) on

mapped : {X Y : Type 0} (g : X → Y) (o : Option X) (y : Y) → option_map g o ≡ Some y → (x : X) × (g x ≡ y)
mapped g None y is = absurd (cc)
mapped g (Some x) y is = (x, same_Some (g x) y is)

-- Shares

module _ (service : Service) (base : ℕ) (old new : DaemonOutside) (waited left : ℕ → Log) (told : TellsLogs service.streams.ports.fronts old.ports.listens new.ports.listens waited left)
    (fit : (f c : ℕ) → f < service.streams.ports.fronts → AsksFit (received_of c (left f).entries)) where
  abbrev locked : LockedService
  locked = record { options = service.options; ports = service.ports; places = service.streams.ports.fronts; base = base; buffers = buffers_of service.streams }

  abbrev before : DaemonOutside
  before = placed (places_of service.streams) service.streams.connections old

  abbrev Came : Totals → List Write → Type 0
  Came totals writes = HasCause (Ok totals) locked (origin_of service.options writes) new.tables new.lacked before.ports new.ports

  module _ (totals : Totals) (writes : List Write) (c : Came totals writes) where
    abbrev shares : ℕ
    shares = service.streams.ports.fronts

    record Heard (k : ℕ) (own : List Answered) : Type 0 where
      pub count : ℕ
      pub few : count ≤ sum c.counts
      pub old_share : ShareFacts
      pub new_share : ShareFacts
      pub was : slice_get c.olds k ≡ Some old_share
      pub is : slice_get c.news k ≡ Some new_share
      pub serves : ServesFrom service.options base (buffers_of service.streams) count own old_share new_share

    heard : (k : ℕ) (own : List Answered) → slice_get c.answers k ≡ Some own → k < shares → Heard k own
    heard k own own_at low =
        let all = c.stopped.0 in
        let count = element_at c.counts k (omega (arith, low, all, c.are.served.counted)) in
        let was = element_at c.olds k (omega (arith, low, all)) in
        let is = element_at c.news k (omega (arith, low, all, c.are.served.many)) in
        record {
          count = count.0;
          few = subst (λ (n : ℕ). n ≤ sum c.counts) (get_or_from_slice_get c.counts k count.0 0 count.1) (get_or-le-sum_by (λ n. n) c.counts k 0 (slice_get_within c.counts k count.0 count.1));
          old_share = was.0;
          new_share = is.0;
          was = was.1;
          is = is.1;
          serves = c.are.served.each k count.0 own was.0 is.0 count.1 own_at was.1 is.1;
        }

    numbered : (k : ℕ) (share : ShareFacts) → slice_get c.news k ≡ Some share → share.share ≡ old.ports.listens.given + k
    numbered k share is =
        let within = slice_get_within c.news k share is in
        let low : k < shares = let all = c.stopped.0 in omega (arith, within, all, c.are.served.many) in
        let own = element_at c.answers k (omega (arith, low, c.are.fronts)) in
        let h = heard k own.0 own.1 low in
        ap (λ (s : ShareFacts). s.share) (same_Some share h.new_share (sym is ∙ h.is)) ∙ h.serves.serves.share ∙ (c.are.are_new k h.old_share h.was).share_is

    waited_log : (f : ℕ) (own : List Answered) (h : Heard f own) → f < shares → h.old_share.log ≡ Some (waited f)
    waited_log f own h low =
        sym (subst (λ o. IfSome o (λ all. all (old.ports.listens.given + f) ≡ h.old_share.log)) told.before_is (c.are.are_new f h.old_share h.was).waited_is) ∙ told.waited_is f low

    left_log : (f : ℕ) (own : List Answered) (h : Heard f own) → f < shares → h.new_share.log ≡ Some (left f)
    left_log f own h low =
        let logs = mapped (with_shares c.news) old.ports.listens.released told.after (sym c.left ∙ told.after_is) in
        sym (left_of old.ports.listens.given c.news numbered logs.0 f h.new_share h.is) ∙ ap (λ (all : ShareLogs). all (old.ports.listens.given + f)) logs.1 ∙ told.left_is f low

    talked : (f : ℕ) (own : List Answered) → slice_get c.answers f ≡ Some own → Talked service.options base MOST_UNSENT (buffers_of service.streams) new.lacked own (waited f) (left f)
    talked f own own_at = record {
      same = it.0.same;
      given = it.0.all;
      lacking = it.0.serves.lacking;
      few = omega (arith, it.0.serves.counted, h.serves.uncounted, h.serves.lacked_is, h.few, c.lacked_is);
      turns = subst (λ (w : ℕ × List Answered). TakesTurns service.options base MOST_UNSENT w.0 (left f).schedule (left f).script.piece it.0.serves.lacking (left f).entries it.0.all w.1)
          (λ i. (h.serves.kept_is i, it.1 i)) it.0.serves.turns;
      through = it.0.serves.through;
      caught_up = it.0.serves.caught_up;
      seconds = h.serves.serves.seconds;
      fit = λ d. fit f d low;
    }
      where
        low : f < shares
        low = let within = slice_get_within c.answers f own own_at in omega (arith, within, c.are.fronts)

        h : Heard f own
        h = heard f own own_at low

        it : ServesClients service.options base h.serves.old h.serves.new own (waited f) (left f)
        it = both_logs (ServesClients service.options base h.serves.old h.serves.new own) h.old_share.log h.new_share.log (waited f) (left f) (waited_log f own h low) (left_log f own h low) h.serves.serves.clients

    -- what is promised, where the net tells its ports
    abbrev Serves : Type 0
    Serves = ServesAsMemcached service.options shares new.lacked (λ part. empty) waited left

    pub all_serve : 1 ≤ service.options.partitions → service.ports.fronts ≡ 0 → writes ≡ [] → service.options.mode ≡ Store → base + service.options.wear < 2 ^ 62
        → OnPorts (λ ports ports'. Serves) old.ports.net.ports new.ports.net.ports
    all_serve some no_ports none is_store small =
        let said : IsCauseOnceBound (others_of c.answers c.olds c.news) (Some (Ok totals)) service.options (origin_of service.options writes) service.ports new.tables old.ports.net new.ports.net =
        subst (λ came. IsCauseOnceBound (others_of c.answers c.olds c.news) came service.options (origin_of service.options writes) service.ports new.tables old.ports.net new.ports.net) c.came_is c.said in
        on_ports_then old.ports.net.ports new.ports.net.ports said.served (λ x y s.
        let empty_fronts = none_left s.fronts (s.served.many ∙ no_ports) in
        let lawful : AnswersLawfully service.options empty_origin c.answers s.runs =
        subst (λ (w : (ℕ → History) × List (List Answered)). AnswersLawfully service.options w.0 w.1 s.runs)
        (λ i. ((λ p. origin_of service.options (none i) p), (ap (λ l. c.answers ++ map answered_in l) empty_fronts ∙ append-nil c.answers) i)) s.served.answered in
        subst (λ n. ServesAsMemcached service.options n new.lacked (λ part. empty) waited left)
        c.are.fronts (of_store service.options base MOST_UNSENT (buffers_of service.streams) new.lacked c.answers s.runs waited left is_store some small lawful talked))
      where
        none_left : (fronts : List (List Dealing)) → length fronts ≡ 0 → fronts ≡ []
        none_left [] is = refl
        none_left (d ∷ fronts) is = absurd (omega (arith, is))

pub law : MemcachedInStore
law host words service base before after old new status waited left is no_ports no_image is_store some small kept carried told spoken =
    by (subst (λ given. KeepsUp given base before after old new status) is kept).0
  where
    fit : (f c : ℕ) → f < service.streams.ports.fronts → AsksFit (received_of c (left f).entries)
    fit f c low = fit_asks (received_of c (left f).entries) (spoken f c low)

    by : FillsAndServes service base before after old new status
        → OnPorts (λ ports ports'. ServesAsMemcached service.options service.streams.ports.fronts new.lacked (λ part. empty) waited left) old.ports.net.ports new.ports.net.ports
    by (inr refused) = absurd (elim refused.0 [
      | inl none ↦ subst IsCarriedOut none.0 carried
      | inr due ↦ none_due before after due.0 due.1 (subst (λ image. IsDue (IsDueOfFile before after image) due.0 due.1) no_image due.2)
    ])
    by (inl it) =
        let came = totals_of service.streams.ports.port it.3.answer it.3.said new.sink status carried it.3.last in
        let none : it.0 ≡ [] = subst (λ image. Fills before image it.0) no_image it.2 in
        all_serve service base old new waited left told fit came.0 it.0
        (subst (λ answer. IsCauseOfStop answer (locked service base old new waited left told fit) it.0 new.tables new.lacked (placed (places_of service.streams) service.streams.connections old).ports new.ports) came.1 it.3.cause)
        some no_ports none is_store small
