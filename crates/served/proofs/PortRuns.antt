-- What a whole run makes of the ports: bound, served, released.
use Rattle.std.proofs.Common.{◌≡◌, ℕ, ◌+◌, ◌-◌, ◌<◌, ◌≤◌, ◌⊎◌, inl, inr, true, List, [], ◌++◌, length, map, take, drop, Option, Some, None, refl, sym, ap, ◌∙◌, subst, slice_get, arith}
use Rattle.std.specs.Prelude.{◌≢◌, is_some, nat_lt, sum_by, IfSome}
use Rattle.std.specs.List.{All, AllPairs}
use Rattle.std.proofs.lemmas.Bool.{cases_lt}
use Rattle.std.proofs.lemmas.List.Elements.{All-nil, All-from_recursion}
use Rattle.std.proofs.lemmas.Option.{slice_get_within, same_Some}
use Rattle.std.proofs.lemmas.List.{append-nil, length-map}
use Rattle.std.proofs.lemmas.List.Sums.{sum-map}
use Rattle.list_laws.proofs.Places.{element_at, from_map}
use Rattle.outside.specs.Traffic.{Datagram, Traffic, new_traffic}
use Rattle.outside.specs.PortStates.{Port, PortStates, out, back, is_waiting}
use Rattle.partition_model.specs.declared.options.Options.{Options}
use Rattle.server_words.specs.declared.ports.PortOptions.{PortOptions}
use Rattle.fronts.specs.declared.totals.Totals.{Totals}
use Rattle.fronts.specs.Answered.{Answered, answers_of, writes_of, gets_of}
use Rattle.datagram_answers.specs.Dealing.{Dealing, IsDealing, answered_in, due_to}
use Rattle.partition_model.specs.History.{History, IsHistory}
use Rattle.partition_table.specs.declared.tables.KeptSeat.{KeptSeat}
use Rattle.served.specs.Others.{Others, all_answers, HaveAnsweredNothing}
use Rattle.served.specs.Beside.{ServesOnTables}
use Rattle.served.specs.Served.{ServesPort, ServesGet, ServesLook, NoFall, LeavesPort, BeginsPorts, IsThrough, IsCutShort, IsStopped, StopsShort}
use Rattle.outside.specs.Faults.{Rose}
use Rattle.served.specs.NetRun.{ReleasesAll}
use Rattle.served.specs.Ends.{EndFacts, TellAll, AreNewEnds, AreAtPorts, BindsEnds, ReleasesEnds, DealsWithEnd, DealsInPartWithEnd, BeginsEnds, MayStopAtEnd, StopsSome, StopsBeside, ServesAll, KeepsEnd}
use Rattle.served.proofs.Gathered.{chosen}
use Rattle.served.proofs.AllFronts.{front_at}
use Rattle.served.proofs.ServedBeside.{lawful_beside}
use Rattle.served.proofs.CutShort.{cut_short}

-- ends that were bound where a net tells its ports tell their traffic
pub bound_tell : (first : ℕ) (ends : List EndFacts) (before mid : PortStates) → BindsEnds first ends before mid → TellAll ends
bound_tell first ends before mid bound i e is = ap is_some (bound.each i e is).told

-- a port is one of so many from the first on, or none of them
among : (first n q : ℕ) → ((i : ℕ) × (i < n) × (q ≡ first + i)) ⊎ ((i : ℕ) → i < n → q ≢ first + i)
among first n q = elim (cases_lt q first) as (λ _. ((i : ℕ) × (i < n) × (q ≡ first + i)) ⊎ ((i : ℕ) → i < n → q ≢ first + i)) [
  | inl lt ↦ inr (λ i below e. absurd (omega arith))
  | inr ge ↦ elim (cases_lt (q - first) n) as (λ _. ((i : ℕ) × (i < n) × (q ≡ first + i)) ⊎ ((i : ℕ) → i < n → q ≢ first + i)) [
    | inl lt ↦ inl (q - first, lt, omega arith)
    | inr out_of ↦ inr (λ i below e. absurd (omega arith))
  ]
]

module _ (ports : PortOptions) (olds news : List EndFacts) (before mid after : PortStates) (many : length news ≡ length olds) (within : length olds ≤ ports.fronts)
    (bound : BindsEnds ports.port olds before mid) (released : ReleasesEnds ports.port news mid after) where
  untouched : (q : ℕ) → ((i : ℕ) → i < length olds → q ≢ ports.port + i) → after q ≡ before q
  untouched q other = released.others q (λ i lt. other i (omega (arith, lt, many))) ∙ bound.others q other

  module _ (tells : TellAll news) where
    came_back : (i : ℕ) (a : EndFacts) → slice_get news i ≡ Some a → (traffic : Traffic) × (a.traffic ≡ Some traffic) × (after (ports.port + i) ≡ back traffic a.has_ended)
    came_back i a is = by a.traffic refl (tells i a is)
      where
        by : (t : Option Traffic) → a.traffic ≡ t → is_some a.traffic ≡ true → (traffic : Traffic) × (a.traffic ≡ Some traffic) × (after (ports.port + i) ≡ back traffic a.has_ended)
        by None e never = absurd (cc)
        by (Some t) e tell = (t, e, released.each i a t is e)

    -- every end is back
    pub all_back : ReleasesAll ports before after
    all_back = record {
      released = λ q is_out. elim (among ports.port (length olds) q) as (λ _. before q ≡ out) [
        | inl h ↦
            let a = element_at news h.0 (omega (arith, h.1, many)) in
            let b = came_back h.0 a.0 a.1 in
            let here : after q ≡ back b.0 a.0.has_ended = ap after h.2 ∙ b.2 in
            absurd (cc)
        | inr other ↦ sym (untouched q other) ∙ is_out
      ];
      others = λ q other. untouched q (λ i lt. other i (omega arith));
    }

  -- what a front dealt with is what its port shows
  pub port_served : (batches : ℕ) (f : ℕ) (dealings : List Dealing) (b a : EndFacts) → slice_get olds f ≡ Some b → slice_get news f ≡ Some a
      → DealsWithEnd batches dealings b a → ServesPort batches (before (ports.port + f)) (after (ports.port + f)) dealings
  port_served batches f dealings b a is is' d =
      let w = bound.each f b is in
      let told = w.told in
      let had_is = d.had_is in
      let had : d.had ≡ new_traffic w.datagrams = cc in
      let left : d.had.left ≡ w.datagrams = ap (λ (t : Traffic). t.left) had in
      record {
        datagrams = w.datagrams;
        script = w.foretold;
        waited = w.waited;
        released = released.each f a _ is' d.told
            ∙ ap (back (record { left = drop batches d.had.left; received = take batches d.had.left; sent = due_to dealings })) d.at_end
            ∙ ap (λ (l : List Datagram). back (record { left = drop batches l; received = take batches l; sent = due_to dealings }) (nat_lt (length l) batches)) left;
        received = d.asked ∙ ap (take batches) left;
        each = d.each;
      }

  -- a front that was served in part leaves its port so
  pub port_left : (batches : ℕ) (f : ℕ) (dealings : List Dealing) (unread : List Datagram) (b a : EndFacts) → slice_get olds f ≡ Some b → slice_get news f ≡ Some a
      → DealsInPartWithEnd batches dealings unread b a → LeavesPort batches (before (ports.port + f)) (after (ports.port + f)) dealings unread
  port_left batches f dealings unread b a is is' d =
      let w = bound.each f b is in
      let told = w.told in
      let had_is = d.had_is in
      let had : d.had ≡ new_traffic w.datagrams = cc in
      let begins = d.begins in
      inr (
        d.has,
        a.has_ended,
        released.each f a d.has is' d.has_is,
        record {
          datagrams = w.datagrams;
          script = w.foretold;
          waited = w.waited;
          in_order = ap (λ (t : Traffic). t.left) (sym had) ∙ begins.in_order;
          few = begins.few;
          received = begins.asked;
          each = begins.each;
          sent = begins.sent;
        },
      )

  pub all_begun : BeginsEnds ports.batches olds news → BeginsPorts ports before after
  all_begun part f lt = by (cases_lt f (length olds))
    where
      by : (f < length olds) ⊎ (length olds ≤ f) → (dealings : List Dealing) × (unread : List Datagram) × (length unread ≤ 1)
          × LeavesPort ports.batches (before (ports.port + f)) (after (ports.port + f)) dealings unread
      by (inl below) =
          let b = element_at olds f below in
          let a = element_at news f (omega (arith, below, many)) in
          let p = part f b.0 a.0 b.1 a.1 in
          (p.0, p.1, p.2, port_left ports.batches f p.0 p.1 b.0 a.0 b.1 a.1 p.3)
      by (inr past) = ([], [], omega arith, inl (untouched (ports.port + f) (λ i below e. absurd (omega arith)), refl, refl))

  pub stopped_some : (batches : ℕ) (s : StopsSome batches olds news) → (f : ℕ) × (f < ports.fronts) × IsStopped batches (before (ports.port + f)) (after (ports.port + f))
  stopped_some batches s =
      let tell = bound_tell ports.port olds before mid bound in
      let stops = s.stops tell in
      let w = bound.each s.front s.old s.was in
      let part = stops.part in
      let asked = sym (append-nil (map (λ d. d.datagram) stops.dealings)) ∙ part.begins.asked in
      let cut = cut_short batches part.has s.new.has_ended stops.dealings part.begins.each asked part.begins.sent stops.short in (
        s.front,
        omega (arith, slice_get_within olds s.front s.old s.was),
        (ap is_waiting w.waited, subst (λ (p : Port). IsCutShort batches p) (sym (released.each s.front s.new part.has s.is part.has_is)) cut),
      )

  -- a front dealt with nothing
  record DealtNothing (f : ℕ) (dealings : List Dealing) : Type 0 where
    pub none : dealings ≡ []
    pub left : LeavesPort ports.batches (before (ports.port + f)) (after (ports.port + f)) dealings []

  module _ (others : Others) (options : Options) (origin : ℕ → History) (bind_failed : Type 0) (counts : ℕ → Type 0) where
    -- a bind failed, so no front dealt with anything
    pub none_stopped : HaveAnsweredNothing others → ((p : ℕ) → p < options.partitions → IsHistory options (origin p)) → bind_failed → ((i : ℕ) (b a : EndFacts) → slice_get olds i ≡ Some b → slice_get news i ≡ Some a → DealsInPartWithEnd ports.batches [] [] b a)
        → StopsShort others options origin ports bind_failed counts before after
    none_stopped silent filled failed part = record {
      fronts = nothing.0;
      runs = λ p. [];
      many = nothing.1;
      each = λ f d is. (nothing.2 f d is).left;
      answered = record {
        writes = λ p lt. record {
          filled = filled p lt;
          run = tt;
          each = λ f answers is. ap (writes_of options p) (none_asked f answers is);
          no_others = All-from_recursion (λ q. q.front < length (all_answers others nothing.0)) [] tt;
        };
        gets = λ p f answers lt is. subst (λ (l : List Answered). All (ServesGet options (origin p) (origin p ++ [])) (gets_of options p l)) (sym (none_asked f answers is)) (All-nil (ServesGet options (origin p) (origin p ++ [])));
        looks = λ p f answers lt is. subst (λ (l : List Answered). All (ServesLook options (origin p) []) (answers_of options p l)) (sym (none_asked f answers is)) (All-nil (ServesLook options (origin p) []));
        order = λ p f answers lt is. subst (λ (l : List Answered). AllPairs NoFall (answers_of options p l)) (sym (none_asked f answers is)) (λ i j d less within. absurd (omega arith));
      };
      some = inl failed;
      blamed = inl failed;
    }
      where
        began : (f : ℕ) → f < ports.fronts → (f < length olds) ⊎ (length olds ≤ f) → (d : List Dealing) × DealtNothing f d
        began f lt (inl below) =
            let b = element_at olds f below in
            let a = element_at news f (omega (arith, below, many)) in
            ([], record { none = refl; left = port_left ports.batches f [] [] b.0 a.0 b.1 a.1 (part f b.0 a.0 b.1 a.1) })
        began f lt (inr past) = ([], record { none = refl; left = inl (untouched (ports.port + f) (λ i below e. absurd (omega arith)), refl, refl) })

        nothing : (ds : List (List Dealing)) × (length ds ≡ ports.fronts) × ((f : ℕ) (d : List Dealing) → slice_get ds f ≡ Some d → DealtNothing f d)
        nothing = chosen DealtNothing ports.fronts (λ f lt. began f lt (cases_lt f (length olds)))

        none_asked : (f : ℕ) (answers : List Answered) → slice_get (all_answers others nothing.0) f ≡ Some answers → answers ≡ []
        none_asked f answers is = elim (front_at others nothing.0 f answers is) as (λ _. answers ≡ []) [
          | inl h ↦ silent f answers h
          | inr h ↦ sym h.4 ∙ ap answered_in (nothing.2 h.0 h.1 h.3).none
        ]

    -- a front stopped, and what all dealt with beside each other is lawful
    pub all_stopped : 1 ≤ options.partitions → length olds ≡ ports.fronts → StopsSome ports.batches olds news ⊎ others.stopped
        → counts (sum_by (λ e. e.faults) news) → StopsBeside others options origin ports.batches olds news → StopsShort others options origin ports bind_failed counts before after
    all_stopped some full stops counted all = record {
      fronts = all.fronts;
      runs = all.runs;
      many = all.many ∙ full;
      each = λ f d is. let e = ends_at f d is in port_left ports.batches f d [] e.0 e.1 e.2 e.3 e.4.part;
      answered = lawful_beside options some origin all.runs (all_answers others all.fronts) all.ran all.answered;
      some = inr (elim stops as (λ _. ((f : ℕ) × (f < ports.fronts) × IsStopped ports.batches (before (ports.port + f)) (after (ports.port + f))) ⊎ others.stopped) [
        | inl one ↦ inl (stopped_some ports.batches one)
        | inr other ↦ inr other
      ]);
      blamed = inr (record {
        faults = map (λ (e : EndFacts). e.faults) news;
        many = length-map news (λ (e : EndFacts). e.faults) ∙ many ∙ full;
        counted = subst counts (sym (sum-map (λ (e : EndFacts). e.faults) news)) counted;
        through = λ f d is none.
            let e = ends_at f d is in
            let m = from_map (λ (e : EndFacts). e.faults) news f 0 none in
            let same : m.0 ≡ e.1 = same_Some m.0 e.1 (sym m.1 ∙ e.3) in
            let own : e.1.faults ≡ 0 = ap (λ (x : EndFacts). x.faults) (sym same) ∙ m.2 in
            let p = e.4.part in (
              p.has,
              e.1.has_ended,
              released.each f e.1 p.has e.3 p.has_is,
              elim e.4.through as (λ _. IsThrough ports.batches p.has e.1.has_ended d) [
                | inl through ↦ through
                | inr rose ↦ absurd (unfaulted e.0.faults e.1.faults own rose)
              ],
            );
      });
    }
      where
        unfaulted : (a b : ℕ) → b ≡ 0 → Rose a b → ⊥
        unfaulted a b none (inl lt) = absurd (omega arith)
        unfaulted a b none (inr last) = absurd (omega arith)

        ends_at : (f : ℕ) (d : List Dealing) → slice_get all.fronts f ≡ Some d
            → (b : EndFacts) × (a : EndFacts) × (slice_get olds f ≡ Some b) × (slice_get news f ≡ Some a) × MayStopAtEnd ports.batches d b a
        ends_at f d is =
            let lt = slice_get_within all.fronts f d is in
            let b = element_at olds f (omega (arith, lt, all.many)) in
            let a = element_at news f (omega (arith, lt, all.many, many)) in
            (b.0, a.0, b.1, a.1, all.each f d b.0 a.0 is b.1 a.1)

  pub all_served : (others : Others) (options : Options) (origin : ℕ → History) (totals : Totals) (kept : List KeptSeat) → 1 ≤ options.partitions → length olds ≡ ports.fronts
      → ServesAll others options origin ports.batches totals kept olds news → ServesOnTables others options origin ports totals kept before after
  all_served others options origin totals kept some full all = record {
    fronts = all.fronts;
    runs = all.runs;
    served = record {
      many = all.many ∙ full;
      datagrams = λ f dealings is.
          let lt = slice_get_within all.fronts f dealings is in
          let b = element_at olds f (omega (arith, lt, all.many)) in
          let a = element_at news f (omega (arith, lt, all.many, many)) in
          port_served ports.batches f dealings b.0 a.0 b.1 a.1 (all.each f dealings b.0 a.0 is b.1 a.1);
      answered = lawful_beside options some origin all.runs (all_answers others all.fronts) all.ran all.answered;
    };
    counted = all.counted;
    tables = all.tables;
  }

-- ends that were bound and not served were left at their beginning
pub none_served : (batches first : ℕ) (ends : List EndFacts) (before mid : PortStates) → BindsEnds first ends before mid
    → (i : ℕ) (b a : EndFacts) → slice_get ends i ≡ Some b → slice_get ends i ≡ Some a → DealsInPartWithEnd batches [] [] b a
none_served batches first ends before mid bound i b a is is' =
    let w = bound.each i b is in
    let same : b ≡ a = cc in
    record {
      had = new_traffic w.datagrams;
      has = new_traffic w.datagrams;
      had_is = w.told;
      has_is = ap (λ (e : EndFacts). e.traffic) (sym same) ∙ w.told;
      begins = record { in_order = refl; few = omega arith; asked = refl; each = All-from_recursion IsDealing [] tt; sent = ([], refl) };
    }

-- and so they are, where they are new
pub none_begun : (batches first : ℕ) (ends : List EndFacts) → AreNewEnds first ends → TellAll ends → BeginsEnds batches ends ends
none_begun batches first ends new tell i b a is is' = by b.traffic refl (tell i b is) (new i b is).fresh
  where
    by : (t : Option Traffic) → b.traffic ≡ t → is_some b.traffic ≡ true → IfSome b.traffic (λ t. t ≡ new_traffic t.left)
        → (dealings : List Dealing) × (unread : List Datagram) × (length unread ≤ 1) × DealsInPartWithEnd batches dealings unread b a
    by None e never fresh = absurd (cc)
    by (Some t) e told fresh =
        let same : b ≡ a = cc in
        let is : t ≡ new_traffic t.left = subst (λ (o : Option Traffic). IfSome o (λ t. t ≡ new_traffic t.left)) e fresh in (
          [],
          [],
          omega arith,
          record {
            had = new_traffic t.left;
            has = new_traffic t.left;
            had_is = e ∙ ap Some is;
            has_is = ap (λ (x : EndFacts). x.traffic) (sym same) ∙ e ∙ ap Some is;
            begins = record { in_order = refl; few = omega arith; asked = refl; each = All-from_recursion IsDealing [] tt; sent = ([], refl) };
          },
        )

-- what was kept of ends that were bound
pub kept_at : (first : ℕ) (olds news : List EndFacts) → length news ≡ length olds → AreNewEnds first olds
    → ((i : ℕ) (b a : EndFacts) → slice_get olds i ≡ Some b → slice_get news i ≡ Some a → KeepsEnd b a) → AreAtPorts first news
kept_at first olds news many new kept i a is =
    let b = element_at olds i (omega (arith, many, slice_get_within news i a is)) in
    (kept i b.0 a b.1 is).port ∙ (new i b.0 b.1).port_is

pub kept_tell : (olds news : List EndFacts) → length news ≡ length olds
    → ((i : ℕ) (b a : EndFacts) → slice_get olds i ≡ Some b → slice_get news i ≡ Some a → KeepsEnd b a) → TellAll olds → TellAll news
kept_tell olds news many kept tell i a is =
    let b = element_at olds i (omega (arith, many, slice_get_within news i a is)) in
    (kept i b.0 a b.1 is).tells (tell i b.0 b.1)
