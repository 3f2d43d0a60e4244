-- What a whole run makes of a net: bound, served, released.
use Rattle.std.proofs.Common.{◌≡◌, ℕ, ◌+◌, ◌<◌, ◌≤◌, ◌⊎◌, inl, inr, true, List, [], length, Option, Some, None, refl, sym, ap, ◌∙◌, subst, slice_get, arith}
use Rattle.std.specs.Prelude.{is_some, min, sum_by, Result, Ok, Err, IfSome}
use Rattle.std.proofs.lemmas.Option.{slice_get_within}
use Rattle.list_laws.proofs.Places.{element_at}
use Rattle.outside.specs.PortStates.{PortStates, out}
use Rattle.partition_model.specs.declared.options.Options.{Options}
use Rattle.server_words.specs.declared.ports.PortOptions.{PortOptions}
use Rattle.fronts.specs.declared.totals.Totals.{Totals}
use Rattle.partition_model.specs.History.{History, IsHistory}
use Rattle.partition_table.specs.declared.tables.KeptSeat.{KeptSeat}
use Rattle.served.specs.Others.{Others, HaveAnsweredNothing}
use Rattle.served.specs.Beside.{ServesOnTables}
use Rattle.served.specs.Served.{BeginsPorts, StopsShort, LeavesUnserved}
use Rattle.outside.specs.Faults.{Rose, LAST_COUNT}
use Rattle.fronts.specs.declared.totals.ServeFault.{ServeFault}
use Rattle.fronts.specs.declared.totals.ServeFault.TheVariants.{Net, NoMemory}
use Rattle.served.specs.NetRun.{NetFacts, OnPorts, CountsFaults, ReleasesAll, ReleasesNet, KeepsNet, BindsAndServes, FailsToBind, MeansForRun, HasNoFault, HasStopped, IsCauseOnceBound}
use Rattle.served.specs.Ends.{EndFacts, StopsSome, TellAll, AreNewEnds, BindsEnds, DealsInPartWithEnd, ServesFronts, MeansForEnds, KeepsEnd}
use Rattle.served.proofs.Binding.{rose_on, rose_before}
use Rattle.served.proofs.Gathered.{same_kept}
use Rattle.served.proofs.PortRuns.{bound_tell, all_back, port_left, all_begun, none_stopped, all_stopped, all_served, none_served, none_begun, kept_tell}

on_ports_then : (P Q R : PortStates → PortStates → Type 0) → ((a b c : PortStates) → P a b → Q b c → R a c) → (a b c : Option PortStates)
    → OnPorts P a b → OnPorts Q b c → OnPorts R a c
on_ports_then P Q R f None b c p q = subst (λ (o : Option PortStates). OnPorts Q o c) p q
on_ports_then P Q R f (Some a) None c p q = absurd p
on_ports_then P Q R f (Some a) (Some b) None p q = absurd q
on_ports_then P Q R f (Some a) (Some b) (Some c) p q = f a b c p q

module _ (others : Others) (options : Options) (some : 1 ≤ options.partitions) (origin : ℕ → History) (ports : PortOptions) (kept : List KeptSeat) (before mid after : NetFacts) (news : List EndFacts)
    (rel : ReleasesNet ports.port news mid after) where
  pub keeps : (answer : Option (Result Totals ServeFault)) → BindsAndServes others options origin ports answer kept before mid news → KeepsNet ports before after
  keeps answer run = record {
    binds = omega (arith, rel.binds, run.binds);
    first = λ some. rel.first_is ∙ run.first (omega (arith, rel.binds));
    never_fall = omega (arith, run.never_fall, rel.never_fall);
    released = on_ports_then _ _ (ReleasesAll ports)
        (λ x y z b r. all_back ports run.olds news x y z run.many run.within b r (kept_tell run.olds news run.many run.keeps (bound_tell ports.port run.olds x y b)))
        before.ports mid.ports after.ports run.bound rel.told;
    begins = on_ports_then _ _ (BeginsPorts ports)
        (λ x y z b r. all_begun ports run.olds news x y z run.many run.within b r (run.begins (bound_tell ports.port run.olds x y b)))
        before.ports mid.ports after.ports run.bound rel.told;
  }

  no_faults : (totals : Totals) (run : BindsAndServes others options origin ports (Some (Ok totals)) kept before mid news) → HasNoFault before after
  no_faults totals run = by before.ports mid.ports before.fails refl run.bound
    where
      by : (x y : Option PortStates) (l : Option (List ℕ)) → before.fails ≡ l → OnPorts (BindsEnds ports.port run.olds) x y
          → IfSome x (λ _. IfSome l (λ _. after.faults ≡ before.faults))
      by None y l is b = tt
      by (Some x) None l is b = absurd b
      by (Some x) (Some y) None is b = tt
      by (Some x) (Some y) (Some l) is b =
          rel.steady (ap is_some (run.fails ∙ is))
          (λ i a at.
          let o = element_at run.olds i (omega (arith, run.many, slice_get_within news i a at)) in
          run.means.2.1 i o.0 a o.1 at (b.each i o.0 o.1).scripted ∙ (run.are_new i o.0 o.1).no_faults)
          ∙ run.means.1 (ap is_some is)

  stops : (run : BindsAndServes others options origin ports (Some (Err Net)) kept before mid news) → HasStopped others options origin ports before after
  stops run = by run.means
    where
      rose_of : StopsSome ports.batches run.olds news → Rose before.faults after.faults
      rose_of stops =
          let zero_is : stops.old.faults ≡ 0 = (run.are_new stops.front stops.old stops.was).no_faults in
          let some' : 0 < stops.new.faults = elim stops.rose as (λ _. 0 < stops.new.faults) [ inl lt ↦ omega (arith, zero_is) | inr last ↦ omega (arith, last) ] in
          rose_on before.faults mid.faults after.faults run.never_fall (rel.cause stops.front stops.new stops.is some')

      by : (FailsToBind before mid run.olds news × (kept ≡ []) × HaveAnsweredNothing others)
          ⊎ ((length run.olds ≡ ports.fronts) × (is_some before.fails ≡ true → mid.faults ≡ before.faults)
          × MeansForEnds others (Err Net) options origin ports.batches kept run.olds news) → HasStopped others options origin ports before after
      by (inl h) = record {
        rose = inl (rose_before before.faults mid.faults after.faults run.never_fall h.0.rose rel.never_fall);
        stopped = on_ports_then _ _ (StopsShort others options origin ports (before.refused < after.refused) (CountsFaults before after))
            (λ x y z b r. none_stopped ports run.olds news x y z run.many run.within b r others options origin (before.refused < after.refused) (CountsFaults before after)
            h.2 run.filled (omega (arith, h.0.refused, rel.refused))
            (subst (λ (n : List EndFacts). (i : ℕ) (b a : EndFacts) → slice_get run.olds i ≡ Some b → slice_get n i ≡ Some a → DealsInPartWithEnd ports.batches [] [] b a)
            (sym h.0.untouched) (none_served ports.batches ports.port run.olds x y b)))
            before.ports mid.ports after.ports run.bound rel.told;
      }
      by (inr h) =
          record {
            rose = elim h.2.1 as (λ _. Rose before.faults after.faults ⊎ others.stopped) [ inl stops ↦ inl (rose_of stops) | inr other ↦ inr other ];
            stopped = on_ports_then _ _ (StopsShort others options origin ports (before.refused < after.refused) (CountsFaults before after))
                (λ x y z b r. all_stopped ports run.olds news x y z run.many run.within b r others options origin (before.refused < after.refused) (CountsFaults before after)
                some h.0 h.2.1
                (λ told. rel.counted (ap is_some run.fails ∙ told) ∙ ap (λ (n : ℕ). min (n + sum_by (λ (e : EndFacts). e.faults) news) LAST_COUNT) (h.1 told))
                (h.2.2 (bound_tell ports.port run.olds x y b)))
                before.ports mid.ports after.ports run.bound rel.told;
          }

  -- the ports were bound, and the ends released as they were
  unserved : (run : BindsAndServes others options origin ports None kept before mid news) → OnPorts (LeavesUnserved ports) before.ports after.ports
  unserved run = on_ports_then _ _ (LeavesUnserved ports)
      (λ x y z b r f lt.
      let o = element_at run.olds f (omega (arith, lt, run.means.0)) in
      let part = none_served ports.batches ports.port run.olds x y b f o.0 o.0 o.1 o.1 in
      port_left ports run.olds news x y z run.many run.within b r ports.batches f [] [] o.0 o.0 o.1 (ap (λ (l : List EndFacts). slice_get l f) run.means.1 ∙ o.1) part)
      before.ports mid.ports after.ports run.bound rel.told

  pub cause : (answer : Option (Result Totals ServeFault)) → BindsAndServes others options origin ports answer kept before mid news → IsCauseOnceBound others answer options origin ports kept before after
  cause (Some (Ok totals)) run = record {
    served = on_ports_then _ _ (ServesOnTables others options origin ports totals kept)
        (λ x y z b r. all_served ports run.olds news x y z run.many run.within b r others options origin totals kept some run.means.0
        (run.means.2.2 (bound_tell ports.port run.olds x y b)))
        before.ports mid.ports after.ports run.bound rel.told;
    no_fault = no_faults totals run;
    shapes = run.means.2.0;
  }
  cause (Some (Err Net)) run = (unkept run.means, stops run)
    where
      unkept : {A B C D E F : Type 0} → (A × (kept ≡ []) × F) ⊎ (B × C × ((kept ≡ []) × D × E)) → kept ≡ []
      unkept (inl h) = h.1
      unkept (inr h) = h.2.0
  cause (Some (Err NoMemory)) run = run.means
  cause None run = (run.means.2, unserved run)

-- the run up to the release
-- ports were bound, up to the first bind that failed
pub record Bound (ports : PortOptions) (before mid : NetFacts) (olds : List EndFacts) : Type 0 where
  pub are_new : AreNewEnds ports.port olds
  pub bound : OnPorts (BindsEnds ports.port olds) before.ports mid.ports
  pub within : length olds ≤ ports.fronts
  pub never_fall : before.faults ≤ mid.faults
  pub fails : mid.fails ≡ before.fails
  pub binds : mid.binds ≤ ports.fronts
  pub first : 0 < mid.binds → mid.first ≡ ports.port

module _ {ports : PortOptions} {before mid : NetFacts} {olds : List EndFacts} (b : Bound ports before mid olds) {others : Others} {options : Options} {origin : ℕ → History}
    (filled : (p : ℕ) → p < options.partitions → IsHistory options (origin p)) where
  -- a run that ended before any end was served
  run_unserved : {answer : Option (Result Totals ServeFault)} {kept : List KeptSeat} → MeansForRun others answer options origin ports kept before mid olds olds
      → BindsAndServes others options origin ports answer kept before mid olds
  run_unserved means = record {
    olds = olds;
    are_new = b.are_new;
    bound = b.bound;
    filled = filled;
    within = b.within;
    many = refl;
    keeps = λ i old new is is'. same_kept old new (cc);
    never_fall = b.never_fall;
    fails = b.fails;
    binds = b.binds;
    first = b.first;
    begins = none_begun ports.batches ports.port olds b.are_new;
    means = means;
  }

  pub run_failed : {answer : Option (Result Totals ServeFault)} {kept : List KeptSeat} → answer ≡ Some (Err Net) → kept ≡ [] → Rose before.faults mid.faults → before.refused < mid.refused
      → HaveAnsweredNothing others → BindsAndServes others options origin ports answer kept before mid olds
  run_failed {kept = kept} is none rose refused silent =
      run_unserved (subst (λ (r : Option (Result Totals ServeFault)). MeansForRun others r options origin ports kept before mid olds olds) (sym is)
      (inl (record { rose = rose; refused = refused; untouched = refl }, none, silent)))

  -- all ports were bound, and the ends left unserved
  pub run_left : {kept : List KeptSeat} → kept ≡ [] → length olds ≡ ports.fronts → BindsAndServes others options origin ports None kept before mid olds
  run_left none full = run_unserved (full, refl, none)

  pub run_served : (answer : Result Totals ServeFault) {kept : List KeptSeat} {news : List EndFacts} → length olds ≡ ports.fronts
      → (is_some before.fails ≡ true → mid.faults ≡ before.faults) → ServesFronts others options origin ports.batches answer kept olds news
      → BindsAndServes others options origin ports (Some answer) kept before mid news
  run_served answer {kept} {news} full steady s = record {
    olds = olds;
    are_new = b.are_new;
    bound = b.bound;
    filled = filled;
    within = b.within;
    many = s.many;
    keeps = s.keeps;
    never_fall = b.never_fall;
    fails = b.fails;
    binds = b.binds;
    first = b.first;
    begins = s.begins;
    means = by answer s.means;
  }
    where
      by : (answer : Result Totals ServeFault) → MeansForEnds others answer options origin ports.batches kept olds news → MeansForRun others (Some answer) options origin ports kept before mid olds news
      by (Ok totals) m = (full, steady, m)
      by (Err Net) m = inr (full, steady, m)
      by (Err NoMemory) m = m

-- the ports of the ends are out until they are released, and the ends tell what they did
pub out_until : (first : ℕ) (olds news : List EndFacts) (a b : Option PortStates) → length news ≡ length olds → OnPorts (BindsEnds first olds) a b
    → IfSome b (λ all. (i : ℕ) → i < length news → all (first + i) ≡ out)
out_until first olds news None b many p = subst (λ (o : Option PortStates). IfSome o (λ all. (i : ℕ) → i < length news → all (first + i) ≡ out)) (sym p) tt
out_until first olds news (Some x) None many p = absurd p
out_until first olds news (Some x) (Some y) many p = λ i lt. p.out i (omega (arith, many))

pub tell_until : (first : ℕ) (olds news : List EndFacts) (a b : Option PortStates) → length news ≡ length olds
    → ((i : ℕ) (b a : EndFacts) → slice_get olds i ≡ Some b → slice_get news i ≡ Some a → KeepsEnd b a) → OnPorts (BindsEnds first olds) a b
    → IfSome b (λ all. TellAll news)
tell_until first olds news None b many kept p = subst (λ (o : Option PortStates). IfSome o (λ all. TellAll news)) (sym p) tt
tell_until first olds news (Some x) None many kept p = absurd p
tell_until first olds news (Some x) (Some y) many kept p = kept_tell olds news many kept (bound_tell first olds x y p)

-- a net that was left as it was
pub net_kept : (ports : PortOptions) (net : NetFacts) → net.binds ≡ 0 → KeepsNet ports net net
net_kept ports net unbound = record {
  binds = omega (arith, unbound);
  first = λ some. absurd (omega (arith, unbound));
  never_fall = omega arith;
  released = by net.ports;
  begins = nothing net.ports;
}
  where
    by : (o : Option PortStates) → OnPorts (ReleasesAll ports) o o
    by None = refl
    by (Some x) = record { released = λ port is. is; others = λ port other. refl }

    nothing : (o : Option PortStates) → OnPorts (BeginsPorts ports) o o
    nothing None = refl
    nothing (Some x) = λ f lt. ([], [], omega arith, inl (refl, refl, refl))
