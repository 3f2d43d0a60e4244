-- What each front came to is what all of them come to.
use Rattle.std.proofs.Common.{◌≡◌, ℕ, zero, suc, ◌+◌, ◌<◌, ◌≤◌, ◌⊎◌, inl, inr, Bool, true, false, List, [], ◌∷◌, ◌++◌, length, map, Option, Some, None, refl, sym, ap, ◌∙◌, subst, slice_get, take, arith}
use Rattle.std.specs.Prelude.{◌≢◌, is_some, sum_by, option_map, Result, Ok, Err}
use Rattle.std.specs.List.{filter}
use Rattle.std.proofs.lemmas.List.{append-nil, length-map, length-take, length-take-le, take-append-drop}
use Rattle.std.proofs.Math.Nat.{min-le_left}
use Rattle.std.proofs.lemmas.List.Sums.{sum_by-cons, sum_by-append}
use Rattle.std.proofs.lemmas.Bool.{true≢false, cases_lt, lt-ltb}
use Rattle.std.proofs.lemmas.Option.{slice_get_within, slice_get-map, same_Some}
use Rattle.list_laws.proofs.Places.{element_at, from_map}
use Rattle.outside.specs.Traffic.{Datagram, Traffic}
use Rattle.partition_model.specs.declared.options.Options.{Options}
use Rattle.partition_model.specs.History.{History}
use Rattle.partition_table.specs.declared.tables.KeptSeat.{KeptSeat}
use Rattle.server_words.specs.declared.limits.TheConstants.{MAX_BATCHES}
use Rattle.fronts.specs.declared.totals.Totals.{Totals}
use Rattle.fronts.specs.declared.totals.ServeFault.{ServeFault}
use Rattle.fronts.specs.declared.totals.ServeFault.TheVariants.{Net, NoMemory}
use Rattle.fronts.specs.Answered.{Answered, gets_of, count_of_writes}
use Rattle.datagram_answers.specs.Dealing.{Dealing, turns_in, answered_in}
use Rattle.fronts.specs.Session.{Sessions, AnswersInOrder}
use Rattle.served.specs.Served.{IsThrough}
use Rattle.datagram_answers.specs.DealingTotals.{AreTotalsOf, has_no_turns}
use Rattle.served.specs.Others.{Others, all_answers}
use Rattle.served.specs.Beside.{AnsweredBeside, RunsPartitions, gets_answered}
use Rattle.datagram_answers.specs.OneEnd.{OnTraffic, ServesEnd, BeginsEnd}
use Rattle.served.specs.Ends.{EndFacts, KeepsEnd, TellAll, DealsWithEnd, DealsInPartWithEnd, MayStopAtEnd, StopsSome, StopsBeside, MeansForEnds, ServesAll, ServesFronts}
use Rattle.fronts.specs.Totals.{IsUpTo}
use Rattle.served.specs.FrontRuns.{FrontRun, MeansForFront, RunsFront, RunFronts, AreTakenIn, closed_in, RanAll, sum_of_totals, ComesTo}
use Rattle.served.proofs.AllFronts.{all_long, beside_all}
use Rattle.served.proofs.ServedBeside.{closed_gets}

pub same_kept : (b a : EndFacts) → b ≡ a → KeepsEnd b a
same_kept b a same = subst (λ (e : EndFacts). KeepsEnd b e) same (record { port = refl; never_fall = omega arith; tells = λ h. h; scripted = refl })

-- what a told end tells after a call
told_of : (P : Traffic → Traffic → Type 0) (before after : Option Traffic) → is_some before ≡ true → OnTraffic P before after
    → (had : Traffic) × (has : Traffic) × (before ≡ Some had) × (after ≡ Some has) × P had has
told_of P None after never h = absurd (true≢false (sym never))
told_of P (Some had) None tells h = absurd h
told_of P (Some had) (Some has) tells h = (had, has, refl, refl, h)

abbrev as_ok : Totals → Result Totals ServeFault
as_ok totals = Ok totals

counts_cons : (dealings : List Dealing) (fronts : List (List Dealing)) (one totals : Totals) → AreTotalsOf (dealings ∷ []) one → AreTotalsOf fronts totals
    → AreTotalsOf (dealings ∷ fronts) (record { batches = one.batches + totals.batches; requests = one.requests + totals.requests; bad = one.bad + totals.bad })
counts_cons dealings fronts one totals c d = record {
  batches = omega (arith, c.batches, d.batches, sum_by-cons length dealings [], sum_by-cons length dealings fronts);
  requests = omega (arith, c.requests, d.requests, sum_by-cons (λ x. length (turns_in x)) dealings [], sum_by-cons (λ x. length (turns_in x)) dealings fronts);
  bad = omega (arith, c.bad, d.bad, sum_by-cons (λ x. length (filter has_no_turns x)) dealings [], sum_by-cons (λ x. length (filter has_no_turns x)) dealings fronts);
}

sum_of_cons : (t : Totals) (all : List Totals)
    → record { batches = t.batches + (sum_of_totals all).batches; requests = t.requests + (sum_of_totals all).requests; bad = t.bad + (sum_of_totals all).bad } ≡ sum_of_totals (t ∷ all)
sum_of_cons t all = λ i. record {
  batches = sym (sum_by-cons (λ (x : Totals). x.batches) t all) i;
  requests = sym (sum_by-cons (λ (x : Totals). x.requests) t all) i;
  bad = sym (sum_by-cons (λ (x : Totals). x.bad) t all) i;
}

-- an end that was served was also dealt with in part
begins : (options : Options) (now next : Sessions) (left left_after batches : ℕ) (ended : Bool) (totals : Totals) (had has : Traffic)
    → (s : ServesEnd options false now left batches ended totals next left_after had has) → BeginsEnd batches s.dealings [] had has
begins options now next left left_after batches ended totals had has s =
    let got : has.received ≡ take batches had.left = ap (λ (t : Traffic). t.received) s.told in
    record {
      in_order = sym (take-append-drop batches had.left) ∙ ap (λ (t : Traffic). t.received ++ t.left) (sym s.told);
      few = subst (λ (n : ℕ). n ≤ batches) (sym (ap length got ∙ length-take batches had.left)) (min-le_left batches (length had.left));
      asked = append-nil (map (λ d. d.datagram) s.dealings) ∙ s.asked ∙ sym got;
      each = s.each;
      sent = ([], ap (λ (t : Traffic). t.sent) (sym s.told) ∙ sym (append-nil has.sent));
    }

-- and to its end
came_through : (options : Options) (now next : Sessions) (left left_after batches : ℕ) (ended : Bool) (totals : Totals) (had has : Traffic)
    → (s : ServesEnd options false now left batches ended totals next left_after had has) → IsThrough batches has ended s.dealings
came_through options now next left left_after batches ended totals had has s =
    (ap (λ (t : Traffic). t.sent) s.told, by (cases_lt (length had.left) batches))
  where
    by : (length had.left < batches) ⊎ (batches ≤ length had.left) → (ended ≡ true) ⊎ (length has.received ≡ batches)
    by (inl lt) = inl (s.at_end ∙ lt-ltb (length had.left) batches lt)
    by (inr le) = inr (ap (λ (t : Traffic). length t.received) s.told ∙ length-take-le batches had.left le)

module _ {Y : Type 0} where
  consed : (Q : ℕ → Y → Type 0) (one : Y) → Q 0 one → (rest : List Y) → ((i : ℕ) (y : Y) → slice_get rest i ≡ Some y → Q (suc i) y)
      → (i : ℕ) (y : Y) → slice_get (one ∷ rest) i ≡ Some y → Q i y
  consed Q one here rest later zero y is = let same : one ≡ y = cc in subst (Q 0) same here
  consed Q one here rest later (suc i) y is = later i y is

  -- one for each place
  pub chosen : (Q : ℕ → Y → Type 0) (n : ℕ) → ((i : ℕ) → i < n → (y : Y) × Q i y)
      → (ys : List Y) × (length ys ≡ n) × ((i : ℕ) (y : Y) → slice_get ys i ≡ Some y → Q i y)
  chosen Q zero has = ([], refl, λ i y is. absurd (cc))
  chosen Q (suc n) has =
      let one = has 0 (omega arith) in
      let rest = chosen (λ i. Q (suc i)) n (λ i lt. has (suc i) (omega arith)) in
      (one.0 ∷ rest.0, ap suc rest.1, consed Q one.0 one.1 rest.0 rest.2)

module _ (others : Others) (options : Options) (origin : ℕ → History) (batches : ℕ) where
  -- what the fronts made of ends that tell, where all were served
  record Built (rs : List FrontRun) (totals : Totals) (bs es : List EndFacts) : Type 0 where
    pub fronts : List (List Dealing)
    pub many : length fronts ≡ length rs
    pub each : (f : ℕ) (d : List Dealing) (b a : EndFacts) → slice_get fronts f ≡ Some d → slice_get bs f ≡ Some b → slice_get es f ≡ Some a → DealsWithEnd batches d b a
    pub answers : (f : ℕ) (r : FrontRun) (d : List Dealing) → slice_get rs f ≡ Some r → slice_get fronts f ≡ Some d
        → AnswersInOrder options false r.old (answered_in d) r.new × (r.left ≤ r.left_after + count_of_writes (answered_in d))
    pub counted : AreTotalsOf fronts totals

  abbrev Each : List FrontRun → List EndFacts → List EndFacts → Type 0
  Each rs bs es = (f : ℕ) (r : FrontRun) (b a : EndFacts) → slice_get rs f ≡ Some r → slice_get bs f ≡ Some b → slice_get es f ≡ Some a → RunsFront options batches r b a

  built : (rs : List FrontRun) (all : List Totals) (bs es : List EndFacts) → map (λ (r : FrontRun). r.answer) rs ≡ map (λ (t : Totals). Ok t) all → length bs ≡ length rs → length es ≡ length rs
      → Each rs bs es → TellAll bs → Built rs (sum_of_totals all) bs es
  built [] [] bs es same many many' each tell = record {
    fronts = [];
    many = refl;
    each = λ f d b a is. absurd (cc);
    answers = λ f r d is. absurd (cc);
    counted = record { batches = refl; requests = refl; bad = refl };
  }
  built [] (t ∷ all) bs es same many many' each tell = absurd (cc)
  built (r ∷ rs) [] bs es same many many' each tell = absurd (cc)
  built (r ∷ rs) (t ∷ all) [] es same many many' each tell = absurd (omega arith)
  built (r ∷ rs) (t ∷ all) (b ∷ bs) [] same many many' each tell = absurd (omega arith)
  built (r ∷ rs) (t ∷ all) (b ∷ bs) (a ∷ es) same many many' each tell =
      let answer : r.answer ≡ Ok t = cc in
      let later : map (λ (r : FrontRun). r.answer) rs ≡ map (λ (t : Totals). Ok t) all = cc in
      let rest = built rs all bs es later (omega arith) (omega arith) (λ f. each (suc f)) (λ i. tell (suc i)) in
      let one = each 0 r b a refl refl refl in
      let means = subst (λ x. MeansForFront x options batches r b a) answer one.means in
      joined rest (told_of _ b.traffic a.traffic (tell 0 b refl) means.2)
    where
      joined : Built rs (sum_of_totals all) bs es
          → ((had : Traffic) × (has : Traffic) × (b.traffic ≡ Some had) × (a.traffic ≡ Some has) × ServesEnd options false r.old r.left batches a.has_ended t r.new r.left_after had has)
          → Built (r ∷ rs) (sum_of_totals (t ∷ all)) (b ∷ bs) (a ∷ es)
      joined rest told =
          let s = told.4 in
          record {
            fronts = s.dealings ∷ rest.fronts;
            many = ap suc rest.many;
            each = each_of rest told;
            answers = answers_of rest told;
            counted = subst (AreTotalsOf (s.dealings ∷ rest.fronts)) (sum_of_cons t all) (counts_cons s.dealings rest.fronts t (sum_of_totals all) s.counts rest.counted);
          }
        where
          each_of : (rest : Built rs (sum_of_totals all) bs es)
              (told : (had : Traffic) × (has : Traffic) × (b.traffic ≡ Some had) × (a.traffic ≡ Some has) × ServesEnd options false r.old r.left batches a.has_ended t r.new r.left_after had has)
              → (f : ℕ) (d : List Dealing) (x y : EndFacts) → slice_get (told.4.dealings ∷ rest.fronts) f ≡ Some d → slice_get (b ∷ bs) f ≡ Some x → slice_get (a ∷ es) f ≡ Some y → DealsWithEnd batches d x y
          each_of rest told zero d x y is is' is'' =
              let s = told.4 in
              let same : s.dealings ≡ d = cc in
              let first : b ≡ x = cc in
              let second : a ≡ y = cc in
              subst (λ (z : EndFacts). DealsWithEnd batches d z y) first (subst (λ (z : EndFacts). DealsWithEnd batches d b z) second
              (subst (λ (ds : List Dealing). DealsWithEnd batches ds b a) same (record {
                had = told.0;
                had_is = told.2;
                each = s.each;
                asked = s.asked;
                told = told.3 ∙ ap Some s.told;
                at_end = s.at_end;
              })))
          each_of rest told (suc f) d x y is is' is'' = rest.each f d x y is is' is''

          answers_of : (rest : Built rs (sum_of_totals all) bs es)
              (told : (had : Traffic) × (has : Traffic) × (b.traffic ≡ Some had) × (a.traffic ≡ Some has) × ServesEnd options false r.old r.left batches a.has_ended t r.new r.left_after had has)
              → (f : ℕ) (x : FrontRun) (d : List Dealing) → slice_get (r ∷ rs) f ≡ Some x → slice_get (told.4.dealings ∷ rest.fronts) f ≡ Some d
              → AnswersInOrder options false x.old (answered_in d) x.new × (x.left ≤ x.left_after + count_of_writes (answered_in d))
          answers_of rest told zero x d is is' =
              let s = told.4 in
              let same : s.dealings ≡ d = cc in
              let first : r ≡ x = cc in
              subst (λ (z : FrontRun). AnswersInOrder options false z.old (answered_in d) z.new × (z.left ≤ z.left_after + count_of_writes (answered_in d))) first
              (subst (λ (ds : List Dealing). AnswersInOrder options false r.old (answered_in ds) r.new × (r.left ≤ r.left_after + count_of_writes (answered_in ds))) same (s.answers, s.few))
          answers_of rest told (suc f) x d is is' = rest.answers f x d is is'

  -- a sum over one list is that over another of the same length, place by place
  same_sums : {X Y : Type 0} (g : X → ℕ) (h : Y → ℕ) (xs : List X) (ys : List Y) → length ys ≡ length xs
      → ((i : ℕ) (x : X) (y : Y) → slice_get xs i ≡ Some x → slice_get ys i ≡ Some y → g x ≡ h y) → sum_by g xs ≡ sum_by h ys
  same_sums g h [] [] many same = refl
  same_sums g h [] (y ∷ ys) many same = absurd (omega arith)
  same_sums g h (x ∷ xs) [] many same = absurd (omega arith)
  same_sums g h (x ∷ xs) (y ∷ ys) many same =
      omega (arith, sum_by-cons g x xs, sum_by-cons h y ys, same 0 x y refl refl, same_sums g h xs ys (omega arith) (λ i. same (suc i)))

  -- a front over datagrams was answered beside all others
  beside_one : {rs : List FrontRun} {left : List KeptSeat} (taken : AreTakenIn others options origin rs left) (f : ℕ) (r : FrontRun) (d : List Dealing) → slice_get rs f ≡ Some r
      → AnswersInOrder options false r.old (answered_in d) r.new → r.left ≤ r.left_after + count_of_writes (answered_in d)
      → AnsweredBeside options origin taken.runs (length others.answers + f) (answered_in d) r.old r.new
  beside_one taken f r d at answers few =
      let t = taken.each f r at in
      record { answers = answers; starts = t.starts; began = t.began; seen = t.seen; took = t.took; few = omega (arith, t.sent, few) }

  -- the partitions ran the writes of all fronts
  all_run : {rs : List FrontRun} {left : List KeptSeat} (taken : AreTakenIn others options origin rs left) (fronts : List (List Dealing)) → length fronts ≡ length rs
      → RunsPartitions options origin (length (all_answers others fronts)) taken.runs
  all_run taken fronts many =
      subst (λ (n : ℕ). RunsPartitions options origin n taken.runs) (sym (all_long others fronts ∙ ap (λ (n : ℕ). length others.answers + n) many)) taken.ran

  all_served : (some : 1 ≤ options.partitions) (rs : List FrontRun) (totals : Totals) (kept : List KeptSeat) (olds news : List EndFacts) → length olds ≡ length rs
      → AreTakenIn others options origin rs kept → Built rs totals olds news → ServesAll others options origin batches totals kept olds news
  all_served some rs totals kept olds news many taken b =
      record {
        fronts = b.fronts;
        runs = taken.runs;
        many = b.many ∙ sym many;
        each = b.each;
        ran = all_run taken b.fronts b.many;
        answered = beside_all others options origin taken.runs b.fronts taken.before (λ f d is.
            let r = element_at rs f (omega (arith, slice_get_within b.fronts f d is, b.many)) in
            (r.0.old, r.0.new, one taken b f r.0 d r.1 is));
        counted = b.counted;
        tables = record { each = λ p entry is. record { history = taken.history p entry is; closed = closed taken b p entry is } };
      }
    where
      one : (taken : AreTakenIn others options origin rs kept) (b : Built rs totals olds news) (f : ℕ) (r : FrontRun) (d : List Dealing) → slice_get rs f ≡ Some r → slice_get b.fronts f ≡ Some d
          → AnsweredBeside options origin taken.runs (length others.answers + f) (answered_in d) r.old r.new
      one taken b f r d at at' = let a = b.answers f r d at at' in beside_one taken f r d at a.0 a.1

      closed : (taken : AreTakenIn others options origin rs kept) (b : Built rs totals olds news) (p : ℕ) (entry : KeptSeat) → slice_get kept p ≡ Some entry
          → entry.closed ≡ gets_answered options p (all_answers others b.fronts)
      closed taken b p entry is =
          let gets = λ (answers : List Answered). length (gets_of options p answers) in
          let own = same_sums (closed_in p) gets rs (map answered_in b.fronts) (length-map b.fronts answered_in ∙ b.many) (λ f r answers at at'.
          let d = from_map answered_in b.fronts f answers at' in
          closed_gets options some origin taken.runs (length others.answers + f) (answered_in d.0) r.old r.new (one taken b f r d.0 at d.1) p
          (omega (arith, slice_get_within kept p entry is, taken.shapes.many)) ∙ ap gets d.2) in
          omega (arith, taken.closed p entry is, own, sum_by-append gets others.answers (map answered_in b.fronts))

  answer_at : (rs : List FrontRun) (f : ℕ) (answer : Result Totals ServeFault) → slice_get (map (λ (r : FrontRun). r.answer) rs) f ≡ Some answer
      → (r : FrontRun) × (slice_get rs f ≡ Some r) × (r.answer ≡ answer)
  answer_at [] zero answer is = absurd (cc)
  answer_at [] (suc f) answer is = absurd (cc)
  answer_at (r ∷ rs) zero answer is = (r, refl, cc)
  answer_at (r ∷ rs) (suc f) answer is = answer_at rs f answer is

  -- what a front dealt with, where there was memory
  record Stopped (r : FrontRun) (b a : EndFacts) (dealings : List Dealing) : Type 0 where
    pub may : MayStopAtEnd batches dealings b a
    pub answers : AnswersInOrder options false r.old (answered_in dealings) r.new
    pub few : r.left ≤ r.left_after + count_of_writes (answered_in dealings)

  stopped : (r : FrontRun) (b a : EndFacts) (answer : Result Totals ServeFault) → answer ≢ Err NoMemory → MeansForFront answer options batches r b a → is_some b.traffic ≡ true
      → (dealings : List Dealing) × Stopped r b a dealings
  stopped r b a (Ok t) other means tells =
      let told = told_of _ b.traffic a.traffic tells means.2 in
      let s = told.4 in (
        s.dealings,
        record {
          may = record {
            part = record { had = told.0; has = told.1; had_is = told.2; has_is = told.3; begins = begins options r.old r.new r.left r.left_after batches a.has_ended t told.0 told.1 s };
            through = inl (came_through options r.old r.new r.left r.left_after batches a.has_ended t told.0 told.1 s);
          };
          answers = s.answers;
          few = s.few;
        },
      )
  stopped r b a (Err Net) other means tells =
      let told = told_of _ b.traffic a.traffic tells means.1 in
      let s = told.4 in (
        s.dealings,
        record {
          may = record { part = record { had = told.0; has = told.1; had_is = told.2; has_is = told.3; begins = s.begins }; through = inr means.0 };
          answers = s.answers;
          few = s.few;
        },
      )
  stopped r b a (Err NoMemory) other means tells = absurd (other refl)

  in_part : (r : FrontRun) (b a : EndFacts) (answer : Result Totals ServeFault) → MeansForFront answer options batches r b a → is_some b.traffic ≡ true
      → (dealings : List Dealing) × (unread : List Datagram) × (length unread ≤ 1) × DealsInPartWithEnd batches dealings unread b a
  in_part r b a (Ok t) means tells = let s = stopped r b a (Ok t) (λ e. cc) means tells in (s.0, [], omega arith, s.1.may.part)
  in_part r b a (Err Net) means tells = let s = stopped r b a (Err Net) (λ e. cc) means tells in (s.0, [], omega arith, s.1.may.part)
  in_part r b a (Err NoMemory) means tells =
      let told = told_of _ b.traffic a.traffic tells means in
      (told.4.dealings, told.4.unread, told.4.one, record { had = told.0; has = told.1; had_is = told.2; has_is = told.3; begins = told.4.begins })

  -- what is kept: the seats where all were served, and else nothing
  abbrev pub KeepsWhere : Result Totals ServeFault → List FrontRun → List KeptSeat → Type 0
  KeepsWhere (Ok totals) rs kept = AreTakenIn others options origin rs kept
  KeepsWhere (Err fault) rs kept = (kept ≡ []) × (left : List KeptSeat) × AreTakenIn others options origin rs left

  -- what one of these fronts dealt with
  record StoppedAt (rs : List FrontRun) (olds news : List EndFacts) (f : ℕ) (dealings : List Dealing) : Type 0 where
    pub run : FrontRun
    pub before : EndFacts
    pub after : EndFacts
    pub ran : slice_get rs f ≡ Some run
    pub was : slice_get olds f ≡ Some before
    pub is : slice_get news f ≡ Some after
    pub stopped : Stopped run before after dealings

  -- what all fronts dealt with beside each other, where there was memory for all
  all_stopped : (rs : List FrontRun) (left : List KeptSeat) (olds news : List EndFacts) → RunFronts options batches rs olds news → AreTakenIn others options origin rs left
      → ((f : ℕ) (r : FrontRun) → slice_get rs f ≡ Some r → r.answer ≢ Err NoMemory) → TellAll olds → StopsBeside others options origin batches olds news
  all_stopped rs left olds news run taken other tell = record {
    fronts = all.0;
    runs = taken.runs;
    many = all.1;
    each = λ f d b a is is' is''.
        let q = all.2 f d is in
        let old : q.before ≡ b = same_Some q.before b (sym q.was ∙ is') in
        let new : q.after ≡ a = same_Some q.after a (sym q.is ∙ is'') in
        subst (λ (x : EndFacts). MayStopAtEnd batches d x a) old (subst (λ (x : EndFacts). MayStopAtEnd batches d q.before x) new q.stopped.may);
    ran = all_run taken all.0 (all.1 ∙ run.many_before);
    answered = beside_all others options origin taken.runs all.0 taken.before (λ f d is.
        let q = all.2 f d is in
        (q.run.old, q.run.new, beside_one taken f q.run d q.ran q.stopped.answers q.stopped.few));
  }
    where
      all : (ds : List (List Dealing)) × (length ds ≡ length olds) × ((f : ℕ) (d : List Dealing) → slice_get ds f ≡ Some d → StoppedAt rs olds news f d)
      all = chosen (StoppedAt rs olds news) (length olds) (λ f lt.
          let r = element_at rs f (omega (arith, lt, run.many_before)) in
          let b = element_at olds f lt in
          let a = element_at news f (omega (arith, lt, run.many_before, run.many_after)) in
          let s = stopped r.0 b.0 a.0 r.0.answer (other f r.0 r.1) (run.each f r.0 b.0 a.0 r.1 b.1 a.1).means (tell f b.0 b.1) in
          (s.0, record { run = r.0; before = b.0; after = a.0; ran = r.1; was = b.1; is = a.1; stopped = s.1 }))

  pub gathered : (some : 1 ≤ options.partitions) (rs : List FrontRun) (kept : List KeptSeat) (olds news : List EndFacts) (run : RunFronts options batches rs olds news)
      (answer : Result Totals ServeFault) → ComesTo others (map (λ (r : FrontRun). r.answer) rs) answer → KeepsWhere answer rs kept → ServesFronts others options origin batches answer kept olds news
  gathered some rs kept olds news run answer sums keeps = record {
    many = run.many_after ∙ sym run.many_before;
    keeps = λ i b a is is'.
        let r = element_at rs i (omega (arith, slice_get_within olds i b is, run.many_before)) in
        (run.each i r.0 b a r.1 is is').keeps;
    begins = λ tell i b a is is'.
        let r = element_at rs i (omega (arith, slice_get_within olds i b is, run.many_before)) in
        in_part r.0 b a r.0.answer (run.each i r.0 b a r.1 is is').means (tell i b is);
    means = means answer sums keeps;
  }
    where
      some_stopped : (f : ℕ) → slice_get (map (λ (r : FrontRun). r.answer) rs) f ≡ Some (Err Net) → StopsSome batches olds news
      some_stopped f failed =
          let r = answer_at rs f (Err Net) failed in
          let b = element_at olds f (omega (arith, slice_get_within rs f r.0 r.1, run.many_before)) in
          let a = element_at news f (omega (arith, slice_get_within rs f r.0 r.1, run.many_after)) in
          let m = subst (λ x. MeansForFront x options batches r.0 b.0 a.0) r.2 (run.each f r.0 b.0 a.0 r.1 b.1 a.1).means in
          record {
            front = f;
            old = b.0;
            new = a.0;
            was = b.1;
            is = a.1;
            rose = m.0;
            stops = λ tell.
                let t = told_of _ b.0.traffic a.0.traffic (tell f b.0 b.1) m.1 in
                record { dealings = t.4.dealings; part = record { had = t.0; has = t.1; had_is = t.2; has_is = t.3; begins = t.4.begins }; short = t.4.short };
          }

      means : (answer : Result Totals ServeFault) → ComesTo others (map (λ (r : FrontRun). r.answer) rs) answer → KeepsWhere answer rs kept → MeansForEnds others answer options origin batches kept olds news
      means (Ok totals) sums taken = (
        taken.shapes,
        λ i b a is is' scripted.
            let r = element_at rs i (omega (arith, slice_get_within olds i b is, run.many_before)) in
            let t = element_at sums.0 i (omega (arith, slice_get_within olds i b is, run.many_before, ap length sums.1, length-map rs (λ (r : FrontRun). r.answer), length-map {B = Result Totals ServeFault} sums.0 (λ (t : Totals). Ok t))) in
            let at : slice_get (map (λ (r : FrontRun). r.answer) rs) i ≡ Some r.0.answer = slice_get-map (λ (r : FrontRun). r.answer) rs i ∙ ap (option_map (λ (r : FrontRun). r.answer)) r.1 in
            let at' : slice_get (map as_ok sums.0) i ≡ Some (as_ok t.0) = slice_get-map as_ok sums.0 i ∙ ap (option_map as_ok) t.1 in
            let both = ap (λ (l : List (Result Totals ServeFault)). slice_get l i) sums.1 in
            let answer : r.0.answer ≡ as_ok t.0 = same_Some _ _ (sym at ∙ both ∙ at') in
            (subst (λ x. MeansForFront x options batches r.0 b a) answer (run.each i r.0 b a r.1 is is').means).1 scripted,
        λ tell. all_served some rs totals kept olds news run.many_before taken
            (subst (λ (t : Totals). Built rs t olds news) (sym sums.2) (built rs sums.0 olds news sums.1 run.many_before run.many_after run.each tell)),
      )
      means (Err Net) sums none = (
        none.0,
        elim sums.0 as (λ _. StopsSome batches olds news ⊎ others.stopped) [ inl h ↦ inl (some_stopped h.0 h.1) | inr stopped ↦ inr stopped ],
        all_stopped rs none.1 olds news run none.2
            (λ f q is e. sums.1 f (slice_get-map (λ (r : FrontRun). r.answer) rs f ∙ ap (option_map (λ (r : FrontRun). r.answer)) is ∙ ap Some e)),
      )
      means (Err NoMemory) sums none = none.0

  -- what is kept of the seats that the owners may leave
  abbrev pub KeepsOf : Result Totals ServeFault → List KeptSeat → List KeptSeat → Type 0
  KeepsOf (Ok totals) left kept = kept ≡ left
  KeepsOf (Err fault) left kept = kept ≡ []

  pub all_ran : (some : 1 ≤ options.partitions) (left kept : List KeptSeat) (answers : List (Result Totals ServeFault)) (olds news : List EndFacts) (ran : RanAll others options origin batches left answers olds news)
      (answer : Result Totals ServeFault) → ComesTo others answers answer → KeepsOf answer left kept → ServesFronts others options origin batches answer kept olds news
  all_ran some left kept answers olds news ran answer sums keeps =
      gathered some ran.fronts kept olds news ran.run answer (subst (λ (l : List (Result Totals ServeFault)). ComesTo others l answer) ran.answers_are sums) (by answer keeps)
    where
      by : (answer : Result Totals ServeFault) → KeepsOf answer left kept → KeepsWhere answer ran.fronts kept
      by (Ok totals) same = subst (AreTakenIn others options origin ran.fronts) (sym same) ran.taken
      by (Err fault) none = (none, left, ran.taken)

  -- as many answers as ends, and each that counts counts no more than its front was given
  pub few_answers : (left : List KeptSeat) (answers : List (Result Totals ServeFault)) (olds news : List EndFacts) → RanAll others options origin batches left answers olds news → length answers ≡ length olds
  few_answers left answers olds news ran = ap length ran.answers_are ∙ length-map ran.fronts (λ (r : FrontRun). r.answer) ∙ sym ran.run.many_before

  pub small_answers : (left : List KeptSeat) (answers : List (Result Totals ServeFault)) (olds news : List EndFacts) → RanAll others options origin batches left answers olds news → batches ≤ MAX_BATCHES
      → (f : ℕ) (totals : Totals) → slice_get answers f ≡ Some (Ok totals) → IsUpTo MAX_BATCHES totals
  small_answers left answers olds news ran few f totals is =
      let r = answer_at ran.fronts f (Ok totals) (ap (λ l. slice_get l f) (sym ran.answers_are) ∙ is) in
      let b = element_at olds f (omega (arith, slice_get_within ran.fronts f r.0 r.1, ran.run.many_before)) in
      let a = element_at news f (omega (arith, slice_get_within ran.fronts f r.0 r.1, ran.run.many_after)) in
      let up = (subst (λ x. MeansForFront x options batches r.0 b.0 a.0) r.2 (ran.run.each f r.0 b.0 a.0 r.1 b.1 a.1).means).0 in
      record { datagrams = omega (arith, up.datagrams, few); requests = omega (arith, up.requests, few); refused = omega (arith, up.refused, few) }
