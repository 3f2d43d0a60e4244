-- The gets that are settled, moment by moment.
use Rattle.std.proofs.Common.{◌≡◌, ℕ, ◌+◌, ◌<◌, ◌≤◌, ◌⊎◌, inl, inr, List, length, Option, Some, None, refl, sym, subst, arith, ltb, ltb-true, ltb-false, true, false, slice_get}
use Rattle.std.proofs.lemmas.Option.{IfSome_then, MatchOption-at_some}
use Rattle.std.proofs.lemmas.Grind.{common_steps}
use Rattle.partition_model.specs.declared.options.Options.{Options}
use Rattle.partition_model.specs.History.{History, state_of, stamp_of}
use Rattle.mica_trace.specs.declared.line.TraceLine.{TraceLine}
use Rattle.mica_trace.specs.declared.report.Line.{Line}
use Rattle.mica_trace.specs.ReportGrammar.{printed_stamp}
use Rattle.mica_trace.specs.Rounds.{partition_in}
use Rattle.mica_trace.specs.LawfulReport.{IsGetAt, Answers}
use Rattle.report_check.specs.declared.asked.Asked.{Asked}
use Rattle.report_check.specs.declared.settling.Settling.{Settling}
use Rattle.report_check.specs.Earlier.{earlier}
use Rattle.report_check.specs.Moments.{history_at, IsAnsweredBetween}
use Rattle.report_check.specs.Judged.{LeavesMissed, IsFirstWithout}
use Rattle.report_check.specs.Settling.{AreAsked, AreGets, AnswersNow, IsMissedBy, HasJudged, IsAhead, IsSettled}
use Rattle.report_check.proofs.Histories.{stamps_grow, one_history}

-- Places

pub earlier_here : (missed : Option ℕ) (place : ℕ) → IsMissedBy (earlier missed place) place
earlier_here missed place = grind (arith, common_steps)

pub earlier_kept : (missed : Option ℕ) (place n : ℕ) → IsMissedBy missed n → IsMissedBy (earlier missed place) n
earlier_kept missed place n is = grind (arith, is)

pub earlier_one : (missed : Option ℕ) (place : ℕ) → (earlier missed place ≡ missed) ⊎ (earlier missed place ≡ Some place)
earlier_one missed place = grind (arith, common_steps)

module _ (options : Options) (p : ℕ) (trace : List TraceLine) (report : List Line) (same : length report ≡ length trace) (from : ℕ) (asked : List Asked) (gets : AreGets trace report asked) where
  abbrev history : ℕ → History
  history m = history_at options p trace report m

  abbrev Between : ℕ → ℕ → Type 0
  Between now place = IsAnsweredBetween options p trace report from now place

  -- the stamp of a get is that of the moment at which it is answered
  stamp_between : (now j : ℕ) (a : Asked) → slice_get asked j ≡ Some a → (b : Between now a.place) → a.stamp ≡ stamp_of options (history b.moment)
  stamp_between now j a is b = grind (arith, common_steps)

  longer : (now later place : ℕ) → now ≤ later → Between now place → Between later place
  longer now later place le b = grind (arith, common_steps)

  at_now : (now place : ℕ) → from ≤ now → AnswersNow (state_of options (history now)) trace report place → Between now place
  at_now now place low is = grind (arith, common_steps)

  now_at : (now later place : ℕ) (b : Between later place) → b.moment ≡ now → AnswersNow (state_of options (history now)) trace report place
  now_at now later place b is = grind (arith, common_steps)

  -- an answer at a later moment is one at this moment, where the get's stamp is not above it
  not_later : (now j : ℕ) (a : Asked) → slice_get asked j ≡ Some a → from ≤ now → a.stamp ≤ stamp_of options (history now) → Between (now + 1) a.place → Between now a.place
  not_later now j a is low passed b =
      elim (ltb now b.moment) as (λ t. ltb now b.moment ≡ t → Between now a.place) [
        | true ↦ λ e.
            let above = ltb-true now b.moment e in
            let most = b.high in
            let last : b.moment ≡ now + 1 = omega arith in
            let stamp = stamp_between (now + 1) j a is b in
            let rise = stamps_grow options p trace report same now b.moment (omega arith) in
            let stamps : stamp_of options (history now) ≡ stamp_of options (history b.moment) = omega arith in
            let one = one_history options p trace report same now b.moment (omega arith) stamps in
            record {
              line = b.line;
              printed = b.printed;
              get = b.get;
              moment = now;
              low = low;
              high = omega arith;
              answers = subst (λ (h : History). Answers options h b.line.key b.printed) (sym one) b.answers;
            }
        | false ↦ λ f. grind (arith, common_steps)
      ] refl

  -- nor is one at any moment before, where the get's stamp is above it
  not_before : (now later j : ℕ) (a : Asked) → slice_get asked j ≡ Some a → stamp_of options (history now) < a.stamp → (b : Between later a.place) → now < b.moment
  not_before now later j a is above b =
      grind (arith, ltb now b.moment, ltb-true now b.moment, ltb-false now b.moment, stamp_between later j a is b, stamps_grow options p trace report same b.moment now)

  -- the first moment settles the gets up to its stamp
  pub settled_first : (new : Settling) → HasJudged (state_of options (history from)) trace report asked (record { next = 0; missed = None }) new
      → IsAhead (stamp_of options (history from)) asked new.next → IsSettled options p trace report from from asked new
  settled_first new judged ahead = grind (arith, common_steps, at_now from, now_at from from)

  -- and each next one those up to its own
  pub settled_more : (now : ℕ) (old new : Settling) → from ≤ now → IsSettled options p trace report from now asked old
      → HasJudged (state_of options (history (now + 1))) trace report asked old new → IsAhead (stamp_of options (history (now + 1))) asked new.next
      → IsSettled options p trace report from (now + 1) asked new
  settled_more now old new low settled judged ahead = record {
    high = judged.high;
    passed = λ j a less is. grind (arith, common_steps, ltb-true j old.next, stamps_grow options p trace report same now (now + 1) (omega arith), ltb-false j old.next);
    ahead = ahead;
    judged = λ j a less is.
        grind (arith, common_steps, ltb-true j old.next, longer now (now + 1) a.place (omega arith), ltb-false j old.next, at_now (now + 1) a.place (omega arith));
    missed = IfSome_then new.missed judged.missed (λ n is. elim is as (λ _. (j : ℕ) × (a : Asked) × (j < new.next) × (slice_get asked j ≡ Some a) × (n ≡ a.place) × (¬ (Between (now + 1) a.place))) [
      | inl was ↦
          let found = MatchOption-at_some _ (λ n. (j : ℕ) × (a : Asked) × (j < old.next) × (slice_get asked j ≡ Some a) × (n ≡ a.place) × (¬ (Between now a.place))) n was settled.missed in
          let less = found.2 in
          let more = judged.low in
          (found.0, found.1, omega arith, found.3, found.4, (λ b. found.5 (not_later now found.0 found.1 found.3 low (settled.passed found.0 found.1 found.2 found.3) b)))
      | inr found ↦ (
        found.0,
        found.1,
        found.3,
        found.4,
        found.5,
        (λ b.
            let above = not_before now (now + 1) found.0 found.1 found.4 (settled.ahead found.0 found.1 found.2 found.4) b in
            let most = b.high in
            found.6 (now_at (now + 1) (now + 1) (found.1).place b (omega arith))),
      )
    ]);
  }

  -- a moment at which nothing changes
  pub settled_same : (now : ℕ) (old : Settling) → from ≤ now → history (now + 1) ≡ history now → IsSettled options p trace report from now asked old
      → IsSettled options p trace report from (now + 1) asked old
  settled_same now old low is settled = record {
    high = settled.high;
    passed = λ j a less at. subst (λ (h : History). a.stamp ≤ stamp_of options h) (sym is) (settled.passed j a less at);
    ahead = subst (λ (h : History). IsAhead (stamp_of options h) asked old.next) (sym is) settled.ahead;
    judged = λ j a less at. grind (arith, common_steps, longer now (now + 1) a.place (omega arith));
    missed = grind (arith, common_steps);
  }

  -- in the end, the first that is not answered
  pub first_of : (to : ℕ) (settling : Settling) (missed : Option ℕ) → AreAsked options p trace report from to asked → IsSettled options p trace report from to asked settling
      → LeavesMissed asked settling missed → IsFirstWithout (λ n line printed. Between to n) options p trace report from to missed
  first_of to settling missed all settled leaves = by missed leaves
    where
      rest : (missed : Option ℕ) → LeavesMissed asked settling missed → (n : ℕ) (line : TraceLine) (printed : Line) → from ≤ n → n < to → IsGetAt trace report n line printed
          → partition_in options line ≡ p → Between to n ⊎ IsMissedBy missed n
      rest missed leaves n line printed low high get inside =
          let found = all.all n line printed low high get inside in
          let j = found.0 in
          let a : Asked = record { stamp = printed_stamp printed; place = n } in
          elim (ltb j settling.next) as (λ t. ltb j settling.next ≡ t → Between to n ⊎ IsMissedBy missed n) [
            | true ↦ λ e. elim (settled.judged j a (ltb-true j settling.next e) found.1) as (λ _. Between to n ⊎ IsMissedBy missed n) [
              | inl b ↦ inl b
              | inr was ↦ inr (leaves.kept n was)
            ]
            | false ↦ λ f. inr (leaves.left j a (ltb-false j settling.next f) found.1)
          ] refl

      missed_here : (k : ℕ) → LeavesMissed asked settling (Some k) → (from ≤ k) × (k < to) × ((line : TraceLine) × (printed : Line) × IsGetAt trace report k line printed × (partition_in options line ≡ p) × (¬ (Between to k)))
      missed_here k leaves =
          let one : (j : ℕ) × (a : Asked) × (slice_get asked j ≡ Some a) × (k ≡ a.place) × (¬ (Between to a.place)) = elim leaves.from as (λ _. (j : ℕ) × (a : Asked) × (slice_get asked j ≡ Some a) × (k ≡ a.place) × (¬ (Between to a.place))) [
            | inl was ↦
                let found = MatchOption-at_some _ (λ n. (j : ℕ) × (a : Asked) × (j < settling.next) × (slice_get asked j ≡ Some a) × (n ≡ a.place) × (¬ (Between to a.place))) k was settled.missed in
                (found.0, found.1, found.3, found.4, found.5)
            | inr left ↦ (
              left.0,
              left.1,
              left.3,
              left.4,
              (λ b.
                  let above = not_before to to left.0 left.1 left.3 (settled.ahead left.0 left.1 left.2 left.3) b in
                  let most = b.high in
                  absurd (omega arith)),
            )
          ] in
          let each = all.each one.0 one.1 one.2 in
          let at = one.3 in
          let low = each.low in
          let high = each.high in
          (omega arith, omega arith, (each.line, each.printed, subst (λ n. IsGetAt trace report n each.line each.printed) (sym at) each.get, each.inside, (λ b. one.4 (subst (Between to) at b))))

      by : (missed : Option ℕ) → LeavesMissed asked settling missed → IsFirstWithout (λ n line printed. Between to n) options p trace report from to missed
      by None leaves = λ n line printed low high get inside. elim (rest None leaves n line printed low high get inside) as (λ _. Between to n) [
        | inl b ↦ b
        | inr denied ↦ absurd denied
      ]
      by (Some k) leaves =
          let here = missed_here k leaves in (
            here.0,
            here.1,
            here.2,
            (λ n line printed low less get inside.
                let high = here.1 in
                elim (rest (Some k) leaves n line printed low (omega arith) get inside) as (λ _. Between to n) [
                  | inl b ↦ b
                  | inr le ↦ (let more : k ≤ n = le in absurd (omega arith))
                ]),
          )
