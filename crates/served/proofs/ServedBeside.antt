-- Fronts that were served beside each other, served.
use Rattle.std.proofs.Common.{◌≡◌, ℕ, ◌<◌, ◌≤◌, List, [], ◌++◌, length, sym, ap, ◌∙◌, subst, arith}
use Rattle.std.specs.List.{All, AllPairs}
use Rattle.std.proofs.lemmas.List.{append-nil}
use Rattle.partition_model.specs.declared.options.Options.{Options}
use Rattle.partition_model.specs.History.{History}
use Rattle.partition_model.specs.Run.{RunStep, IsRunFrom}
use Rattle.fronts.specs.Answered.{Answered, answers_of, writes_of, gets_of}
use Rattle.fronts.specs.Session.{Told, Sessions}
use Rattle.fronts.specs.Placed.{Placed, steps_by, steps_in, history_in}
use Rattle.served.specs.Served.{ServesGet, ServesLook, NoFall, AnswersLawfully}
use Rattle.served.specs.Beside.{closed_of, AnsweredBeside, AreAnsweredBeside, RunsPartitions}
use Rattle.served.proofs.Order.{order_of}
use Rattle.served.proofs.Among.{StandAmong, stand_before, stand_few, stand_all}
use Rattle.served.proofs.OnePartition.{in_partition}
use Rattle.served.proofs.Beside.{Beside, TellsAnswers, IsOf, beside_of, all_grow, gets_among}
use Rattle.served.proofs.Looked.{serves_looks}
use Rattle.served.proofs.PartitionTotals.{total_all, writes_total}

module _ (options : Options) (some : 1 ≤ options.partitions) (origin : ℕ → History) (runs : ℕ → List Placed) (f : ℕ) (answers : List Answered) (old new : Sessions)
    (known : AnsweredBeside options origin runs f answers old new) where
  beside : (p : ℕ) → Beside options (old p) (new p) (answers_of options p answers)
  beside p = beside_of options (answers_of options p answers) (old p) (new p) (in_partition options p answers old new known.answers)

  told : (p : ℕ) → p < options.partitions → (told : Told) × (told.steps ≡ []) × (told.closed ≡ 0) × TellsAnswers told (writes_of options p answers) (length (gets_of options p answers)) (new p).told
  told p lt = let start = known.starts p lt in (start.0, start.2.steps, start.2.closed, (beside p).tells start.0 start.1)

  -- the writes stand in order among the steps of the front
  stands : (p : ℕ) → p < options.partitions → StandAmong (writes_of options p answers) (steps_by f (runs p))
  stands p lt =
      let t = told p lt in
      let tells = t.3 in
      let took = known.took p tells.told lt tells.is in
      let steps : tells.told.steps ≡ tells.more = tells.steps ∙ ap (λ (l : List RunStep). l ++ tells.more) t.1 in
      subst (λ (s : List RunStep). StandAmong (writes_of options p answers) s) (sym (took.1 ∙ ap (λ (l : List RunStep). l ++ took.0) steps))
      (stand_before (writes_of options p answers) tells.more took.0 tells.stand)

  -- and there are no others
  pub all_written : (p : ℕ) → p < options.partitions → writes_of options p answers ≡ steps_by f (runs p)
  all_written p lt =
      stand_all (writes_of options p answers) (steps_by f (runs p)) (stands p lt)
      (total_all options.partitions (λ q. length (writes_of options q answers)) (λ q. length (steps_by f (runs q)))
      (λ q below. stand_few (writes_of options q answers) (steps_by f (runs q)) (stands q below))
      (omega (arith, known.few, writes_total options some answers)) p lt)

  -- what it got and looked at
  known_of_run : (p : ℕ) → p < options.partitions → All (IsOf options (origin p) (origin p ++ history_in (runs p))) (answers_of options p answers)
  known_of_run p lt =
      all_grow options (old p).seen (origin p) (new p).seen (origin p ++ history_in (runs p)) ([], known.began p lt ∙ sym (append-nil (origin p))) (known.seen p lt)
      (answers_of options p answers) (beside p).known

  pub gets_of_run : (p : ℕ) → p < options.partitions → All (ServesGet options (origin p) (origin p ++ history_in (runs p))) (gets_of options p answers)
  gets_of_run p lt = gets_among options (origin p) (origin p ++ history_in (runs p)) (answers_of options p answers) (known_of_run p lt)

  pub looks_of_run : (p : ℕ) → p < options.partitions → IsRunFrom options (origin p) (steps_in (runs p)) → All (ServesLook options (origin p) (steps_in (runs p))) (answers_of options p answers)
  looks_of_run p lt run = serves_looks options (origin p) f (runs p) (answers_of options p answers) run (all_written p lt) (known_of_run p lt)

  pub order_in : (p : ℕ) → AllPairs NoFall (answers_of options p answers)
  order_in p = order_of options (answers_of options p answers) (old p) (new p) (in_partition options p answers old new known.answers)

  -- its seat closed one try for each get
  pub closed_gets : (p : ℕ) → p < options.partitions → closed_of (new p).told ≡ length (gets_of options p answers)
  closed_gets p lt =
      let t = told p lt in
      let tells = t.3 in
      omega (arith, ap closed_of tells.is, tells.closed, t.2)

-- what is known of each front makes all that was answered lawful
pub lawful_beside : (options : Options) → 1 ≤ options.partitions → (origin : ℕ → History) (runs : ℕ → List Placed) (fronts : List (List Answered))
    → RunsPartitions options origin (length fronts) runs → AreAnsweredBeside options origin runs fronts → AnswersLawfully options origin fronts runs
lawful_beside options some origin runs fronts ran known = record {
  writes = λ p lt. record {
    filled = ran.filled p lt;
    run = ran.run p lt;
    each = λ f answers is. let k = known f answers is in all_written options some origin runs f answers k.0 k.1 k.2 p lt;
    no_others = ran.no_others p lt;
  };
  gets = λ p f answers lt is. let k = known f answers is in gets_of_run options some origin runs f answers k.0 k.1 k.2 p lt;
  looks = λ p f answers lt is. let k = known f answers is in looks_of_run options some origin runs f answers k.0 k.1 k.2 p lt (ran.run p lt);
  order = λ p f answers lt is. let k = known f answers is in order_in options some origin runs f answers k.0 k.1 k.2 p;
}
