-- Sweeps that are made one after another.
use Rattle.std.proofs.Common.{◌≡◌, ◌≤◌, ◌+◌, ◌==◌, ◌&&◌, ℕ, Bool, true, false, cond, List, [], ◌∷◌, ◌++◌, length, Option, Some, None, refl, sym, ap, ◌∙◌, subst, arith, length-append}
use Rattle.std.proofs.lemmas.List.Elements.{filter_map-append}
use Rattle.std.proofs.lemmas.Option.{same_Some}
use Rattle.std.specs.Prelude.{IfSome}
use Rattle.mica_words.specs.Mark.{is_mark}
use Rattle.mica_words.specs.Hash.{partition_of, bucket_of}
use Rattle.partition_model.specs.declared.options.Options.{Options}
use Rattle.partition_model.specs.declared.options.Mode.TheVariants.{Cache}
use Rattle.partition_model.specs.declared.write.Op.TheVariants.{Del, Touch}
use Rattle.partition_model.specs.declared.write.Outcome.{Outcome}
use Rattle.partition_model.specs.declared.write.Write.{Write}
use Rattle.partition_model.specs.Write.{write_of}
use Rattle.partition_model.specs.Run.{RunStep}
use Rattle.memcached_decisions.specs.Over.{is_over, sweeping}
use Rattle.fronts.specs.declared.changing.Changed.{Changed}
use Rattle.fronts.specs.declared.changing.When.{When}
use Rattle.fronts.specs.Answered.{Answered, wrote, changed, kept, step_in, steps_of, count_of_writes}
use Rattle.fronts.specs.Flushes.{marks, flush_in}
use Rattle.fronts.specs.Changing.{stays, goes, write_for, write_by, DoesWrite, ComesTo, count_of}
use Rattle.fronts.specs.Looks.{Look}
use Rattle.fronts.specs.Session.{Sessions, Answers, AnswersOne, ChangesOnly, Writes}
use Rattle.fronts.proofs.InOrder.{answers_append}
use Rattle.command_answers.specs.Seconds.{second_asked, second_in, IsAt}
use Rattle.command_answers.specs.Sweeps.{IsSweep, SweepsBy}
use Rattle.command_answers.proofs.AskLaws.{all_append, is_at}

-- what a sweep writes is a delete of what is over
takes : (base : ℕ) (when : When) (key : List ℕ) (value : Option (List ℕ)) (write : Write) → write_for key value (sweeping base when value) ≡ Some write
    → (write ≡ write_of Del key []) × ((stored : List ℕ) × (value ≡ Some stored) × (is_over base when stored ≡ true))
takes base when key None write is = absurd (cc)
takes base when key (Some stored) write is = go (is_over base when stored) refl is
  where
    go : (over : Bool) → is_over base when stored ≡ over → write_for key (Some stored) (cond over goes stays) ≡ Some write
        → (write ≡ write_of Del key []) × ((s : List ℕ) × (Some stored ≡ Some s) × (is_over base when s ≡ true))
    go true over is = (sym (same_Some _ _ is), (stored, refl, over))
    go false over is = absurd (cc)

-- a touch is no flush, in whatever bucket
never_flushes : (first feed told : Bool) → ((first && false && feed) && told) ≡ false
never_flushes true feed told = refl
never_flushes false feed told = refl

module _ (options : Options) (is_alone : Bool) (base second : ℕ) where
  pub none_swept : (most : ℕ) (old : Sessions) (left : ℕ) → SweepsBy options is_alone base second most old left old left
  none_swept most old left = record { answers = []; sweeps = tt; bounded = omega arith; in_order = λ q. refl; seconds = tt; few = omega arith }

  pub swept_then : {few more most : ℕ} {old between new : Sessions} {left then_left left_after : ℕ} → few + more ≤ most
      → SweepsBy options is_alone base second few old left between then_left → SweepsBy options is_alone base second more between then_left new left_after
      → SweepsBy options is_alone base second most old left new left_after
  swept_then {old = old} {between} {new} most one two =
      let writes = ap length (filter_map-append step_in one.answers two.answers) ∙ length-append (steps_of one.answers) (steps_of two.answers) in record {
        answers = one.answers ++ two.answers;
        sweeps = all_append (IsSweep options base) one.answers two.answers one.sweeps two.sweeps;
        bounded = let len = length-append one.answers two.answers in omega (arith, len, one.bounded, two.bounded, most);
        in_order = answers_append options is_alone one.answers two.answers old between new one.in_order two.in_order;
        seconds = all_append (IsAt options second) one.answers two.answers one.seconds two.seconds;
        few = omega (arith, one.few, two.few, writes);
      }

  -- a key that was touched
  pub one_touched : (old new : Sessions) (left left_after : ℕ) (key : List ℕ) (outcome : Outcome) (stamp : ℕ) → options.mode ≡ Cache
      → Writes options is_alone (old (partition_of options.hashing key options.partitions)) (record { write = write_of Touch key []; outcome = outcome; stamp = stamp }) (new (partition_of options.hashing key options.partitions))
      → ChangesOnly (partition_of options.hashing key options.partitions) old new → left ≤ left_after + 1 → SweepsBy options is_alone base second 1 old left new left_after
  one_touched old new left left_after key outcome stamp mode writes others few =
      let a : Answered = wrote (record { write = write_of Touch key []; outcome = outcome; stamp = stamp }) in
      let none : second_in options a ≡ None =
      ap (λ t. cond t (second_asked (flush_in key)) None) (never_flushes (bucket_of options.hashing key options.buckets == 0) (marks options.hashing key) (partition_of options.hashing key options.partitions == 0)) in record {
        answers = a ∷ [];
        sweeps = ((mode, refl), tt);
        bounded = omega arith;
        in_order = (new, record { one = writes; others = others }, λ q. refl);
        seconds = (subst (λ o. IfSome o (λ s. s ≡ second)) (sym none) tt, tt);
        few = few;
      }

  -- a key that was looked at
  module _ (old new : Sessions) (left left_after : ℕ) (key : List ℕ) (c : Changed) (buffer : List ℕ) where
    one_by : (a : Answered) → Answers options is_alone old a new → IsSweep options base a → second_in options a ≡ Some second → left ≤ left_after + count_of_writes (a ∷ [])
        → SweepsBy options is_alone base second 1 old left new left_after
    one_by a here is at few = record {
      answers = a ∷ [];
      sweeps = (is, tt);
      bounded = omega arith;
      in_order = (new, here, λ q. refl);
      seconds = (is_at options a second at, tt);
      few = few;
    }

    pub one_swept : is_mark key ≡ false → let p = partition_of options.hashing key options.partitions in ComesTo options is_alone second key true (sweeping base) (old p) c buffer (new p)
        → ChangesOnly (partition_of options.hashing key options.partitions) old new → left ≤ left_after + count_of c.outcome → SweepsBy options is_alone base second 1 old left new left_after
    one_swept mark comes others few = go (write_by (sweeping base) key look) c.outcome refl refl comes.does
      where
        look : Look
        look = comes.look

        go : (write : Option Write) (outcome : Option Outcome) → write_by (sweeping base) key look ≡ write → c.outcome ≡ outcome
            → DoesWrite options is_alone (old (partition_of options.hashing key options.partitions)) key write outcome c.stamp look (new (partition_of options.hashing key options.partitions))
            → SweepsBy options is_alone base second 1 old left new left_after
        go None None writes is does =
            one_by (kept key c.stamp look) (record { one = does; others = others }) tt (ap Some comes.at) (subst (λ o. left ≤ left_after + count_of o) is few)
        go None (Some outcome) writes is does = absurd does
        go (Some write) None writes is does = absurd does
        go (Some write) (Some outcome) writes is does =
            let t = takes base look.when key look.value write writes in
            let same : write.key ≡ key = ap (λ (w : Write). w.key) t.0 in
            let step : RunStep = record { write = write; outcome = outcome; stamp = c.stamp } in
            one_by (changed step look) (record {
              one = subst (λ (k : List ℕ). AnswersOne options is_alone (old (partition_of options.hashing k options.partitions)) (changed step look) (new (partition_of options.hashing k options.partitions))) (sym same) does;
              others = subst (λ (k : List ℕ). ChangesOnly (partition_of options.hashing k options.partitions) old new) (sym same) others;
            }) (subst (λ (k : List ℕ). write ≡ write_of Del k []) (sym same) t.0, (t.1.0, t.1.1, t.1.2, ap is_mark same ∙ mark)) (ap Some comes.at) (subst (λ o. left ≤ left_after + count_of o) is few)
