-- Partitions that are flushed one after another.
use Rattle.std.proofs.Common.{◌≡◌, ◌≤◌, ◌+◌, ◌&&◌, ◌==◌, ℕ, suc, Bool, true, false, cond, List, [], ◌∷◌, ◌++◌, length, nat_lt, Option, Some, None, refl, sym, ap, ◌∙◌, subst, arith, length-append}
use Rattle.std.specs.Prelude.{IfSome, if◌then◌else◌}
use Rattle.std.specs.List.{list_all}
use Rattle.std.proofs.Math.Bool.{and-true}
use Rattle.std.proofs.lemmas.List.Folds.{list_all-append}
use Rattle.mica_words.specs.Hash.{partition_of, bucket_of}
use Rattle.partition_model.specs.declared.options.Options.{Options}
use Rattle.partition_model.specs.declared.write.Outcome.{Outcome}
use Rattle.partition_model.specs.declared.write.Op.TheVariants.{Del}
use Rattle.partition_model.specs.Write.{write_of, is_accepted}
use Rattle.partition_model.specs.Run.{RunStep}
use Rattle.fronts.specs.Answered.{Answered, wrote, got, changed, kept, accepts, count_of_writes}
use Rattle.fronts.specs.declared.flushes.Flush.{Flush}
use Rattle.fronts.specs.Flushes.{marks, flush_in}
use Rattle.fronts.specs.Session.{Sessions, Answers, AnswersInOrder, ChangesOnly, Writes}
use Rattle.fronts.proofs.InOrder.{answers_append}
use Rattle.command_answers.specs.Seconds.{second_asked, second_in, AreAt}
use Rattle.memcached_text.specs.declared.lifetime.Due.{Due}
use Rattle.memcached_text.specs.declared.lifetime.Due.TheVariants.{Now, After, At}
use Rattle.command_answers.specs.FlushAnswers.{FlushesOne, FlushesFrom, flush_at}

-- so many partitions were flushed, and each took it or not
pub record Flushed (options : Options) (flush : Flush) (is_alone : Bool) (old new : Sessions) (count : ℕ) (took : Bool) : Type 0 where
  pub answers : List Answered
  pub in_order : AnswersInOrder options is_alone old answers new
  pub flushes : FlushesFrom options flush 0 answers
  pub many : length answers ≡ count
  pub took_all : took ≡ list_all accepts answers

pub none_flushed : (options : Options) (flush : Flush) (is_alone : Bool) (old : Sessions) → Flushed options flush is_alone old old 0 true
none_flushed options flush is_alone old = record { answers = []; in_order = λ q. refl; flushes = tt; many = refl; took_all = refl }

flushes_then : (options : Options) (flush : Flush) (partition count : ℕ) (answers : List Answered) (a : Answered) → FlushesFrom options flush partition answers
    → length answers ≡ count → FlushesOne options flush (partition + count) a → FlushesFrom options flush partition (answers ++ a ∷ [])
flushes_then options flush partition count [] a first many one = (subst (λ (p : ℕ). FlushesOne options flush p a) (omega (arith, many)) one, tt)
flushes_then options flush partition count (x ∷ answers) a first many one = (
  first.0,
  flushes_then options flush (suc partition) (length answers) answers a first.1 refl (subst (λ (p : ℕ). FlushesOne options flush p a) (omega (arith, many)) one),
)

module _ (options : Options) (flush : Flush) (is_alone : Bool) (old between new : Sessions) (count : ℕ) (took : Bool) where
  pub flushed_more : (a : Answered) → Flushed options flush is_alone old between count took → FlushesOne options flush count a → Answers options is_alone between a new
      → Flushed options flush is_alone old new (count + 1) (took && accepts a)
  flushed_more a so_far one here =
      let zero : count ≡ 0 + count = omega arith in record {
        answers = so_far.answers ++ a ∷ [];
        in_order = answers_append options is_alone so_far.answers (a ∷ []) old between new so_far.in_order (new, here, λ q. refl);
        flushes = flushes_then options flush 0 count so_far.answers a so_far.flushes so_far.many (subst (λ (n : ℕ). FlushesOne options flush n a) zero one);
        many = length-append so_far.answers (a ∷ []) ∙ ap (λ n. n + 1) so_far.many;
        took_all =
            ap (λ t. t && accepts a) so_far.took_all ∙ ap (λ t. list_all accepts so_far.answers && t) (sym (and-true (accepts a)))
            ∙ sym (list_all-append accepts so_far.answers (a ∷ []));
      }

-- Seconds

-- that of the first partition, and of another
one_asked : (options : Options) (flush : Flush) (partition : ℕ) (a : Answered) → FlushesOne options flush partition a
    → second_in options a ≡ (if partition == 0 then second_asked flush else None)
one_asked options flush partition (wrote step) is = (λ i. cond (is.0 i && (is.2 i == 0)) (second_asked (is.1 i)) None)
one_asked options flush partition (got key stamp value) is = absurd is
one_asked options flush partition (changed step look) is = absurd is
one_asked options flush partition (kept key stamp look) is = absurd is

module _ (options : Options) (second : ℕ) where
  abbrev Is : Option ℕ → Type 0
  Is o = IfSome o (λ s. s ≡ second)

  tells : (t : Bool) → Is (if t then Some second else None)
  tells true = refl
  tells false = tt

  asked_at : (due : Due) → Is (second_asked (flush_at second due))
  asked_at Now = tt
  asked_at (After seconds) = tells (nat_lt 0 (flush_at second (After seconds)).due)
  asked_at (At due) = tells (nat_lt 0 due)

  -- Flushes that are asked for at a second are at it.
  pub flushed_at : (due : Due) (partition : ℕ) (answers : List Answered) → FlushesFrom options (flush_at second due) partition answers → AreAt options second answers
  flushed_at due partition [] is = tt
  flushed_at due partition (a ∷ answers) is =
      (subst Is (sym (one_asked options (flush_at second due) partition a is.0)) (here (partition == 0)), flushed_at due (suc partition) answers is.1)
    where
      here : (first : Bool) → Is (if first then second_asked (flush_at second due) else None)
      here true = asked_at due
      here false = tt

-- Writes

-- each flush is a write
pub all_writes : (options : Options) (flush : Flush) (partition : ℕ) (answers : List Answered) → FlushesFrom options flush partition answers → count_of_writes answers ≡ length answers
all_writes options flush partition [] is = refl
all_writes options flush partition (wrote step ∷ answers) is = ap suc (all_writes options flush (suc partition) answers is.1)
all_writes options flush partition (got key stamp value ∷ answers) is = absurd is.0
all_writes options flush partition (changed step look ∷ answers) is = absurd is.0
all_writes options flush partition (kept key stamp look ∷ answers) is = absurd is.0

-- so no more was given to the front than the flushes
pub flushes_few : {options : Options} {flush : Flush} {is_alone : Bool} {old new : Sessions} {count : ℕ} {took : Bool} (left left_after : ℕ) (f : Flushed options flush is_alone old new count took)
    → left ≤ left_after + count → left ≤ left_after + count_of_writes f.answers
flushes_few {options} {flush} left left_after f few = omega (arith, few, f.many, all_writes options flush 0 f.answers f.flushes)

-- the write of a partition's flush
pub one_flush : (options : Options) (flush : Flush) (is_alone : Bool) (old new : Sessions) (partition : ℕ) (key : List ℕ) (outcome : Outcome) (stamp : ℕ) → marks options.hashing key ≡ true
    → flush_in key ≡ flush → partition_of options.hashing key options.partitions ≡ partition → bucket_of options.hashing key options.buckets ≡ 0
    → Writes options is_alone (old (partition_of options.hashing key options.partitions)) (record { write = write_of Del key []; outcome = outcome; stamp = stamp })
    (new (partition_of options.hashing key options.partitions))
    → ChangesOnly (partition_of options.hashing key options.partitions) old new
    → (answered : Answered) × FlushesOne options flush partition answered × Answers options is_alone old answered new × (is_accepted outcome ≡ accepts answered)
one_flush options flush is_alone old new partition key outcome stamp feed says at first written others =
    let step : RunStep = record { write = write_of Del key []; outcome = outcome; stamp = stamp } in
    (wrote step, ((λ i. (first i == 0) && true && feed i), says, at), record { one = written; others = others }, refl)
