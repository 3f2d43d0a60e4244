-- Each answer to a client is one to what it was given for.
use Rattle.std.specs.Prelude.{◌&&◌}
use Rattle.std.specs.List.{AllZip, AllByRecursion}
use Rattle.std.proofs.Common.{◌≡◌, ℕ, suc, Bool, true, false, cond, List, [], ◌∷◌, map, drop, refl}
use Rattle.partition_model.specs.declared.options.Options.{Options}
use Rattle.memcached_commands.specs.declared.asks.Asked.{Asked}
use Rattle.memcached_commands.specs.Fit.{IsFitAsked}
use Rattle.memcached_requests.specs.declared.request.Next.{Next}
use Rattle.memcached_requests.specs.declared.request.Style.{Style}
use Rattle.memcached_requests.specs.Requests.{asks_in, len_of}
use Rattle.fronts.specs.declared.flushes.Flush.{Flush}
use Rattle.fronts.specs.Answered.{Answered, wrote, got, changed, kept, partition_in}
use Rattle.command_answers.specs.AskAnswers.{AnswersAsks, is_refused, is_set, spoiled, asks_with}
use Rattle.command_answers.specs.FlushAnswers.{FlushesFrom, flush_at}
use Rattle.command_answers.specs.Exchange.{Exchange, is_flush_all, flush_due, style_of, asks_to, AnswersBy}
use Rattle.command_answers.specs.Spells.{Spells, answers_to_all}
use Rattle.part_courses.specs.Courses.{Purpose, IsFor}
use Rattle.client_stories.specs.Stories.{AreFirst, AsksFit}
use Rattle.client_stories.proofs.Weave.{zip_append}
use Rattle.client_stories.proofs.Purposes.{asked_of, flush_by, purposes_by, purposes_of}
use Rattle.client_stories.proofs.Marks.{is_wanted}

-- what is asked behind a set is fit, too
behind_fits : (asked : Asked) (b : Bool) → IsFitAsked asked → AllByRecursion IsFitAsked (cond b (spoiled asked ∷ []) [])
behind_fits asked true fit = ((fit.0, tt), tt)
behind_fits asked false fit = tt

asks_fit : (style : Style) (all : List Asked) (answers : List Answered) → AllByRecursion IsFitAsked all → AllByRecursion IsFitAsked (asks_with is_refused style all answers)
asks_fit style all [] fit = fit
asks_fit style [] (a ∷ answers) fit = tt
asks_fit style (asked ∷ []) (a ∷ answers) fit = (fit.0, behind_fits asked (is_refused a && is_set style asked.ask) fit.0)
asks_fit style (asked ∷ next ∷ all) (a ∷ answers) fit = (fit.0, asks_fit style (next ∷ all) answers fit.1)

module _ (options : Options) (base : ℕ) where
  abbrev pub IsFound : Answered → Purpose → Type 0
  IsFound a purpose = IsFor options base (partition_in options a) purpose a × (is_wanted purpose ≡ true)

  found_asks : (all : List Asked) (answers : List Answered) → AllByRecursion IsFitAsked all → AnswersAsks base all answers → AllZip IsFound answers (asked_of all answers)
  found_asks all [] fit is = tt
  found_asks [] (a ∷ answers) fit is = absurd is
  found_asks (asked ∷ all) (a ∷ answers) fit is = (((fit.0, is.0), refl), found_asks all answers fit.1 is.1)

  found_flushes : (flush : Flush) (k : ℕ) (answers : List Answered) → FlushesFrom options flush k answers → AllZip IsFound answers (map flush_by answers)
  found_flushes flush k [] is = tt
  found_flushes flush k (wrote step ∷ answers) is = (((is.0.0, refl, refl), refl), found_flushes flush (suc k) answers is.1)
  found_flushes flush k (got key stamp value ∷ answers) is = absurd is.0
  found_flushes flush k (changed step look ∷ answers) is = absurd is.0
  found_flushes flush k (kept key stamp look ∷ answers) is = absurd is.0

  found_by : (b : Bool) (next : Next) (answers : List Answered) → AllByRecursion IsFitAsked (asks_in next) → AnswersBy b options base (flush_due next) (asks_to next answers) answers
      → AllZip IsFound answers (purposes_by b (style_of next) (asks_in next) answers)
  found_by true next answers fit is = found_flushes (flush_at is.0 (flush_due next)) 0 answers is.1
  found_by false next answers fit is = found_asks (asks_to next answers) answers (asks_fit (style_of next) (asks_in next) answers fit) is

  first_ones : (bytes : List ℕ) (said : List Exchange) (rest : List ℕ) → Spells options base bytes said rest → AreFirst bytes (map (λ e. e.next) said)
  first_ones bytes [] rest spells = tt
  first_ones bytes (e ∷ said) rest spells = (spells.0.next, first_ones (drop (len_of e.next) bytes) said rest spells.2)

  found_all : (bytes : List ℕ) (said : List Exchange) (rest : List ℕ) → Spells options base bytes said rest → AllByRecursion (λ next. AllByRecursion IsFitAsked (asks_in next)) (map (λ e. e.next) said)
      → AllZip IsFound (answers_to_all said) (purposes_of said)
  found_all bytes [] rest spells fit = tt
  found_all bytes (e ∷ said) rest spells fit = zip_append IsFound e.answers (answers_to_all said) (purposes_by (is_flush_all e.next) (style_of e.next) (asks_in e.next) e.answers) (purposes_of said)
      (found_by (is_flush_all e.next) e.next e.answers fit.0 spells.0.answers) (found_all (drop (len_of e.next) bytes) said rest spells.2 fit.1)

  pub found : (bytes : List ℕ) (said : List Exchange) (rest : List ℕ) → AsksFit bytes → Spells options base bytes said rest → AllZip IsFound (answers_to_all said) (purposes_of said)
  found bytes said rest fit spells = found_all bytes said rest spells (fit (map (λ e. e.next) said) (first_ones bytes said rest spells))
