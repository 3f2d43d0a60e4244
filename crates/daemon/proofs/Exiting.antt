-- How the process of a server that stays up ends with what its words ask for.
use Rattle.std.proofs.Common.{◌≡◌, ◌≢◌, ◌∙◌, ℕ, List, Option, Some, None, inl, refl, sym, ap, subst, map, drop, arith}
use Rattle.std.proofs.lemmas.Option.{none-some}
use Rattle.std.specs.Prelude.{option_map}
use Rattle.std.proofs.KnownBytes.{Keeps-refl}
use Rattle.outside.specs.Seconds.{ClockView}
use Rattle.option_words.specs.Words.{Text}
use Rattle.option_words.proofs.ProgramWords.{words_behind}
use Rattle.daemon_words.specs.declared.host.Host.{Host}
use Rattle.daemon_words.specs.declared.question.Question.{Question}
use Rattle.daemon_words.specs.Questions.{question_of}
use Rattle.daemon_words.specs.ShortWords.{long_words}
use Rattle.daemon_words.specs.DaemonWords.{daemon_of}
use Rattle.daemon.specs.declared.status.DaemonStatus.{DaemonStatus}
use Rattle.daemon.specs.declared.status.DaemonStatus.TheVariants.{NoMemory}
use Rattle.daemon.specs.declared.status.Ending.{Ending}
use Rattle.daemon.specs.declared.status.Ending.TheVariants.{Answered, Ended}
use Rattle.daemon.specs.Numbers.{ending_number}
use Rattle.daemon.specs.Files.{FilesFacts}
use Rattle.daemon.specs.Daemon.{DaemonOutside, BindsNothing, KeepsUp}
use Rattle.daemon.specs.Exit.{first_number, AnswersAlone, ComesTo, ComesToFor, DaemonExits, EndsBy, IsAsked}
use Rattle.daemon.proofs.Announced.{unwritten}

-- a question of the words was answered
pub asked_comes : (host : Host) (asked : Option Question) (question : Question) (words : List Text) (base : ℕ) (files : FilesFacts) (old new : DaemonOutside) (ending : Ending)
    → asked ≡ Some question → AnswersAlone question old.sink new.sink ending → BindsNothing old new → ComesTo host asked words base files files old new ending
asked_comes host asked question words base files old new ending is answers same =
    subst (λ (o : Option Question). ComesTo host o words base files files old new ending) (sym is) (answers, same, refl)

-- they ask none
pub unasked_comes : (host : Host) (asked : Option Question) (words : List Text) (base : ℕ) (before after : FilesFacts) (old new : DaemonOutside) (ending : Ending)
    → None ≡ asked → ComesTo host None words base before after old new ending → ComesTo host asked words base before after old new ending
unasked_comes host asked words base before after old new ending none comes =
    subst (λ (o : Option Question). ComesTo host o words base before after old new ending) none comes

-- their server ran, whose words are these long ones
pub served_comes : (host : Host) (words long : List Text) (base : ℕ) (before after : FilesFacts) (old new : DaemonOutside) (status : DaemonStatus)
    → long ≡ long_words words → KeepsUp (daemon_of host long) base before after old new status → ComesTo host None words base before after old new (Ended status)
served_comes host words long base before after old new status is kept =
    subst (λ (ws : List Text). KeepsUp (daemon_of host ws) base before after old new status) is kept

pub comes_without_memory : (host : Host) (asked : Option Question) (words : List Text) (base : ℕ) (files : FilesFacts) (outside : DaemonOutside)
    → ComesTo host asked words base files files outside outside (Ended NoMemory)
comes_without_memory host (Some question) words base files outside = (inl (refl, Keeps-refl outside.sink.taken), record { ports = refl; tables = refl; lacked = refl }, refl)
comes_without_memory host None words base files outside =
    unwritten (daemon_of host (long_words words)) base files outside outside NoMemory (refl, Keeps-refl outside.sink.taken) (record { ports = refl; tables = refl; lacked = refl })

-- the words behind the first of all words are those that it came from, and the base is that of the second
pub comes_behind : (host : Host) {S : Type 0} (text : S → Text) (all : Option (List Text)) (words behind : List S) (base second : ℕ) (before after : FilesFacts)
    (old new : DaemonOutside) (ending : Ending) → all ≡ Some (map text words) → behind ≡ drop 1 words → base ≡ first_number second
    → ComesTo host (question_of (map text behind)) (map text behind) base before after old new ending
    → ComesToFor host (option_map (λ ws. drop 1 ws) all) (first_number second) before after old new ending
comes_behind host text all words behind base second before after old new ending are is from comes =
    subst (λ (y : Option (List Text) × ℕ). ComesToFor host y.0 y.1 before after old new ending) (λ i. (sym (words_behind text all words behind are is) i, from i)) comes

pub no_memory_comes : (host : Host) (words : Option (List Text)) (base : ℕ) (files : FilesFacts) (outside : DaemonOutside) → ComesToFor host words base files files outside outside (Ended NoMemory)
no_memory_comes host None base files outside = (refl, refl, refl)
no_memory_comes host (Some words) base files outside = comes_without_memory host (question_of words) words base files outside

-- only a question of the words is answered
asked_by : (host : Host) (words : Option (List Text)) (base : ℕ) (before after : FilesFacts) (old new : DaemonOutside) (ending : Ending) → ending ≡ Answered
    → ComesToFor host words base before after old new ending → IsAsked words
asked_by host None base before after old new ending is comes = absurd (apart (ap is_answered (sym comes.0 ∙ is)))
  where
    is_answered : Ending → ℕ
    is_answered Answered = 1
    is_answered (Ended status) = 0

    apart : ◌≡◌ {A = ℕ} 0 1 → ⊥
    apart same = omega (arith, same)
asked_by host (Some words) base before after old new ending is comes = asks (question_of words) refl (subst (ComesTo host (question_of words) words base before after old new) is comes)
  where
    asks : (asked : Option Question) → question_of words ≡ asked → ComesTo host asked words base before after old new Answered → question_of words ≢ None
    asks None is comes = absurd comes
    asks (Some question) is comes = λ none. none-some question (sym none ∙ is)

-- so the process ends by them
pub ends_by : (host : Host) (words : Option (List Text)) (told tells : ClockView) (before after : FilesFacts) (old new : DaemonOutside) (number : ℕ)
    → DaemonExits host words told tells before after old new number → EndsBy words number
ends_by host words told tells before after old new number exits = record {
  ending = exits.ending;
  ends = exits.ends;
  asked = λ is. asked_by host words (first_number exits.second) before after old new exits.ending is exits.comes;
}

-- or by a status before they were read
pub ends_with : (words : Option (List Text)) (status : DaemonStatus) (number : ℕ) → number ≡ ending_number (Ended status) → EndsBy words number
ends_with words status number is = record { ending = Ended status; ends = is; asked = λ asked. absurd (apart (ap is_answered asked)) }
  where
    is_answered : Ending → ℕ
    is_answered Answered = 1
    is_answered (Ended status) = 0

    apart : ◌≡◌ {A = ℕ} 0 1 → ⊥
    apart same = omega (arith, same)
