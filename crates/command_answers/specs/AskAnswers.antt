-- What is answered to what a command asks of its keys.
use Rattle.std.specs.Prelude.{◌≡◌, ◌==◌, ◌&&◌, not, ⊤, ℕ, Bool, true, false, List, [], ◌∷◌, ◌++◌, length, Option, Some, None, if◌then◌else◌}
use Rattle.partition_model.specs.declared.write.Outcome.{Outcome}
use Rattle.partition_model.specs.Write.{is_accepted}
use Rattle.memcached_text.specs.declared.command.Wants.TheVariants.{Whatever}
use Rattle.memcached_frames.specs.declared.opcode.Opcode.{Opcode}
use Rattle.memcached_frames.specs.declared.opcode.Verb.{Verb}
use Rattle.memcached_frames.specs.declared.opcode.Verb.TheVariants as verbs
use Rattle.memcached_frames.specs.Opcodes.{opcode_of}
use Rattle.memcached_commands.specs.declared.ask.Ask.{Ask}
use Rattle.memcached_commands.specs.declared.ask.Ask.TheVariants.{Store, Spoil}
use Rattle.memcached_commands.specs.declared.asks.Asked.{Asked}
use Rattle.memcached_commands.specs.declared.ask.Says.{Says}
use Rattle.memcached_commands.specs.declared.ask.Says.TheVariants.{Nothing}
use Rattle.memcached_requests.specs.declared.request.Style.{Style}
use Rattle.memcached_requests.specs.declared.request.Style.TheVariants.{Classic, Frame, Meta}
use Rattle.memcached_requests.specs.Replies.{said_text}
use Rattle.memcached_decisions.specs.Numbered.{Order, becoming_by, says_by}
use Rattle.fronts.specs.Answered.{Answered, changed, kept}
use Rattle.fronts.specs.Changing.{write_by}

-- what is asked, where the first value that a partition accepts has this unique number
abbrev pub order_of : ℕ → Asked → Order
order_of base asked = record { ask = asked.ask; base = base }

-- The key was looked at, and what is decided of what was found there and then is the write that followed at once; or it is none.
abbrev pub AnswersAsk : ℕ → Asked → Answered → Type 0
AnswersAsk base asked (changed step look) = write_by (becoming_by (order_of base asked)) asked.key look ≡ Some step.write
AnswersAsk base asked (kept key stamp look) = (key ≡ asked.key) × (write_by (becoming_by (order_of base asked)) asked.key look ≡ None)
AnswersAsk base asked _ = ⊥

-- These are answers to the first of what is asked, in order.
abbrev pub AnswersAsks : ℕ → List Asked → List Answered → Type 0
AnswersAsks base asks [] = ⊤
AnswersAsks base [] (answered ∷ later) = ⊥
AnswersAsks base (asked ∷ asks) (answered ∷ later) = AnswersAsk base asked answered × AnswersAsks base asks later

-- Sets without room

abbrev pub is_set_verb : Verb → Bool
is_set_verb verbs.Set = true
is_set_verb _ = false

abbrev pub is_set_opcode : Option Opcode → Bool
is_set_opcode (Some opcode) = is_set_verb opcode.verb
is_set_opcode None = false

-- a set by a line, or by a meta command with no number and no other mode; or by a frame, whatever number that has
abbrev pub is_set : Style → Ask → Bool
is_set (Classic quiet unique) (Store Whatever flags lifetime value) = true
is_set (Meta manner) (Store Whatever flags lifetime value) = true
is_set (Frame echo) (Store wants flags lifetime value) = is_set_opcode (opcode_of echo.opcode)
is_set _ _ = false

-- a write was made, and not accepted
abbrev pub was_refused : Option Outcome → Bool
was_refused (Some outcome) = not (is_accepted outcome)
was_refused None = false

abbrev pub is_refused : Answered → Bool
is_refused (changed step look) = was_refused (Some step.outcome)
is_refused _ = false

-- that what is stored of the key goes
abbrev pub spoiled : Asked → Asked
spoiled asked = record asked { ask = Spoil }

-- What is asked behind an answer: where a set found no room, that the old item goes.
abbrev pub asks_behind : Style → Asked → Answered → List Asked
asks_behind style asked answered = if is_refused answered && is_set style asked.ask then spoiled asked ∷ [] else []

-- All that is asked, where so much was done: what a command asks, and what is asked behind the last of it, where a set found no room.
abbrev pub asks_with : {A : Type 0} → (A → Bool) → Style → List Asked → List A → List Asked
asks_with refused style asks [] = asks
asks_with refused style [] (done ∷ later) = []
asks_with refused style (asked ∷ []) (done ∷ later) = asked ∷ (if refused done && is_set style asked.ask then spoiled asked ∷ [] else [])
asks_with refused style (asked ∷ next ∷ asks) (done ∷ later) = asked ∷ asks_with refused style (next ∷ asks) later

-- where these are the answers so far
abbrev pub asks_by : Style → List Asked → List Answered → List Asked
asks_by style asks answers = asks_with is_refused style asks answers

-- Texts

-- what is said of an answer: what is decided of what was found, unless the write of that was refused
abbrev pub said_of : ℕ → Asked → Answered → Says
said_of base asked (changed step look) = says_by (order_of base asked) look.when look.value (Some step.outcome)
said_of base asked (kept key stamp look) = says_by (order_of base asked) look.when look.value None
said_of base asked _ = Nothing

-- The text that is due to what was answered of this: what is said of each, and behind the last one the end. Nothing is said of what is asked behind that.
abbrev pub asks_text : ℕ → Style → List Asked → List Answered → List ℕ
asks_text base style asks [] = []
asks_text base style [] (answered ∷ later) = []
asks_text base style (asked ∷ asks) (answered ∷ later) =
    said_text style (length asks == 0) asked.key (said_of base asked answered) ++ asks_text base style asks later
