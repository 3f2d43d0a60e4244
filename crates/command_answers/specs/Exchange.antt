-- What a client said, and what was answered to it so far.
use Rattle.std.specs.Prelude.{◌≡◌, ℕ, ◌==◌, ◌⊎◌, ◌<◌, Bool, true, false, List, [], ◌∷◌, ◌++◌, length, if◌then◌else◌}
use Rattle.std.specs.List.{list_all}
use Rattle.partition_model.specs.declared.options.Options.{Options}
use Rattle.memcached_text.specs.declared.command.Topic.{Topic}
use Rattle.memcached_text.specs.declared.command.Topic.TheVariants.{Server}
use Rattle.memcached_text.specs.declared.lifetime.Due.{Due}
use Rattle.memcached_text.specs.declared.lifetime.Due.TheVariants.{Now}
use Rattle.memcached_text.specs.declared.reply.Reply.TheVariants.{Done, NoRoom}
use Rattle.memcached_commands.specs.declared.asks.Asked.{Asked}
use Rattle.memcached_commands.specs.declared.ask.Says.{Says}
use Rattle.memcached_commands.specs.declared.ask.Says.TheVariants.{Line}
use Rattle.memcached_requests.specs.declared.request.Request.{Request}
use Rattle.memcached_requests.specs.declared.request.Request.TheVariants.{Flush, Stats, Said}
use Rattle.memcached_requests.specs.declared.request.Style.{Style}
use Rattle.memcached_requests.specs.declared.request.Style.TheVariants.{Classic}
use Rattle.memcached_requests.specs.declared.request.Next.{Next}
use Rattle.memcached_requests.specs.declared.request.Next.TheVariants.{Whole, More}
use Rattle.memcached_requests.specs.Requests.{asks_in}
use Rattle.memcached_requests.specs.Replies.{said_text}
use Rattle.memcached_stats.specs.Stats.{Told, stats_text}
use Rattle.fronts.specs.Answered.{Answered, accepts}
use Rattle.command_answers.specs.AskAnswers.{AnswersAsks, asks_by, asks_text}
use Rattle.command_answers.specs.FlushAnswers.{FlushesFrom, flush_at}

-- what a client said, what partitions answered to it so far, in order, and what the server tells of itself where that is what the client wants to know
pub record Exchange : Type 0 where
  pub next : Next
  pub answers : List Answered
  pub told : Told

-- Answers

-- whether it is a flush of all partitions, and when that is to take place
abbrev pub is_flush_all : Next → Bool
is_flush_all (Whole (Flush due) style len last) = true
is_flush_all _ = false

-- when the flush is due that a client asks for
abbrev pub flush_due : Next → Due
flush_due (Whole (Flush due) style len last) = due
flush_due _ = Now

-- how what was said is replied to; what has not all come is not
abbrev pub style_of : Next → Style
style_of (Whole request style len last) = style
style_of More = Classic true false

-- all that is asked of keys, where these are the answers so far
abbrev pub asks_to : Next → List Answered → List Asked
asks_to next answers = asks_by (style_of next) (asks_in next) answers

-- a flush of each partition, asked for at one second; or the asks of keys
abbrev pub AnswersBy : Bool → Options → ℕ → Due → List Asked → List Answered → Type 0
AnswersBy true options base due asked answers = (second : ℕ) × FlushesFrom options (flush_at second due) 0 answers
AnswersBy false options base due asked answers = AnswersAsks base asked answers

-- These are answers to what was said, in order.
abbrev pub AnswersNext : Options → ℕ → Next → List Answered → Type 0
AnswersNext options base next answers = AnswersBy (is_flush_all next) options base (flush_due next) (asks_to next answers) answers

-- how many answers there are once all is answered, where these are the first of them
abbrev pub count_of_answers : Options → Next → List Answered → ℕ
count_of_answers options next answers = if is_flush_all next then options.partitions else length (asks_to next answers)

-- whether all answers to what was said are there
abbrev pub is_answered : Options → Exchange → Bool
is_answered options e = length e.answers == count_of_answers options e.next e.answers

-- Texts

-- a client wants to know what the server counts
abbrev pub asks_stats : Next → Bool
asks_stats (Whole (Stats topic) style len last) = true
asks_stats _ = false

-- of what
abbrev pub topic_of : Next → Topic
topic_of (Whole (Stats topic) style len last) = topic
topic_of _ = Server

-- what is due to a request that asks no key: it is carried out by its reply alone
abbrev pub plain_request : ℕ → Told → Style → Request → List ℕ
plain_request partitions told style (Stats topic) = stats_text style partitions topic told
plain_request partitions told style (Said says) = said_text style true [] says
plain_request partitions told style _ = []

-- what is due where nothing is asked
abbrev pub plain_text : ℕ → Told → Next → List ℕ
plain_text partitions told (Whole request style len last) = plain_request partitions told style request
plain_text partitions told More = []

-- what is due where this is asked, or nothing
abbrev pub keyed_text : ℕ → ℕ → Told → Next → List Asked → List Answered → List ℕ
keyed_text partitions base told next [] answers = plain_text partitions told next
keyed_text partitions base told next (asked ∷ later) answers = asks_text base (style_of next) (asked ∷ later) answers

-- what is said of a flush of all partitions; one that takes no more writes has no room for it
abbrev pub said_of_flush : List Answered → Says
said_of_flush answers = Line (if list_all accepts answers then Done else NoRoom)

abbrev pub flush_text : Style → Bool → List Answered → List ℕ
flush_text style false answers = []
flush_text style true answers = said_text style true [] (said_of_flush answers)

abbrev pub text_by : Options → ℕ → Told → Next → List Answered → List ℕ
text_by options base told next answers =
    if is_flush_all next then flush_text (style_of next) (length answers == options.partitions) answers
    else keyed_text options.partitions base told next (asks_in next) answers

-- What is due so far.
abbrev pub due_to : Options → ℕ → Exchange → List ℕ
due_to options base e = text_by options base e.told e.next e.answers

-- Going on

-- no answer was given to it yet; or so many were, and more are to come; a flush is not left halfway, nor a set that found no room
abbrev pub IsOpenAt : Next → ℕ → Type 0
IsOpenAt next done = (done ≡ 0) ⊎ (done < length (asks_in next))

-- what was due before more is answered: nothing at first
abbrev pub due_before : Options → ℕ → Exchange → List ℕ
due_before options base e = if is_answered options e then [] else due_to options base e

-- an exchange with these answers more, where this was told
abbrev pub longer : Exchange → List Answered → Told → Exchange
longer e more told = record e { answers = e.answers ++ more; told = told }
